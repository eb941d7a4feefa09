-- Sums f 0 + … + f (n − 1): one term more, split, by blocks, and held against each other.
-- Assumes nothing.
use mathlib.Core.Path.{◌≡◌, refl, sym, ap, ◌∙◌}
use mathlib.Core.List.{List, [], ◌∷◌}
use Prim.Native.Nat.{ℕ, zero, suc, ◌+◌, ◌-◌, ◌*◌, ◌<◌, ◌≤◌}
use native.Mathlib.Nat.{not-suc-le-zero, add-zero, zero-add, add-suc, suc-add, suc-mul}
use native.Mathlib.Numerals.{add-one}
use native.Mathlib.Omega.{arith}
use borrow.Author.Tests.{eqb-true, eqb-false}
use lib.Dec.{eqb}
use Rattle.ground.proofs.Laws.Cases.{by_bool}
use Rattle.ground.specs.ListsByRule.{from, table}
use Rattle.ground.specs.Sums.{sum_to}

pub sum_nil : (f : ℕ → ℕ) → sum_to f 0 ≡ 0
unfolding sum_to
sum_nil f = refl

pub sum_more : (f : ℕ → ℕ) (n : ℕ) → sum_to f (n + 1) ≡ sum_to f n + f n
unfolding sum_to
sum_more f n = rw add-one

-- one turn of a loop that adds
pub sum_next : (f : ℕ → ℕ) (i : ℕ) {sum x : ℕ} → sum ≡ sum_to f i → x ≡ f i → sum + x ≡ sum_to f (i + 1)
sum_next f i e ex = omega (arith, sum_more f i)

pub sum_front : (f : ℕ → ℕ) (n : ℕ) → sum_to f (suc n) ≡ f 0 + sum_to (λ p. f (suc p)) n
unfolding sum_to
sum_front f zero = omega arith
sum_front f (suc n) = omega (arith, sum_front f n)

pub sum_same : (f h : ℕ → ℕ) (n : ℕ) → ((p : ℕ) → p < n → f p ≡ h p) → sum_to f n ≡ sum_to h n
unfolding sum_to
sum_same f h zero e = refl
sum_same f h (suc n) e = omega (arith, sum_same f h n (λ p b. e p (omega arith)), e n (omega arith))

pub sum_none : (f : ℕ → ℕ) (n : ℕ) → ((p : ℕ) → p < n → f p ≡ 0) → sum_to f n ≡ 0
unfolding sum_to
sum_none f zero e = refl
sum_none f (suc n) e = omega (arith, sum_none f n (λ p b. e p (omega arith)), e n (omega arith))

-- two rules that agree but for place q
pub sum_but : (f h : ℕ → ℕ) (q n : ℕ) → q < n → ((p : ℕ) → p < n → (p ≡ q → ⊥) → f p ≡ h p) → sum_to f n + h q ≡ sum_to h n + f q
unfolding sum_to
sum_but f h q zero b e = absurd (not-suc-le-zero b)
sum_but f h q (suc n) b e =
    by_bool (eqb q n)
    (λ t. let k : q ≡ n = eqb-true _ _ t in rw k (omega (arith, sum_same f h n (λ p c. e p (omega arith) (λ z. omega arith)))))
    (λ t. omega (arith, sum_but f h q n (omega (arith, eqb-false q n t)) (λ p c. e p (omega arith)), e n (omega arith) (λ z. eqb-false _ _ t (sym z))))

-- a part is at most the sum
pub sum_part : (f : ℕ → ℕ) (q n : ℕ) → q < n → f q ≤ sum_to f n
unfolding sum_to
sum_part f q zero b = absurd (not-suc-le-zero b)
sum_part f q (suc n) b =
    by_bool (eqb q n)
    (λ t. let k : q ≡ n = eqb-true _ _ t in rw k (omega arith))
    (λ t. omega (arith, sum_part f q n (omega (arith, eqb-false q n t))))

-- the first a, and b after them
pub sum_add : (f : ℕ → ℕ) (a b : ℕ) → sum_to f (a + b) ≡ sum_to f a + sum_to (λ j. f (a + j)) b
unfolding sum_to
sum_add f a zero = ap (sum_to f) (add-zero a) ∙ sym (add-zero (sum_to f a))
sum_add f a (suc b) = ap (sum_to f) (add-suc a b) ∙ omega (arith, sum_add f a b)

-- n blocks of k places after the first a, and n places after the first b: each block is one of the places
pub sum_blocks : (f g : ℕ → ℕ) (k a b n : ℕ) → ((p : ℕ) → p < n → sum_to (λ j. f (a + p * k + j)) k ≡ g (b + p)) → sum_to f a ≡ sum_to g b
    → sum_to f (a + n * k) ≡ sum_to g (b + n)
unfolding sum_to
sum_blocks f g k a b zero e s =
    let z : a + 0 * k ≡ a = omega arith in
    ap (sum_to f) z ∙ s ∙ ap (sum_to g) (sym (add-zero b))
sum_blocks f g k a b (suc n) e s =
    let z : a + suc n * k ≡ a + n * k + k = omega (arith, suc-mul n k) in
    ap (sum_to f) z ∙ sum_add f (a + n * k) k
    ∙ omega (arith, sum_blocks f g k a b n (λ p h. e p (omega arith)) s, e n (omega arith), ap (sum_to g) (add-suc b n))

-- ---- the sum of a list

unfoldable pub sum_of : List ℕ → ℕ
sum_of [] = 0
sum_of (x ∷ xs) = x + sum_of xs

sum_from : (f : ℕ → ℕ) (n i : ℕ) → sum_of (from f n i) ≡ sum_to (λ p. f (i + p)) n
unfolding sum_of from sum_to
sum_from f zero i = refl
sum_from f (suc n) i =
    omega (
      arith,
      sum_from f n (suc i),
      sum_front (λ p. f (i + p)) n,
      ap f (add-zero i),
      sum_same (λ p. f (suc i + p)) (λ p. f (i + suc p)) n (λ p h. ap f (suc-add i p ∙ sym (add-suc i p))),
    )

pub sum_table : (f : ℕ → ℕ) (n : ℕ) → sum_of (table n f) ≡ sum_to f n
sum_table f n = sum_from f n 0 ∙ sum_same (λ p. f (0 + p)) f n (λ p h. ap f (zero-add p))

-- two sums added place by place
pub sum_both : (f h : ℕ → ℕ) (n : ℕ) → sum_to f n + sum_to h n ≡ sum_to (λ p. f p + h p) n
unfolding sum_to
sum_both f h zero = refl
sum_both f h (suc n) = omega (arith, sum_both f h n)

pub sum_under : (f h : ℕ → ℕ) (n : ℕ) → ((p : ℕ) → p < n → f p ≤ h p) → sum_to f n ≤ sum_to h n
unfolding sum_to
sum_under f h zero e = omega arith
sum_under f h (suc n) e = omega (arith, sum_under f h n (λ p b. e p (omega arith)), e n (omega arith))

-- a sum of fewer places is not larger
pub sum_grows : (f : ℕ → ℕ) (m n : ℕ) → m ≤ n → sum_to f m ≤ sum_to f n
sum_grows f m n h = let e : n ≡ m + (n - m) = omega arith in omega (arith, ap (sum_to f) e, sum_add f m (n - m))
