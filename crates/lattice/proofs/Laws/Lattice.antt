-- Laws of the definitions.
-- Assumes nothing.
use mathlib.Core.Path.{◌≡◌, refl, sym, ap, ◌∙◌}
use mathlib.Core.Bool.{Bool, true, false, cond}
use mathlib.Core.List.{List, [], ◌∷◌}
use Prim.Native.Nat.{ℕ, zero, suc, ◌+◌, ◌*◌, ◌-◌, ◌%◌, ◌<◌, ◌≤◌}
use native.Mathlib.Nat.{mod-lt, div-add-mod}
use native.Mathlib.Numerals.{add-one}
use native.Mathlib.Omega.{arith}
use borrow.Author.Tests.{ltb-true, ltb-false, lt-ltb, le-ltb}
use lib.Dec.{ltb}
use lib.ListN.{length, get_or}
use Rattle.std.specs.Prelude.{sum}
use Rattle.std.proofs.lemmas.List.Sums.{sum_by-cons}
use Rattle.ground.specs.Sums.{sum_to}
use Rattle.ground.proofs.Laws.Sums.{sum_front}
use lib.IntN.{ℤ, pos, negsuc, nat_abs, ◌*ℤ◌}
use lib.Signed.{lt_z}
use Rattle.ground.proofs.Laws.Cases.{by_bool}
use Rattle.ground.specs.Differences.{Is}
use Rattle.ground.proofs.Laws.Differences.{is_pos, is_same, is_neg, is_add, is_sub}
use Rattle.lattice.specs.Lattice.{x, rounded, error, sum_z, largest}

-- ---- whole numbers as differences

pub is_scale : (r : ℕ) {z : ℤ} {a b : ℕ} → Is z a b → Is (pos r *ℤ z) (r * a) (r * b)
is_scale r {z = pos n} p = let e = ap (λ (m : ℕ). r * m) p.is in omega arith
is_scale r {z = negsuc n} p = is_neg {z = pos (r * suc n)} (let e = ap (λ (m : ℕ). r * m) p.is in omega arith)

-- two writings of one difference
pub is_cross : {z : ℤ} {a b c d : ℕ} → Is z a b → Is z c d → a + d ≡ c + b
is_cross {z = pos n} p q = omega arith
is_cross {z = negsuc n} p q = omega arith

pub is_abs : {z : ℤ} {a b : ℕ} → Is z a b → nat_abs z ≡ (a - b) + (b - a)
is_abs {z = pos n} p = omega arith
is_abs {z = negsuc n} p = omega arith

pub is_above : {z : ℤ} {a b : ℕ} → Is z a b → lt_z (pos 0) z ≡ ltb b a
is_above {z = pos zero} {a = a} {b = b} p = sym (le-ltb b a (omega arith))
is_above {z = pos (suc n)} {a = a} {b = b} p = lt-ltb 0 (suc n) (omega arith) ∙ sym (lt-ltb b a (omega arith))
is_above {z = negsuc n} {a = a} {b = b} p = sym (le-ltb b a (omega arith))

-- ---- the numbers x, the code's first one given

pub x_other : (k : List ℕ) {i y : ℕ} → y ≡ get_or k i 0 → (i ≡ 0 → ⊥) → y ≡ x k i
unfolding x
x_other k {i = zero} e z = absurd (z refl)
x_other k {i = suc i} e z = e

-- ---- the first x: the first of eight numbers, and their sum

sum_list : (l : List ℕ) → sum l ≡ sum_to (λ (i : ℕ). get_or l i 0) (length l)
unfolding sum_to
sum_list [] = refl
sum_list (n ∷ l) = sum_by-cons (λ (i : ℕ). i) n l ∙ ap (λ (s : ℕ). n + s) (sum_list l) ∙ sym (sum_front (λ (i : ℕ). get_or (n ∷ l) i 0) (length l))

pub first_sum : (k : List ℕ) → length k ≡ 8 → get_or k 0 0 + sum k ≡ 2 * get_or k 0 0 + sum_to (λ (i : ℕ). get_or k (suc i) 0) 7
first_sum k e =
    let s : sum k ≡ sum_to (λ (i : ℕ). get_or k i 0) 8 = sum_list k ∙ ap (sum_to (λ (i : ℕ). get_or k i 0)) e in
    omega (arith, sum_front (λ (i : ℕ). get_or k i 0) 7)

pub sum_small : (k : List ℕ) → length k ≡ 8 → ((i : ℕ) → get_or k i 0 < 65536) → sum k < 524288
unfolding sum_to
sum_small k e h =
    let s : sum k ≡ sum_to (λ (i : ℕ). get_or k i 0) 8 = sum_list k ∙ ap (sum_to (λ (i : ℕ). get_or k i 0)) e in
    omega (arith, h 0, h 1, h 2, h 3, h 4, h 5, h 6, h 7)

-- ---- rounding: nearest, and half downwards

module _ (r x : ℕ) (l : 0 < r) where
  -- −r < 2 e ≤ r
  pub near : (2 * (r * rounded r x) < 2 * x + r) × (2 * x ≤ 2 * (r * rounded r x) + r)
  unfolding rounded
  near =
      let m = mod-lt x {m = r} l in
      let d = div-add-mod x r in
      by_bool (ltb r (2 * (x % r)))
      (λ e. let h = ltb-true r (2 * (x % r)) e in rw e (omega arith, omega arith))
      (λ e. let h = ltb-false r (2 * (x % r)) e in rw e (omega arith, omega arith))

  pub error_is : Is (error r x) x (r * rounded r x)
  unfolding error
  error_is = is_same _ _ (is_sub (is_pos x) (is_scale r (is_pos (rounded r x)))) (omega arith)

-- the code's q; r is not 0
pub rounded_near : {r q : ℕ} (x : ℕ) → q ≡ rounded r x → 0 < r → (2 * (r * q) < 2 * x + r) × (2 * x ≤ 2 * (r * q) + r)
rounded_near {r} x e l = rw e (near r x l)

-- ---- sums and the first place of the largest, one place more

pub sum_z_more : (f : ℕ → ℤ) (n : ℕ) {a b c d : ℕ} → Is (sum_z f n) a b → Is (f n) c d → Is (sum_z f (n + 1)) (a + c) (b + d)
sum_z_more f n p q = rw add-one (is_add p q)

pub largest_more : (f : ℕ → ℕ) (n : ℕ) → f (largest f n) < f n → largest f (n + 1) ≡ n
unfolding largest
largest_more f n l = rw (add-one, lt-ltb (f (largest f n)) (f n))

pub largest_same : (f : ℕ → ℕ) (n : ℕ) → f n ≤ f (largest f n) → largest f (n + 1) ≡ largest f n
unfolding largest
largest_same f n l = rw (add-one, le-ltb (f (largest f n)) (f n))

pub largest_lt : (f : ℕ → ℕ) (n : ℕ) → largest f (suc n) < suc n
unfolding largest
largest_lt f zero = by_bool (ltb (f 0) (f 0)) (λ e. rw e (omega arith)) (λ e. rw e (omega arith))
largest_lt f (suc n) = go (ltb (f (largest f (suc n))) (f (suc n))) (largest_lt f n)
  where
    go : (t : Bool) → largest f (suc n) < suc n → cond t (suc n) (largest f (suc n)) < suc (suc n)
    go true h = omega arith
    go false h = omega arith

pub largest_alike : (f g : ℕ → ℕ) (n : ℕ) → ((i : ℕ) → i < n → f i ≡ g i) → largest f n ≡ largest g n
unfolding largest
largest_alike f g zero h = refl
largest_alike f g (suc n) h =
    let e = largest_alike f g n (λ i l. h i (omega arith)) in
    rw (e, h n (omega arith), at-largest n h)
  where
    at-largest : (n : ℕ) → ((i : ℕ) → i < suc n → f i ≡ g i) → f (largest g n) ≡ g (largest g n)
    at-largest zero h = h 0 (omega arith)
    at-largest (suc n) h = h (largest g (suc n)) (omega (arith, largest_lt g n))

-- ---- the search for the largest: w is the first place of the largest of the first i
pub record Leading (f : ℕ → ℕ) (n w i : ℕ) : Type 0 where
  pub begun : 1 ≤ i
  pub upto : i ≤ n
  pub inside : w < n
  pub place : w ≡ largest f i

pub leading_first : {f : ℕ → ℕ} {n : ℕ} → 1 ≤ n → Leading f n 0 1
leading_first {f} b = record { begun = omega arith; upto = b; inside = b; place = omega (arith, largest_lt f 0) }

module _ {f : ℕ → ℕ} {n w here there i : ℕ} (p : Leading f n w i) (b : i < n) (g : here ≡ f w) (h : there ≡ f i) where
  at_largest : here ≡ f (largest f i)
  at_largest = g ∙ ap f p.place

  pub leading_new : {w₁ : ℕ} → here < there → w₁ ≡ i → Leading f n w₁ (i + 1)
  leading_new l u =
      let e = at_largest in
      record { begun = omega arith; upto = omega arith; inside = omega arith; place = u ∙ sym (largest_more f i (omega arith)) }

  pub leading_kept : {w₁ : ℕ} → there ≤ here → w₁ ≡ w → Leading f n w₁ (i + 1)
  leading_kept l u =
      let e = at_largest in
      record { begun = omega arith; upto = omega arith; inside = omega (arith, p.inside); place = u ∙ p.place ∙ sym (largest_same f i (omega arith)) }
