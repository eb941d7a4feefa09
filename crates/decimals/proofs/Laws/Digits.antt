-- How long a number is as text, and its digits laid one by one.
-- Assumes nothing.
use mathlib.Core.Path.{◌≡◌, refl, sym, ap, ◌∙◌}
use mathlib.Core.List.{List, [], ◌∷◌, ◌++◌}
use Prim.Native.Nat.{ℕ, zero, suc, ◌+◌, ◌-◌, ◌/◌, ◌%◌, ◌^◌, ◌*◌, ◌≤◌, ◌<◌}
use native.Mathlib.Nat.{pow-suc}
use native.Mathlib.Omega.{arith}
use borrow.Author.Tests.{ltb-true, ltb-false, lt-ltb, le-ltb}
use lib.Dec.{ltb}
use lib.ListN.{length, set, length-append, length-set}
use Rattle.ground.proofs.Laws.Cases.{by_bool}
use Rattle.decimals.specs.Decimals.{digit, digits, decimal_by, decimal}
use Rattle.ground.specs.Laying.{laid_text, TextLaid}
use Rattle.ground.proofs.Laws.Laying.{laid_last}

pub length_digits : (k n : ℕ) → length (digits k n) ≡ k
unfolding digits
length_digits zero n = refl
length_digits (suc k) n = omega (arith, length-append (digits k (n / 10)) (digit (n % 10) ∷ []), length_digits k (n / 10))

-- more than enough digits allowed make no difference
decimal_enough : (j k n : ℕ) → n < j → n < k → decimal_by j n ≡ decimal_by k n
unfolding decimal_by
decimal_enough zero k n a b = absurd (omega arith)
decimal_enough (suc j) zero n a b = absurd (omega arith)
decimal_enough (suc j) (suc k) n a b =
    by_bool (ltb n 10)
    (λ t. rw t refl)
    (λ t. let h = ltb-false n 10 t in rw t (ap (λ (l : List ℕ). l ++ (digit (n % 10) ∷ [])) (decimal_enough j k (n / 10) (omega arith) (omega arith))))

-- the equations of `decimal`: one digit, and the last digit of more
pub decimal_one : (n : ℕ) → n < 10 → decimal n ≡ digit n ∷ []
unfolding decimal decimal_by
decimal_one n h = rw (lt-ltb n 10 h) refl

pub decimal_more : (n : ℕ) → 10 ≤ n → decimal n ≡ decimal (n / 10) ++ (digit (n % 10) ∷ [])
unfolding decimal decimal_by
decimal_more n h =
    rw (le-ltb n 10 h) (ap (λ (l : List ℕ). l ++ (digit (n % 10) ∷ [])) (decimal_enough n (suc (n / 10)) (n / 10) (omega arith) (omega arith)))

-- a number of at most k + 1 digits
pub length_decimal : (k n : ℕ) → n < 10 ^ suc k → length (decimal n) ≤ suc k
length_decimal zero n h = rw (decimal_one n (omega arith)) (omega arith)
length_decimal (suc k) n h =
    let m : n / 10 < 10 ^ suc k = omega (arith, pow-suc 10 (suc k)) in
    let l = length_decimal k (n / 10) m in
    by_bool (ltb n 10)
    (λ t. rw (decimal_one n (ltb-true n 10 t)) (omega arith))
    (λ t. rw (decimal_more n (ltb-false n 10 t)) (omega (arith, length-append (decimal (n / 10)) (digit (n % 10) ∷ []))))

-- a number of exactly k + 1 digits
pub width_one : (n : ℕ) → n < 10 → decimal n ≡ digits 1 n
unfolding digits
width_one n h = let e : n ≡ n % 10 = omega arith in decimal_one n h ∙ ap (λ (d : ℕ). digit d ∷ []) e

ten_pos : (k : ℕ) → 0 < 10 ^ k
ten_pos zero = omega arith
ten_pos (suc k) = omega (arith, pow-suc 10 k, ten_pos k)

pub width : (k n : ℕ) → 10 ^ k ≤ n → n < 10 ^ suc k → decimal n ≡ digits (suc k) n
unfolding digits
width zero n g h = width_one n (omega arith)
width (suc k) n g h =
    let a : 10 ^ k ≤ n / 10 = omega (arith, pow-suc 10 k) in
    let b : n / 10 < 10 ^ suc k = omega (arith, pow-suc 10 (suc k)) in
    decimal_more n (omega (arith, pow-suc 10 k, ten_pos k)) ∙ ap (λ (l : List ℕ). l ++ (digit (n % 10) ∷ [])) (width k (n / 10) a b)

pub width_two : (n : ℕ) → 10 ≤ n → n < 100 → decimal n ≡ digits 2 n
width_two n g h = width 1 n (omega arith) (omega arith)

pub width_three : (n : ℕ) → 100 ≤ n → n < 1000 → decimal n ≡ digits 3 n
width_three n g h = width 2 n (omega arith) (omega arith)

pub width_four : (n : ℕ) → 1000 ≤ n → n < 10000 → decimal n ≡ digits 4 n
width_four n g h = width 3 n (omega arith) (omega arith)

-- as many as the power of ten tells that is next below it
pub width_more : (n r : ℕ) → 10 ^ r ≤ n → n < 10 * 10 ^ r → decimal n ≡ digits (r + 1) n
width_more n r g h =
    let q : suc r ≡ r + 1 = omega arith in
    width r n g (omega (arith, pow-suc 10 r)) ∙ ap (λ (k : ℕ). digits k n) q

-- ---- digits put from the last to the first

pub record Digits (s : List ℕ) (at n k : ℕ) (s' : List ℕ) (i rest : ℕ) : Type 0 where
  pub upto : i ≤ k
  pub long : length s' ≡ length s
  pub same : laid_text s' at (digits i rest) ≡ laid_text s at (digits k n)

pub digits_start : (s : List ℕ) (at n k : ℕ) → Digits s at n k s k n
digits_start s at n k = record { upto = omega arith; long = refl; same = refl }

pub digits_turn : (s : List ℕ) (at n k : ℕ) (s' : List ℕ) (i rest : ℕ) → 0 < i → Digits s at n k s' i rest
    → Digits s at n k (set s' (at + (i - 1)) (digit (rest % 10))) (i - 1) (rest / 10)
unfolding digits
digits_turn s at n k s' zero rest h d = absurd (omega arith)
digits_turn s at n k s' (suc i) rest h d =
    let e : suc i - 1 ≡ i = omega arith in
    rw e
    (record {
      upto = omega (arith, d.upto);
      long = length-set s' (at + i) (digit (rest % 10)) ∙ d.long;
      same =
          ap (λ (j : ℕ). laid_text (set s' (at + j) (digit (rest % 10))) at (digits i (rest / 10))) (sym (length_digits i (rest / 10)))
          ∙ laid_last s' at (digit (rest % 10)) (digits i (rest / 10))
          ∙ d.same;
    })

pub digits_end : (s : List ℕ) (at n k : ℕ) (s' : List ℕ) (i rest : ℕ) → i ≤ 0 → Digits s at n k s' i rest → TextLaid s at (digits k n) s' (at + k)
unfolding laid_text digits
digits_end s at n k s' zero rest h d = record { after = ap (λ (j : ℕ). at + j) (sym (length_digits k n)); bytes = d.same }
digits_end s at n k s' (suc i) rest h d = absurd (omega arith)
