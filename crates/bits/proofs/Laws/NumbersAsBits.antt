-- The laws of a number's bits and of the value of bits.
-- Assumes nothing.
use mathlib.Core.Path.{◌≡◌, refl, sym, ap, ap₂, ◌∙◌}
use mathlib.Core.Bool.{Bool, true, false}
use mathlib.Core.List.{List, [], ◌∷◌, ◌++◌}
use Prim.Native.Nat.{ℕ, zero, suc, ◌+◌, ◌*◌, ◌/◌, ◌%◌, ◌^◌, ◌<◌}
use native.Mathlib.Nat.{zero-add, suc-add, add_comm, add_assoc, mul_assoc, mul_comm, one-mul, add-mul, pow-suc, mod-lt}
use native.Mathlib.Nat.{mul-add-div_right, mul-add-mod_self_right}
use native.Mathlib.Numerals.{one-add}
use native.Mathlib.Omega.{arith}
use lib.Arith.{digits_lt}
use lib.Dec.{eqb}
use lib.ListN.{length, length-append}
use lib.Pow.{pow_pos, pow-add, mod-pow-add, high, low, shr-shr, split, shl_exact}
use Rattle.bits.specs.Bits.{num, odd, word, val}

-- ---- one bit

num_lt : (b : Bool) → num b < 2
num_lt true = omega arith
num_lt false = omega arith

num_odd : (n : ℕ) → num (odd n) ≡ n % 2
num_odd n = go (n % 2) (mod-lt n (omega arith))
  where
    go : (k : ℕ) → k < 2 → num (eqb k 1) ≡ k
    go zero h = refl
    go (suc zero) h = refl
    go (suc (suc k)) h = absurd (omega arith)

odd_num : (b : Bool) → odd (num b) ≡ b
odd_num true = refl
odd_num false = refl

-- ---- word

pub length_word : (n v : ℕ) → length (word n v) ≡ n
unfolding word
length_word zero v = refl
length_word (suc n) v = ap suc (length_word n v)

-- what stands above the last n bits does not count
pub word_high : (n a r : ℕ) → word n (a * 2 ^ n + r) ≡ word n r
unfolding word
word_high zero a r = refl
word_high (suc n) a r =
    rw (
      pow-suc 2 n,
      mul_comm (2 ^ n) 2,
      ← mul_assoc a 2 (2 ^ n),
      mul-add-div_right (pow_pos n) (a * 2) r,
      mul-add-mod_self_right a 2 (r / 2 ^ n),
      word_high n (a * 2) r,
    )

pub word_mod : (n v : ℕ) → word n (v % 2 ^ n) ≡ word n v
word_mod n v = sym (word_high n (v / 2 ^ n) (v % 2 ^ n)) ∙ ap (word n) (split v n)

pub word_add : (n m v : ℕ) → word (n + m) v ≡ word n (v / 2 ^ m) ++ word m v
unfolding word
word_add zero m v = ap (λ (k : ℕ). word k v) (zero-add m)
word_add (suc n) m v =
    rw suc-add (ap₂ ◌∷◌ (ap (λ (k : ℕ). odd (v / 2 ^ k)) (add_comm n m) ∙ sym (ap odd (shr-shr v m n))) (word_add n m v))

-- two words, one behind the other, as one
pub word_two : (n v m w : ℕ) → word (n + m) (v * 2 ^ m + w % 2 ^ m) ≡ word n v ++ word m w
word_two n v m w =
    let x = v * 2 ^ m + w % 2 ^ m in
    let top : x / 2 ^ m ≡ v = high v m (mod-lt w (pow_pos m)) in
    word_add n m x ∙ ap₂ ◌++◌ (ap (word n) top) (word_high m v (w % 2 ^ m) ∙ word_mod m w)

-- ---- val

pub val_lt : (bs : List Bool) → val bs < 2 ^ length bs
unfolding val
val_lt [] = omega arith
val_lt (b ∷ bs) = rw (pow-suc, mul_comm (2 ^ length bs) 2) (digits_lt (num_lt b) (val_lt bs))

pub val_word : (n v : ℕ) → val (word n v) ≡ v % 2 ^ n
unfolding val word
val_word zero v = omega arith
val_word (suc n) v = rw (num_odd, length_word n v, val_word n v, ← one-add n) (sym (mod-pow-add v 1 n))

pub word_val : (bs : List Bool) → word (length bs) (val bs) ≡ bs
unfolding word val
word_val [] = refl
word_val (b ∷ bs) =
    rw (high (num b) (length bs) (val_lt bs), odd_num, word_high (length bs) (num b) (val bs), word_val bs)

pub val_append : (a b : List Bool) → val (a ++ b) ≡ val a * 2 ^ length b + val b
unfolding val
val_append [] b = omega arith
val_append (x ∷ a) b = rw (val_append a b, length-append a b, pow-add, add-mul, mul_assoc, add_assoc)

-- the front, the middle and the back of some bits, by shifts and remainders
pub val_front : (a b : List Bool) → val (a ++ b) / 2 ^ length b ≡ val a
val_front a b = rw (val_append a b) (high (val a) (length b) (val_lt b))

pub val_back : (a b : List Bool) → val (a ++ b) % 2 ^ length b ≡ val b
val_back a b = rw (val_append a b) (low (val a) (length b) (val_lt b))

pub val_middle : (a b c : List Bool) → val ((a ++ b) ++ c) / 2 ^ length c % 2 ^ length b ≡ val b
val_middle a b c = rw (val_front (a ++ b) c) (val_back a b)

-- ---- what the code computes with a shift

pub shifted_one : (n : ℕ) → n < 64 → 1 * 2 ^ n % 2 ^ 64 ≡ 2 ^ n
shifted_one n h = shl_exact {a = 1} 1 n 64 (omega arith) (omega arith) ∙ one-mul (2 ^ n)

pub shifted_pos : (n : ℕ) → n < 64 → 0 < 1 * 2 ^ n % 2 ^ 64
shifted_pos n h = rw (shifted_one n h) (pow_pos n)
