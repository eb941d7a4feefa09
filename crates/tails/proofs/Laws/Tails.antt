-- The tail: bytes made of the bits behind a place, padding tried bit by bit, bits copied; each loop with its turn and its end.
-- Assumes nothing.
use mathlib.Core.Path.{◌≡◌, refl, sym, ap, ap₂, ◌∙◌}
use mathlib.Core.Bool.{Bool, false, true, ◌&&◌}
use mathlib.Core.List.{List, ◌∷◌, ◌++◌, [], append-nil}
use Prim.Native.Nat.{ℕ, zero, suc, ◌+◌, ◌-◌, ◌*◌, ◌/◌, ◌≤◌, ◌<◌, min}
use native.Mathlib.Nat.{add-zero, zero-add}
use native.Mathlib.Omega.{arith}
use lib.ListN.{length, replicate, drop, set, drop_of_length-le}
use Rattle.ground.specs.ListsByRule.{from, table}
use Rattle.ground.proofs.Laws.Runs.{Fronted, fronted_none, fronted_more}
use Rattle.bits.specs.Bits.{view, val, bytes_of, word, laid, Bytes}
use Rattle.bits.proofs.Laws.Views.{length_view, view_add, view_lt, take_view, drop_view, view_past}
use Rattle.bits.proofs.Laws.NumbersAsBits.{word_val}
use Rattle.bits.proofs.Laws.LaidBits.{laid_append, laid_none, length_laid}
use Rattle.tails.specs.Tails.{tail_bytes, tail_from, clear}

-- ---- the tail's bytes

tail_at : (s : List ℕ) (at n i : ℕ) → from (λ (i : ℕ). val (view s (at + i * 8) 8)) n i ≡ bytes_of n (view s (at + i * 8) (n * 8))
unfolding from bytes_of
tail_at s at zero i = refl
tail_at s at (suc n) i =
    let p = at + i * 8 in
    let e : at + suc i * 8 ≡ p + 8 = omega arith in
    let d : suc n * 8 - 8 ≡ n * 8 = omega arith in
    ap₂ ◌∷◌ (ap val (sym (take_view s p 8 (suc n * 8) (omega arith))))
    (tail_at s at n (suc i) ∙ ap (bytes_of n) (ap₂ (λ (x y : ℕ). view s x y) e (sym d) ∙ sym (drop_view s p 8 (suc n * 8) (omega arith))))

-- 320 bytes from q on are the bits up to the body's end, and zeros
pub tail_made : (s : List ℕ) (q : ℕ) → q ≤ length s * 8 → length s ≤ 320 → tail_from s q ≡ tail_bytes (view s q (length s * 8 - q))
unfolding tail_from tail_bytes
tail_made s q h l =
    let end = length s * 8 in
    let m = end - q in
    let e : 2560 ≡ m + (2560 - m) = omega arith in
    let n : q + m ≡ end = omega arith in
    tail_at s q 320 0
    ∙ ap (bytes_of 320) (ap (λ (x : ℕ). view s x 2560) (add-zero q) ∙ ap (view s q) e ∙ view_add s q m (2560 - m)
    ∙ ap (λ (x : List Bool). view s q m ++ x) (ap (λ (x : ℕ). view s x (2560 - m)) n ∙ view_past s end (2560 - m) (omega arith))
    ∙ ap (λ (k : ℕ). view s q m ++ replicate (2560 - k) false) (sym (length_view s q m)))

-- one byte: 0 past the end, and small
pub byte_past : (s : List ℕ) (p : ℕ) → length s ≤ p / 8 → 0 ≡ val (view s p 8)
unfolding val
byte_past s p h = sym (ap val (view_past s p 8 (omega arith)))

pub byte_small : (s : List ℕ) (p z : ℕ) → z ≡ val (view s p 8) → z < 256
byte_small s p z e = rw e (view_lt s p 8)

-- the loop that fills: the first i bytes stand in t
pub record Filling (s : List ℕ) (at : ℕ) (t₀ t : List ℕ) (i : ℕ) : Type 0 where
  pub upto : i ≤ 320
  pub front : Fronted (λ j. val (view s (at + j * 8) 8)) t₀ t i

module _ {s : List ℕ} {at : ℕ} {t₀ : List ℕ} where
  pub fill_start : Filling s at t₀ t₀ 0
  fill_start = record { upto = omega arith; front = fronted_none }

  module _ {t : List ℕ} {i : ℕ} (I : Filling s at t₀ t i) where
    pub fill_turn : {v : ℕ} → i < 320 → 320 ≤ length t₀ → v ≡ val (view s (at + i * 8) 8) → Filling s at t₀ (set t i v) (i + 1)
    fill_turn h l e = record { upto = omega arith; front = fronted_more I.front (omega arith) e }

    pub fill_end : 320 ≤ i → t ≡ tail_from s at ++ drop 320 t₀
    unfolding tail_from
    fill_end h =
        let e : i ≡ 320 = omega (arith, I.upto) in
        I.front.same ∙ ap (λ (k : ℕ). table k (λ (j : ℕ). val (view s (at + j * 8) 8)) ++ drop k t₀) e

    -- of 320 bytes alone
    pub fill_front : 320 ≤ i → length t₀ ≤ 320 → t ≡ tail_from s at
    fill_front h l = fill_end h ∙ ap (λ (r : List ℕ). tail_from s at ++ r) (drop_of_length-le t₀ l) ∙ append-nil (tail_from s at)

-- ---- clear

clear_append : (a b : List Bool) → clear (a ++ b) ≡ (clear a && clear b)
unfolding clear
clear_append [] b = refl
clear_append (true ∷ a) b = refl
clear_append (false ∷ a) b = clear_append a b

val_zero : (b : List Bool) → val b ≡ 0 → clear b ≡ true
unfolding clear val
val_zero [] e = refl
val_zero (true ∷ b) e = absurd (omega (arith, lib.Pow.pow_pos (length b)))
val_zero (false ∷ b) e = val_zero b (omega arith)

zero_val : (b : List Bool) → clear b ≡ true → val b ≡ 0
unfolding clear val
zero_val [] e = refl
zero_val (true ∷ b) e = absurd (let z : ◌≡◌ {A = ℕ} 0 1 = cc in omega arith)
zero_val (false ∷ b) e = omega (arith, zero_val b e)

val_some : (b : List Bool) → (val b ≡ 0 → ⊥) → clear b ≡ false
val_some b n = go (clear b) refl
  where
    go : (t : Bool) → clear b ≡ t → t ≡ false
    go true e = absurd (n (zero_val b e))
    go false e = refl

-- the bits before p are 0
pub record Clearing (s : List ℕ) (at end p : ℕ) : Type 0 where
  pub behind : at ≤ p
  pub said : clear (view s at (end - at)) ≡ clear (view s p (end - p))

pub clear_start : (s : List ℕ) (at end : ℕ) → Clearing s at end at
clear_start s at end = record { behind = omega arith; said = refl }

-- a step of 16 bits, the last one of what is left
module _ {s : List ℕ} {at end p v : ℕ} (I : Clearing s at end p) (e : v ≡ val (view s p (min (end - p) 16))) where
  split : clear (view s at (end - at)) ≡ (clear (view s p (min (end - p) 16)) && clear (view s (p + min (end - p) 16) (end - p - min (end - p) 16)))
  split =
      let n = min (end - p) 16 in
      let m : end - p ≡ n + (end - p - n) = omega arith in
      I.said ∙ ap (λ (k : ℕ). clear (view s p k)) m ∙ ap clear (view_add s p n (end - p - n)) ∙ clear_append (view s p n) (view s (p + n) (end - p - n))

  pub clear_no : (v ≡ 0 → ⊥) → clear (view s at (end - at)) ≡ false
  clear_no z = split ∙ rw (val_some (view s p (min (end - p) 16)) (λ q. z (e ∙ q)))

  pub clear_turn : {q : ℕ} → v ≡ 0 → q ≡ p + min (end - p) 16 → Clearing s at end q
  clear_turn {q} z f =
      let n = min (end - p) 16 in
      let m : end - p - n ≡ end - q = omega arith in
      record {
        behind = omega (arith, I.behind);
        said = split ∙ rw (val_zero (view s p n) (sym e ∙ z)) (ap₂ (λ (x y : ℕ). clear (view s x y)) (sym f) m);
      }

pub clear_end : {s : List ℕ} {at end p : ℕ} → Clearing s at end p → end ≤ p → clear (view s at (end - at)) ≡ true
unfolding view clear
clear_end {s} {at} {end} {p} I h = let z : end - p ≡ 0 = omega arith in I.said ∙ ap (λ (k : ℕ). clear (view s p k)) z

-- ---- bits copied: the first j are laid

pub record Copying (s : List ℕ) (n : ℕ) (out₀ : List ℕ) (at : ℕ) (out : List ℕ) (j : ℕ) : Type 0 where
  pub upto : j ≤ n
  pub long : length out ≡ length out₀
  pub same : out ≡ laid out₀ at (view s 0 j)

pub copy_start : {s : List ℕ} {n : ℕ} {out₀ : List ℕ} {at : ℕ} → Bytes out₀ → Copying s n out₀ at out₀ 0
unfolding view
copy_start {s} {n} {out₀} {at} b = record { upto = omega arith; long = refl; same = sym (laid_none out₀ at b) }

-- a step of 16 bits, the last one of what is left
pub copy_turn : {s : List ℕ} {n : ℕ} {out₀ : List ℕ} {at : ℕ} {out : List ℕ} {j v i : ℕ} {t : List ℕ} → Copying s n out₀ at out j
    → t ≡ laid out (at + j) (word (min (n - j) 16) v) → v ≡ val (view s j (min (n - j) 16)) → i ≡ j + min (n - j) 16 → Copying s n out₀ at t i
copy_turn {s} {n} {out₀} {at} {out} {j} {v} {i} {t} I x e f =
    let k = min (n - j) 16 in
    let w : word k v ≡ view s j k = ap (word k) e ∙ (rw length_view at (word_val (view s j k))) in
    let q : at + j ≡ at + length (view s 0 j) = ap (λ (i : ℕ). at + i) (sym (length_view s 0 j)) in
    let r : view s 0 j ++ view s j k ≡ view s 0 i =
    ap (λ (i : ℕ). view s 0 j ++ view s i k) (sym (zero-add j)) ∙ sym (view_add s 0 j k) ∙ ap (view s 0) (sym f) in
    record {
      upto = omega (arith, I.upto);
      long = ap length x ∙ length_laid out (at + j) (word k v) ∙ I.long;
      same =
          x ∙ ap (laid out (at + j)) w ∙ ap₂ (λ (y : List ℕ) (i : ℕ). laid y i (view s j k)) I.same q ∙ laid_append out₀ at (view s 0 j) (view s j k)
          ∙ ap (laid out₀ at) r;
    }

pub copy_end : {s : List ℕ} {n : ℕ} {out₀ : List ℕ} {at : ℕ} {out : List ℕ} {j : ℕ} → Copying s n out₀ at out j → n ≤ j → out ≡ laid out₀ at (view s 0 n)
copy_end {s} {n} {out₀} {at} {out} {j} I h = let e : j ≡ n = omega (arith, I.upto) in I.same ∙ ap (λ (i : ℕ). laid out₀ at (view s 0 i)) e
