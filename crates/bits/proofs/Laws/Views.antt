-- The laws of the bits at a place.
-- Assumes nothing.
use mathlib.Core.Path.{◌≡◌, refl, sym, ap, ap₂, ◌∙◌}
use mathlib.Core.Bool.{Bool, false}
use mathlib.Core.List.{List, ◌∷◌, ◌++◌}
use Prim.Native.Nat.{ℕ, zero, suc, ◌+◌, ◌-◌, ◌*◌, ◌/◌, ◌%◌, ◌^◌, ◌≤◌, ◌<◌, min}
use native.Mathlib.Nat.{add-zero, add-suc, suc-add, zero-add, mod-eq_of_lt, lt_of_lt_of_le, zero-div}
use native.Mathlib.Omega.{arith}
use lib.ListN.{length, get_or, take, drop, replicate, length-append, get_or-eq_default}
use lib.Pow.{pow_mono}
use lib.Seq.{take_at, drop_at}
use Rattle.bits.specs.Bits.{odd, word, val, bit, view}
use Rattle.bits.proofs.Laws.NumbersAsBits.{val_lt, val_word, val_append, val_middle, shifted_one}

pub length_view : (s : List ℕ) (p n : ℕ) → length (view s p n) ≡ n
unfolding view
length_view s p zero = refl
length_view s p (suc n) = ap suc (length_view s (suc p) n)

pub view_add : (s : List ℕ) (p n m : ℕ) → view s p (n + m) ≡ view s p n ++ view s (p + n) m
unfolding view
view_add s p zero m = rw (zero-add, add-zero)
view_add s p (suc n) m = rw (suc-add, add-suc, ← suc-add) (ap (λ (l : List Bool). bit s p ∷ l) (view_add s (suc p) n m))

pub take_view : (s : List ℕ) (p n m : ℕ) → n ≤ m → take n (view s p m) ≡ view s p n
take_view s p n m h =
    let e : n + (m - n) ≡ m = omega arith in
    rw (take_at (view s p n) (view s (p + n) (m - n)) n (length_view s p n)) at
    (ap (λ (k : ℕ). take n (view s p k)) (sym e) ∙ ap (take n) (view_add s p n (m - n)))

pub drop_view : (s : List ℕ) (p n m : ℕ) → n ≤ m → drop n (view s p m) ≡ view s (p + n) (m - n)
drop_view s p n m h =
    let e : n + (m - n) ≡ m = omega arith in
    rw (drop_at (view s p n) (view s (p + n) (m - n)) n (length_view s p n)) at
    (ap (λ (k : ℕ). drop n (view s p k)) (sym e) ∙ ap (drop n) (view_add s p n (m - n)))

pub view_lt : (s : List ℕ) (p n : ℕ) → val (view s p n) < 2 ^ n
view_lt s p n = rw length_view at (val_lt (view s p n))

-- past the end each bit is 0
pub view_past : (s : List ℕ) (p n : ℕ) → length s * 8 ≤ p → view s p n ≡ replicate n false
unfolding view
view_past s p zero h = refl
view_past s p (suc n) h =
    let l : length s ≤ p / 8 = omega arith in
    ap₂ ◌∷◌ (ap (λ (b : ℕ). odd (b / 2 ^ (7 - p % 8))) (get_or-eq_default s 0 l) ∙ ap odd (zero-div (2 ^ (7 - p % 8)))) (view_past s (suc p) n (omega arith))

-- ---- bytes

bit_at : (s : List ℕ) (p i j : ℕ) → p / 8 ≡ i → p % 8 ≡ j → bit s p ≡ odd (get_or s i 0 / 2 ^ (7 - j))
bit_at s p i j e f = rw (e, f)

-- the eight bits of a byte
pub view_byte : (s : List ℕ) (i : ℕ) → view s (i * 8) 8 ≡ word 8 (get_or s i 0)
unfolding view word
view_byte s i =
    ap₂ ◌∷◌ (bit_at s _ i 0 (omega arith) (omega arith))
    (ap₂ ◌∷◌ (bit_at s _ i 1 (omega arith) (omega arith))
    (ap₂ ◌∷◌ (bit_at s _ i 2 (omega arith) (omega arith))
    (ap₂ ◌∷◌ (bit_at s _ i 3 (omega arith) (omega arith))
    (ap₂ ◌∷◌ (bit_at s _ i 4 (omega arith) (omega arith))
    (ap₂ ◌∷◌ (bit_at s _ i 5 (omega arith) (omega arith))
    (ap₂ ◌∷◌ (bit_at s _ i 6 (omega arith) (omega arith))
    (ap₂ ◌∷◌ (bit_at s _ i 7 (omega arith) (omega arith)) refl)))))))

pub val_byte : (s : List ℕ) (i : ℕ) → get_or s i 0 < 256 → val (view s (i * 8) 8) ≡ get_or s i 0
val_byte s i h = rw (view_byte s i, val_word 8 (get_or s i 0)) (mod-eq_of_lt h)

-- three bytes as one number
pub val_window : (s : List ℕ) (i : ℕ) {a b c : ℕ} → (a ≡ get_or s i 0) × (a < 256) → (b ≡ get_or s (i + 1) 0) × (b < 256)
    → (c ≡ get_or s (i + 2) 0) × (c < 256) → a * 65536 + b * 256 + c ≡ val (view s (i * 8) 24)
val_window s i x y z =
    let e₁ : i * 8 + 8 ≡ (i + 1) * 8 = omega arith in
    let e₂ : i * 8 + 16 ≡ (i + 2) * 8 = omega arith in
    sym
    (rw (
      view_add s (i * 8) 16 8,
      view_add s (i * 8) 8 8,
      val_append _ (view s (i * 8 + 16) 8),
      val_append _ (view s (i * 8 + 8) 8),
      length_view s (i * 8 + 16) 8,
      length_view s (i * 8 + 8) 8,
      e₁,
      e₂,
      val_byte s i (rw x.0 at x.1),
      val_byte s (i + 1) (rw y.0 at y.1),
      val_byte s (i + 2) (rw z.0 at z.1),
    )
    (omega (arith, x.0, y.0, z.0)))

-- n bits out of the 24 from p's byte on, by a shift and a remainder
pub view_window : (s : List ℕ) (p n : ℕ) → n ≤ 16
    → val (view s (p / 8 * 8) 24) / 2 ^ (24 - p % 8 - n) % (1 * 2 ^ n % 2 ^ 64) ≡ val (view s p n)
view_window s p n h =
    let i = p / 8 * 8 in
    let k = p % 8 in
    let m = 24 - p % 8 - n in
    let e : 24 ≡ k + n + m = omega arith in
    let q : i + k ≡ p = omega arith in
    ap (λ (z : ℕ). val (view s i 24) / 2 ^ m % z) (shifted_one n (omega arith))
    ∙ ap (λ (z : List Bool). val z / 2 ^ m % 2 ^ n)
    (ap (view s i) e ∙ view_add s i (k + n) m ∙ ap (λ (z : List Bool). z ++ view s (i + (k + n)) m) (view_add s i k n))
    ∙ (simp length_view at (val_middle (view s i k) (view s (i + k) n) (view s (i + (k + n)) m)))
    ∙ ap (λ (z : ℕ). val (view s z n)) q

-- the same from what the code has: the width, at most 16, and the window's number
pub window_read : (s : List ℕ) (p k : ℕ) {n w : ℕ} → n ≡ min k 16 → w ≡ val (view s (p / 8 * 8) 24)
    → w / 2 ^ (24 - p % 8 - n) % (1 * 2 ^ n % 2 ^ 64) ≡ val (view s p (min k 16))
window_read s p k {n} few e =
    ap (λ (w : ℕ). w / 2 ^ (24 - p % 8 - n) % (1 * 2 ^ n % 2 ^ 64)) e ∙ view_window s p n (omega (arith, few)) ∙ ap (λ (j : ℕ). val (view s p j)) few

pub read_lt : {z : ℕ} (s : List ℕ) (p k : ℕ) → z ≡ val (view s p (min k 16)) → z < 65536
read_lt s p k e = rw e (lt_of_lt_of_le (view_lt s p (min k 16)) (pow_mono {j = 16} (omega arith)))

-- what follows some bits at a place stands behind them
pub view_rest : (s : List ℕ) (p n : ℕ) (w r : List Bool) → view s p n ≡ w ++ r
    → (r ≡ view s (p + length w) (n - length w)) × (length w + length r ≡ n)
view_rest s p n w r e =
    let l : length w + length r ≡ n = sym (length-append w r) ∙ sym (ap length e) ∙ length_view s p n in
    (sym (drop_at w r (length w) refl) ∙ ap (drop (length w)) (sym e) ∙ drop_view s p (length w) n (omega arith), l)

-- and the bits themselves stand there
pub view_front : (s : List ℕ) (p n : ℕ) (w r : List Bool) → view s p n ≡ w ++ r → view s p (length w) ≡ w
view_front s p n w r e =
    let l = (view_rest s p n w r e).1 in
    sym (take_view s p (length w) n (omega arith)) ∙ ap (take (length w)) e ∙ take_at w r (length w) refl
