-- Bytes as bits and back, byte after byte; the bits at a place are those of this plain reading.
-- Assumes nothing.
use mathlib.Core.Path.{◌≡◌, refl, sym, ap, ap₂, ◌∙◌}
use mathlib.Core.Bool.{Bool}
use mathlib.Core.List.{List, [], ◌∷◌, ◌++◌}
use Prim.Native.Nat.{ℕ, zero, suc, ◌+◌, ◌-◌, ◌*◌, ◌/◌, ◌%◌, ◌^◌, ◌≤◌}
use native.Mathlib.Nat.{zero-add, suc-add, mod-eq_of_lt}
use native.Mathlib.Omega.{arith}
use lib.ListN.{length, get_or, take, drop, length-append, length-drop, take-append-drop}
use lib.Seq.{take_at, drop_at, length-take-le}
use Rattle.bits.specs.Bits.{odd, word, val, view, bits_of, bytes_of, Bytes}
use Rattle.bits.proofs.Laws.NumbersAsBits.{val_word, word_val, length_word}
use Rattle.bits.proofs.Laws.Views.{view_add, view_byte, take_view, drop_view}

pub length_bits : (s : List ℕ) → length (bits_of s) ≡ length s * 8
unfolding bits_of
length_bits [] = refl
length_bits (b ∷ s) = omega (arith, length-append (word 8 b) (bits_of s), length_word 8 b, length_bits s)

pub length_bytes_lem : (k : ℕ) (b : List Bool) → length (bytes_of k b) ≡ k
unfolding bytes_of
length_bytes_lem zero b = refl
length_bytes_lem (suc k) b = ap suc (length_bytes_lem k (drop 8 b))

pub bytes_bits : (s : List ℕ) → Bytes s → bytes_of (length s) (bits_of s) ≡ s
unfolding bits_of bytes_of
bytes_bits [] h = refl
bytes_bits (b ∷ s) h =
    ap₂ ◌∷◌
    (ap val (take_at (word 8 b) (bits_of s) 8 (length_word 8 b)) ∙ val_word 8 b ∙ mod-eq_of_lt (h 0))
    (ap (bytes_of (length s)) (drop_at (word 8 b) (bits_of s) 8 (length_word 8 b)) ∙ bytes_bits s (λ i. h (suc i)))

pub bits_bytes : (k : ℕ) (b : List Bool) → length b ≡ k * 8 → bits_of (bytes_of k b) ≡ b
unfolding bits_of bytes_of
bits_bytes zero [] e = refl
bits_bytes zero (x ∷ b) e = absurd (omega arith)
bits_bytes (suc k) b e =
    let l : 8 ≤ length b = omega arith in
    let m : length (drop 8 b) ≡ k * 8 = omega (arith, length-drop 8 b) in
    ap₂ (λ (x y : List Bool). x ++ y) (rw (length-take-le 8 b l) at (word_val (take 8 b))) (bits_bytes k (drop 8 b) m) ∙ take-append-drop 8 b

view_shift : (b : ℕ) (s : List ℕ) (p n : ℕ) → view (b ∷ s) (p + 8) n ≡ view s p n
unfolding view
view_shift b s p zero = refl
view_shift b s p (suc n) =
    let q : (p + 8) / 8 ≡ suc (p / 8) = omega arith in
    let r : (p + 8) % 8 ≡ p % 8 = omega arith in
    ap₂ ◌∷◌ (ap₂ (λ (x y : ℕ). odd (get_or (b ∷ s) x 0 / 2 ^ (7 - y))) q r) (ap (λ (x : ℕ). view (b ∷ s) x n) (sym (suc-add p 8)) ∙ view_shift b s (suc p) n)

pub view_bits : (s : List ℕ) → view s 0 (length s * 8) ≡ bits_of s
unfolding bits_of view
view_bits [] = refl
view_bits (b ∷ s) =
    let e : suc (length s) * 8 ≡ 8 + length s * 8 = omega arith in
    ap (view (b ∷ s) 0) e ∙ view_add (b ∷ s) 0 8 (length s * 8)
    ∙ ap₂ (λ (x y : List Bool). x ++ y) (view_byte (b ∷ s) 0) (view_shift b s 0 (length s * 8) ∙ view_bits s)

-- the bits at a place within the bytes
pub view_part : (s : List ℕ) (p n : ℕ) → p + n ≤ length s * 8 → view s p n ≡ take n (drop p (bits_of s))
view_part s p n h =
    sym (take_view s p n (length s * 8 - p) (omega arith))
    ∙ ap (take n) (ap (λ (x : ℕ). view s x (length s * 8 - p)) (sym (zero-add p)) ∙ sym (drop_view s 0 p (length s * 8) (omega arith))
    ∙ ap (drop p) (view_bits s))

-- bytes with the same bits are the same
pub same_bits : (s t : List ℕ) → Bytes s → Bytes t → length s ≡ length t → bits_of s ≡ bits_of t → s ≡ t
same_bits s t hs ht e v = sym (bytes_bits s hs) ∙ ap₂ bytes_of e v ∙ bytes_bits t ht
