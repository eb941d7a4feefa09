-- The laws of bits laid at a place: bits laid one after the other are laid at once, what was laid is read back, what is not laid over
-- stays, and laying what stands there changes nothing. Last, that three bytes changed as one number lay the bits.
-- Assumes nothing.
use mathlib.Core.Path.{◌≡◌, refl, sym, ap, ap₂, ◌∙◌}
use mathlib.Core.Bool.{Bool, false}
use mathlib.Core.List.{List, [], ◌∷◌, ◌++◌, append_assoc}
use Prim.Native.Nat.{ℕ, zero, suc, ◌+◌, ◌-◌, ◌*◌, ◌/◌, ◌%◌, ◌^◌, ◌≤◌, ◌<◌, min}
use native.Mathlib.Nat.{add-zero, zero-add, suc-add, add-suc, add_assoc, mod-eq_of_lt, mod-lt, div-mul-le_self, lt_of_lt_of_le}
use native.Mathlib.Omega.{arith}
use native.Mathlib.Decide.{ℕ_discrete, dec_lt}
use lib.ListN.{length, get_or, take, drop, set, length-append, length-set, length-take, length-drop, get_or-eq_default}
use lib.Pow.{pow_pos, pow_mono, shl_exact}
use lib.Seq.{drop-nil, drop-drop, sets, sets-eq, length-sets, set-get_or, set_out, drop_at, take_at, get_or-take, get_or-drop, get_or-set_same, get_or-set_other}
use Rattle.bits.specs.Bits.{word, val, bit, view, bits_of, bytes_of, laid, Bytes}
use Rattle.bits.proofs.Laws.NumbersAsBits.{val_lt, val_word, word_val, length_word, val_append, val_front, val_back, word_mod, word_add, shifted_one}
use Rattle.bits.proofs.Laws.Views.{length_view, view_add, view_past, view_lt}
use Rattle.bits.proofs.Laws.Bytes.{length_bits, length_bytes_lem, bytes_bits, bits_bytes, view_part, same_bits}

-- ---- stores one after the other, of any elements

module _ {A : Type 0} where
  sets_nil : (i : ℕ) (a : List A) → sets [] i a ≡ []
  sets_nil i [] = refl
  sets_nil i (x ∷ a) = sets_nil (suc i) a

  sets_append : (l : List A) (i : ℕ) (a b : List A) → sets l i (a ++ b) ≡ sets (sets l i a) (i + length a) b
  sets_append l i [] b = ap (λ (k : ℕ). sets l k b) (sym (add-zero i))
  sets_append l i (x ∷ a) b =
      sets_append (set l i x) (suc i) a b
      ∙ ap (λ (k : ℕ). sets (sets (set l i x) (suc i) a) k b) (suc-add i (length a) ∙ sym (add-suc i (length a)))

  set_right : (a l : List A) (i : ℕ) (x : A) → set (a ++ l) (length a + i) x ≡ a ++ set l i x
  set_right [] l i x = ap (λ (k : ℕ). set l k x) (zero-add i)
  set_right (y ∷ a) l i x = rw suc-add (ap (λ (z : List A). y ∷ z) (set_right a l i x))

  sets_right : (a l : List A) (i : ℕ) (w : List A) → sets (a ++ l) (length a + i) w ≡ a ++ sets l i w
  sets_right a l i [] = refl
  sets_right a l i (x ∷ w) =
      ap₂ (λ (z : List A) (k : ℕ). sets z k w) (set_right a l i x) (sym (add-suc (length a) i)) ∙ sets_right a (set l i x) (suc i) w

  get_d_sets_after : (l : List A) (i : ℕ) (a : List A) (q : ℕ) (d : A) → i + length a ≤ q → get_or (sets l i a) q d ≡ get_or l q d
  get_d_sets_after l i [] q d h = refl
  get_d_sets_after l i (x ∷ a) q d h =
      get_d_sets_after (set l i x) (suc i) a q d (omega arith) ∙ get_or-set_other l i q x d (λ e. omega arith)

-- ---- the bits of bytes

pub bits_at : (s : List ℕ) (q : ℕ) → get_or (bits_of s) q false ≡ bit s q
unfolding view
bits_at s q =
    elim (dec_lt q (length s * 8)) [
      | yes h ↦
          sym
          (ap (λ (l : List Bool). get_or l 0 false) (view_part s q 1 (omega (arith, h)))
          ∙ get_or-take 1 (drop q (bits_of s)) 0 false (omega arith)
          ∙ get_or-drop q (bits_of s) 0 false
          ∙ ap (λ (k : ℕ). get_or (bits_of s) k false) (add-zero q))
      | no h ↦
          get_or-eq_default (bits_of s) false (omega (arith, h, length_bits s))
          ∙ sym (ap (λ (l : List Bool). get_or l 0 false) (view_past s q 1 (omega (arith, h))))
    ]

-- storing what stands there
sets_view : (s : List ℕ) (l : List Bool) (p n : ℕ) → ((q : ℕ) → p ≤ q → get_or l q false ≡ bit s q) → sets l p (view s p n) ≡ l
unfolding view
sets_view s l p zero h = refl
sets_view s l p (suc n) h =
    ap (λ (z : List Bool). sets z (suc p) (view s (suc p) n)) (ap (set l p) (sym (h p (omega arith))) ∙ set-get_or l p false)
    ∙ sets_view s l (suc p) n (λ q b. h q (omega arith))

-- a byte that is stored is its eight bits stored
bits_set : (s : List ℕ) (i x : ℕ) → bits_of (set s i x) ≡ sets (bits_of s) (i * 8) (word 8 x)
unfolding bits_of
bits_set [] i x = sym (sets_nil (i * 8) (word 8 x))
bits_set (b ∷ s) zero x =
    let w = word 8 x in
    let e : 0 + length w ≡ 8 = omega (arith, length_word 8 x) in
    sym
    (sets-eq w (word 8 b ++ bits_of s) 0 (omega (arith, length-append (word 8 b) (bits_of s), length_word 8 b, length_word 8 x))
    ∙ ap (λ (l : List Bool). w ++ l) (ap (λ (k : ℕ). drop k (word 8 b ++ bits_of s)) e ∙ drop_at (word 8 b) (bits_of s) 8 (length_word 8 b)))
bits_set (b ∷ s) (suc i) x =
    let e : length (word 8 b) + i * 8 ≡ suc i * 8 = omega (arith, length_word 8 b) in
    ap (λ (l : List Bool). word 8 b ++ l) (bits_set s i x)
    ∙ sym (sets_right (word 8 b) (bits_of s) (i * 8) (word 8 x))
    ∙ ap (λ (k : ℕ). sets (word 8 b ++ bits_of s) k (word 8 x)) e

bytes_set : (s : List ℕ) (i x : ℕ) → Bytes s → x < 256 → Bytes (set s i x)
bytes_set s i x h b j =
    elim (ℕ_discrete j i) [
      | yes e ↦
          elim (dec_lt i (length s)) [
            | yes l ↦ rw (e, get_or-set_same s i x 0 l) b
            | no l ↦ rw (set_out s i x (omega (arith, l))) (h j)
          ]
      | no e ↦ rw (get_or-set_other s i j x 0 e) (h j)
    ]

-- ---- laid

pub length_laid : (s : List ℕ) (p : ℕ) (w : List Bool) → length (laid s p w) ≡ length s
unfolding laid
length_laid s p w = length_bytes_lem (length s) (sets (bits_of s) p w)

bytes_made : (k : ℕ) (b : List Bool) → Bytes (bytes_of k b)
unfolding bytes_of
bytes_made zero b i = omega arith
bytes_made (suc k) b zero = lt_of_lt_of_le (val_lt (take 8 b)) (pow_mono {j = 8} (omega (arith, length-take 8 b)))
bytes_made (suc k) b (suc i) = bytes_made k (drop 8 b) i

pub bytes_laid : (s : List ℕ) (p : ℕ) (w : List Bool) → Bytes (laid s p w)
unfolding laid
bytes_laid s p w = bytes_made (length s) (sets (bits_of s) p w)

pub bits_laid : (s : List ℕ) (p : ℕ) (w : List Bool) → bits_of (laid s p w) ≡ sets (bits_of s) p w
unfolding laid
bits_laid s p w = bits_bytes (length s) (sets (bits_of s) p w) (length-sets (bits_of s) p w ∙ length_bits s)

-- bits laid one after the other
pub laid_append : (s : List ℕ) (p : ℕ) (a b : List Bool) → laid (laid s p a) (p + length a) b ≡ laid s p (a ++ b)
unfolding laid
laid_append s p a b =
    ap₂ bytes_of (length_laid s p a)
    (ap (λ (l : List Bool). sets l (p + length a) b) (bits_laid s p a) ∙ sym (sets_append (bits_of s) p a b))

pub laid_none : (s : List ℕ) (p : ℕ) → Bytes s → laid s p [] ≡ s
unfolding laid
laid_none s p h = bytes_bits s h

-- write after read: what stands there, laid again
pub laid_view : (s : List ℕ) (p n : ℕ) → Bytes s → laid s p (view s p n) ≡ s
unfolding laid
laid_view s p n h = ap (bytes_of (length s)) (sets_view s (bits_of s) p n (λ q b. bits_at s q)) ∙ bytes_bits s h

-- read after write: what was laid within the bytes
pub view_laid : (s : List ℕ) (p : ℕ) (w : List Bool) → p + length w ≤ length s * 8 → view (laid s p w) p (length w) ≡ w
view_laid s p w h =
    let l : length (take p (bits_of s)) ≡ p = omega (arith, length-take p (bits_of s), length_bits s) in
    view_part (laid s p w) p (length w) (omega (arith, length_laid s p w))
    ∙ ap (λ (b : List Bool). take (length w) (drop p b))
    (bits_laid s p w ∙ sets-eq w (bits_of s) p (omega (arith, length_bits s)) ∙ append_assoc (take p (bits_of s)) w (drop (p + length w) (bits_of s)))
    ∙ ap (take (length w)) (drop_at (take p (bits_of s)) (w ++ drop (p + length w) (bits_of s)) p l)
    ∙ take_at w (drop (p + length w) (bits_of s)) (length w) refl

-- what is not laid over stays
pub bit_after : (s : List ℕ) (p : ℕ) (w : List Bool) (q : ℕ) → p + length w ≤ q → bit (laid s p w) q ≡ bit s q
bit_after s p w q h =
    sym (bits_at (laid s p w) q) ∙ ap (λ (l : List Bool). get_or l q false) (bits_laid s p w) ∙ get_d_sets_after (bits_of s) p w q false h ∙ bits_at s q

-- ---- whole bytes

pub bits_append : (a b : List ℕ) → bits_of (a ++ b) ≡ bits_of a ++ bits_of b
unfolding bits_of
bits_append [] b = refl
bits_append (x ∷ a) b = ap (λ (l : List Bool). word 8 x ++ l) (bits_append a b) ∙ sym (append_assoc (word 8 x) (bits_of a) (bits_of b))

bits_drop : (n : ℕ) (s : List ℕ) → drop (n * 8) (bits_of s) ≡ bits_of (drop n s)
unfolding bits_of
bits_drop zero s = refl
bits_drop (suc n) [] = drop-nil (suc n * 8)
bits_drop (suc n) (x ∷ s) =
    let e : suc n * 8 ≡ 8 + n * 8 = omega arith in
    ap (λ (k : ℕ). drop k (word 8 x ++ bits_of s)) e
    ∙ sym (drop-drop (n * 8) 8 (word 8 x ++ bits_of s))
    ∙ ap (drop (n * 8)) (drop_at (word 8 x) (bits_of s) 8 (length_word 8 x))
    ∙ bits_drop n s

bytes_append : (a b : List ℕ) → Bytes a → Bytes b → Bytes (a ++ b)
bytes_append [] b ha hb i = hb i
bytes_append (x ∷ a) b ha hb zero = ha 0
bytes_append (x ∷ a) b ha hb (suc i) = bytes_append a b (λ j. ha (suc j)) hb i

pub bytes_drop : (n : ℕ) (s : List ℕ) → Bytes s → Bytes (drop n s)
bytes_drop zero s h = h
bytes_drop (suc n) [] h = h
bytes_drop (suc n) (x ∷ s) h = bytes_drop n s (λ i. h (suc i))

pub bytes_take : (n : ℕ) (s : List ℕ) → Bytes s → Bytes (take n s)
bytes_take zero s h i = omega arith
bytes_take (suc n) [] h i = h i
bytes_take (suc n) (x ∷ s) h zero = h zero
bytes_take (suc n) (x ∷ s) h (suc i) = bytes_take n s (λ j. h (suc j)) i

bytes_cons : (x : ℕ) (s : List ℕ) → x < 256 → Bytes s → Bytes (x ∷ s)
bytes_cons x s b h zero = b
bytes_cons x s b h (suc i) = h i

-- n bytes of bits laid behind a first byte
pub laid_behind : (x : ℕ) (s : List ℕ) (n : ℕ) (w : List Bool) → x < 256 → Bytes s → length w ≡ n * 8 → n ≤ length s
    → laid (x ∷ s) 8 w ≡ x ∷ (bytes_of n w ++ drop n s)
unfolding bits_of
laid_behind x s n w b h l m =
    let t = bytes_of n w ++ drop n s in
    let long : length (laid (x ∷ s) 8 w) ≡ length (x ∷ t) =
    omega (arith, length_laid (x ∷ s) 8 w, length-append (bytes_of n w) (drop n s), length_bytes_lem n w, length-drop n s) in
    let e : length (word 8 x) + 0 ≡ 8 = omega (arith, length_word 8 x) in
    let z : 0 + length w ≡ n * 8 = omega arith in
    let bits : bits_of (laid (x ∷ s) 8 w) ≡ bits_of (x ∷ t) =
    bits_laid (x ∷ s) 8 w
    ∙ ap (λ (k : ℕ). sets (word 8 x ++ bits_of s) k w) (sym e)
    ∙ sets_right (word 8 x) (bits_of s) 0 w
    ∙ ap (λ (y : List Bool). word 8 x ++ y)
    (sets-eq w (bits_of s) 0 (omega (arith, length_bits s))
    ∙ ap (λ (k : ℕ). w ++ drop k (bits_of s)) z
    ∙ ap₂ (λ (u v : List Bool). u ++ v) (sym (bits_bytes n w l)) (bits_drop n s)
    ∙ sym (bits_append (bytes_of n w) (drop n s))) in
    same_bits (laid (x ∷ s) 8 w) (x ∷ t) (bytes_laid (x ∷ s) 8 w)
    (bytes_cons x t b (bytes_append (bytes_of n w) (drop n s) (bytes_made n w) (bytes_drop n s h))) long bits

-- ---- three bytes changed as one number

-- the 24 bits of x from byte i on
window_bits : (s : List ℕ) (i x : ℕ)
    → bits_of (set (set (set s i (x / 65536 % 256)) (i + 1) (x / 256 % 256)) (i + 2) (x % 256)) ≡ sets (bits_of s) (i * 8) (word 24 x)
window_bits s i x =
    let a = word 8 (x / 65536 % 256) in
    let b = word 8 (x / 256 % 256) in
    let c = word 8 (x % 256) in
    let s₁ = set s i (x / 65536 % 256) in
    let s₂ = set s₁ (i + 1) (x / 256 % 256) in
    let e₁ : (i + 1) * 8 ≡ i * 8 + length a = omega (arith, length_word 8 (x / 65536 % 256)) in
    let e₂ : (i + 2) * 8 ≡ i * 8 + length (a ++ b) =
    omega (arith, length-append a b, length_word 8 (x / 65536 % 256), length_word 8 (x / 256 % 256)) in
    let whole : (a ++ b) ++ c ≡ word 24 x =
    append_assoc a b c
    ∙ ap₂ (λ (y z : List Bool). y ++ z) (word_mod 8 (x / 65536)) (ap₂ (λ (y z : List Bool). y ++ z) (word_mod 8 (x / 256)) (word_mod 8 x)
    ∙ sym (word_add 8 8 x))
    ∙ sym (word_add 8 16 x) in
    bits_set s₂ (i + 2) (x % 256)
    ∙ ap₂ (λ (l : List Bool) (k : ℕ). sets l k c)
    (bits_set s₁ (i + 1) (x / 256 % 256)
    ∙ ap₂ (λ (l : List Bool) (k : ℕ). sets l k b) (bits_set s i (x / 65536 % 256)) e₁
    ∙ sym (sets_append (bits_of s) (i * 8) a b)) e₂
    ∙ sym (sets_append (bits_of s) (i * 8) (a ++ b) c)
    ∙ ap (sets (bits_of s) (i * 8)) whole

-- the number that the code makes of the 24 bits w: above h and below m as they were, between them the last n bits of v
abbrev pub made : ℕ → ℕ → ℕ → ℕ → ℕ → ℕ
made w h m n v = w / 2 ^ h * 2 ^ h % 2 ^ 64 + v % (1 * 2 ^ n % 2 ^ 64) * 2 ^ m % 2 ^ 64 + w % (1 * 2 ^ m % 2 ^ 64)

module _ (s : List ℕ) (p n v : ℕ) (few : n ≤ 16) where
  i : ℕ
  i = p / 8

  k : ℕ
  k = p % 8

  m : ℕ
  m = 24 - p % 8 - n

  before : List Bool
  before = view s (p / 8 * 8) (p % 8)

  after : List Bool
  after = view s (p + n) (24 - p % 8 - n)

  new : List Bool
  new = before ++ (word n v ++ after)

  length_after : length (word n v ++ after) ≡ 24 - p % 8
  unfolding after
  length_after = omega (arith, length-append (word n v) after, length_word n v, length_view s (p + n) (24 - p % 8 - n))

  length_new : length new ≡ 24
  unfolding new before
  length_new = omega (arith, length-append before (word n v ++ after), length_after, length_view s (p / 8 * 8) (p % 8))

  w : ℕ
  w = val (view s (p / 8 * 8) 24)

  above : w / 2 ^ (24 - p % 8) ≡ val before
  unfolding w before
  above =
      let j = p / 8 * 8 in
      let e : 24 ≡ p % 8 + (24 - p % 8) = omega arith in
      ap (λ (z : List Bool). val z / 2 ^ (24 - p % 8)) (ap (view s j) e ∙ view_add s j (p % 8) (24 - p % 8))
      ∙ (rw length_view at (val_front (view s j (p % 8)) (view s (j + p % 8) (24 - p % 8))))

  below : w % 2 ^ (24 - p % 8 - n) ≡ val after
  unfolding w after
  below =
      let j = p / 8 * 8 in
      let l = 24 - p % 8 - n in
      let e : 24 ≡ p % 8 + n + l = omega arith in
      let q : j + (p % 8 + n) ≡ p + n = omega arith in
      ap (λ (z : List Bool). val z % 2 ^ l) (ap (view s j) e ∙ view_add s j (p % 8 + n) l)
      ∙ (rw (length_view s (j + (p % 8 + n)) l) at (val_back (view s j (p % 8 + n)) (view s (j + (p % 8 + n)) l)))
      ∙ ap (λ (z : ℕ). val (view s z l)) q

  w_lt : w < 16777216
  unfolding w
  w_lt = view_lt s (p / 8 * 8) 24

  made_new : made w (24 - p % 8) (24 - p % 8 - n) n v ≡ val new
  unfolding new after
  made_new =
      let h = 24 - p % 8 in
      let l = 24 - p % 8 - n in
      let u = v % 2 ^ n in
      let e₁ : w / 2 ^ h * 2 ^ h % 2 ^ 64 ≡ val before * 2 ^ h = mod-eq_of_lt (omega (arith, div-mul-le_self w (2 ^ h), w_lt))
      ∙ ap (λ (z : ℕ). z * 2 ^ h) above in
      let e₂ : v % (1 * 2 ^ n % 2 ^ 64) * 2 ^ l % 2 ^ 64 ≡ u * 2 ^ l =
      ap (λ (z : ℕ). v % z * 2 ^ l % 2 ^ 64) (shifted_one n (omega arith)) ∙ shl_exact n l 64 (mod-lt v (pow_pos n)) (omega arith) in
      let e₃ : w % (1 * 2 ^ l % 2 ^ 64) ≡ val after = ap (λ (z : ℕ). w % z) (shifted_one l (omega arith)) ∙ below in
      ap₂ (λ (y z : ℕ). y + z + w % (1 * 2 ^ l % 2 ^ 64)) e₁ e₂
      ∙ ap (λ (z : ℕ). val before * 2 ^ h + u * 2 ^ l + z) e₃
      ∙ add_assoc (val before * 2 ^ h) (u * 2 ^ l) (val after)
      ∙ sym
      (val_append before (word n v ++ after)
      ∙ ap₂ (λ (y z : ℕ). val before * 2 ^ y + z) length_after
      (val_append (word n v) after ∙ ap₂ (λ (y z : ℕ). y * 2 ^ z + val after) (val_word n v) (length_view s (p + n) l)))

  pub made_lt : made (val (view s (p / 8 * 8) 24)) (24 - p % 8) (24 - p % 8 - n) n v < 16777216
  unfolding w
  made_lt = rw made_new (rw length_new at (val_lt new))

  -- bits that are stored with their neighbours
  sets_new : sets (bits_of s) (p / 8 * 8) new ≡ sets (bits_of s) p (word n v)
  unfolding new before after
  sets_new =
      let q : p / 8 * 8 + length before ≡ p = omega (arith, length_view s (p / 8 * 8) (p % 8)) in
      let x = sets (bits_of s) p (word n v) in
      let r : p + length (word n v) ≡ p + n = omega (arith, length_word n v) in
      sets_append (bits_of s) (p / 8 * 8) before (word n v ++ after)
      ∙ ap₂ (λ (l : List Bool) (z : ℕ). sets l z (word n v ++ after)) (sets_view s (bits_of s) (p / 8 * 8) (p % 8) (λ z b. bits_at s z)) q
      ∙ sets_append (bits_of s) p (word n v) after
      ∙ ap (λ (z : ℕ). sets x z after) r
      ∙ sets_view s x (p + n) (24 - p % 8 - n) (λ z b. get_d_sets_after (bits_of s) p (word n v) z false (omega (arith, length_word n v)) ∙ bits_at s z)

  pub made_laid : Bytes s → (x : ℕ) → x ≡ made (val (view s (p / 8 * 8) 24)) (24 - p % 8) (24 - p % 8 - n) n v
      → set (set (set s (p / 8) (x / 65536 % 256)) (p / 8 + 1) (x / 256 % 256)) (p / 8 + 2) (x % 256) ≡ laid s p (word n v)
  unfolding w laid
  made_laid h x e =
      let s₁ = set s (p / 8) (x / 65536 % 256) in
      let s₂ = set s₁ (p / 8 + 1) (x / 256 % 256) in
      let t = set s₂ (p / 8 + 2) (x % 256) in
      let bytes : Bytes t =
      bytes_set s₂ (p / 8 + 2) (x % 256) (bytes_set s₁ (p / 8 + 1) (x / 256 % 256) (bytes_set s (p / 8) (x / 65536 % 256) h (omega arith)) (omega arith))
      (omega arith) in
      let long : length t ≡ length s = length-set s₂ (p / 8 + 2) (x % 256) ∙ length-set s₁ (p / 8 + 1) (x / 256 % 256)
      ∙ length-set s (p / 8) (x / 65536 % 256) in
      let bits : word 24 x ≡ new = ap (word 24) (e ∙ made_new) ∙ (rw length_new at (word_val new)) in
      sym (bytes_bits t bytes)
      ∙ ap₂ bytes_of long (window_bits s (p / 8) x ∙ ap (sets (bits_of s) (p / 8 * 8)) bits ∙ sets_new)

-- the same from what the code has: the width, at most 16, and the window's number
module _ (s : List ℕ) (p k v : ℕ) {n w : ℕ} (few : n ≡ min k 16) (e : w ≡ val (view s (p / 8 * 8) 24)) where
  pub window_small : made w (24 - p % 8) (24 - p % 8 - n) n v < 16777216
  window_small = rw e (made_lt s p n v (omega (arith, few)))

  pub window_laid : {t : List ℕ} → Bytes s → (let x = made w (24 - p % 8) (24 - p % 8 - n) n v in
      t ≡ set (set (set s (p / 8) (x / 65536 % 256)) (p / 8 + 1) (x / 256 % 256)) (p / 8 + 2) (x % 256)) → t ≡ laid s p (word (min k 16) v)
  window_laid h q =
      q ∙ made_laid s p n v (omega (arith, few)) h _ (ap (λ (z : ℕ). made z (24 - p % 8) (24 - p % 8 - n) n v) e) ∙ ap (λ (j : ℕ). laid s p (word j v)) few
