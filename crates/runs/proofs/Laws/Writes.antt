-- A run of words laid at a place: the loop's state, its turn and its end.
-- Assumes nothing.
use mathlib.Core.Path.{◌≡◌, refl, sym, ap, ap₂, ◌∙◌}
use mathlib.Core.Bool.{Bool}
use mathlib.Core.List.{List, [], ◌∷◌, ◌++◌, append_assoc, append-nil, map}
use Prim.Native.Nat.{ℕ, suc, ◌+◌, ◌*◌, ◌≤◌, ◌<◌}
use native.Mathlib.Numerals.{add-one}
use native.Mathlib.Omega.{arith}
use lib.ListN.{length, drop, get_or, length-append, drop_of_length-le}
use lib.Seq.{drop-cons}
use Rattle.bits.specs.Bits.{laid, Bytes}
use Rattle.bits.proofs.Laws.LaidBits.{laid_append, laid_none, length_laid}
use Rattle.bits.specs.Codings.{word_of}
use Rattle.bits.specs.Codecs.{write_all}
use Rattle.words.specs.Tables.{coding}
use Rattle.words.proofs.Laws.WritingTable.{word_few}

abbrev pub run_bits : List ℕ → List ℕ → List Bool
run_bits kinds numbers = write_all (map coding kinds) numbers

-- a word has at most 16 bits
pub word_short : (k v m : ℕ) → m ≡ length (word_of (coding k) v) → m ≤ 16
word_short k v m e = omega (arith, word_few k v)

-- the first i words are laid, n bits in all
pub record Writing (s₀ : List ℕ) (at : ℕ) (kinds numbers s : List ℕ) (n i : ℕ) : Type 0 where
  pub bits : List Bool
  pub upto : i ≤ length kinds
  pub few : n ≤ 16 * i
  pub said : run_bits kinds numbers ≡ bits ++ run_bits (drop i kinds) (drop i numbers)
  pub long : length s ≡ length s₀
  pub written : s ≡ laid s₀ at bits
  pub many : n ≡ length bits

module _ {s₀ : List ℕ} {at : ℕ} {kinds numbers : List ℕ} where
  pub start : Bytes s₀ → Writing s₀ at kinds numbers s₀ 0 0
  start h = record { bits = []; upto = omega arith; few = omega arith; said = refl; long = refl; written = sym (laid_none s₀ at h); many = refl }

  module _ {s : List ℕ} {n i : ℕ} (I : Writing s₀ at kinds numbers s n i) where
    pub turn : {t : List ℕ} {m : ℕ} → i < length kinds → length kinds ≡ length numbers
        → m ≡ length (word_of (coding (get_or kinds i 0)) (get_or numbers i 0)) → t ≡ laid s (at + n) (word_of (coding (get_or kinds i 0)) (get_or numbers i 0))
        → Writing s₀ at kinds numbers t (n + m) (i + 1)
    unfolding write_all
    turn h l e x =
        let w = word_of (coding (get_or kinds i 0)) (get_or numbers i 0) in
        let b = I.bits in
        let next : run_bits (drop i kinds) (drop i numbers) ≡ w ++ run_bits (drop (suc i) kinds) (drop (suc i) numbers) =
        ap₂ run_bits (drop-cons kinds i 0 h) (drop-cons numbers i 0 (omega arith)) in
        record {
          bits = b ++ w;
          upto = omega arith;
          few = omega (arith, I.few, word_short _ _ _ e);
          said =
              I.said ∙ ap (λ (x : List Bool). b ++ x) next ∙ sym (append_assoc b w (run_bits (drop (suc i) kinds) (drop (suc i) numbers)))
              ∙ ap (λ (k : ℕ). b ++ w ++ run_bits (drop k kinds) (drop k numbers)) (sym (add-one i));
          long = ap length x ∙ length_laid s (at + n) w ∙ I.long;
          written = x ∙ ap₂ (λ (y : List ℕ) (k : ℕ). laid y (at + k) w) I.written I.many ∙ laid_append s₀ at b w;
          many = omega (arith, I.many, length-append b w);
        }

    pub finished : length kinds ≤ i → (n ≡ length (run_bits kinds numbers)) × (s ≡ laid s₀ at (run_bits kinds numbers))
    unfolding write_all
    finished h =
        let e : run_bits kinds numbers ≡ I.bits =
        I.said ∙ ap (λ (x : List ℕ). I.bits ++ run_bits x (drop i numbers)) (drop_of_length-le kinds h) ∙ append-nil I.bits in
        (I.many ∙ ap length (sym e), I.written ∙ ap (laid s₀ at) (sym e))

-- ---- counting the bits alone

-- the first i words have n bits
pub record Counting (kinds numbers : List ℕ) (n i : ℕ) : Type 0 where
  pub upto : i ≤ length kinds
  pub few : n ≤ 16 * i
  pub said : length (run_bits kinds numbers) ≡ n + length (run_bits (drop i kinds) (drop i numbers))

module _ {kinds numbers : List ℕ} where
  pub count_start : Counting kinds numbers 0 0
  count_start = record { upto = omega arith; few = omega arith; said = omega arith }

  module _ {n i : ℕ} (I : Counting kinds numbers n i) where
    pub count_turn : {m : ℕ} → i < length kinds → length kinds ≡ length numbers
        → m ≡ length (word_of (coding (get_or kinds i 0)) (get_or numbers i 0)) → Counting kinds numbers (n + m) (i + 1)
    unfolding write_all
    count_turn h l e =
        let w = word_of (coding (get_or kinds i 0)) (get_or numbers i 0) in
        let r = run_bits (drop (suc i) kinds) (drop (suc i) numbers) in
        let next : run_bits (drop i kinds) (drop i numbers) ≡ w ++ r = ap₂ run_bits (drop-cons kinds i 0 h) (drop-cons numbers i 0 (omega arith)) in
        record {
          upto = omega arith;
          few = omega (arith, I.few, word_short _ _ _ e);
          said =
              omega (arith, I.said, ap length next, length-append w r, ap (λ (k : ℕ). length (run_bits (drop k kinds) (drop k numbers))) (add-one i));
        }

    pub counted : length kinds ≤ i → n ≡ length (run_bits kinds numbers)
    unfolding write_all
    counted h = omega (arith, I.said, ap (λ (x : List ℕ). length (run_bits x (drop i numbers))) (drop_of_length-le kinds h))

-- a run has at most 16 bits a word
pub run_few : (kinds numbers : List ℕ) → length (run_bits kinds numbers) ≤ 16 * length kinds
unfolding write_all
run_few [] numbers = omega arith
run_few (k ∷ kinds) [] = omega arith
run_few (k ∷ kinds) (v ∷ numbers) =
    omega (arith, length-append (word_of (coding k) v) (run_bits kinds numbers), word_few k v, run_few kinds numbers)
