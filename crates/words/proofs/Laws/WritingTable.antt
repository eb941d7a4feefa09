-- The words as numbers: where a column begins, each word unpacked, its length and its bits.
-- Assumes nothing.
use mathlib.Core.Path.{◌≡◌, refl, sym, ap, ap₂, ◌∙◌}
use mathlib.Core.Bool.{Bool, ◌&&◌}
use mathlib.Core.List.{List, []}
use Prim.Native.Nat.{ℕ, zero, suc, ◌+◌, ◌-◌, ◌*◌, ◌/◌, ◌%◌, ◌^◌, ◌≤◌, ◌<◌, min}
use native.Mathlib.Omega.{arith}
use lib.Dec.{T, eqb, eqb→eq, ltb, ltb→lt}
use lib.ListN.{length, get_or, take, drop, length-take, length-drop, get_or-eq_default}
use lib.Seq.{get_or-take, get_or-drop}
use Rattle.ground.proofs.Laws.PrintedTables.{every, every_at}
use Rattle.bits.specs.Bits.{word, val, laid, Bytes}
use Rattle.bits.proofs.Laws.NumbersAsBits.{word_val, length_word, shifted_one}
use Rattle.bits.proofs.Laws.LaidBits.{laid_none}
use Rattle.ground.proofs.Laws.Cases.{by_bool, and_T}
use borrow.Author.Tests.{ltb-true, ltb-false}
use Rattle.bits.specs.Codings.{Coding, word_of, fit}
use Rattle.norm_words.specs.Table16.{table16}
use Rattle.norm_words.specs.Shape.{spelling}
use Rattle.norm_words.specs.declared.Spelling.{Spelling}
use Rattle.norm_words.proofs.Laws.Shape.{shape_writes}
use Rattle.words.specs.Tables.{words, column, coding, column_of, table20}
use Rattle.words.proofs.Laws.Tables.{coding_fixed, coding_column, size16}
use Rattle.words.proofs.Laws.Answers.{coding_bits, coding_code, coding_norm}
use Rattle.words.specs.Inner.{packed}
use Rattle.bits.proofs.Laws.Codings.{word_fixed}

-- no word has more than seven bits
short : (c : ℕ) → T (every (λ (v : ℕ) (w : List Bool). ltb (length w) 8) 0 (words c))
unfolding words column_of table16 table20 word
short zero = tt
short (suc zero) = tt
short (suc (suc zero)) = tt
short (suc (suc (suc zero))) = tt
short (suc (suc (suc (suc n)))) = tt

pub words_short : (c v : ℕ) → v < length (words c) → length (get_or (words c) v []) < 8
words_short c v h = ltb→lt _ _ (every_at (λ (v : ℕ) (w : List Bool). ltb (length w) 8) (words c) [] (short c) v h)

-- the word back from its number
pub unpacked : (w : List Bool) (e : ℕ) → length w < 8 → e ≡ packed w → word (e % 8) (e / 8) ≡ w
unfolding packed
unpacked w e h q =
    let n : e % 8 ≡ length w = omega arith in
    let v : e / 8 ≡ val w = omega arith in
    ap₂ word n v ∙ word_val w

pub word_column : (c v : ℕ) → word_of (column c) v ≡ get_or (words c) v []
unfolding word_of
word_column c v = refl

-- ---- what the code finds for a number, x in its wider local

module _ (kind v : ℕ) {x : ℕ} (y : x ≡ v) where
  same_word : {c : Coding} → coding kind ≡ c → word_of c x ≡ word_of (coding kind) v
  same_word e = ap₂ word_of (sym e) y

  same_fit : {c : Coding} → coding kind ≡ c → fit c x ≡ fit (coding kind) v
  same_fit e = ap₂ fit (sym e) y

  pub written_fixed : {k : ℕ} → k ≡ kind → kind < 16 → word k x ≡ word_of (coding kind) v
  written_fixed {k} q h = sym (word_fixed k x) ∙ same_word (coding_bits q h)

  pub written_column : {c : ℕ} {w : List Bool} → c ≡ kind - 16 → 16 ≤ kind → w ≡ word_of (column c) x → w ≡ word_of (coding kind) v
  written_column q h e = e ∙ same_word (coding_code q h)

  pub written_norm : {s : Spelling} → 20 ≤ kind → s ≡ spelling x → word s.bits s.value ≡ word_of (coding kind) v
  unfolding words
  written_norm h e = ap (λ (z : Spelling). word z.bits z.value) e ∙ shape_writes x ∙ sym (word_column 4 x) ∙ same_word (coding_norm h)

  pub fit_fixed : kind < 16 → ltb x (1 * 2 ^ kind % 2 ^ 64) ≡ fit (coding kind) v
  fit_fixed h = ap (ltb x) (shifted_one kind (omega arith)) ∙ same_fit (coding_bits refl h)

  pub fit_column : {c n : ℕ} → c ≡ kind - 16 → 16 ≤ kind → n ≡ length (words c) → ltb x n ≡ fit (coding kind) v
  fit_column q h e = ap (ltb x) e ∙ same_fit (coding_code q h)

  pub fit_norm : 20 ≤ kind → ltb x 32 ≡ fit (coding kind) v
  fit_norm h = ap (ltb x) (sym size16) ∙ same_fit (coding_norm h)

-- no word has more than 16 bits
pub word_few : (kind v : ℕ) → length (word_of (coding kind) v) ≤ 16
unfolding word_of
word_few kind v =
    by_bool (ltb kind 16)
    (λ e. let h = ltb-true kind 16 e in rw (coding_fixed kind h) (omega (arith, length_word kind v)))
    (λ e. let h = ltb-false kind 16 e in
    by_bool (ltb v (length (words (kind - 16))))
    (λ f. rw (coding_column kind h) (omega (arith, words_short (kind - 16) v (ltb-true v _ f))))
    (λ f. rw (coding_column kind h, get_or-eq_default (words (kind - 16)) [] (ltb-false v _ f)) (omega arith)))

-- ---- the table of a column's words

-- a column of Table 20 has as many words as there are numbers of its rate
sized : (c : ℕ) → c < 4 → 4 * 2 ^ c % 2 ^ 64 ≡ length (words c)
unfolding words column_of table20
sized zero h = refl
sized (suc zero) h = refl
sized (suc (suc zero)) h = refl
sized (suc (suc (suc zero))) h = refl
sized (suc (suc (suc (suc c)))) h = absurd (omega arith)

many : (c : ℕ) → c < 4 → (4 ≤ length (words c)) × (length (words c) ≤ 32)
unfolding words column_of table20
many zero h = (omega arith, omega arith)
many (suc zero) h = (omega arith, omega arith)
many (suc (suc zero)) h = (omega arith, omega arith)
many (suc (suc (suc zero))) h = (omega arith, omega arith)
many (suc (suc (suc (suc c)))) h = absurd (omega arith)

pub size_is : (c : ℕ) → c < 4 → (4 * 2 ^ c % 2 ^ 64 ≡ length (words c)) × (4 ≤ 4 * 2 ^ c % 2 ^ 64)
size_is c h = (sized c h, rw (sized c h) (many c h).0)

-- so it begins after the smaller ones, as many places on as it has words itself, less four
unfoldable pub rule : ℕ → ℕ → ℕ → Bool
rule c v e = eqb e (packed (get_or (words c) v []))

unfoldable pub part : List ℕ → ℕ → List ℕ
part t c = take (length (words c)) (drop (length (words c) - 4) t)

-- the words of all columns, one after the other
unfoldable pub all_words : List ℕ → Bool
all_words t = every (rule 0) 0 (part t 0) && (every (rule 1) 0 (part t 1) && (every (rule 2) 0 (part t 2) && every (rule 3) 0 (part t 3)))

module _ (t : List ℕ) (f : T (all_words t)) (long : length t ≡ 60) where
  tested : (c : ℕ) → c < 4 → T (every (rule c) 0 (part t c))
  unfolding all_words
  tested c h =
      let a = and_T (every (rule 0) 0 (part t 0)) _ f in
      let b = and_T (every (rule 1) 0 (part t 1)) _ a.1 in
      let d = and_T (every (rule 2) 0 (part t 2)) _ b.1 in
      four c h a.0 b.0 d.0 d.1
    where
      four : (c : ℕ) → c < 4 → T (every (rule 0) 0 (part t 0)) → T (every (rule 1) 0 (part t 1)) → T (every (rule 2) 0 (part t 2))
          → T (every (rule 3) 0 (part t 3)) → T (every (rule c) 0 (part t c))
      four zero h x y z w = x
      four (suc zero) h x y z w = y
      four (suc (suc zero)) h x y z w = z
      four (suc (suc (suc zero))) h x y z w = w
      four (suc (suc (suc (suc c)))) h x y z w = absurd (omega arith)

  entry : (c v : ℕ) → c < 4 → v < length (words c) → get_or t (length (words c) - 4 + v) 0 ≡ packed (get_or (words c) v [])
  unfolding rule part
  entry c v h l =
      let n = length (words c) in
      let room : length (part t c) ≡ n = omega (arith, length-take n (drop (n - 4) t), length-drop (n - 4) t, long, many c h) in
      sym (get_or-take n (drop (n - 4) t) v 0 l ∙ get_or-drop (n - 4) t v 0)
      ∙ eqb→eq (get_or (part t c) v 0) (packed (get_or (words c) v [])) (every_at (rule c) (part t c) 0 (tested c h) v (omega arith))

-- the place that the code reads lies within the table, and the entry is the word
module _ {c v n : ℕ} (p : (c < 4) × (v < length (words c))) (s : (n ≡ length (words c)) × (4 ≤ n)) where
  pub writing_inside : n - 4 + v < 60
  writing_inside = omega (arith, s.0, s.1, p.1, many c p.0)

  pub writing_entry_is : {e : ℕ} (t : List ℕ) → e ≡ get_or t (n - 4 + v) 0 → T (all_words t) → length t ≡ 60 → e ≡ packed (get_or (words c) v [])
  writing_entry_is t q f l = q ∙ ap (λ (k : ℕ). get_or t (k - 4 + v) 0) s.0 ∙ entry t f l c v p.0 p.1

-- a number without a word, and the word back from its entry
pub spelt_none : (c n x : ℕ) → n ≡ length (words c) → n ≤ x → word 0 0 ≡ word_of (column c) x
unfolding word
spelt_none c n x e l = sym (word_column c x ∙ get_or-eq_default (words c) [] (omega arith))

pub spelt_word : (c n e x : ℕ) → n ≡ length (words c) → x < n → e ≡ packed (get_or (words c) x []) → word (e % 8) (e / 8) ≡ word_of (column c) x
spelt_word c n e x g l p = unpacked (get_or (words c) x []) e (words_short c x (omega arith)) p ∙ sym (word_column c x)

-- ---- what is spelt is laid

pub written_long : (kind v b x : ℕ) → word b x ≡ word_of (coding kind) v → b ≡ length (word_of (coding kind) v)
written_long kind v b x e = sym (length_word b x) ∙ ap length e

pub written_laid : (kind v b x : ℕ) (s t : List ℕ) (at : ℕ) → (word b x ≡ word_of (coding kind) v) × (b ≤ 16) → t ≡ laid s at (word (min b 16) x)
    → t ≡ laid s at (word_of (coding kind) v)
written_laid kind v b x s t at e q =
    let m : min b 16 ≡ b = omega (arith, e.1) in
    q ∙ ap (λ (n : ℕ). laid s at (word n x)) m ∙ ap (λ (l : List Bool). laid s at l) e.0

-- the word of an unused place
pub word_none : (kind v : ℕ) → kind ≡ 0 → word_of (coding kind) v ≡ []
unfolding word
word_none kind v e = ap (λ (k : ℕ). word_of (coding k) v) e ∙ ap (λ (c : Coding). word_of c v) (coding_fixed 0 (omega arith)) ∙ word_fixed 0 v

pub none_long : (kind v : ℕ) → kind ≡ 0 → 0 ≡ length (word_of (coding kind) v)
none_long kind v e = sym (ap length (word_none kind v e))

pub none_laid : (kind v : ℕ) (s : List ℕ) (at : ℕ) → kind ≡ 0 → Bytes s → s ≡ laid s at (word_of (coding kind) v)
none_laid kind v s at e h = sym (ap (laid s at) (word_none kind v e) ∙ laid_none s at h)
