-- The bits of the norm part as the code makes them, and how many they are.
-- Assumes nothing.
use mathlib.Core.Path.{◌≡◌, sym, ap, ap₂, ◌∙◌}
use mathlib.Core.Bool.{Bool, true, false, cond, ◌&&◌}
use mathlib.Core.List.{List, [], ◌∷◌, map}
use Prim.Native.Nat.{ℕ, zero, suc, ◌+◌, ◌*◌, ◌≤◌, ◌<◌}
use native.Mathlib.Omega.{arith}
use lib.Dec.{T, leb, leb→le}
use lib.ListN.{length, get_or, drop, replicate, length-append}
use Rattle.ground.proofs.Laws.Cases.{and_T}
use Rattle.ground.proofs.Laws.PrintedTables.{every, every_at}
use Rattle.bits.specs.Bits.{word, laid}
use Rattle.bits.proofs.Laws.NumbersAsBits.{length_word}
use Rattle.bits.specs.Codings.{Coding, word_of, Fit}
use Rattle.bits.specs.Codecs.{words, write_all, FitAll}
use Rattle.norm_words.specs.Table16.{table16}
use Rattle.words.specs.Tables.{coding, words as words_of}
use Rattle.words.proofs.Laws.Tables.{coding_fixed, coding_column}
use Rattle.bits.proofs.Laws.Codings.{word_fixed}
use Rattle.words.proofs.Laws.WritingTable.{word_column}
use Rattle.runs.proofs.Laws.Writes.{run_few}
use Rattle.order.specs.SentOrder.{sent}
use Rattle.order.proofs.Laws.SentOrder.{length_sent}
use Rattle.norms.specs.Steps.{numbers}
use Rattle.norms.specs.Legal.{LegalNorms}
use Rattle.norms.specs.Part.{norm_kinds, numbers_of, norm_bits}
use Rattle.norms.specs.Answers.{word_total}
use Rattle.norms.proofs.Laws.Steps.{length_numbers}
use Rattle.norms.proofs.Laws.Codec.{kinds_long, norms_whole}
use Rattle.bits.proofs.Laws.Codecs.{fit_length}

-- ---- the bits as the code makes them: kinds, sent order, numbers

module _ {ks ss ws : List ℕ} (t f : Bool) (norms : List ℕ) (ek : ks ≡ norm_kinds f) (es : ss ≡ sent t norms) (ew : ws ≡ numbers 15 ss) where
  bits_are : write_all (map coding ks) ws ≡ norm_bits t f norms
  unfolding norm_bits
  bits_are = ap₂ (λ (k v : List ℕ). write_all (map coding k) v) ek (ew ∙ ap (numbers 15) es)

  pub bits_made : {n : ℕ} → n ≡ length (write_all (map coding ks) ws) → n ≡ length (norm_bits t f norms)
  bits_made e = e ∙ ap length bits_are

  pub bits_laid : {o : List ℕ} (s : List ℕ) (at : ℕ) → o ≡ laid s at (write_all (map coding ks) ws) → o ≡ laid s at (norm_bits t f norms)
  bits_laid s at e = e ∙ ap (laid s at) bits_are

-- ---- how long the part is

module _ (c : Coding) (least most : ℕ) (each : (v : ℕ) → Fit c v → (least ≤ length (word_of c v)) × (length (word_of c v) ≤ most)) where
  run_long : (n : ℕ) (vs : List ℕ) → FitAll (replicate n c) vs
      → (least * n ≤ length (write_all (replicate n c) vs)) × (length (write_all (replicate n c) vs) ≤ most * n)
  unfolding write_all
  run_long zero [] f = (omega arith, omega arith)
  run_long zero (v ∷ vs) f = absurd f
  run_long (suc n) [] f = absurd f
  run_long (suc n) (v ∷ vs) f =
      let e = each v f.0 in
      let r = run_long n vs f.1 in
      let l = length-append (word_of c v) (write_all (replicate n c) vs) in
      (omega (arith, e.0, r.0), omega (arith, e.1, r.1))

-- the words of Table 16 have 3 to 7 bits
sizes16 : T (every (λ (v : ℕ) (w : List Bool). leb 3 (length w) && leb (length w) 7) 0 (words_of 4))
unfolding words_of table16 word
sizes16 = tt

word16 : (v : ℕ) → Fit (coding 20) v → (3 ≤ length (word_of (coding 20) v)) × (length (word_of (coding 20) v) ≤ 7)
word16 v f =
    let h : v < length (words_of 4) = rw (coding_column 20 (omega arith)) at f in
    let w = get_or (words_of 4) v [] in
    let t = and_T (leb 3 (length w)) (leb (length w) 7)
    (every_at (λ (v : ℕ) (w : List Bool). leb 3 (length w) && leb (length w) 7) (words_of 4) [] sizes16 v h) in
    rw (coding_column 20 (omega arith), word_column 4 v) (leb→le 3 (length w) t.0, leb→le (length w) 7 t.1)

word5 : (v : ℕ) → length (word_of (coding 5) v) ≡ 5
word5 v = rw (coding_fixed 5 (omega arith), word_fixed 5 v) (length_word 5 v)

-- the first index alone, and the 43 others
pub bits_split : (flag_n : Bool) (w : ℕ) (ws : List ℕ)
    → length (write_all (map coding (norm_kinds flag_n)) (w ∷ ws)) ≡ 5 + length (write_all (map coding (replicate 43 (cond flag_n 20 5))) ws)
unfolding norm_kinds write_all
bits_split flag_n w ws = omega (arith, length-append (word_of (coding 5) w) (write_all (map coding (replicate 43 (cond flag_n 20 5))) ws), word5 w)

-- with FlagN 0 each number has five bits
fives_long : (n : ℕ) (vs : List ℕ) → length vs ≡ n → length (write_all (map coding (replicate n 5)) vs) ≡ 5 * n
unfolding write_all
fives_long zero [] l = omega arith
fives_long zero (v ∷ vs) l = absurd (omega arith)
fives_long (suc n) [] l = absurd (omega arith)
fives_long (suc n) (v ∷ vs) l =
    omega (arith, length-append (word_of (coding 5) v) (write_all (map coding (replicate n 5)) vs), word5 v, fives_long n vs (omega arith))

plain_long : (ws : List ℕ) → length ws ≡ 44 → length (write_all (map coding (norm_kinds false)) ws) ≡ 220
unfolding norm_kinds
plain_long ws l = fives_long 44 ws l

part_long : (flag_n : Bool) (ws : List ℕ) → FitAll (map coding (norm_kinds flag_n)) ws
    → (134 ≤ length (write_all (map coding (norm_kinds flag_n)) ws)) × (length (write_all (map coding (norm_kinds flag_n)) ws) ≤ 306)
unfolding norm_kinds
part_long flag_n [] f = absurd f
part_long true (w ∷ ws) f =
    let r = run_long (coding 20) 3 7 word16 43 ws f.1 in
    let s = bits_split true w ws in
    (omega (arith, r.0), omega (arith, r.1))
part_long false (w ∷ ws) f =
    let e = plain_long (w ∷ ws) (fit_length (map coding (norm_kinds false)) (w ∷ ws) f) in
    (omega arith, omega arith)

-- the norm part has 134 to 306 bits, and 220 with FlagN 0
pub norm_bits_lem : (transient flag_n : Bool) (norms : List ℕ) → LegalNorms transient norms
    → (134 ≤ length (norm_bits transient flag_n norms)) × (length (norm_bits transient flag_n norms) ≤ 306)
unfolding norm_bits words
norm_bits_lem transient flag_n norms w = part_long flag_n (numbers_of transient norms) (norms_whole transient flag_n norms w).1

pub plain_bits : (transient : Bool) (norms : List ℕ) → length norms ≡ 44 → length (norm_bits transient false norms) ≡ 220
unfolding norm_bits
plain_bits transient norms l =
    plain_long (numbers_of transient norms) (length_numbers 15 (sent transient norms) ∙ length_sent transient norms l)

-- with FlagN 1 they are the five bits of the first index and the words
pub word_bits : (transient : Bool) (norms : List ℕ) → length norms ≡ 44 → length (norm_bits transient true norms) ≡ 5 + word_total transient norms
unfolding norm_bits word_total
word_bits transient norms l = all (numbers_of transient norms) (length_numbers 15 (sent transient norms) ∙ length_sent transient norms l)
  where
    all : (ws : List ℕ) → length ws ≡ 44
        → length (write_all (map coding (norm_kinds true)) ws) ≡ 5 + length (write_all (map coding (replicate 43 20)) (drop 1 ws))
    all [] h = absurd (omega arith)
    all (w ∷ ws) h = bits_split true w ws

-- by the code's test of FlagN
pub bits_plain : (transient f : Bool) (norms : List ℕ) → length norms ≡ 44 → f ≡ false → 220 ≡ length (norm_bits transient f norms)
bits_plain transient f norms l e = rw e (sym (plain_bits transient norms l))

pub bits_words : (transient f : Bool) (norms : List ℕ) → length norms ≡ 44 → f ≡ true → {n : ℕ} → n ≡ word_total transient norms
    → 5 + n ≡ length (norm_bits transient f norms)
bits_words transient f norms l e q = rw e (ap (λ (k : ℕ). 5 + k) q ∙ sym (word_bits transient norms l))

-- of any norms at most 704 bits
pub bits_few : (transient flag_n : Bool) (norms : List ℕ) → length (norm_bits transient flag_n norms) ≤ 704
unfolding norm_bits
bits_few transient flag_n norms = omega (arith, run_few (norm_kinds flag_n) (numbers_of transient norms), kinds_long flag_n)
