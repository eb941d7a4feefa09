-- That Table 16 has the shape of 02, No. 3: the page NormWords, by the one law that the shape is the table.
-- Assumes nothing.
use mathlib.Core.Path.{◌≡◌, ap₂}
use mathlib.Core.Bool.{Bool}
use mathlib.Core.List.{List, ◌++◌}
use Prim.Native.Nat.{ℕ, ◌+◌, ◌-◌, ◌≤◌, ◌<◌}
use native.Mathlib.Omega.{arith}
use lib.Dec.{leb}
use lib.ListN.{length}
use borrow.Author.Tests.{leb-true, leb-false}
use Rattle.ground.proofs.Laws.Cases.{by_bool}
use Rattle.bits.specs.Bits.{val}
use Rattle.norm_words.specs.Shape.{by_end, word_in, more_bits, step_size}
use Rattle.norm_words.proofs.Laws.Shape.{shape_is_table, shape_reads, shape_writes, step_bits, step_far}
use Rattle.promises.specs.NormWords.{NormWords, printed}

word_ends : (v : ℕ) → v < 32 → (after : List Bool) → length (printed v) + length after ≡ 7 → by_end (val (printed v ++ after)) 3 4 6 7 ≡ length (printed v)
unfolding word_in
word_ends v h after l = (shape_is_table v h).ends after (omega arith)

word_found : (v : ℕ) → v < 32 → (after : List Bool) → length (printed v) + length after ≡ 7
    → word_in (val (printed v ++ after)) ≡ record { number = v; bits = length (printed v) }
unfolding word_in
word_found v h after l =
    let B = shape_is_table v h in
    let few : length after ≡ 7 - length (printed v) = omega arith in
    ap₂ (λ (n k : ℕ). record { number = n; bits = k }) (B.number after few) (B.ends after few)

word_counted : (x y : ℕ) → x ≤ y + 15 → y ≤ x + 16 → 3 + more_bits (step_size x y) ≡ length (printed (y + 15 - x))
word_counted x y a b =
    by_bool (leb (step_size x y) 15)
    (λ t. step_bits x y (leb-true (step_size x y) 15 t))
    (λ t. absurd (omega (arith, step_far x y (leb-false (step_size x y) 15 t) a)))

pub norm_words_lem : NormWords
norm_words_lem =
    record {
      word_ends = word_ends;
      word_found = word_found;
      always_found = λ b l. let B = shape_reads b l in (B.inside, B.word);
      word_spelt = shape_writes;
      word_counted = word_counted;
    }
