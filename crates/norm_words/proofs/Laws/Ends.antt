-- Where a norm word ends, by the tests of the code: a 0 as third bit, as fourth, as sixth, or at all seven.
-- Assumes nothing.
use mathlib.Core.Path.{◌≡◌}
use Prim.Native.Nat.{ℕ, ◌+◌, ◌*◌, ◌/◌}
use borrow.Author.Tests.{eq-eqb, ne_eqb}
use Rattle.norm_words.specs.Shape.{third, fourth, sixth, of_three, of_four, of_six, of_seven, word_in}

module _ (seven : ℕ) where
  pub ends_third : third seven ≡ 0 → record { number = seven / 32 + 4 * of_three seven; bits = 3 } ≡ word_in seven
  unfolding word_in
  ends_third e = rw (eq-eqb (third seven) 0 e)

  pub ends_fourth : (third seven ≡ 0 → ⊥) → fourth seven ≡ 0 → record { number = seven / 32 + 4 * of_four seven; bits = 4 } ≡ word_in seven
  unfolding word_in
  ends_fourth a e = rw (ne_eqb (third seven) 0 a, eq-eqb (fourth seven) 0 e)

  pub ends_sixth : (third seven ≡ 0 → ⊥) → (fourth seven ≡ 0 → ⊥) → sixth seven ≡ 0
      → record { number = seven / 32 + 4 * of_six seven; bits = 6 } ≡ word_in seven
  unfolding word_in
  ends_sixth a b e = rw (ne_eqb (third seven) 0 a, ne_eqb (fourth seven) 0 b, eq-eqb (sixth seven) 0 e)

  pub ends_last : (third seven ≡ 0 → ⊥) → (fourth seven ≡ 0 → ⊥) → (sixth seven ≡ 0 → ⊥)
      → record { number = seven / 32 + 4 * of_seven seven; bits = 7 } ≡ word_in seven
  unfolding word_in
  ends_last a b d = rw (ne_eqb (third seven) 0 a, ne_eqb (fourth seven) 0 b, ne_eqb (sixth seven) 0 d)
