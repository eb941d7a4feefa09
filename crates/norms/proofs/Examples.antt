-- Examples of 01 on norms, by computing: the head of the starred body 6A 6D B6 DB 6D, and the bounds of a difference.
-- Assumes nothing.
use mathlib.Core.Path.{◌≡◌, refl}
use mathlib.Core.Bool.{true, false}
use mathlib.Core.List.{[], ◌∷◌}
use lib.ListN.{length, take, replicate}
use Rattle.bits.specs.Bits.{word, view}
use Rattle.bits.specs.Codings.{word_of}
use Rattle.bits.specs.Codecs.{write_all}
use Rattle.norm_words.specs.Table16.{table16}
use Rattle.words.specs.Tables.{coding, words}
use Rattle.order.specs.SentOrder.{sent}
use Rattle.norms.specs.Steps.{numbers, close, steps_close}
use Rattle.norms.specs.Part.{norm_kinds, norm_bits}

-- ★ Stationary, all indices 20, FlagN 1: the body begins 6A 6D B6 DB 6D. Its first four bits are the flags.
pub star_head : view (0x6A ∷ 0x6D ∷ 0xB6 ∷ 0xDB ∷ 0x6D ∷ []) 4 36 ≡ take 36 (norm_bits false true (replicate 44 20))
unfolding view word word_of write_all coding words table16 sent numbers norm_kinds norm_bits
star_head = refl

-- its norm part has 134 bits, so the budget is 640 − 4 − 134 − 2 = 500
pub star_bits : length (norm_bits false true (replicate 44 20)) ≡ 134
unfolding word word_of write_all coding words table16 sent numbers norm_kinds norm_bits
star_bits = refl

-- with FlagN 0 it has 220, and the budget is 414
pub star_plain : length (norm_bits false false (replicate 44 20)) ≡ 220
unfolding word word_of write_all coding sent numbers norm_kinds norm_bits
star_plain = refl

-- differences of −15 and 16 pass, −16 and 17 do not
pub near_down : steps_close (20 ∷ 5 ∷ []) ≡ true
unfolding steps_close close
near_down = refl

pub near_up : steps_close (20 ∷ 36 ∷ []) ≡ true
unfolding steps_close close
near_up = refl

pub far_down : steps_close (20 ∷ 4 ∷ []) ≡ false
unfolding steps_close close
far_down = refl

pub far_up : steps_close (20 ∷ 37 ∷ []) ≡ false
unfolding steps_close close
far_up = refl
