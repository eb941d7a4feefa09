-- The answers of the frame reader: ten, of which eight are refusals with a number of their own.
-- Assumes nothing.
use mathlib.Core.Bool.{cond}
use mathlib.Core.List.{List}
use Prim.Native.Nat.{ℕ, ◌-◌, ◌*◌}
use lib.Dec.{ltb}
use lib.ListN.{length}
use Rattle.ground.specs.Replies.{no_byte, marked, reserved, cut, norm_outside, no_word, past_budget, short_room}
use Rattle.bits.specs.Bits.{bits_of}
use Rattle.bits.specs.Codings.{Answer, got, no}
use Rattle.bits.specs.declared.Refusal.TheVariants.{Outside, Missing, Past}
use Rattle.prefix.specs.Sizes.{length_bytes}
use Rattle.prefix.specs.Prefix.{prefix_of}
use Rattle.prefix.specs.declared.Prefix.{Prefix}
use Rattle.prefix.specs.declared.Prefix.TheVariants.{Data, NoData, NoByte, Marked, Reserved}
use Rattle.frame.specs.Layout.{Frame, frame}
use Rattle.frame.specs.Answers.{Outcome, refused, empty, sound, outcome, read_body, body_of, started, read_answer}
use Rattle.promises.proofs.Laws.Picked.{picked}

-- what holds for each of them holds for whatever is read
module _ (P : Outcome → Type 0) (p1 : P (refused no_byte)) (p2 : P (refused marked)) (p3 : P (refused reserved)) (p4 : P (refused cut))
    (p5 : P (refused norm_outside)) (p6 : P (refused no_word)) (p7 : P (refused past_budget)) (p10 : P (refused short_room)) (p14 : P empty)
    (p0 : (mode : ℕ) (x : Frame) → P (sound mode x)) where
  of_body : (mode : ℕ) (a : Answer Frame) → P (outcome mode a)
  of_body mode (got x r) = p0 mode x
  of_body mode (no Outside) = p5
  of_body mode (no Missing) = p6
  of_body mode (no Past) = p7

  of_prefix : (src : List ℕ) (p : Prefix) → P (started p src)
  unfolding read_body
  of_prefix src NoByte = p1
  of_prefix src Marked = p2
  of_prefix src Reserved = p3
  of_prefix src NoData = p14
  of_prefix src (Data l) =
      let body = body_of (length_bytes l.0) src in
      picked P (ltb (length_bytes l.0) (length src)) (read_body (l.0 - 8) body) (refused cut)
      (of_body (l.0 - 8) ((frame (length body * 8)).read (bits_of body))) p4

  pub each_reading : (src : List ℕ) (codes tail : ℕ) → P (read_answer src codes tail)
  unfolding read_answer
  each_reading src codes tail =
      picked P (ltb codes 800) (refused short_room) (cond (ltb tail 320) (refused short_room) (started (prefix_of src) src)) p10
      (picked P (ltb tail 320) (refused short_room) (started (prefix_of src) src) p10 (of_prefix src (prefix_of src)))
