-- The frame as a codec obeys both laws, and how long a frame is.
-- Assumes nothing.
use mathlib.Core.Path.{◌≡◌, refl, ap}
use mathlib.Core.Bool.{Bool}
use mathlib.Core.List.{List, [], ◌∷◌, ◌++◌, map}
use Prim.Native.Nat.{ℕ, ◌+◌, ◌≤◌, zero-le}
use native.Mathlib.Omega.{arith}
use lib.ListN.{length, length-append}
use Rattle.bits.specs.Codings.{fixed, got, word_of}
use Rattle.bits.specs.Codecs.{words, raw, write_all}
use Rattle.bits.proofs.Laws.NumbersAsBits.{length_word}
use Rattle.bits.proofs.Laws.Codings.{word_fixed}
use Rattle.bits.proofs.Laws.Codecs.{Lawful, coded_lawful, words_lawful, raw_lawful, within_lawful, pair_lawful}
use Rattle.words.specs.Tables.{coding}
use Rattle.words.proofs.Laws.Tables.{all_good}
use Rattle.norms.specs.Part.{norm_part, norm_bits}
use Rattle.norms.proofs.Laws.Codec.{norms_lawful, write_is}
use Rattle.kinds.specs.Budget.{noise_bits}
use Rattle.frame.specs.Layout.{Ending, Frame, flags_in, norms_in, codes_in, noise_in, tail_in, is_transient, flag_n, budget_of, kinds_of, code_bits, tail_left}
use Rattle.frame.specs.Layout.{codes_part, ending_part, rest_part, norms_and_rest, frame}

module _ (total : ℕ) where
  -- ---- both laws

  pub codes_lawful : (flags : List Bool) (norms : List ℕ) → Lawful 0 (codes_part total flags norms)
  unfolding codes_part
  codes_lawful flags norms = words_lawful (map coding (kinds_of total flags norms)) (all_good (kinds_of total flags norms))

  ending_lawful : (flags : List Bool) (norms codes : List ℕ) → Lawful 0 (ending_part total flags norms codes)
  ending_lawful flags norms codes =
      pair_lawful (coded_lawful (fixed (noise_bits (is_transient flags))) tt) (λ z. raw_lawful (tail_left total flags norms codes)) (λ a b f. zero-le)

  ending_long : (flags : List Bool) (norms codes : List ℕ) (e : Ending) → (ending_part total flags norms codes).Ok e
      → noise_bits (is_transient flags) ≤ length ((ending_part total flags norms codes).write e)
  ending_long flags norms codes e k =
      let n = noise_bits (is_transient flags) in
      omega (
        arith,
        length-append (word_of (fixed n) e.0) ((raw (tail_left total flags norms codes)).write e.1),
        ap length (word_fixed n e.0),
        length_word n e.0,
      )

  rest_lawful : (flags : List Bool) (norms : List ℕ) → Lawful 0 (rest_part total flags norms)
  rest_lawful flags norms =
      pair_lawful (within_lawful (noise_bits (is_transient flags)) (codes_lawful flags norms)) (ending_lawful flags norms) (ending_long flags norms)

  norms_rest_lawful : (flags : List Bool) → Lawful 0 (norms_and_rest total flags)
  norms_rest_lawful flags = pair_lawful (norms_lawful (is_transient flags) (flag_n flags)) (rest_lawful flags) (λ a b f. zero-le)

  pub frame_lawful : Lawful 0 (frame total)
  unfolding frame
  frame_lawful = pair_lawful (raw_lawful 4) norms_rest_lawful (λ a b f. zero-le)

  -- ---- how long a frame is

  raw_long : (n : ℕ) (b : List Bool) → (raw n).Ok b → length ((raw n).write b) ≡ n
  unfolding raw
  raw_long n b k = k

  -- exactly its bits, where the codes keep to the budget
  pub frame_bits : (x : Frame) → (frame total).Ok x
      → length ((frame total).write x) ≡ 4 + (length (norm_bits (is_transient (flags_in x)) (flag_n (flags_in x)) (norms_in x))
      + (length (code_bits total (flags_in x) (norms_in x) (codes_in x))
      + (noise_bits (is_transient (flags_in x)) + tail_left total (flags_in x) (norms_in x) (codes_in x))))
  unfolding frame codes_part words code_bits
  frame_bits x k =
      let f = flags_in x in
      let ns = norms_in x in
      let vs = codes_in x in
      let n = noise_bits (is_transient f) in
      let a = (raw 4).write f in
      let b = (norm_part (is_transient f) (flag_n f)).write ns in
      let c = write_all (map coding (kinds_of total f ns)) vs in
      let d = word_of (fixed n) (noise_in x) in
      let e = (raw (tail_left total f ns vs)).write (tail_in x) in
      omega (
        arith,
        length-append a (b ++ (c ++ (d ++ e))),
        length-append b (c ++ (d ++ e)),
        length-append c (d ++ e),
        length-append d e,
        raw_long 4 f k.0,
        ap length (write_is (is_transient f) (flag_n f) ns),
        ap length (word_fixed n (noise_in x)),
        length_word n (noise_in x),
        raw_long (tail_left total f ns vs) (tail_in x) k.1.1.1.1,
      )

  empty : (r : List Bool) → length r ≡ 0 → r ≡ []
  empty [] e = refl
  empty (y ∷ r) e = absurd (omega arith)

  -- a reading of all its bits leaves none
  pub frame_whole : (b : List Bool) (x : Frame) (r : List Bool) → length b ≡ total → (frame total).read b ≡ got x r → r ≡ []
  unfolding tail_left budget_of
  frame_whole b x r l e =
      let t = frame_lawful.there b x r e in
      empty r (omega (arith, ap length t.0, length-append ((frame total).write x) r, frame_bits x t.1))
