-- The answers of taking a channel out and of joining: a number alone, 10 or 17; a recording's own check; or 0. What holds for each of them holds for
-- whatever is answered.
-- Assumes nothing.
use mathlib.Core.List.{List}
use Prim.Native.Nat.{ℕ, zero, suc, ◌+◌}
use native.Mathlib.Omega.{arith}
use lib.Dec.{eqb, ltb}
use lib.ListN.{length}
use Rattle.ground.proofs.Laws.Cases.{by_bool}
use Rattle.ground.specs.Refusals.{OneOf}
use Rattle.ground.specs.Replies.{done, short_room, wrong_channels}
use Rattle.recording.specs.Blocks.{is_count, walk_blocks}
use Rattle.recording.specs.declared.answer.Check.{Check}
use Rattle.channels.specs.Copies.{made_copy, refused_copy, stopped_copy, extracted, is_among, extract_answer}
use Rattle.channels.specs.declared.Copied.{Copied}
use Rattle.channels.proofs.Laws.Extracting.{among_told}
use Rattle.joining.specs.Joining.{start_of, recording_at, own_check, refused_in, equal_counts, check_all, joined_of, join_answer}
use Rattle.promises.proofs.Laws.Picked.{picked}
use Rattle.promises.proofs.Laws.WalkNumbers.{walking, walk_number}

module _ (P : Copied → Type 0) (wrong : P (refused_copy wrong_channels)) (short : P (refused_copy short_room))
    (own : (w : Check) (which : ℕ) → OneOf walking w.reply → P (stopped_copy w which))
    (fine : (count place bytes : ℕ) → P (made_copy done 0 count place bytes)) where
  pub each_extract : (src : List ℕ) (channels channel room : ℕ) → P (extract_answer src channels channel room)
  unfolding extract_answer
  each_extract src channels channel room =
      let w = walk_blocks channels src in
      by_bool (is_among channels channel)
      (λ t.
      rw t
      (picked P (eqb w.reply 0) _ _
      (picked P (ltb room (length (extracted channels channel w.count src))) _ _ short (fine _ _ _))
      (own w 0 (walk_number channels (among_told channels channel t).0 src))))
      (λ t. rw t wrong)

  each_refused : (src lengths : List ℕ) (n : ℕ) → P (refused_in (own_check src lengths) n)
  unfolding refused_in
  each_refused src lengths zero = fine 0 0 0
  each_refused src lengths (suc n) =
      picked P (eqb (refused_in (own_check src lengths) n).reply 0) _ _
      (picked P (eqb (own_check src lengths n).reply 0) _ _ (fine 0 0 0)
      (own (own_check src lengths n) (n + 1) (walk_number 1 (omega arith) (recording_at src lengths n))))
      (each_refused src lengths n)

  pub each_join : (src lengths : List ℕ) (room : ℕ) → P (join_answer src lengths room)
  unfolding join_answer check_all
  each_join src lengths room =
      let w = own_check src lengths in
      let n = length lengths in
      picked P (is_count n) _ _
      (picked P (ltb (length src) (start_of lengths n)) _ _ short
      (picked P (eqb (check_all w n).reply 0) _ _
      (picked P (ltb room (length (joined_of src lengths))) _ _ short (fine _ _ _))
      (picked P (eqb (refused_in w n).reply 0) _ _ (picked P (equal_counts w (w 0).count n) _ _ (fine _ _ _) wrong) (each_refused src lengths n))))
      wrong
