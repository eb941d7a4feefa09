-- The numbers of a walk over a recording, and of its check.
-- Assumes nothing.
use mathlib.Core.Path.{sym, subst}
use mathlib.Core.List.{List, [], ◌∷◌}
use mathlib.Core.Logic.{inl, inr}
use Prim.Native.Nat.{ℕ, zero, suc, ◌≤◌}
use native.Mathlib.Omega.{arith}
use Rattle.ground.specs.Refusals.{among, OneOf}
use Rattle.recording.specs.Walk.{most_frames}
use Rattle.recording.specs.Checked.{Number}
use Rattle.recording.specs.Frames.{Frames}
use Rattle.recording.specs.Blocks.{block_step, walk_blocks}
use Rattle.recording.proofs.Laws.Units.{WalkSays, Stop, ended, passed, met, walk_says}
use Rattle.recording.proofs.Laws.Blocks.{block_unit}

abbrev pub walking : List ℕ
walking = 0 ∷ 2 ∷ 3 ∷ 4 ∷ 5 ∷ 6 ∷ 7 ∷ 15 ∷ []

abbrev pub checking : List ℕ
checking = 0 ∷ 2 ∷ 3 ∷ 4 ∷ 5 ∷ 6 ∷ 7 ∷ 11 ∷ 15 ∷ []

-- a list that has 2 to 7 has each number between
two_to_seven : (xs : List ℕ) → OneOf xs 2 → OneOf xs 3 → OneOf xs 4 → OneOf xs 5 → OneOf xs 6 → OneOf xs 7 → (x : ℕ) → 2 ≤ x → x ≤ 7 → OneOf xs x
two_to_seven xs a b c d e f zero l h = absurd (omega arith)
two_to_seven xs a b c d e f (suc zero) l h = absurd (omega arith)
two_to_seven xs a b c d e f (suc (suc zero)) l h = a
two_to_seven xs a b c d e f (suc (suc (suc zero))) l h = b
two_to_seven xs a b c d e f (suc (suc (suc (suc zero)))) l h = c
two_to_seven xs a b c d e f (suc (suc (suc (suc (suc zero))))) l h = d
two_to_seven xs a b c d e f (suc (suc (suc (suc (suc (suc zero)))))) l h = e
two_to_seven xs a b c d e f (suc (suc (suc (suc (suc (suc (suc zero))))))) l h = f
two_to_seven xs a b c d e f (suc (suc (suc (suc (suc (suc (suc (suc x)))))))) l h = absurd (omega arith)

pub check_number : (x : ℕ) → Number x → OneOf checking x
unfolding among
check_number x (inl q) = subst (OneOf checking) (sym q) tt
check_number x (inr (inl q)) = two_to_seven checking tt tt tt tt tt tt x q.0 q.1
check_number x (inr (inr (inl q))) = subst (OneOf checking) (sym q) tt
check_number x (inr (inr (inr q))) = subst (OneOf checking) (sym q) tt

pub walk_number : (channels : ℕ) → 1 ≤ channels → (src : List ℕ) → OneOf walking (walk_blocks channels src).reply
unfolding among
walk_number channels h src = go t.stop
  where
    t : WalkSays (block_step channels) (Frames channels) most_frames src (walk_blocks channels src)
    t = walk_says (block_unit channels h) most_frames src

    go : Stop (block_step channels) most_frames t.rest (walk_blocks channels src) → OneOf walking (walk_blocks channels src).reply
    go (ended r q) = subst (OneOf walking) (sym r) tt
    go (passed r q l) = subst (OneOf walking) (sym r) tt
    go (met l k r) =
        let y = (block_unit channels h).number t.rest (walk_blocks channels src).reply l r in
        two_to_seven walking tt tt tt tt tt tt _ y.0 y.1
