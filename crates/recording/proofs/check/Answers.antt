-- `recording::check` meets its contract: with one channel a block is a frame. Assumes nothing.
use mathlib.Core.Path.{◌∙◌}
use Rattle.recording.proofs.Laws.Blocks.{one_channel}
use Rattle.recording.proofs.check.Goals as goal

pub returns : goal.returns
returns c =
    c.check_blocks.ensures ∙ one_channel _ _
