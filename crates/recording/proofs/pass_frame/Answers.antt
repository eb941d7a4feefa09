-- `recording::pass_frame` meets its contract: 1 to 7 refuse, and 0 and 14 pass. Assumes nothing.
use native.Mathlib.Omega.{arith}
use Rattle.recording.proofs.Laws.Reads.{reading_passes}
use Rattle.recording.proofs.pass_frame.Goals as goal

pub returns-in_default : goal.returns-in_default
returns-in_default c =
    reading_passes _ c.read_record-one.ensures (λ l h. omega arith)
