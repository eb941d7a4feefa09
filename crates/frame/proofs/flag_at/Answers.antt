-- `frame::flag_at` meets its contract. Assumes nothing.
use Rattle.frame.proofs.Laws.Reads.{flag_made}
use Rattle.frame.proofs.flag_at.Goals as goal

pub returns : goal.returns
returns c =
    search flag_made
