-- `frame::read_flags` meets its contract: the first four bits. Assumes nothing.
use Rattle.frame.proofs.Laws.Reads.{flags_made}
use Rattle.frame.proofs.read_flags.Goals as goal

pub returns : goal.returns
returns c =
    search flags_made
