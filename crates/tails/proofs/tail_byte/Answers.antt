-- `tails::tail_byte` meets its contract. Assumes nothing.
use Rattle.tails.proofs.Laws.Tails.{byte_past, byte_small}
use Rattle.tails.proofs.tail_byte.Goals as goal

pub returns-then-s-p : goal.returns-then-s-p
returns-then-s-p c =
    search byte_past

pub overflow_cast-result : goal.overflow_cast-result
overflow_cast-result c =
    search byte_small
