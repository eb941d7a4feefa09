-- `writer::flag_number` meets its contract. Assumes nothing.
use Rattle.writer.proofs.Laws.Bodies.{flags_word}
use Rattle.writer.proofs.flag_number.Goals as goal

pub returns : goal.returns
returns c =
    flags_word c.args.r c.from.ensures c.from-2.ensures c.from-3.ensures c.from-4.ensures
