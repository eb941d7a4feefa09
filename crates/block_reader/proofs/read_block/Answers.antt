-- `block_reader::read_block` meets its contract: the reply first, and only on 0 are the frames read. Assumes nothing.
use mathlib.Core.Path.{sym}
use Rattle.block_reader.proofs.Laws.Reading.{reply_rooms}
use Rattle.block_reader.proofs.read_block.Goals as goal

pub take_block-requires : goal.take_block-requires
take_block-requires c =
    let h = reply_rooms c.args.src.now (sym c.in-Ok.ensures) in
    (h.few, h.numbers, h.bytes)
