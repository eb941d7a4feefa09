-- `listing::list` meets its contract: the lines, the total line behind them. Assumes nothing.
use native.Mathlib.Omega.{arith}
use Rattle.listing.proofs.Laws.InRoom.{no_room, long_laid, total_room, total_laid}
use Rattle.listing.proofs.list.Goals as goal

pub returns-then-out-lt-ROOM : goal.returns-then-out-lt-ROOM
returns-then-out-lt-ROOM c =
    no_room _ _ (omega arith)

pub returns-then-too_long : goal.returns-then-too_long
returns-then-too_long c =
    long_laid _ _ (omega arith) (omega arith) c.put.ensures

pub put_total-requires : goal.put_total-requires
put_total-requires c =
    total_room c.put_lines-next.ensures (omega arith) (omega arith)

pub returns : goal.returns
returns c =
    total_laid c.put_lines-next.ensures (omega arith) (omega arith) c.put_total.ensures
