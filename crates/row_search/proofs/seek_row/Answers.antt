-- `row_search::seek_row` meets its contract: the rows that it searches are those in which the row of the code must lie. Assumes nothing.
use Rattle.std.proofs.Common.{rules}
use Rattle.row_search.proofs.Laws.Seek.{sought_class, sought_half}
use Rattle.row_search.proofs.seek_row.Goals as goal

pub returns-then-x-byte-eq255 : goal.returns-then-x-byte-eq255
returns-then-x-byte-eq255 c =
    sought_class c.if-x-byte-eq255.true (search rules) c.find_code.ensures c.sign_class-first.ensures

pub returns-else-x-byte-eq255 : goal.returns-else-x-byte-eq255
returns-else-x-byte-eq255 c =
    sought_half c.if-x-byte-eq255.false c.find_code-else-x-byte-eq255.ensures
