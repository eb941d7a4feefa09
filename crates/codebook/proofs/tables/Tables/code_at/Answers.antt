-- `codebook::tables::Tables::code_at` meets its contract: a row's code is in one table or the other. Assumes nothing.
use native.Mathlib.Omega.{arith}
use mathlib.Core.Path.{refl}
use Rattle.codebook.proofs.Laws.Rows.{code_two, code_sign}
use Rattle.codebook.proofs.tables.Tables.code_at.Goals as goal

pub returns-then-n-lt128 : goal.returns-then-n-lt128
returns-then-n-lt128 c =
    code_two c.args.self.now.low_kept c.if-n-lt128.true refl c.from.ensures

pub returns-else-n-lt128 : goal.returns-else-n-lt128
returns-else-n-lt128 c =
    code_sign c.args.self.now.high_kept c.if-n-lt128.false (omega arith) refl c.from-s.ensures
