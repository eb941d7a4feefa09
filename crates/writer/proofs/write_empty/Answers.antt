-- `writer::write_empty` meets its contract. Assumes nothing.
use mathlib.Core.Path.{sym, ◌∙◌}
use borrow.Author.Tests.{eqb-true, eqb-false}
use Rattle.writer.proofs.Laws.Empty.{empty_none, empty_some}
use Rattle.writer.proofs.write_empty.Goals as goal

pub returns-then-is_empty : goal.returns-then-is_empty
returns-then-is_empty c =
    let e = empty_none c.args.out.now (eqb-true _ _ (sym c.if-is_empty.ensures)) in
    (c.from.ensures ∙ e.0, e.1)

pub returns : goal.returns
returns c =
    let e = empty_some c.args.out.now (eqb-false _ _ (sym c.if-is_empty.ensures)) in
    (c.from-2.ensures ∙ e.0, e.1)
