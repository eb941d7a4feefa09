-- `frame::read_data` meets its contract: the body as long as the field says, of the mode that it names. Assumes nothing.
use mathlib.Core.Path.{sym, ◌∙◌}
use Rattle.std.proofs.lemmas.Result.{err_from_is_err_and}
use Rattle.frame.proofs.Laws.Reads.{field_named}
use Rattle.frame.proofs.Laws.Bodies.{data_ready, data_refused, data_told}
use Rattle.frame.proofs.read_data.Goals as goal

pub returns-in_err-mode : goal.returns-in_err-mode
returns-in_err-mode c =
    absurd (field_named c.args.src.now c.args.field c.requires.0 (sym c.mode.ensures ∙ c.in_err-mode.ensures.ok_part))

pub read_body-requires : goal.read_body-requires
read_body-requires c =
    let r = data_ready c.args.src.now c.args.field (c.from-n.ensures ∙ c.bytes.ensures) c.requires.0 c.if-src-n.false (sym c.in_ok-mode.ensures.ok_part ∙ c.mode.ensures) in
    (r.least, r.most, r.mode, search)

pub returns-in_err-record : goal.returns-in_err-record
returns-in_err-record c =
    let p = err_from_is_err_and c.from_residual-in_err-record.result c.from_residual-in_err-record.ensures.1 in
    rw (p.1, p.2) (data_refused c.args.src.now c.args.field (c.from-n.ensures ∙ c.bytes.ensures) c.requires.0 c.if-src-n.false (sym c.in_ok-mode.ensures.ok_part ∙ c.mode.ensures) c.in_err-record.ensures)

pub returns : goal.returns
returns c =
    data_told c.args.src.now c.args.field (c.from-n.ensures ∙ c.bytes.ensures) c.requires.0 c.if-src-n.false (sym c.in_ok-mode.ensures.ok_part ∙ c.mode.ensures) c.in_ok-record.ensures
