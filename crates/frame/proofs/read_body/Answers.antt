-- `frame::read_body` meets its contract: flags, norms, then the rest. Assumes nothing.
use Rattle.std.proofs.lemmas.Result.{err_from_is_err_and}
use Rattle.frame.proofs.Laws.Bodies.{norms_stop, norms_open}
use Rattle.frame.proofs.read_body.Goals as goal

pub returns-in_err-part : goal.returns-in_err-part
returns-in_err-part c =
    let p = err_from_is_err_and c.from_residual.result c.from_residual.ensures.1 in
    rw (p.1, p.2) (norms_stop _ (search) c.read_flags-flags.ensures c.in_err-part.ensures _ _ (search))

pub read_rest-requires-clause-norms_read : goal.read_rest-requires-clause-norms_read
read_rest-requires-clause-norms_read c =
    (norms_open _ (search) c.read_flags-flags.ensures c.in_ok-part.ensures _ (search), search)
