-- `frame::read_rest` meets its contract: codes and noise at their places. Assumes nothing.
use native.Mathlib.Omega.{arith}
use Rattle.std.proofs.lemmas.Result.{err_from_is_err_and}
use Rattle.frame.proofs.Laws.Bodies.{rest_of, noise_small, rest_refused, rest_ended, rest_told}
use Rattle.frame.proofs.read_rest.Goals as goal

pub returns-in_err-next : goal.returns-in_err-next
returns-in_err-next c =
    let p = err_from_is_err_and c.from_residual.result c.from_residual.ensures.1 in
    rw (p.1) (rest_refused (rest_of c.requires.norms_read c.noise_bits-k.ensures c.kinds_for-kinds.ensures) _ c.in_err-next.ensures.0 p.2)

pub overflow_cast-result : goal.overflow_cast-result
overflow_cast-result c =
    omega (arith, noise_small (rest_of c.requires.norms_read c.noise_bits-k.ensures c.kinds_for-kinds.ensures) _ c.read_bits-noise.ensures)

pub returns : goal.returns
returns c =
    let rest = rest_of c.requires.norms_read c.noise_bits-k.ensures c.kinds_for-kinds.ensures in
    rest_told rest (rest_ended rest _ _ c.in_ok-next.ensures.0 (search) c.in_ok-next.ensures.1) _ (search) (search) c.read_bits-noise.ensures
