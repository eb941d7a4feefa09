-- `runs::read_words` meets its contract: the numbers read so far stand in front, and the rest of the run begins at p. Assumes nothing.
use Rattle.std.proofs.lemmas.Result.{err_from_is_err_and}
use Rattle.runs.proofs.Laws.Runs.{turn, refuses, finished}
use Rattle.runs.proofs.read_words.Goals as goal

-- a word is refused, and with it the run
pub returns-in_err-word : goal.returns-in_err-word
returns-in_err-word c =
    let p = err_from_is_err_and c.from_residual.result c.from_residual.ensures.1 in
    let r = refuses c.loop-i.invariant (search) (search) c.in_err-word.ensures in
    rw (p.1, p.2) (r.said, r.some)

pub loop-i-preserved : goal.loop-i-preserved
loop-i-preserved c =
    turn c.loop-i.invariant c.requires c.loop-i-test.true c.in_ok-word.ensures

pub returns : goal.returns
returns c =
    let r = finished c.loop-i.invariant (search) (search) in (r.said, r.some)
