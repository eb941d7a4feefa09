-- What the calls promise, put together: the state they reach is the contest's end. Assumes nothing.
use mathlib.Core.Path.{◌∙◌}
use Rattle.levels.proofs.Laws.ContestEnd.{keys_keyed, reached}
use Rattle.levels.proofs.settle.Goals as goal

pub serve_rest-requires : goal.serve_rest-requires
serve_rest-requires c =
    search keys_keyed

pub returns : goal.returns
returns c =
    search (reached, ◌∙◌)
