-- The spot of a band, or 0 for one that does not compete. Assumes nothing.
use mathlib.Core.Path.{◌∙◌, sym}
use Rattle.levels.proofs.Laws.ContestEnd.{key_no, key_yes}
use Rattle.levels.proofs.key_of.Goals as goal

pub returns-then-competes : goal.returns-then-competes
returns-then-competes c =
    search (key_yes, ◌∙◌, sym)

pub returns-else-competes : goal.returns-else-competes
returns-else-competes c =
    search (key_no, ◌∙◌, sym)
