-- `channels::is_among` meets its contract: 1 to 8 channels, and the channel under their count. Assumes nothing.
use mathlib.Core.Path.{sym, ◌∙◌}
use Rattle.channels.proofs.Laws.Extracting.{among_not, among_is}
use Rattle.channels.proofs.is_among.Goals as goal

pub returns-then-is_count : goal.returns-then-is_count
returns-then-is_count c =
    sym (among_is _ _ (sym c.is_count.ensures ∙ c.if-is_count.true))

pub returns-else-is_count : goal.returns-else-is_count
returns-else-is_count c =
    c.if-is_count.false ∙ sym (among_not _ _ (sym c.is_count.ensures ∙ c.if-is_count.false))
