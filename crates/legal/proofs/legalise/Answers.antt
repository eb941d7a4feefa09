-- `legal::legalise` meets its contract: the passes one after the other. Assumes nothing.
use mathlib.Core.Path.{sym, ◌∙◌}
use Rattle.legal.proofs.Laws.Answers.{legal_no, cap_ready, legal_made}
use Rattle.legal.proofs.legalise.Goals as goal

pub returns-then-not-in_range : goal.returns-then-not-in_range
returns-then-not-in_range c =
    search (legal_no, sym, ◌∙◌)

pub lower-requires : goal.lower-requires
lower-requires c =
    search (cap_ready, sym, ◌∙◌)

pub returns : goal.returns
returns c =
    search (legal_made, sym, ◌∙◌)
