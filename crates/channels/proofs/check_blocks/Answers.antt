-- `channels::check_blocks` meets its contract: 17 first, then the check of blocks. Assumes nothing.
use mathlib.Core.Bool.{true}
use mathlib.Core.Path.{◌≡◌, sym, ◌∙◌}
use Rattle.recording.specs.Blocks.{is_count}
use Rattle.recording.proofs.Laws.Blocks.{counted}
use Rattle.channels.proofs.Laws.Walks.{check_uncounted, check_counted}
use Rattle.channels.proofs.check_blocks.Goals as goal

pub returns-then-not-is_count : goal.returns-then-not-is_count
returns-then-not-is_count c =
    rw (← c.from-n.ensures, c.into.ensures) (check_uncounted _ _ _ (sym c.is_count.ensures ∙ c.if-not-is_count.true))

pub check_blocks-requires : goal.check_blocks-requires
check_blocks-requires c =
    let may : is_count c.from-n.result ≡ true = sym c.is_count.ensures ∙ c.if-not-is_count.false in
    (counted _ may).0

pub returns : goal.returns
returns c =
    let may : is_count c.from-n.result ≡ true = sym c.is_count.ensures ∙ c.if-not-is_count.false in
    rw (← c.from-n.ensures) (c.check_blocks.ensures ∙ check_counted _ _ _ may)
