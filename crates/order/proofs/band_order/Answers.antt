-- `order::band_order` meets its contract: the table that is lent has each band's place in 01's order. Assumes nothing.
use mathlib.Core.Path.{refl, ◌∙◌}
use Rattle.order.specs.SentOrder.{places}
use Rattle.order.proofs.Laws.SentOrder.{place_band, banded_plain, banded_turned}
use Rattle.order.proofs.band_order.Goals as goal

pub returns-else-transient : goal.returns-else-transient
returns-else-transient c =
    banded_plain c.args.transient c.args.ss c.if-transient.false

pub reordered-requires : goal.reordered-requires
unfolding places
reordered-requires c =
    (refl, λ k h. (place_band k h).inside)

pub returns-then-transient : goal.returns-then-transient
unfolding places
returns-then-transient c =
    c.reordered.ensures ∙ banded_turned c.args.transient c.args.ss c.if-transient.true
