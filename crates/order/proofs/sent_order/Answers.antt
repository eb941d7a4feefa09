-- `order::sent_order` meets its contract: the table that is lent is 01's order. Assumes nothing.
use mathlib.Core.Path.{refl, ◌∙◌}
use Rattle.order.specs.SentOrder.{order}
use Rattle.order.proofs.Laws.SentOrder.{band_place, sent_plain, sent_turned}
use Rattle.order.proofs.sent_order.Goals as goal

pub returns-else-transient : goal.returns-else-transient
returns-else-transient c =
    sent_plain c.args.transient c.args.norms c.if-transient.false

pub reordered-requires : goal.reordered-requires
unfolding order
reordered-requires c =
    (refl, λ k h. (band_place k h).inside)

pub returns-then-transient : goal.returns-then-transient
unfolding order
returns-then-transient c =
    c.reordered.ensures ∙ sent_turned c.args.transient c.args.norms c.if-transient.true
