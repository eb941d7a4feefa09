-- `channels::extract` meets its contract, in 02's order. Assumes nothing.
use mathlib.Core.Path.{ap, sym, ◌∙◌}
use native.Mathlib.Omega.{arith}
use Rattle.channels.proofs.Laws.Extracting.{among_told, extract_outside, extract_stopped, extract_short, extract_done}
use Rattle.channels.specs.Copies.{refused_copy}
use Rattle.channels.proofs.extract.Goals as goal

pub returns-then-not-is_among : goal.returns-then-not-is_among
returns-then-not-is_among c =
    rw (← c.from-n.ensures, ← c.from-k.ensures)
    (extract_outside _ _ _ _ _ (sym c.is_among.ensures ∙ c.if-not-is_among.true) (c.refusal.ensures ∙ ap refused_copy c.into.ensures))

pub walk_blocks-found-requires : goal.walk_blocks-found-requires
walk_blocks-found-requires c =
    let among = sym c.is_among.ensures ∙ c.if-not-is_among.false in
    (among_told _ _ among).0

pub returns-then-reply-ne-DONE : goal.returns-then-reply-ne-DONE
returns-then-reply-ne-DONE c =
    let among = sym c.is_among.ensures ∙ c.if-not-is_among.false in
    rw (← c.from-n.ensures, ← c.from-k.ensures)
    (extract_stopped _ _ _ _ among _ c.walk_blocks-found.ensures _ (λ z. omega arith) c.stopped.ensures)

pub channel_bytes-length-requires : goal.channel_bytes-length-requires
channel_bytes-length-requires c =
    let among = sym c.is_among.ensures ∙ c.if-not-is_among.false in
    (among_told _ _ among).0

pub returns-then-out-length : goal.returns-then-out-length
returns-then-out-length c =
    let among = sym c.is_among.ensures ∙ c.if-not-is_among.false in
    rw (← c.from-n.ensures, ← c.from-k.ensures)
    (extract_short _ _ _ _ among _ c.walk_blocks-found.ensures (omega arith) _ c.channel_bytes-length.ensures _ (omega arith) (c.refusal-then-out-length.ensures ∙ ap refused_copy c.into-then-out-length.ensures))

pub returns : goal.returns
returns c =
    let among = sym c.is_among.ensures ∙ c.if-not-is_among.false in
    rw (← c.from-n.ensures, ← c.from-k.ensures)
    (extract_done _ _ _ _ among _ c.walk_blocks-found.ensures (omega arith) _ c.channel_bytes-length.ensures _ (omega arith) c.copy_channel.ensures)
