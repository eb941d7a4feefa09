-- `channels::channel_bytes` meets its contract: each turn counts one frame more of the channel. Assumes nothing.
use Rattle.channels.proofs.Laws.Extracting.{Counting}
use Rattle.channels.proofs.channel_bytes.Given as goal

abbrev pub invariant-loop : goal.invariant-loop
invariant-loop l = Counting l.src l.channels l.channel l.blocks l.at l.n l.counter
