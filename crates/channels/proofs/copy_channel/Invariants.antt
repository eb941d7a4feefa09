-- `channels::copy_channel` meets its contract: each turn lays one frame more of the channel behind the others. Assumes nothing.
use Rattle.channels.proofs.Laws.Extracting.{Copying}
use Rattle.channels.proofs.copy_channel.Given as goal

abbrev pub invariant-loop : goal.invariant-loop
invariant-loop l = Copying l.src l.channels l.channel l.blocks l.initial.out l.out l.from l.to l.counter
