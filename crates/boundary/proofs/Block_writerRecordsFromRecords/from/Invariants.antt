-- What a block is written from, as C has it, meets its contract: the channels so far are as C means them. Assumes nothing.
use Rattle.std.proofs.Common.{get_or}
use Rattle.ground.proofs.Laws.FillingLoops.{Filling}
use Rattle.boundary.specs.Flags.{given_in, past_record}
use Rattle.boundary.proofs.Block_writerRecordsFromRecords.from.Given as goal

abbrev pub invariant-loop-c : goal.invariant-loop-c
invariant-loop-c l = Filling 8 (λ c. given_in (get_or l.r.at c past_record) (get_or l.r.empty c 0)) l.at l.c
