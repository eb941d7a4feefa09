-- What a block is written from, as C has it, meets its contract: the channels so far are as C means them. Assumes nothing.
use Rattle.std.proofs.Common.{arith, ap, List, Option}
use Rattle.ground.proofs.Laws.FillingLoops.{filling, filling_done}
use Rattle.frame.specs.declared.Record as frame
use Rattle.block_writer.specs.declared.Records as written
use Rattle.boundary.specs.Flags.{records_in}
use Rattle.boundary.proofs.Block_writerRecordsFromRecords.from.Goals as goal

pub loop-c-init : goal.loop-c-init
loop-c-init c = search filling

pub loop-c-preserved : goal.loop-c-preserved
loop-c-preserved c = search filling

pub returns : goal.returns
unfolding records_in
returns c =
    ap (λ (x : List (Option frame.Record)). let r : written.Records = record { at = x } in r) (filling_done c.loop-c.invariant (omega arith))
