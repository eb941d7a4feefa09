-- `lister::write_listing` meets its contract: the listing lies within its room. Assumes nothing.
use mathlib.Core.Path.{sym}
use native.Mathlib.Omega.{arith}
use lib.Seq.{length-take-le}
use Rattle.listing.proofs.Laws.InRoom.{listed_within}
use Rattle.lister.proofs.write_listing.Goals as goal

pub slice_bounds-out-end : goal.slice_bounds-out-end
slice_bounds-out-end c =
    omega (arith, listed_within _ _ c.list.ensures.0 c.in-Ok.is)

pub slice_bounds-write_out-end : goal.slice_bounds-write_out-end
slice_bounds-write_out-end c =
    let w = listed_within _ _ c.list.ensures.0 c.in-Ok.is in
    sym (length-take-le c.in-Ok.n c.list.new.out (omega arith))
