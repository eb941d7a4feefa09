-- What the functions of this crate answer, as steps of the walk.
-- Assumes nothing.
use Rattle.std.specs.Prelude.{ℕ, Option, Some, None, Result, Ok, Err}
use Rattle.ground.specs.Replies.{done}
use Rattle.ground.specs.Numbered.{number}
use Rattle.ground.specs.declared.replies.Reply.{Reply}
use Rattle.recording.specs.Walk.{Step, stops, passes}

-- a unit passes with so many bytes, or stops with a number
abbrev pub told : Result ℕ Reply → Step
told (Ok n) = passes n
told (Err r) = stops (number r)

-- and where there is none, the walk ends
abbrev pub told_step : Result (Option ℕ) Reply → Step
told_step (Ok None) = stops done
told_step (Ok (Some n)) = passes n
told_step (Err r) = stops (number r)
