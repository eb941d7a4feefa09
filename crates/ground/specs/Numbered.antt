-- The numbers of replies, and of outcomes: 0 where a call is done.
-- Assumes nothing.
use Rattle.std.specs.Prelude.{ℕ}
use Rattle.std.specs.declared.result.Result.{Result}
use Rattle.std.specs.declared.result.Result.TheVariants.{Ok, Err}
use Rattle.ground.specs.Replies.{done, no_byte, marked, reserved, cut, norm_outside, no_word, past_budget, out_of_range, far_apart, short_room, not_as_booked, wide_code, wrong_tail, no_data, too_many, wrong_channels}
use Rattle.ground.specs.declared.replies.Reply.{Reply}
use Rattle.ground.specs.declared.replies.Reply.TheVariants.{NoByte, Marked, Reserved, Cut, NormOutside, NoWord, PastBudget, OutOfRange, FarApart, ShortRoom, NotAsBooked, WideCode, WrongTail, NoData, TooMany, WrongChannels}

-- 01's number
abbrev pub number : Reply → ℕ
number NoByte = no_byte
number Marked = marked
number Reserved = reserved
number Cut = cut
number NormOutside = norm_outside
number NoWord = no_word
number PastBudget = past_budget
number OutOfRange = out_of_range
number FarApart = far_apart
number ShortRoom = short_room
number NotAsBooked = not_as_booked
number WideCode = wide_code
number WrongTail = wrong_tail
number NoData = no_data
number TooMany = too_many
number WrongChannels = wrong_channels

-- what an outcome answers
abbrev pub reply_of : {A : Type 0} → Result A Reply → ℕ
reply_of (Ok x) = done
reply_of (Err r) = number r
