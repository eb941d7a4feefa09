-- A reply is told by its number, and none is 0.
-- Assumes nothing.
use mathlib.Core.Path.{◌≡◌, refl, sym, ap, ◌∙◌}
use mathlib.Core.List.{[], ◌∷◌}
use Prim.Native.Nat.{ℕ}
use native.Mathlib.Omega.{arith}
use lib.ListN.{get_or}
use Rattle.ground.specs.Numbered.{number}
use Rattle.ground.specs.declared.replies.Reply.{Reply}
use Rattle.ground.specs.declared.replies.Reply.TheVariants.{NoByte, Marked, Reserved, Cut, NormOutside, NoWord, PastBudget, OutOfRange, FarApart, ShortRoom, NotAsBooked, WideCode, WrongTail, NoData, TooMany, WrongChannels}

-- the reply of a number
named : ℕ → Reply
named n =
    get_or
    (NoByte ∷ NoByte ∷ Marked ∷ Reserved ∷ Cut ∷ NormOutside ∷ NoWord ∷ PastBudget ∷ OutOfRange ∷ FarApart ∷ ShortRoom ∷ NotAsBooked ∷ WideCode ∷ WrongTail
    ∷ NoData ∷ TooMany ∷ NoByte ∷ WrongChannels ∷ []) n NoByte

named_number : (r : Reply) → named (number r) ≡ r
unfolding named
named_number NoByte = refl
named_number Marked = refl
named_number Reserved = refl
named_number Cut = refl
named_number NormOutside = refl
named_number NoWord = refl
named_number PastBudget = refl
named_number OutOfRange = refl
named_number FarApart = refl
named_number ShortRoom = refl
named_number NotAsBooked = refl
named_number WideCode = refl
named_number WrongTail = refl
named_number NoData = refl
named_number TooMany = refl
named_number WrongChannels = refl

-- replies of one number are one reply
pub same_number : (r q : Reply) → number r ≡ number q → r ≡ q
same_number r q e = sym (named_number r) ∙ ap named e ∙ named_number q

pub never_zero : (r : Reply) → number r ≡ 0 → ⊥
never_zero NoByte e = omega arith
never_zero Marked e = omega arith
never_zero Reserved e = omega arith
never_zero Cut e = omega arith
never_zero NormOutside e = omega arith
never_zero NoWord e = omega arith
never_zero PastBudget e = omega arith
never_zero OutOfRange e = omega arith
never_zero FarApart e = omega arith
never_zero ShortRoom e = omega arith
never_zero NotAsBooked e = omega arith
never_zero WideCode e = omega arith
never_zero WrongTail e = omega arith
never_zero NoData e = omega arith
never_zero TooMany e = omega arith
never_zero WrongChannels e = omega arith
