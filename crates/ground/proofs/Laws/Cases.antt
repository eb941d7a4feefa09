-- Going by cases on a test that computes, and both of two tests.
-- Assumes nothing.
use mathlib.Core.Path.{◌≡◌, refl}
use mathlib.Core.Bool.{Bool, true, false, ◌&&◌, false≢true}
use lib.Dec.{T}

-- what follows from a test and what follows from its failing
pub by_bool : (b : Bool) {X : Type 0} → (b ≡ true → X) → (b ≡ false → X) → X
by_bool true holds fails = holds refl
by_bool false holds fails = fails refl

-- both of two tests
pub and_T : (a b : Bool) → T (a && b) → T a × T b
and_T true b t = (tt, t)
and_T false b t = absurd t

pub T_true : (b : Bool) → T b → b ≡ true
T_true true t = refl
T_true false t = absurd t

pub true_T : (b : Bool) → b ≡ true → T b
true_T true e = tt
true_T false e = absurd (false≢true e)

pub and_true : (a b : Bool) → (a && b) ≡ true → (a ≡ true) × (b ≡ true)
and_true true b e = (refl, e)
and_true false b e = ((cc), (cc))

pub T_and : (a b : Bool) → T a → T b → T (a && b)
T_and true b x y = y
T_and false b x y = absurd x
