-- The contest ends: each round takes from the turns that are still possible, of which 44 bands have at most nine each.
-- Assumes nothing.
use mathlib.Core.Path.{◌≡◌}
use mathlib.Core.Bool.{true, false, cond}
use mathlib.Core.List.{List, [], ◌∷◌}
use Prim.Native.Nat.{ℕ, zero, suc, ◌+◌, ◌-◌, ◌*◌, ◌≤◌, ◌<◌}
use native.Mathlib.Omega.{arith}
use borrow.Author.Tests.{ltb-true}
use lib.Dec.{ltb}
use lib.ListN.{length}
use Rattle.ground.proofs.Laws.Cases.{by_bool}
use Rattle.contest.specs.RaisedContest.{Band, Game, at, granted, dropped, ahead, fits, round, contest, Ready}
use Rattle.contest.proofs.Laws.RaisedContest.{sum_of}
use Rattle.contest.proofs.Laws.Rounds.{Able, able_round, ready_ahead, contest_on, contest_over, sum_served, sum_refused, no_one}

-- the turns that a band may still have, and all bands together
unfoldable pub turns : Band → ℕ
turns b = cond b.competes (9 - b.rate) 0

unfoldable pub pot : Game → ℕ
pot g = sum_of turns g.bands

turns_granted : (b : Band) → b.competes ≡ true → Ready b → turns (granted b) < turns b
unfolding turns granted
turns_granted b t r =
    by_bool (ltb (b.rate + 1) 9) (λ u. rw (t, u) (omega (arith, ltb-true, r))) (λ u. rw (t, u) (omega (arith, r)))

turns_dropped : (b : Band) → b.competes ≡ true → Ready b → turns (dropped b) < turns b
unfolding turns dropped
turns_dropped b t r = rw t (omega (arith, r))

pub pot_round : (g : Game) → Able g → (ahead g).competes ≡ true → pot (round g) < pot g
unfolding pot
pot_round g a t =
    by_bool (fits g)
    (λ u. omega (arith, sum_served turns g a.all u, turns_granted (ahead g) t (ready_ahead g a t)))
    (λ u. omega (arith, sum_refused turns g a.all u, turns_dropped (ahead g) t (ready_ahead g a t)))

turns_le : (b : Band) → turns b ≤ 9
unfolding turns
turns_le b = by_bool b.competes (λ t. rw t (omega arith)) (λ t. rw t (omega arith))

pot_le : (l : List Band) → sum_of turns l ≤ 9 * length l
unfolding sum_of
pot_le [] = omega arith
pot_le (b ∷ l) = omega (arith, turns_le b, pot_le l)

pub pot_start : (g : Game) → length g.bands ≡ 44 → pot g ≤ 396
unfolding pot
pot_start g e = omega (arith, pot_le g.bands)

pub ends : (n : ℕ) (g : Game) → Able g → pot g ≤ n → (ahead (contest n g)).competes ≡ false
unfolding contest
ends zero g a h = by_bool (ahead g).competes (λ t. absurd (omega (arith, pot_round g a t))) (λ t. t)
ends (suc n) g a h =
    by_bool (ahead g).competes
    (λ t. rw (contest_on n g t) (ends n (round g) (able_round g a t) (omega (arith, pot_round g a t))))
    (λ t. rw (contest_over (suc n) g t) t)

-- after 396 rounds none competes
pub over : (g : Game) → Able g → (i : ℕ) → i ≤ 43 → (at (contest 396 g).bands i).competes ≡ false
over g a i h =
    by_bool (at (contest 396 g).bands i).competes (λ t. absurd (no_one (contest 396 g) (ends 396 g a (pot_start g a.all)) i h t)) (λ t. t)
