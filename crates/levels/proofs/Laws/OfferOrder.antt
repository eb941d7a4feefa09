-- The order of the offers: the leader has the highest spot.
-- Assumes nothing.
use mathlib.Core.Bool.{Bool, cond, false, true}
use mathlib.Core.List.{List}
use mathlib.Core.Logic.{⊎_elim}
use mathlib.Core.Path.{◌≡◌}
use Prim.Native.Nat.{◌*◌, ◌+◌, ◌-◌, ◌<◌, ◌≤◌, suc, zero, ℕ}
use native.Mathlib.Nat.{le_refl}
use native.Mathlib.Omega.{arith}
use borrow.Author.Tests.{ltb-false, ltb-true}
use lib.Dec.{ltb}
use Rattle.ground.proofs.Laws.Cases.{by_bool}
use Rattle.contest.specs.RaisedContest.{Band, Game, ahead, at, first, key, leader}
use Rattle.contest.proofs.Laws.Rounds.{first_le, last, leader_le, leader_new, leader_old}
use Rattle.levels.specs.Inner.{spot}

pub spot_in : (p : ℕ) (b : Band) → b.competes ≡ true → spot p b ≡ 64 * b.score + (63 - p) + 2048
unfolding spot
spot_in p b t = rw t

pub spot_out : (p : ℕ) (b : Band) → b.competes ≡ false → spot p b ≡ 0
unfolding spot
spot_out p b t = rw t

module _ (p q : ℕ) (b c : Band) where
  spot_up : key b < key c → spot p b ≤ spot q c
  unfolding spot key
  spot_up h = go b.competes c.competes h
    where
      go : (x y : Bool) → cond x (suc b.score) 0 < cond y (suc c.score) 0
          → cond x (64 * b.score + (63 - p) + 2048) 0 ≤ cond y (64 * c.score + (63 - q) + 2048) 0
      go true true h = omega arith
      go true false h = omega arith
      go false true h = omega arith
      go false false h = omega arith

  spot_on : key b ≤ key c → q ≤ p → spot p b ≤ spot q c
  unfolding spot key
  spot_on h l = go b.competes c.competes h
    where
      go : (x y : Bool) → cond x (suc b.score) 0 ≤ cond y (suc c.score) 0
          → cond x (64 * b.score + (63 - p) + 2048) 0 ≤ cond y (64 * c.score + (63 - q) + 2048) 0
      go true true h = omega arith
      go true false h = omega arith
      go false true h = omega arith
      go false false h = omega arith

top_to : (bands : List Band) (n i : ℕ) → i ≤ n → spot i (at bands i) ≤ spot (leader bands n) (at bands (leader bands n))
unfolding leader
top_to bands zero i h = let e : i ≡ 0 = omega arith in rw e (le_refl _)
top_to bands (suc n) i h =
    by_bool (ltb (key (at bands (leader bands n))) (key (at bands (suc n))))
    (λ t. rw (leader_new bands n t)
    (⊎_elim
    (λ l. omega (arith, top_to bands n i l, spot_up (leader bands n) (suc n) (at bands (leader bands n)) (at bands (suc n)) (ltb-true _ _ t)))
    (λ e. rw e (le_refl _))
    (last n i h)))
    (λ t. rw (leader_old bands n t)
    (⊎_elim
    (λ l. top_to bands n i l)
    (λ e. rw e (spot_on (suc n) (leader bands n) (at bands (suc n)) (at bands (leader bands n)) (ltb-false _ _ t) (omega (arith, leader_le bands n))))
    (last n i h)))

pub top_spot : (g : Game) (i : ℕ) → i ≤ 43 → spot i (at g.bands i) ≤ spot (first g) (ahead g)
unfolding ahead first
top_spot g i h = top_to g.bands 43 i h

-- who has the highest spot is the leader
alike : (f l s t : ℕ) → f ≤ 43 → l ≤ 43 → 64 * s + (63 - f) ≡ 64 * t + (63 - l) → f ≡ l
alike f l s t a b e = omega arith

pub leads : (g : Game) (f : ℕ) → f ≤ 43 → (at g.bands f).competes ≡ true → ((i : ℕ) → i ≤ 43 → spot i (at g.bands i) ≤ spot f (at g.bands f))
    → first g ≡ f
unfolding ahead
leads g f b c h =
    let up = top_spot g f b in
    let down = h (first g) (first_le g) in
    let s = spot_in f (at g.bands f) c in
    by_bool (ahead g).competes
    (λ t. alike (first g) f (ahead g).score (at g.bands f).score (first_le g) b (omega (arith, spot_in (first g) (ahead g) t)))
    (λ t. absurd (omega (arith, spot_out (first g) (ahead g) t)))
