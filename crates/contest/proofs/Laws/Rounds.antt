-- What one round does, and what every round keeps, the contest keeps.
-- Assumes nothing.
use mathlib.Core.Path.{◌≡◌, refl, sym, ap, ◌∙◌, subst⁻¹}
use mathlib.Core.Bool.{Bool, true, false, cond, false≢true}
use mathlib.Core.List.{List, [], ◌∷◌}
use mathlib.Core.Logic.{◌⊎◌, inl, inr, ⊎_elim}
use Prim.Native.Nat.{ℕ, zero, suc, ◌+◌, ◌≤◌, ◌<◌}
use native.Mathlib.Nat.{not-suc-le-zero, le_of_suc-le-suc, le_refl}
use native.Mathlib.Omega.{arith}
use borrow.Author.Tests.{ltb-true, ltb-false, leb-true, leb-false, eqb-true, eqb-false}
use lib.Dec.{leb, ltb, eqb}
use lib.ListN.{set, length, length-set}
use lib.Seq.{get_or-set_same, get_or-set_other}
use Rattle.ground.proofs.Laws.Cases.{by_bool}
use Rattle.contest.specs.RaisedContest.{Band, Game, key, at, nobody, leader, granted, dropped, first, ahead, fits, served, refused, round, contest, Ready}
use Rattle.contest.specs.RaisedContest.{Readys, Sound}
use Rattle.contest.proofs.Laws.RaisedContest.{sum_of}

-- ---- one round
pub by_fit : (P : Game → Type 0) (g : Game) → (fits g ≡ true → P (served g)) → (fits g ≡ false → P (refused g)) → P (round g)
unfolding round
by_fit P g y n = go (fits g) y n
  where
    go : (b : Bool) → (b ≡ true → P (served g)) → (b ≡ false → P (refused g)) → P (cond b (served g) (refused g))
    go true y n = y refl
    go false y n = n refl

pub round_served : (g : Game) → fits g ≡ true → round g ≡ served g
unfolding round
round_served g t = rw t

pub round_refused : (g : Game) → fits g ≡ false → round g ≡ refused g
unfolding round
round_refused g t = rw t

pub served_left : (g : Game) → fits g ≡ true → (round g).left + (ahead g).size ≡ g.left
unfolding fits
served_left g u = rw (round_served g u) (omega (arith, leb-true))

pub contest_on : (n : ℕ) (g : Game) → (ahead g).competes ≡ true → contest (suc n) g ≡ contest n (round g)
unfolding contest
contest_on n g t = rw (t, contest)

pub contest_over : (n : ℕ) (g : Game) → (ahead g).competes ≡ false → contest n g ≡ g
unfolding contest
contest_over zero g t = refl
contest_over (suc n) g t = rw (t, contest)

-- what a round keeps the contest keeps
pub kept : (P : Game → Type 0) → ((g : Game) → (ahead g).competes ≡ true → P g → P (round g)) → (n : ℕ) (g : Game) → P g → P (contest n g)
unfolding contest
kept P r zero g p = p
kept P r (suc n) g p =
    by_bool (ahead g).competes (λ t. rw (contest_on n g t) (kept P r n (round g) (r g t p))) (λ t. rw (contest_over (suc n) g t) p)

-- ---- the leader is one of the bands, and none has a higher key
pub last : (n i : ℕ) → i ≤ suc n → (i ≤ n) ⊎ (i ≡ suc n)
last n i h = by_bool (leb i n) (λ t. inl (leb-true _ _ t)) (λ t. inr (omega (arith, leb-false)))

pub leader_new : (bands : List Band) (n : ℕ) → ltb (key (at bands (leader bands n))) (key (at bands (suc n))) ≡ true → leader bands (suc n) ≡ suc n
unfolding leader
leader_new bands n t = rw t

pub leader_old : (bands : List Band) (n : ℕ) → ltb (key (at bands (leader bands n))) (key (at bands (suc n))) ≡ false → leader bands (suc n) ≡ leader bands n
unfolding leader
leader_old bands n t = rw t

pub leader_le : (bands : List Band) (n : ℕ) → leader bands n ≤ n
unfolding leader
leader_le bands zero = omega arith
leader_le bands (suc n) =
    by_bool (ltb (key (at bands (leader bands n))) (key (at bands (suc n))))
    (λ t. omega (arith, leader_new bands n t))
    (λ t. omega (arith, leader_old bands n t, leader_le bands n))

pub top : (bands : List Band) (n i : ℕ) → i ≤ n → key (at bands i) ≤ key (at bands (leader bands n))
unfolding leader
top bands zero i h = let e : i ≡ 0 = omega arith in rw e (le_refl _)
top bands (suc n) i h =
    by_bool (ltb (key (at bands (leader bands n))) (key (at bands (suc n))))
    (λ t. rw (leader_new bands n t) (⊎_elim (λ l. omega (arith, top bands n i l, ltb-true)) (λ e. rw e (le_refl _)) (last n i h)))
    (λ t. rw (leader_old bands n t) (⊎_elim (λ l. top bands n i l) (λ e. rw e (ltb-false _ _ t)) (last n i h)))

pub first_le : (g : Game) → first g ≤ 43
unfolding first
first_le g = leader_le g.bands 43

pub first_lt : (g : Game) → length g.bands ≡ 44 → first g < length g.bands
first_lt g e = omega (arith, first_le g)

pub key_out : (b : Band) → b.competes ≡ false → key b ≡ 0
unfolding key
key_out b t = rw t

pub key_in : (b : Band) → b.competes ≡ true → key b ≡ suc b.score
unfolding key
key_in b t = rw t

pub no_one : (g : Game) → (ahead g).competes ≡ false → (i : ℕ) → i ≤ 43 → (at g.bands i).competes ≡ true → ⊥
unfolding ahead first
no_one g t i h u = omega (arith, top g.bands 43 i h, key_out (ahead g) t, key_in (at g.bands i) u)

-- ---- what a round does to the band i
module _ (g : Game) (i : ℕ) (e : length g.bands ≡ 44) where
  pub at_served : i ≡ first g → fits g ≡ true → at (round g).bands i ≡ granted (ahead g)
  at_served p u = rw (round_served g u, p) (get_or-set_same g.bands (first g) (granted (ahead g)) nobody (first_lt g e))

  pub at_refused : i ≡ first g → fits g ≡ false → at (round g).bands i ≡ dropped (ahead g)
  at_refused p u = rw (round_refused g u, p) (get_or-set_same g.bands (first g) (dropped (ahead g)) nobody (first_lt g e))

pub at_other : (g : Game) (i : ℕ) → (i ≡ first g → ⊥) → at (round g).bands i ≡ at g.bands i
at_other g i p =
    by_fit (λ k. at k.bands i ≡ at g.bands i) g
    (λ _. get_or-set_other g.bands (first g) i (granted (ahead g)) nobody p)
    (λ _. get_or-set_other g.bands (first g) i (dropped (ahead g)) nobody p)

pub at_first : (g : Game) (i : ℕ) → i ≡ first g → at g.bands i ≡ ahead g
unfolding ahead
at_first g i p = rw p

pub ahead_at : (g : Game) → at g.bands (first g) ≡ ahead g
ahead_at g = at_first g (first g) refl

-- the band i is served, refused or left alone
pub by_part : (P : Band → Type 0) (g : Game) (i : ℕ) → length g.bands ≡ 44
    → (i ≡ first g → fits g ≡ true → P (granted (ahead g))) → (i ≡ first g → fits g ≡ false → P (dropped (ahead g))) → ((i ≡ first g → ⊥) → P (at g.bands i))
    → P (at (round g).bands i)
by_part P g i e y n o =
    by_bool (eqb i (first g))
    (λ q. let p : i ≡ first g = eqb-true _ _ q in
    by_bool (fits g) (λ u. subst⁻¹ P (at_served g i e p u) (y p u)) (λ u. subst⁻¹ P (at_refused g i e p u) (n p u)))
    (λ q. let p : i ≡ first g → ⊥ = eqb-false _ _ q in subst⁻¹ P (at_other g i p) (o p))

-- ---- a game that a contest can be played from, and stays so
pub record Able (g : Game) : Type 0 where
  pub all : length g.bands ≡ 44
  pub sound : Sound g

pub granted_ready : (b : Band) → Ready b → Readys (granted b)
unfolding granted
granted_ready b r t = let h : b.rate + 1 < 9 = ltb-true _ _ t in omega arith

pub dropped_ready : (b : Band) → Readys (dropped b)
unfolding dropped
dropped_ready b t = absurd (false≢true t)

pub ready_ahead : (g : Game) → Able g → (ahead g).competes ≡ true → Ready (ahead g)
unfolding ahead
ready_ahead g a t = a.sound (first g) t

pub length_round : (g : Game) → length g.bands ≡ 44 → length (round g).bands ≡ 44
length_round g e = by_fit (λ h. length h.bands ≡ 44) g (λ _. simp length-set e) (λ _. simp length-set e)

pub able_round : (g : Game) → Able g → (ahead g).competes ≡ true → Able (round g)
able_round g a t =
    record {
      all = length_round g a.all;
      sound = λ i. by_part Readys g i a.all (λ p u. granted_ready (ahead g) (ready_ahead g a t)) (λ p u. dropped_ready (ahead g)) (λ p. a.sound i);
    }

-- what a round keeps of a game that can be played
pub holds : (P : Game → Type 0) → ((g : Game) → Able g → (ahead g).competes ≡ true → P g → P (round g)) → (n : ℕ) (g : Game) → Able g → P g → P (contest n g)
holds P r n g a p = (kept (λ k. Able k × P k) (λ k t q. (able_round k q.0 t, r k q.0 t q.1)) n g (a, p)).1

pub able_end : (n : ℕ) (g : Game) → Able g → Able (contest n g)
able_end n g a = kept Able (λ k t b. able_round k b t) n g a

-- ---- sums over the bands
pub sum_set : (f : Band → ℕ) (l : List Band) (p : ℕ) (v : Band) → p < length l → sum_of f (set l p v) + f (at l p) ≡ sum_of f l + f v
unfolding sum_of
sum_set f [] p v h = absurd (not-suc-le-zero h)
sum_set f (x ∷ l) zero v h = omega arith
sum_set f (x ∷ l) (suc p) v h = omega (arith, sum_set f l p v (le_of_suc-le-suc h))

module _ (f : Band → ℕ) (g : Game) (e : length g.bands ≡ 44) where
  pub sum_served : fits g ≡ true → sum_of f (round g).bands + f (ahead g) ≡ sum_of f g.bands + f (granted (ahead g))
  unfolding ahead
  sum_served u = rw (round_served g u) (sum_set f g.bands (first g) (granted (ahead g)) (first_lt g e))

  pub sum_refused : fits g ≡ false → sum_of f (round g).bands + f (ahead g) ≡ sum_of f g.bands + f (dropped (ahead g))
  unfolding ahead
  sum_refused u = rw (round_refused g u) (sum_set f g.bands (first g) (dropped (ahead g)) (first_lt g e))

-- ---- a band that is out stays as it is
pub stays : (n : ℕ) (g : Game) (i : ℕ) → (at g.bands i).competes ≡ false → at (contest n g).bands i ≡ at g.bands i
stays n g i o =
    kept (λ k. at k.bands i ≡ at g.bands i)
    (λ k t p. at_other k i (λ q. false≢true (sym o ∙ ap (λ (b : Band). b.competes) (sym p ∙ at_first k i q) ∙ t)) ∙ p) n g refl
