-- The raised contest is the paper's: lowered by 368, each round of it is a round of Rounds.
-- Assumes nothing.
use mathlib.Core.Path.{◌≡◌, refl, sym, ap, ◌∙◌}
use mathlib.Core.Bool.{Bool, true, false, cond, not, ◌&&◌, ◌||◌}
use mathlib.Core.List.{List, [], ◌∷◌, map}
use Prim.Native.Nat.{ℕ, zero, suc, ◌+◌, ◌-◌}
use native.Mathlib.Omega.{arith}
use borrow.Author.Tests.{lt-ltb, le-ltb, ltb-true, ltb-false}
use lib.Dec.{leb, ltb}
use lib.IntN.{ℤ, sub_ℕ}
use lib.ListN.{set, get_or-map}
use lib.Signed.{lt_z}
use Rattle.ground.proofs.Laws.Cases.{by_bool}
use Rattle.ground.specs.ListsByRule.{from}
use Rattle.ground.proofs.Laws.ListsByRule.{table_same}
use Rattle.ground.proofs.Laws.LargerSmaller.{is_lt}
use Rattle.ground.proofs.Laws.Differences.{is_pos, is_unique, is_same, is_sub, is_subℕ}
use Rattle.contest.specs.Rounds as Z
use Rattle.contest.specs.Rounds.{behind, leader, granted, dropped, first, ahead, round, contest, begin}
use Rattle.contest.specs.RaisedContest as R
use Rattle.contest.specs.RaisedContest.{Band, Game, at, nobody, Ready}
use Rattle.contest.proofs.Laws.RaisedContest.{Heights}
use Rattle.contest.proofs.Laws.Rounds.{Able, able_round, ready_ahead, contest_on, contest_over}

pub lower : Band → Z.Band
lower b = record { size = b.size; score = sub_ℕ b.score 368; rate = b.rate; competes = b.competes }

pub lowered : Game → Z.Game
lowered g = record { bands = map lower g.bands; left = g.left }

pub left_same : (g : Game) → (lowered g).left ≡ g.left
unfolding lowered
left_same g = refl

lower_at : (l : List Band) (p : ℕ) → Z.at (map lower l) p ≡ lower (at l p)
unfolding lower
lower_at l p = get_or-map lower l p nobody

-- ---- who leads
suc_ltb : (a b : ℕ) → ltb (suc a) (suc b) ≡ ltb a b
suc_ltb a b =
    by_bool (ltb a b)
    (λ t. let h = ltb-true a b t in lt-ltb (suc a) (suc b) (omega arith) ∙ sym t)
    (λ t. let h = ltb-false a b t in le-ltb (suc a) (suc b) (omega arith) ∙ sym t)

behind_same : (b c : Band) → behind (lower b) (lower c) ≡ ltb (R.key b) (R.key c)
unfolding behind lower R.key
behind_same b c = go b.competes c.competes
  where
    go : (x y : Bool) → (y && (not x || lt_z (sub_ℕ b.score 368) (sub_ℕ c.score 368))) ≡ ltb (cond x (suc b.score) 0) (cond y (suc c.score) 0)
    go true true = is_lt (is_subℕ b.score 368) (is_subℕ c.score 368) ∙ sym (suc_ltb b.score c.score)
    go true false = sym (le-ltb (suc b.score) 0 (omega arith))
    go false true = sym (lt-ltb 0 (suc c.score) (omega arith))
    go false false = sym (le-ltb 0 0 (omega arith))

leader_same : (l : List Band) (n : ℕ) → leader (map lower l) n ≡ R.leader l n
unfolding leader R.leader
leader_same l zero = refl
leader_same l (suc n) =
    rw (leader_same l n, lower_at l (R.leader l n), lower_at l (suc n), behind_same (at l (R.leader l n)) (at l (suc n)))

first_same : (g : Game) → first (lowered g) ≡ R.first g
unfolding first R.first lowered
first_same g = leader_same g.bands 43

ahead_same : (g : Game) → ahead (lowered g) ≡ lower (R.ahead g)
unfolding ahead R.ahead lowered
ahead_same g = ap (Z.at (map lower g.bands)) (first_same g) ∙ lower_at g.bands (R.first g)

-- ---- one round
granted_same : (b : Band) → Ready b → granted (lower b) ≡ lower (R.granted b)
unfolding granted R.granted lower
granted_same b r =
    ap (λ (z : ℤ). record { size = b.size; score = z; rate = b.rate + 1; competes = ltb (b.rate + 1) 9 })
    (is_unique (is_sub (is_subℕ b.score 368) (is_pos 32)) (is_same _ _ (is_subℕ (b.score - 32) 368) (omega (arith, r))))

dropped_same : (b : Band) → dropped (lower b) ≡ lower (R.dropped b)
unfolding dropped R.dropped lower
dropped_same b = refl

map_set : (l : List Band) (p : ℕ) (v : Band) → map lower (set l p v) ≡ set (map lower l) p (lower v)
map_set [] p v = refl
map_set (x ∷ l) zero v = refl
map_set (x ∷ l) (suc p) v = ap (λ (t : List Z.Band). lower x ∷ t) (map_set l p v)

lower_size : (b : Band) → (lower b).size ≡ b.size
unfolding lower
lower_size b = refl

lower_competes : (b : Band) → (lower b).competes ≡ b.competes
unfolding lower
lower_competes b = refl

-- what a round makes of the band b at place p, by whether it fits
abbrev turned : Z.Game → ℕ → Z.Band → Bool → ℕ → Z.Game
turned g p b t n =
    cond t (record { bands = set g.bands p (granted b); left = g.left - n }) (record { bands = set g.bands p (dropped b); left = g.left })

round_by : (g : Z.Game) (p : ℕ) (b : Z.Band) → first g ≡ p → ahead g ≡ b → round g ≡ turned g p b (leb b.size g.left) b.size
unfolding round
round_by g p b e f = rw (f, e)

turned_same : (g : Game) → Ready (R.ahead g) → (t : Bool)
    → turned (lowered g) (R.first g) (lower (R.ahead g)) t (R.ahead g).size ≡ lowered (cond t (R.served g) (R.refused g))
unfolding lowered
turned_same g r true =
    ap (λ (l : List Z.Band). record { bands = l; left = g.left - (R.ahead g).size })
    (ap (set (map lower g.bands) (R.first g)) (granted_same (R.ahead g) r) ∙ sym (map_set g.bands (R.first g) (R.granted (R.ahead g))))
turned_same g r false =
    ap (λ (l : List Z.Band). record { bands = l; left = g.left })
    (ap (set (map lower g.bands) (R.first g)) (dropped_same (R.ahead g)) ∙ sym (map_set g.bands (R.first g) (R.dropped (R.ahead g))))

pub round_same : (g : Game) → Ready (R.ahead g) → round (lowered g) ≡ lowered (R.round g)
unfolding R.round R.fits
round_same g r =
    round_by (lowered g) (R.first g) (lower (R.ahead g)) (first_same g) (ahead_same g)
    ∙ ap (λ (n : ℕ). turned (lowered g) (R.first g) (lower (R.ahead g)) (leb n (lowered g).left) n) (lower_size (R.ahead g))
    ∙ ap (λ (m : ℕ). turned (lowered g) (R.first g) (lower (R.ahead g)) (leb (R.ahead g).size m) (R.ahead g).size) (left_same g)
    ∙ turned_same g r (leb (R.ahead g).size g.left)

-- ---- the whole contest
pub on : (n : ℕ) (g : Z.Game) → (ahead g).competes ≡ true → contest (suc n) g ≡ contest n (round g)
unfolding contest
on n g t = rw (t, contest)

pub over : (n : ℕ) (g : Z.Game) → (ahead g).competes ≡ false → contest n g ≡ g
unfolding contest
over zero g t = refl
over (suc n) g t = rw (t, contest)

pub in_same : (g : Game) → (ahead (lowered g)).competes ≡ (R.ahead g).competes
in_same g = ap (λ (b : Z.Band). b.competes) (ahead_same g) ∙ lower_competes (R.ahead g)

pub contest_same : (n : ℕ) (g : Game) → Able g → contest n (lowered g) ≡ lowered (R.contest n g)
unfolding contest R.contest
contest_same zero g a = refl
contest_same (suc n) g a =
    let c = in_same g in
    by_bool (R.ahead g).competes
    (λ t.
    on n (lowered g) (c ∙ t) ∙ ap (contest n) (round_same g (ready_ahead g a t)) ∙ contest_same n (R.round g) (able_round g a t)
    ∙ ap lowered (sym (contest_on n g t)))
    (λ t. over (suc n) (lowered g) (c ∙ t) ∙ ap lowered (sym (contest_over (suc n) g t)))

-- ---- the start
map_from : (f : ℕ → Band) (n i : ℕ) → map lower (from f n i) ≡ from (λ p. lower (f p)) n i
unfolding from
map_from f zero i = refl
map_from f (suc n) i = ap (λ (t : List Z.Band). lower (f i) ∷ t) (map_from f n (suc i))

pub begin_same : (size : ℕ → ℕ) (score : ℕ → ℤ) (competes : ℕ → Bool) (budget : ℕ) (height : ℕ → ℕ) → Heights score height
    → begin size score competes budget ≡ lowered (R.begin size height competes budget)
unfolding begin R.begin R.fresh lowered lower
begin_same size score competes budget height h =
    ap (λ (l : List Z.Band). record { bands = l; left = budget })
    (table_same _ _ 44 0
    (λ p a b. ap (λ (z : ℤ). record { size = size p; score = z; rate = 0; competes = competes p }) (is_unique (h.raised p b) (is_subℕ (height p) 368)))
    ∙ sym (map_from (R.fresh size height competes) 44 0))

pub rate_same : (g : Game) (p : ℕ) → (Z.at (lowered g).bands p).rate ≡ (at g.bands p).rate
unfolding lowered lower
rate_same g p = ap (λ (b : Z.Band). b.rate) (lower_at g.bands p)

pub competes_same : (g : Game) (p : ℕ) → (Z.at (lowered g).bands p).competes ≡ (at g.bands p).competes
unfolding lowered lower
competes_same g p = ap (λ (b : Z.Band). b.competes) (lower_at g.bands p)
