-- All the offers above a level, if they can be paid, are granted: the contest passes through that state.
-- Assumes nothing.
use mathlib.Core.Bool.{Bool, ◌&&◌, false, true}
use mathlib.Core.List.{List}
use mathlib.Core.Logic.{inl}
use mathlib.Core.Path.{◌∙◌, ◌≡◌, ap, refl, sym}
use Prim.Native.Nat.{◌*◌, ◌+◌, ◌-◌, ◌/◌, ◌<◌, ◌≤◌, suc, zero, ℕ, min}
use native.Mathlib.Nat.{add-mul, one-mul, zero-mul}
use native.Mathlib.Omega.{arith}
use borrow.Author.Tests.{eqb-false, eqb-true, le-leb, le-ltb, lt-ltb, ltb-false, ltb-true}
use lib.Dec.{eqb, ltb}
use Rattle.ground.proofs.Laws.Cases.{by_bool}
use Rattle.ground.specs.ListsByRule.{table}
use Rattle.ground.proofs.Laws.ListsByRule.{get_d_table, length_from}
use Rattle.ground.proofs.Laws.Sums.{sum_but, sum_none, sum_part}
use Rattle.ground.specs.Sums.{sum_to}
use Rattle.contest.specs.RaisedContest.{Band, Game, Ready, Readys, ahead, at, contest, first, fits, granted, nobody, round}
use Rattle.contest.proofs.Laws.Ends.{pot, pot_round, pot_start}
use Rattle.contest.proofs.Laws.Rounds.{Able, able_round, ahead_at, at_other, at_served, contest_on, first_le, ready_ahead, served_left}
use Rattle.levels.specs.Inner.{spot, stepped}
use Rattle.levels.proofs.Laws.OfferOrder.{spot_out, top_spot}
use Rattle.levels.proofs.Laws.UnfitBands.{band_ext, game_ext, thin}

-- how many offers of a band stand above a level
unfoldable pub count : ℕ → ℕ → Band → ℕ
count level p b = min (9 - b.rate) ((spot p b - level) / 2048)

unfoldable pub cost : ℕ → List Band → ℕ → ℕ
cost level bands p = count level p (at bands p) * (at bands p).size

unfoldable pub costs : ℕ → List Band → ℕ
costs level bands = sum_to (cost level bands) 44

-- all the offers above a level are granted
unfoldable pub jumped : ℕ → Game → Game
jumped level g = record { bands = table 44 (λ p. stepped (count level p (at g.bands p)) (at g.bands p)); left = g.left - costs level g.bands }

-- ---- one band
one_more : (c s d : ℕ) → c + 1 ≡ d → c * s + s ≡ d * s
one_more c s d e = rw (← e, add-mul, one-mul)

pub stepped_none : (b : Band) → Readys b → stepped 0 b ≡ b
unfolding stepped
stepped_none b r =
    band_ext (record { size = b.size; score = b.score - 32 * 0; rate = b.rate + 0; competes = b.competes && ltb (b.rate + 0) 9 }) b refl (omega arith)
    (omega arith)
    (by_bool b.competes (λ t. rw t (lt-ltb (b.rate + 0) 9 (omega (arith, r t)))) (λ t. rw t))

pub stepped_more : (n : ℕ) (b : Band) → b.competes ≡ true → stepped n (granted b) ≡ stepped (n + 1) b
unfolding stepped granted
stepped_more n b t =
    band_ext
    (record { size = b.size; score = b.score - 32 - 32 * n; rate = b.rate + 1 + n; competes = ltb (b.rate + 1) 9 && ltb (b.rate + 1 + n) 9 })
    (record { size = b.size; score = b.score - 32 * (n + 1); rate = b.rate + (n + 1); competes = b.competes && ltb (b.rate + (n + 1)) 9 })
    refl (omega arith) (omega arith)
    (rw t
    (by_bool (ltb (b.rate + (n + 1)) 9)
    (λ u. rw
    (u, lt-ltb (b.rate + 1) 9 (omega (arith, ltb-true (b.rate + (n + 1)) 9 u)), lt-ltb (b.rate + 1 + n) 9 (omega (arith, ltb-true (b.rate + (n + 1)) 9 u))))
    (λ u. rw (u, le-ltb (b.rate + 1 + n) 9 (omega (arith, ltb-false (b.rate + (n + 1)) 9 u))) (and_no (ltb (b.rate + 1) 9)))))
  where
    and_no : (x : Bool) → (x && false) ≡ false
    and_no true = refl
    and_no false = refl

spot_granted : (p : ℕ) (b : Band) → Ready b → b.competes ≡ true → b.rate + 1 < 9 → spot p (granted b) + 2048 ≡ spot p b
unfolding spot granted
spot_granted p b r t h = rw (t, lt-ltb _ _ h) (omega (arith, r))

spot_ninth : (p : ℕ) (b : Band) → 9 ≤ b.rate + 1 → spot p (granted b) ≡ 0
unfolding spot granted
spot_ninth p b h = rw (le-ltb _ _ h)

granted_rate : (b : Band) → (granted b).rate ≡ b.rate + 1
unfolding granted
granted_rate b = refl

-- the arithmetic of counts
min_pos : (a d : ℕ) → 0 < min a d → 0 < d
min_pos a d h = omega arith

min_step : (r e : ℕ) → r + 1 < 9 → min (9 - (r + 1)) e + 1 ≡ min (9 - r) (e + 1)
min_step r e h = omega arith

min_ninth : (r e d : ℕ) → r < 9 → 9 ≤ r + 1 → 0 < min (9 - r) d → min (9 - (r + 1)) e + 1 ≡ min (9 - r) d
min_ninth r e d a b h = let k : r ≡ 8 = omega arith in rw k (nine e d (rw k at h))
  where
    nine : (e d : ℕ) → 0 < min (9 - 8) d → min (9 - (8 + 1)) e + 1 ≡ min (9 - 8) d
    nine e d h = omega arith

min_zero : (r d : ℕ) → r < 9 → min (9 - r) d ≡ 0 → d ≡ 0
min_zero r d h e = omega arith

min_none : (a d : ℕ) → d ≡ 0 → min a d ≡ 0
min_none a d e = omega arith

div_step : (x y k : ℕ) → y + 2048 ≡ x → 0 < (x - k) / 2048 → (y - k) / 2048 + 1 ≡ (x - k) / 2048
div_step x y k e h = omega arith

div_none : (x y k : ℕ) → y ≤ x → (x - k) / 2048 ≡ 0 → (y - k) / 2048 ≡ 0
div_none x y k l e = omega arith

count_granted : (level p : ℕ) (b : Band) → Ready b → b.competes ≡ true → 0 < count level p b → count level p (granted b) + 1 ≡ count level p b
unfolding count granted
count_granted level p b r t h =
    by_bool (ltb (b.rate + 1) 9)
    (λ u.
    let k : b.rate + 1 < 9 = ltb-true _ _ u in
    min_step b.rate ((spot p (granted b) - level) / 2048) k
    ∙ ap (min (9 - b.rate)) (div_step (spot p b) (spot p (granted b)) level (spot_granted p b r t k)
    (min_pos (9 - b.rate) ((spot p b - level) / 2048) h)))
    (λ u. min_ninth b.rate ((spot p (granted b) - level) / 2048) ((spot p b - level) / 2048) r.below (ltb-false _ _ u) h)

-- ---- one round
count_in : (level p : ℕ) (b : Band) → 0 < count level p b → b.competes ≡ true
unfolding count
count_in level p b h = by_bool b.competes (λ t. t) (λ t. absurd (omega (arith, spot_out p b t)))

-- where the leader has no offer above the level, none has
none_left : (level : ℕ) (g : Game) → Able g → count level (first g) (ahead g) ≡ 0 → (p : ℕ) → p ≤ 43 → count level p (at g.bands p) ≡ 0
unfolding count
none_left level g a z p b =
    min_none (9 - (at g.bands p).rate) ((spot p (at g.bands p) - level) / 2048)
    (div_none (spot (first g) (ahead g)) (spot p (at g.bands p)) level (top_spot g p b)
    (by_bool (ahead g).competes
    (λ t. min_zero (ahead g).rate ((spot (first g) (ahead g) - level) / 2048) (ready_ahead g a t).below z)
    (λ t. rw (spot_out (first g) (ahead g) t) (omega arith))))

module _ (level : ℕ) (g : Game) (a : Able g) (pos : 0 < count level (first g) (ahead g)) (pays : costs level g.bands ≤ g.left) where
  lead_in : (ahead g).competes ≡ true
  lead_in = count_in level (first g) (ahead g) pos

  first_44 : first g < 44
  first_44 = omega (arith, first_le g)

  cost_first : cost level g.bands (first g) ≡ count level (first g) (ahead g) * (ahead g).size
  unfolding cost
  cost_first = rw (ahead_at g)

  fits_first : fits g ≡ true
  unfolding fits costs
  fits_first =
      le-leb (ahead g).size g.left (omega (
        arith,
        sum_part (cost level g.bands) (first g) 44 first_44,
        cost_first,
        one_more (count level (first g) (ahead g) - 1) (ahead g).size (count level (first g) (ahead g)) (omega arith),
      ))

  at_next : at (round g).bands (first g) ≡ granted (ahead g)
  at_next = at_served g (first g) a.all refl fits_first

  count_next : count level (first g) (granted (ahead g)) + 1 ≡ count level (first g) (ahead g)
  count_next = count_granted level (first g) (ahead g) (ready_ahead g a lead_in) lead_in pos

  cost_next : cost level (round g).bands (first g) + (ahead g).size ≡ cost level g.bands (first g)
  unfolding cost granted
  cost_next = rw (at_next, ahead_at g) (one_more _ (ahead g).size _ count_next)

  cost_other : (p : ℕ) → (p ≡ first g → ⊥) → cost level (round g).bands p ≡ cost level g.bands p
  unfolding cost
  cost_other p n = rw (at_other g p n)

  costs_next : costs level (round g).bands + (ahead g).size ≡ costs level g.bands
  unfolding costs
  costs_next =
      omega (arith, cost_next, sum_but (cost level (round g).bands) (cost level g.bands) (first g) 44 first_44 (λ p b n. cost_other p n))

  stepped_next : (p : ℕ) → stepped (count level p (at (round g).bands p)) (at (round g).bands p) ≡ stepped (count level p (at g.bands p)) (at g.bands p)
  stepped_next p =
      by_bool (eqb p (first g))
      (λ t. let e : p ≡ first g = eqb-true _ _ t in
      rw (e, at_next, ahead_at g) (stepped_more (count level (first g) (granted (ahead g))) (ahead g) lead_in ∙ ap (λ n. stepped n (ahead g)) count_next))
      (λ t. rw (at_other g p (eqb-false _ _ t)))

  jumped_next : jumped level (round g) ≡ jumped level g
  unfolding jumped
  jumped_next =
      game_ext (jumped level (round g)) (jumped level g) (length_from _ 44 0) (length_from _ 44 0)
      (λ p b.
      get_d_table (λ p. stepped (count level p (at (round g).bands p)) (at (round g).bands p)) 44 nobody p (omega arith)
      ∙ stepped_next p
      ∙ sym (get_d_table (λ p. stepped (count level p (at g.bands p)) (at g.bands p)) 44 nobody p (omega arith)))
      (omega (arith, costs_next, served_left g fits_first))

free : (level p : ℕ) (bands : List Band) → count level p (at bands p) ≡ 0 → cost level bands p ≡ 0
unfolding cost
free level p bands e = rw e (zero-mul _)

-- nothing to grant
jumped_none : (level : ℕ) (g : Game) → Able g → count level (first g) (ahead g) ≡ 0 → jumped level g ≡ g
unfolding jumped costs
jumped_none level g a z =
    game_ext (jumped level g) g (length_from _ 44 0) a.all
    (λ p b.
    get_d_table (λ p. stepped (count level p (at g.bands p)) (at g.bands p)) 44 nobody p (omega arith)
    ∙ rw (none_left level g a z p b) (stepped_none (at g.bands p) (a.sound p)))
    (omega (arith, sum_none (cost level g.bands) 44 (λ p b. free level p g.bands (none_left level g a z p (omega arith)))))

-- enough rounds are enough
pub enough : (n m : ℕ) (g : Game) → Able g → pot g ≤ n → pot g ≤ m → contest n g ≡ contest m g
enough n m g a j k = thin n m g g a a j k (record { same = refl; each = λ p b. inl refl })

pub jump : (n level : ℕ) (g : Game) → Able g → pot g ≤ n → costs level g.bands ≤ g.left → contest n g ≡ contest 396 (jumped level g)
jump zero level g a j c =
    by_bool (ltb 0 (count level (first g) (ahead g)))
    (λ t. absurd (omega (arith, pot_round g a (count_in level (first g) (ahead g) (ltb-true _ _ t)))))
    (λ t. rw (jumped_none level g a (omega (arith, ltb-false 0 (count level (first g) (ahead g)) t))) (enough zero 396 g a j (pot_start g a.all)))
jump (suc n) level g a j c =
    by_bool (ltb 0 (count level (first g) (ahead g)))
    (λ t.
    let pos : 0 < count level (first g) (ahead g) = ltb-true _ _ t in
    let i = lead_in level g a pos c in
    contest_on n g i
    ∙ jump n level (round g) (able_round g a i) (omega (arith, pot_round g a i))
    (omega (arith, costs_next level g a pos c, served_left g (fits_first level g a pos c)))
    ∙ ap (contest 396) (jumped_next level g a pos c))
    (λ t. rw (jumped_none level g a (omega (arith, ltb-false 0 (count level (first g) (ahead g)) t))) (enough (suc n) 396 g a j (pot_start g a.all)))
