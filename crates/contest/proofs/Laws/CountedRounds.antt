-- The number of rounds of the contest (02, No. 5). Before each counted round a band competes, and after the last the contest is over. Each round is a step
-- of a band or the one in which it is put out below rate 9, so that the rounds are as many as the steps and the competing bands that end below nine.
-- Assumes nothing.
use mathlib.Core.Path.{◌≡◌, refl, sym, ap, ◌∙◌}
use mathlib.Core.Bool.{Bool, true, false, cond, ◌&&◌}
use Prim.Native.Nat.{ℕ, zero, suc, ◌+◌, ◌-◌, ◌*◌, ◌≤◌, ◌<◌, min}
use native.Mathlib.Nat.{not-suc-le-zero, mul-zero, mul-suc, mul-add, add-mul, mul_comm, mul-le-mul_left, mul-le-mul_right}
use native.Mathlib.Omega.{arith}
use borrow.Author.Tests.{ltb-true, lt-ltb}
use lib.Dec.{ltb}
use lib.IntN.{ℤ}
use Rattle.ground.proofs.Laws.Cases.{by_bool}
use Rattle.ground.specs.Sums.{nth, sum_to}
use Rattle.ground.proofs.Laws.Sums.{sum_same, sum_both}
use Rattle.contest.specs.Rounds as Z
use Rattle.contest.specs.Rounds.{counted, rounds_played, rounds_by_rates, played, rates}
use Rattle.contest.specs.RaisedContest.{Band, Game, at, granted, dropped, ahead, fits, round, contest, begin, fresh, Ready}
use Rattle.contest.proofs.Laws.RaisedContest.{Heights, sum_of}
use Rattle.contest.proofs.Laws.Rounds.{Able, able_round, able_end, ready_ahead, contest_on, contest_over, sum_served, sum_refused}
use Rattle.contest.proofs.Laws.Ends as raised
use Rattle.contest.proofs.Laws.SameContest.{lowered, in_same, round_same, on, over, begin_same}
use Rattle.contest.proofs.Laws.SharesFairly.{sum_list, start_at, able_start, rate_is, shared}

-- ---- what is counted
counted_on : (n : ℕ) (g : Z.Game) → (Z.ahead g).competes ≡ true → counted (suc n) g ≡ suc (counted n (Z.round g))
unfolding counted
counted_on n g t = rw (t, counted)

counted_over : (n : ℕ) (g : Z.Game) → (Z.ahead g).competes ≡ false → counted n g ≡ 0
unfolding counted
counted_over zero g t = refl
counted_over (suc n) g t = rw (t, counted)

-- so many rounds lead where all of them lead
counted_all : (n : ℕ) (g : Z.Game) → Z.contest (counted n g) g ≡ Z.contest n g
unfolding counted Z.contest
counted_all zero g = refl
counted_all (suc n) g =
    by_bool (Z.ahead g).competes
    (λ t. ap (λ (k : ℕ). Z.contest k g) (counted_on n g t) ∙ on (counted n (Z.round g)) g t ∙ counted_all n (Z.round g) ∙ sym (on n g t))
    (λ t. over (counted (suc n) g) g t ∙ sym (over (suc n) g t))

-- and before each of them a band competes
counted_each : (n : ℕ) (g : Z.Game) (k : ℕ) → k < counted n g → (Z.ahead (Z.contest k g)).competes ≡ true
unfolding counted Z.contest
counted_each zero g k h = absurd (not-suc-le-zero h)
counted_each (suc n) g zero h =
    by_bool (Z.ahead g).competes (λ t. t) (λ t. absurd (omega (arith, counted_over (suc n) g t)))
counted_each (suc n) g (suc k) h =
    by_bool (Z.ahead g).competes
    (λ t. ap (λ (x : Z.Game). (Z.ahead x).competes) (on k g t) ∙ counted_each n (Z.round g) k (omega (arith, counted_on n g t)))
    (λ t. absurd (omega (arith, counted_over (suc n) g t)))

-- ---- the rounds of one band

-- one for each step so far, and the one in which it was put out below rate 9
unfoldable taken : Band → ℕ
taken b = b.rate + cond b.competes 0 (cond (ltb b.rate 9) 1 0)

taken_granted : (b : Band) → b.competes ≡ true → taken (granted b) ≡ suc (taken b)
unfolding taken granted
taken_granted b t =
    by_bool (ltb (b.rate + 1) 9) (λ u. rw (t, u) (omega arith)) (λ u. rw (t, u) (omega arith))

taken_dropped : (b : Band) → b.competes ≡ true → Ready b → taken (dropped b) ≡ suc (taken b)
unfolding taken dropped
taken_dropped b t r = rw (t, lt-ltb b.rate 9 r.below) (omega arith)

-- the rounds counted from a state, and those that its bands took before
counted_taken : (n : ℕ) (g : Game) → Able g → counted n (lowered g) + sum_of taken g.bands ≡ sum_of taken (contest n g).bands
unfolding counted contest
counted_taken zero g a = omega arith
counted_taken (suc n) g a =
    by_bool (ahead g).competes
    (λ t.
    let one : sum_of taken (round g).bands ≡ suc (sum_of taken g.bands) =
    by_bool (fits g)
    (λ u. omega (arith, sum_served taken g a.all u, taken_granted (ahead g) t))
    (λ u. omega (arith, sum_refused taken g a.all u, taken_dropped (ahead g) t (ready_ahead g a t))) in
    let c : counted (suc n) (lowered g) ≡ suc (counted n (lowered (round g))) =
    counted_on n (lowered g) (in_same g ∙ t) ∙ ap (λ (x : Z.Game). suc (counted n x)) (round_same g (ready_ahead g a t)) in
    omega (arith, c, one, counted_taken n (round g) (able_round g a t), ap (λ (x : Game). sum_of taken x.bands) (contest_on n g t)))
    (λ t. omega (arith, counted_over (suc n) (lowered g) (in_same g ∙ t), ap (λ (x : Game). sum_of taken x.bands) (contest_over (suc n) g t)))

-- ---- how many they can be

-- counted at w bits a round, the rounds of a band are at most w, the bits that it got, and eight times what it is shorter than w
band_most : (w size rate : ℕ) (c : Bool) → rate ≤ 9 → w * (rate + cond (c && ltb rate 9) 1 0) ≤ w + rate * size + 8 * (w - size)
band_most w size rate c h =
    let m : ℕ = min rate 8 in
    let one : rate + cond (c && ltb rate 9) 1 0 ≤ m + 1 = by_bool (ltb rate 9)
    (λ t. by_bool c (λ u. rw (u, t) (omega (arith, ltb-true))) (λ u. rw u (omega (arith, ltb-true))))
    (λ t. by_bool c (λ u. rw (u, t) (omega arith)) (λ u. rw u (omega arith))) in
    omega (
      arith,
      mul-le-mul_left w one,
      mul-add w m 1,
      mul-le-mul_right m (let l : w ≤ size + (w - size) = omega arith in l),
      add-mul size (w - size) m,
      mul-le-mul_left size (let l : m ≤ rate = omega arith in l),
      mul_comm size rate,
      mul-le-mul_left (w - size) (let l : m ≤ 8 = omega arith in l),
      mul_comm (w - size) 8,
    )

weighed_sum : (w : ℕ) (f g h : ℕ → ℕ) (n : ℕ) → ((p : ℕ) → p < n → w * f p ≤ w + g p + h p) → w * sum_to f n ≤ w * n + sum_to g n + sum_to h n
unfolding sum_to
weighed_sum w f g h zero e = omega (arith, mul-zero w)
weighed_sum w f g h (suc n) e =
    omega (arith, weighed_sum w f g h n (λ p b. e p (omega arith)), e n (omega arith), mul-add w (sum_to f n) (f n), mul-suc w n)

-- ---- the whole contest
taken_out : (b : Band) → b.competes ≡ false → taken b ≡ b.rate + cond (ltb b.rate 9) 1 0
unfolding taken
taken_out b t = rw t

module _ (size : ℕ → ℕ) (score : ℕ → ℤ) (competes : ℕ → Bool) (budget : ℕ) (height : ℕ → ℕ) (hs : Heights score height) where
  abbrev rate : ℕ → ℕ
  rate p = nth (rates (played size score competes budget)) p

  -- a step, each, and the round in which a competing band is put out
  own : ℕ → ℕ
  own p = rate p + cond (competes p && ltb (rate p) 9) 1 0

  start : Game
  start = begin size height competes budget

  taken_start : (p : ℕ) → p < 44 → taken (at start.bands p) ≡ cond (competes p) 0 1
  unfolding taken start fresh
  taken_start p h = ap taken (start_at size height competes budget p h) ∙ omega arith

  taken_end : (p : ℕ) → p < 44 → taken (at (contest 396 start).bands p) ≡ rate p + cond (ltb (rate p) 9) 1 0
  unfolding start
  taken_end p h =
      taken_out (at (contest 396 start).bands p) (raised.over start (able_start size height competes budget hs.room) p (omega arith))
      ∙ ap (λ (r : ℕ). r + cond (ltb r 9) 1 0) (sym (rate_is size score competes budget height hs p h))

  own_and_start : (p : ℕ) → p < 44 → own p + taken (at start.bands p) ≡ taken (at (contest 396 start).bands p)
  unfolding own
  own_and_start p h =
      by_bool (competes p)
      (λ t. rw (taken_start p h, taken_end p h, t) (omega arith))
      (λ t.
      let z : rate p ≡ 0 = (shared size score competes budget height hs).idle p h t in
      rw (taken_start p h, taken_end p h, t, z) (omega arith))

  -- the sum of all final rates, and the competing bands that end below nine
  pub rounds_sum : rounds_played size score competes budget ≡ rounds_by_rates competes (nth (rates (played size score competes budget)))
  unfolding rounds_played rounds_by_rates own start
  rounds_sum =
      let a = able_start size height competes budget hs.room in
      let before : Game → ℕ → ℕ = λ g p. taken (at g.bands p) in
      let listed : (g : Game) → Able g → sum_of taken g.bands ≡ sum_to (before g) 44 =
      λ g b. sum_list taken g.bands ∙ ap (sum_to (before g)) b.all in
      omega (
        arith,
        ap (counted 396) (begin_same size score competes budget height hs),
        counted_taken 396 start a,
        listed start a,
        listed (contest 396 start) (able_end 396 start a),
        sum_both own (before start) 44,
        sum_same (λ p. own p + before start p) (before (contest 396 start)) 44 own_and_start,
        sum_both rate (λ p. cond (competes p && ltb (rate p) 9) 1 0) 44,
      )

  -- counted at w bits a round, all rounds together are at most w for each band, the budget, and eight times what the bands are shorter than w
  pub rounds_most : (w : ℕ) → w * rounds_played size score competes budget ≤ w * 44 + budget + sum_to (λ p. 8 * (w - size p)) 44
  unfolding own rounds_by_rates
  rounds_most w =
      let fair = shared size score competes budget height hs in
      omega (
        arith,
        ap (λ (k : ℕ). w * k) (rounds_sum ∙ sum_both rate (λ p. cond (competes p && ltb (rate p) 9) 1 0) 44),
        weighed_sum w own (λ p. rate p * size p) (λ p. 8 * (w - size p)) 44 (λ p h. band_most w (size p) (rate p) (competes p) (fair.nine p h)),
        fair.sum,
      )

module _ (size : ℕ → ℕ) (score : ℕ → ℤ) (competes : ℕ → Bool) (budget : ℕ) where
  -- so many rounds lead to the end of the contest
  pub rounds_lead : Z.contest (rounds_played size score competes budget) (Z.begin size score competes budget) ≡ played size score competes budget
  unfolding rounds_played played
  rounds_lead = counted_all 396 (Z.begin size score competes budget)

  -- and before each of them a band competes
  pub rounds_each : (k : ℕ) → k < rounds_played size score competes budget → (Z.ahead (Z.contest k (Z.begin size score competes budget))).competes ≡ true
  unfolding rounds_played
  rounds_each = counted_each 396 (Z.begin size score competes budget)
