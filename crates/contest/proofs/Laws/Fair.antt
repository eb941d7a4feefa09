-- Demand 3 for the raised contest. One induction over the rounds: from any state, what will be left and what will be spent below the final score of a band
-- that competes and ends below nine is less than its length and what was spent already. Assumes nothing.
use mathlib.Core.Path.{◌≡◌, refl, sym, ap, ◌∙◌}
use mathlib.Core.Bool.{Bool, true, false, cond, false≢true}
use Prim.Native.Nat.{ℕ, zero, suc, ◌+◌, ◌-◌, ◌*◌, ◌≤◌, ◌<◌}
use native.Mathlib.Nat.{le_refl, le_trans, mul-add}
use native.Mathlib.Numerals.{add-one}
use native.Mathlib.Omega.{arith}
use borrow.Author.Tests.{le-ltb, ltb-false, leb-false}
use lib.Dec.{ltb}
use lib.ListN.{length}
use Rattle.ground.proofs.Laws.Cases.{by_bool}
use Rattle.contest.specs.RaisedContest.{Band, Game, at, granted, dropped, first, ahead, fits, round, contest, Ready}
use Rattle.contest.proofs.Laws.RaisedContest.{sum_of, count_below, spent}
use Rattle.contest.proofs.Laws.Rounds.{Able, able_round, ready_ahead, contest_on, holds, by_part, at_first, round_refused, served_left, sum_served}
use Rattle.contest.proofs.Laws.Rounds.{sum_refused, stays, top, key_in, no_one}
use Rattle.contest.proofs.Laws.Ends.{pot, pot_round, ends}

-- ---- what never changes: a band's length, and its score with 32 for each step
size_granted : (b : Band) → (granted b).size ≡ b.size
unfolding granted
size_granted b = refl

size_dropped : (b : Band) → (dropped b).size ≡ b.size
unfolding dropped
size_dropped b = refl

pub size_round : (g : Game) (i : ℕ) → length g.bands ≡ 44 → (at (round g).bands i).size ≡ (at g.bands i).size
size_round g i e =
    by_part (λ b. b.size ≡ (at g.bands i).size) g i e
    (λ p u. size_granted (ahead g) ∙ ap (λ (b : Band). b.size) (sym (at_first g i p)))
    (λ p u. size_dropped (ahead g) ∙ ap (λ (b : Band). b.size) (sym (at_first g i p)))
    (λ p. refl)

pub size_end : (n : ℕ) (g : Game) (i : ℕ) → Able g → (at (contest n g).bands i).size ≡ (at g.bands i).size
size_end n g i a = holds (λ k. (at k.bands i).size ≡ (at g.bands i).size) (λ k b t p. size_round k i b.all ∙ p) n g a refl

abbrev start_of : Band → ℕ
start_of b = b.score + 32 * b.rate

start_granted : (b : Band) → Ready b → start_of (granted b) ≡ start_of b
unfolding granted
start_granted b r = omega (arith, r)

start_dropped : (b : Band) → start_of (dropped b) ≡ start_of b
unfolding dropped
start_dropped b = refl

pub start_end : (n : ℕ) (g : Game) (i : ℕ) → Able g → start_of (at (contest n g).bands i) ≡ start_of (at g.bands i)
start_end n g i a =
    holds (λ k. start_of (at k.bands i) ≡ start_of (at g.bands i))
    (λ k b t p.
    by_part (λ x. start_of x ≡ start_of (at k.bands i)) k i b.all
    (λ q u. start_granted (ahead k) (ready_ahead k b t) ∙ ap (λ (x : Band). start_of x) (sym (at_first k i q)))
    (λ q u. start_dropped (ahead k) ∙ ap (λ (x : Band). start_of x) (sym (at_first k i q)))
    (λ q. refl)
    ∙ p) n g a refl

-- ---- no rate is over nine
granted_nine : (b : Band) → Ready b → (granted b).rate ≤ 9
unfolding granted
granted_nine b r = omega (arith, r)

dropped_rate : (b : Band) → (dropped b).rate ≡ b.rate
unfolding dropped
dropped_rate b = refl

pub nine_end : (n : ℕ) (g : Game) (i : ℕ) → Able g → (at g.bands i).rate ≤ 9 → (at (contest n g).bands i).rate ≤ 9
nine_end n g i a =
    holds (λ k. (at k.bands i).rate ≤ 9)
    (λ k b t p.
    by_part (λ x. x.rate ≤ 9) k i b.all
    (λ q u. granted_nine (ahead k) (ready_ahead k b t))
    (λ q u. rw (dropped_rate (ahead k), ← at_first k i q) p)
    (λ q. p)) n g a

-- ---- bits given and bits left add up
unfoldable pub bits : Band → ℕ
bits b = b.rate * b.size

unfoldable pub given : Game → ℕ
given g = sum_of bits g.bands

bits_granted : (b : Band) → bits (granted b) ≡ bits b + b.size
unfolding bits granted
bits_granted b = rw (add-one) (omega (arith, native.Mathlib.Nat.suc-mul b.rate b.size))

bits_dropped : (b : Band) → bits (dropped b) ≡ bits b
unfolding bits dropped
bits_dropped b = refl

refused_left : (g : Game) → fits g ≡ false → (round g).left ≡ g.left
refused_left g u = ap (λ (k : Game). k.left) (round_refused g u)

pub adds_up : (n : ℕ) (g : Game) → Able g → given (contest n g) + (contest n g).left ≡ given g + g.left
unfolding given
adds_up n g a =
    holds (λ k. given k + k.left ≡ given g + g.left)
    (λ k b t p.
    by_bool (fits k)
    (λ u. omega (arith, p, sum_served bits k b.all u, bits_granted (ahead k), served_left k u))
    (λ u. omega (arith, p, sum_refused bits k b.all u, bits_dropped (ahead k), refused_left k u))) n g a refl

-- ---- what is spent below a score
unfoldable pub paid : ℕ → Game → ℕ
paid s g = sum_of (spent s) g.bands

spent_granted : (s : ℕ) (b : Band) → Ready b → spent s (granted b) ≡ spent s b + b.size * cond (ltb b.score s) 1 0
unfolding spent count_below granted
spent_granted s b r =
    let e : b.score - 32 + 32 * (b.rate + 1) ≡ b.score + 32 * b.rate = omega (arith, r) in
    let f : b.score + 32 * b.rate - 32 * b.rate ≡ b.score = omega arith in
    rw (e, add-one) (rw (count_below, f) (mul-add b.size (count_below s (b.score + 32 * b.rate) b.rate) (cond (ltb b.score s) 1 0)))

spent_dropped : (s : ℕ) (b : Band) → spent s (dropped b) ≡ spent s b
unfolding spent dropped
spent_dropped s b = refl

once : (n : ℕ) (t : Bool) → n * cond t 1 0 ≤ n
once n true = omega arith
once n false = omega arith

module _ (s : ℕ) (g : Game) (a : Able g) (t : (ahead g).competes ≡ true) where
  paid_served : fits g ≡ true → paid s (round g) ≡ paid s g + (ahead g).size * cond (ltb (ahead g).score s) 1 0
  unfolding paid
  paid_served u = omega (arith, sum_served (spent s) g a.all u, spent_granted s (ahead g) (ready_ahead g a t))

  paid_refused : fits g ≡ false → paid s (round g) ≡ paid s g
  unfolding paid
  paid_refused u = omega (arith, sum_refused (spent s) g a.all u, spent_dropped s (ahead g))

  -- a step at s or above costs nothing below s
  paid_above : s ≤ (ahead g).score → paid s (round g) ≡ paid s g
  paid_above h =
      by_bool (fits g)
      (λ u. paid_served u ∙ ap (λ (x : Bool). paid s g + (ahead g).size * cond x 1 0) (le-ltb (ahead g).score s h) ∙ omega arith)
      paid_refused

  left_round : (round g).left + paid s (round g) ≤ g.left + paid s g
  left_round =
      by_bool (fits g)
      (λ u. omega (arith, paid_served u, served_left g u, once (ahead g).size (ltb (ahead g).score s)))
      (λ u. omega (arith, paid_refused u, refused_left g u))

left_below : (n : ℕ) (g : Game) (s : ℕ) → Able g → (contest n g).left + paid s (contest n g) ≤ g.left + paid s g
left_below n g s a =
    holds (λ k. k.left + paid s k ≤ g.left + paid s g) (λ k b t p. le_trans (left_round s k b t) p) n g a (le_refl _)

-- ---- a score never rises, and no band in the contest ends at a score above the one that a round serves
score_granted : (b : Band) → (granted b).score ≤ b.score
unfolding granted
score_granted b = omega arith

score_dropped : (b : Band) → (dropped b).score ≡ b.score
unfolding dropped
score_dropped b = refl

falls_round : (g : Game) (i : ℕ) → length g.bands ≡ 44 → (at (round g).bands i).score ≤ (at g.bands i).score
falls_round g i e =
    by_part (λ b. b.score ≤ (at g.bands i).score) g i e
    (λ p u. rw (at_first g i p) (score_granted (ahead g)))
    (λ p u. rw (at_first g i p, score_dropped (ahead g)) (le_refl _))
    (λ p. le_refl _)

falls : (n : ℕ) (g : Game) (i : ℕ) → Able g → (at (contest n g).bands i).score ≤ (at g.bands i).score
falls n g i a =
    holds (λ k. (at k.bands i).score ≤ (at g.bands i).score) (λ k b t p. le_trans (falls_round k i b.all) p) n g a (le_refl _)

late : (n : ℕ) (g : Game) (i : ℕ) → i ≤ 43 → Able g → (ahead g).competes ≡ true → (at g.bands i).competes ≡ true
    → (at (contest n (round g)).bands i).score ≤ (ahead g).score
unfolding ahead first
late n g i h a t c =
    omega (
      arith,
      falls n (round g) i (able_round g a t),
      falls_round g i a.all,
      top g.bands 43 i h,
      key_in (at g.bands i) c,
      key_in (ahead g) t,
    )

-- ---- a band that goes out below nine was refused, since its length did not fit
granted_out : (b : Band) → (granted b).competes ≡ false → 9 ≤ (granted b).rate
unfolding granted
granted_out b o = ltb-false _ _ o

out : (n : ℕ) (g : Game) (i : ℕ) → Able g → (at g.bands i).competes ≡ true → (at (round g).bands i).competes ≡ false
    → (at (contest n (round g)).bands i).rate < 9 → (fits g ≡ false) × (i ≡ first g)
out n g i a c o r =
    by_part (λ b. at (round g).bands i ≡ b → (fits g ≡ false) × (i ≡ first g)) g i a.all
    (λ p u k.
    let o' : (granted (ahead g)).competes ≡ false = ap (λ (b : Band). b.competes) (sym k) ∙ o in
    absurd (omega (arith, granted_out (ahead g) o', ap (λ (b : Band). b.rate) (stays n (round g) i o ∙ k))))
    (λ p u k. (u, p))
    (λ p k. absurd (false≢true (sym o ∙ ap (λ (b : Band). b.competes) k ∙ c)))
    refl

refused_short : (g : Game) (i : ℕ) → fits g ≡ false → i ≡ first g → (round g).left < (at g.bands i).size
unfolding fits
refused_short g i u p = rw (round_refused g u, at_first g i p) (omega (arith, leb-false))

pub fair : (n : ℕ) (g : Game) (i : ℕ) → i ≤ 43 → Able g → pot g ≤ n → (at g.bands i).competes ≡ true → (at (contest n g).bands i).rate < 9
    → (contest n g).left + paid (at (contest n g).bands i).score (contest n g) < (at g.bands i).size + paid (at (contest n g).bands i).score g
unfolding contest
fair zero g i h a m c r = absurd (no_one g (ends zero g a m) i h c)
fair (suc n) g i h a m c r =
    by_bool (ahead g).competes
    (λ t.
    let b = able_round g a t in
    let m' : pot (round g) ≤ n = omega (arith, pot_round g a t) in
    let r' : (at (contest n (round g)).bands i).rate < 9 = rw (contest_on n g t) at r in
    let s = (at (contest n (round g)).bands i).score in
    let same : paid s (round g) ≡ paid s g = paid_above s g a t (late n g i h a t c) in
    rw (contest_on n g t)
    (by_bool (at (round g).bands i).competes
    (λ v. rw (size_round g i a.all, same) at (fair n (round g) i h b m' v r'))
    (λ v.
    let w = out n g i a c v r' in
    omega (arith, left_below n (round g) s b, refused_short g i w.0 w.1, same))))
    (λ t. absurd (no_one g t i h c))
