-- Demand 3: the contest shares fairly, from any lengths, any scores of −80 or more, any choice of who competes and any budget; and it ends.
-- The raised contest's laws, read on its end. Assumes nothing.
use mathlib.Core.Path.{◌≡◌, refl, sym, ap, ◌∙◌, subst⁻¹}
use mathlib.Core.Bool.{Bool, true, false, false≢true}
use mathlib.Core.List.{List, [], ◌∷◌}
use Prim.Native.Nat.{ℕ, zero, suc, ◌+◌, ◌-◌, ◌*◌, ◌≤◌, ◌<◌}
use native.Mathlib.Decide.{dec_lt}
use native.Mathlib.Nat.{mul-zero, zero-mul}
use native.Mathlib.Omega.{arith}
use lib.IntN.{ℤ, pos, ◌-ℤ◌}
use lib.ListN.{length, get_or-eq_default}
use Rattle.ground.specs.ListsByRule.{table}
use Rattle.ground.proofs.Laws.ListsByRule.{get_d_table, length_from}
use Rattle.ground.proofs.Laws.LargerSmaller.{is_lt}
use Rattle.ground.specs.Sums.{nth, sum_to}
use Rattle.ground.proofs.Laws.Sums.{sum_same, sum_none, sum_front}
use Rattle.ground.specs.Differences.{Is}
use Rattle.ground.proofs.Laws.Differences.{is_pos, is_same, is_sub}
use Rattle.contest.specs.Rounds as Z
use Rattle.contest.specs.Rounds.{played, rates}
use Rattle.contest.specs.Fairness.{steps_below, Fair}
use Rattle.contest.specs.RaisedContest.{Band, Game, at, nobody, contest, fresh, begin, Readys}
use Rattle.contest.proofs.Laws.RaisedContest.{Heights, sum_of, count_below, spent}
use Rattle.contest.proofs.Laws.Rounds.{Able, able_end, stays}
use Rattle.contest.proofs.Laws.Ends.{pot_start, over}
use Rattle.contest.proofs.Laws.Fair.{size_end, start_end, nine_end, bits, given, adds_up, paid, fair}
use Rattle.contest.proofs.Laws.SameContest.{lowered, contest_same, begin_same, rate_same, competes_same, left_same}

pub sum_list : (f : Band → ℕ) (l : List Band) → sum_of f l ≡ sum_to (λ p. f (at l p)) (length l)
unfolding sum_of sum_to
sum_list f [] = refl
sum_list f (b ∷ l) = rw (sum_front (λ p. f (at (b ∷ l) p)) (length l)) (ap (λ n. f b + n) (sum_list f l))

pub sound_table : (f : ℕ → Band) → ((p : ℕ) → p < 44 → Readys (f p)) → (i : ℕ) → Readys (at (table 44 f) i)
sound_table f h i =
    elim (dec_lt i 44) [
      | yes p ↦ subst⁻¹ Readys (get_d_table f 44 nobody i p) (h i p)
      | no p ↦ λ c. absurd (false≢true
          (ap (λ (b : Band). b.competes) (sym (get_or-eq_default (table 44 f) nobody {n = i} (omega (arith, p, length_from f 44 0)))) ∙ c))
    ]

-- the steps below a score, in the paper's numbers and raised
count_same : {z s : ℤ} {h k : ℕ} (n : ℕ) → n ≤ 9 → 288 ≤ h → Is z h 368 → Is s k 368 → steps_below s z n ≡ count_below k h n
unfolding steps_below count_below
count_same zero b r p q = refl
count_same {h = h} {k = k} (suc t) b r p q =
    rw (count_same t (omega arith) r p q, is_lt (is_same (h - 32 * t) 368 (is_sub p (is_pos (32 * t))) (omega arith)) q)

module _ (size : ℕ → ℕ) (height : ℕ → ℕ) (competes : ℕ → Bool) (budget : ℕ) where
  pub start_at : (p : ℕ) → p < 44 → at (begin size height competes budget).bands p ≡ fresh size height competes p
  unfolding begin
  start_at p h = get_d_table (fresh size height competes) 44 nobody p h

  pub start_left : (begin size height competes budget).left ≡ budget
  unfolding begin
  start_left = refl

  pub able_start : ((p : ℕ) → p < 44 → 288 ≤ height p) → Able (begin size height competes budget)
  unfolding begin fresh
  able_start room =
      record {
        all = length_from (fresh size height competes) 44 0;
        sound = sound_table (fresh size height competes) (λ p h t. record { below = omega arith; room = omega (arith, room p h) });
      }

  fresh_size : (p : ℕ) → (fresh size height competes p).size ≡ size p
  unfolding fresh
  fresh_size p = refl

  fresh_rate : (p : ℕ) → (fresh size height competes p).rate ≡ 0
  unfolding fresh
  fresh_rate p = refl

  fresh_competes : (p : ℕ) → (fresh size height competes p).competes ≡ competes p
  unfolding fresh
  fresh_competes p = refl

  fresh_start : (p : ℕ) → (fresh size height competes p).score + 32 * (fresh size height competes p).rate ≡ height p
  unfolding fresh
  fresh_start p = omega arith

bits_none : (b : Band) → b.rate ≡ 0 → bits b ≡ 0
unfolding bits
bits_none b e = rw e (zero-mul b.size)

spent_none : (s : ℕ) (b : Band) → b.rate ≡ 0 → spent s b ≡ 0
unfolding spent count_below
spent_none s b e = ap (λ (r : ℕ). b.size * count_below s (b.score + 32 * b.rate) r) e ∙ mul-zero b.size

module _ (size : ℕ → ℕ) (score : ℕ → ℤ) (competes : ℕ → Bool) (budget : ℕ) (height : ℕ → ℕ) (hs : Heights score height) where
  start : Game
  start = begin size height competes budget

  end : Game
  end = contest 396 start

  able : Able start
  unfolding start
  able = able_start size height competes budget hs.room

  lengths : length end.bands ≡ 44
  unfolding end
  lengths = (able_end 396 start able).all

  pub played_is : played size score competes budget ≡ lowered (contest 396 (begin size height competes budget))
  unfolding played start
  played_is = ap (Z.contest 396) (begin_same size score competes budget height hs) ∙ contest_same 396 (begin size height competes budget) able

  pub rate_is : (p : ℕ) → p < 44 → nth (rates (played size score competes budget)) p ≡ (at (contest 396 (begin size height competes budget)).bands p).rate
  unfolding rates
  rate_is p h =
      get_d_table (λ p. (Z.at (played size score competes budget).bands p).rate) 44 0 p h ∙ ap (λ (g : Z.Game). (Z.at g.bands p).rate) played_is
      ∙ rate_same (contest 396 (begin size height competes budget)) p

  pub left_is : (played size score competes budget).left ≡ (contest 396 (begin size height competes budget)).left
  left_is = ap (λ (g : Z.Game). g.left) played_is ∙ left_same (contest 396 (begin size height competes budget))

  -- at the end none competes
  pub ended : (p : ℕ) → p < 44 → (Z.at (played size score competes budget).bands p).competes ≡ false
  unfolding start
  ended p h =
      ap (λ (g : Z.Game). (Z.at g.bands p).competes) played_is ∙ competes_same (contest 396 (begin size height competes budget)) p
      ∙ over (begin size height competes budget) able p (omega arith)

  module _ (p : ℕ) (h : p < 44) where
    begun : at start.bands p ≡ fresh size height competes p
    unfolding start
    begun = start_at size height competes budget p h

    rate_zero : (at start.bands p).rate ≡ 0
    rate_zero = ap (λ (b : Band). b.rate) begun ∙ fresh_rate size height competes budget p

    size_start : (at start.bands p).size ≡ size p
    size_start = ap (λ (b : Band). b.size) begun ∙ fresh_size size height competes budget p

    in_start : (at start.bands p).competes ≡ competes p
    in_start = ap (λ (b : Band). b.competes) begun ∙ fresh_competes size height competes budget p

    size_last : (at end.bands p).size ≡ size p
    unfolding end
    size_last = size_end 396 start p able ∙ size_start

    score_last : (at end.bands p).score + 32 * (at end.bands p).rate ≡ height p
    unfolding end
    score_last =
        start_end 396 start p able ∙ ap (λ (b : Band). b.score + 32 * b.rate) begun ∙ fresh_start size height competes budget p

    nine_last : (at end.bands p).rate ≤ 9
    unfolding end
    nine_last = nine_end 396 start p able (omega (arith, rate_zero))

    idle_last : competes p ≡ false → (at end.bands p).rate ≡ 0
    unfolding end
    idle_last c = ap (λ (b : Band). b.rate) (stays 396 start p (in_start ∙ c)) ∙ rate_zero

    rate_end : nth (rates (played size score competes budget)) p ≡ (at end.bands p).rate
    unfolding end start
    rate_end = rate_is p h

  given_start : given start ≡ 0
  unfolding given
  given_start =
      sum_list bits start.bands ∙ ap (sum_to (λ p. bits (at start.bands p))) able.all
      ∙ sum_none (λ p. bits (at start.bands p)) 44 (λ p h. bits_none (at start.bands p) (rate_zero p h))

  paid_start : (s : ℕ) → paid s start ≡ 0
  unfolding paid
  paid_start s =
      sum_list (spent s) start.bands ∙ ap (sum_to (λ p. spent s (at start.bands p))) able.all
      ∙ sum_none (λ p. spent s (at start.bands p)) 44 (λ p h. spent_none s (at start.bands p) (rate_zero p h))

  given_end : given end ≡ sum_to (λ p. nth (rates (played size score competes budget)) p * size p) 44
  unfolding given bits
  given_end =
      sum_list bits end.bands ∙ ap (sum_to (λ p. bits (at end.bands p))) lengths
      ∙ sum_same (λ p. bits (at end.bands p)) (λ p. nth (rates (played size score competes budget)) p * size p) 44
      (λ p h. rw (rate_end p h, size_last p h))

  -- the final score of the band p, in the paper's numbers and raised
  final_is : (p : ℕ) → p < 44 → Is (score p -ℤ pos (32 * nth (rates (played size score competes budget)) p)) (at end.bands p).score 368
  final_is p h =
      is_same _ _ (is_sub (hs.raised p h) (is_pos (32 * nth (rates (played size score competes budget)) p))) (omega (arith, rate_end p h, score_last p h))

  paid_end : (p : ℕ) (h : p < 44)
      → paid (at end.bands p).score end
      ≡ sum_to (λ j. size j * steps_below (score p -ℤ pos (32 * nth (rates (played size score competes budget)) p)) (score j)
      (nth (rates (played size score competes budget)) j)) 44
  unfolding paid spent
  paid_end p h =
      sum_list (spent (at end.bands p).score) end.bands ∙ ap (sum_to (λ j. spent (at end.bands p).score (at end.bands j))) lengths
      ∙ sum_same (λ j. spent (at end.bands p).score (at end.bands j)) _ 44
      (λ j b. rw (
        rate_end j b,
        count_same (at end.bands j).rate (nine_last j b) (hs.room j b) (hs.raised j b) (final_is p h),
        size_last j b,
        score_last j b,
      ))

  module _ (p : ℕ) (h : p < 44) (c : competes p ≡ true) (r : nth (rates (played size score competes budget)) p < 9) where
    both : (played size score competes budget).left + paid (at end.bands p).score end < size p
    unfolding end start
    both =
        omega (
          arith,
          fair 396 start p (omega arith) able (pot_start start able.all) (in_start p h ∙ c) (rw (rate_end p h) at r),
          left_is,
          paid_start (at end.bands p).score,
          size_start p h,
        )

  pub shared : Fair size score competes budget (nth (rates (played size score competes budget))) (played size score competes budget).left
  unfolding end start
  shared =
      record {
        nine = λ p h. rw (rate_end p h) (nine_last p h);
        idle = λ p h c. rate_end p h ∙ idle_last p h c;
        sum = omega (arith, adds_up 396 start able, given_start, given_end, left_is, start_left size height competes budget);
        short = λ p h c r. omega (arith, both p h c r);
        late = λ p h c r. omega (arith, both p h c r, paid_end p h);
      }
