-- Step t of a band, from 0, is granted at its starting score − 32 t. One induction over the rounds: the steps that a band had before a state and the
-- scores at which it is served from there on are together the steps that it ends with. So the cost of the steps below a score, which Fairness counts
-- from scores and rates alone, is the cost of those that the rounds granted. Assumes nothing.
use mathlib.Core.Path.{◌≡◌, refl, sym, ap, ap₂, ◌∙◌}
use mathlib.Core.Bool.{Bool, true, false, cond}
use mathlib.Core.List.{List, [], ◌∷◌, ◌++◌, append-nil, append_assoc}
use Prim.Native.Nat.{ℕ, zero, suc, ◌+◌, ◌*◌, ◌≤◌, ◌<◌}
use native.Mathlib.Nat.{mul-add, mul-zero, zero-add, add-zero}
use native.Mathlib.Numerals.{add-one}
use native.Mathlib.Omega.{arith}
use borrow.Author.Tests.{eq-eqb, ne_eqb, eqb-true, eqb-false}
use lib.Dec.{eqb, leb}
use lib.IntN.{ℤ, pos, negsuc, ◌-ℤ◌}
use lib.ListN.{length, length-set}
use lib.Seq.{get_or-set_same, get_or-set_other}
use lib.Signed.{lt_z}
use Rattle.ground.proofs.Laws.Cases.{by_bool}
use Rattle.ground.specs.ListsByRule.{from, table}
use Rattle.ground.proofs.Laws.ListsByRule.{get_d_table, length_from}
use Rattle.ground.specs.Sums.{nth, sum_to}
use Rattle.ground.proofs.Laws.Sums.{sum_same, sum_none, sum_but}
use Rattle.ground.specs.Differences.{Is}
use Rattle.ground.proofs.Laws.Differences.{is_pos, is_unique, is_same, is_sub}
use Rattle.contest.specs.Rounds.{Band, Game, nobody, at, leader, behind, granted, dropped, first, ahead, round, contest, begin, played, rates}
use Rattle.contest.specs.Grants.{Grant, grant_in, grants, granting, scores_to, cost_below}
use Rattle.contest.specs.Fairness.{steps_below}

-- ---- a round on one band
leader_le : (bands : List Band) (n : ℕ) → leader bands n ≤ n
unfolding leader
leader_le bands zero = omega arith
leader_le bands (suc n) =
    by_bool (behind (at bands (leader bands n)) (at bands (suc n))) (λ t. rw t (omega arith)) (λ t. rw t (omega (arith, leader_le bands n)))

first_lt : (g : Game) → first g < 44
unfolding first
first_lt g = omega (arith, leader_le g.bands 43)

-- what holds of the leader served, of the leader put out and of any other band left alone
round_part : (P : Band → List ℤ → Type 0) (g : Game) (j : ℕ) → length g.bands ≡ 44
    → (P (granted (at g.bands j)) ((at g.bands j).score ∷ [])) → (P (dropped (at g.bands j)) []) → (P (at g.bands j) [])
    → P (at (round g).bands j) (scores_to j (grant_in g))
unfolding round grant_in scores_to ahead
round_part P g j e y n o =
    by_bool (eqb (first g) j)
    (λ q. let i : first g ≡ j = eqb-true _ _ q in
    let h : j < length g.bands = omega (arith, first_lt g) in
    rw i (by_bool (leb (at g.bands j).size g.left)
    (λ t. rw (t, eq-eqb j j refl, get_or-set_same g.bands j (granted (at g.bands j)) nobody h) y)
    (λ t. rw (t, get_or-set_same g.bands j (dropped (at g.bands j)) nobody h) n)))
    (λ q. let i : first g ≡ j → ⊥ = eqb-false _ _ q in
    by_bool (leb (at g.bands (first g)).size g.left)
    (λ t. rw (t, q, get_or-set_other g.bands (first g) j (granted (at g.bands (first g))) nobody (λ z. i (sym z))) o)
    (λ t. rw (t, get_or-set_other g.bands (first g) j (dropped (at g.bands (first g))) nobody (λ z. i (sym z))) o))

length_round : (g : Game) → length g.bands ≡ 44 → length (round g).bands ≡ 44
unfolding round
length_round g e =
    by_bool (leb (ahead g).size g.left)
    (λ t. rw t (length-set g.bands (first g) (granted (ahead g)) ∙ e))
    (λ t. rw t (length-set g.bands (first g) (dropped (ahead g)) ∙ e))

-- ---- the steps of one band
scores_append : (j : ℕ) (l m : List Grant) → scores_to j (l ++ m) ≡ scores_to j l ++ scores_to j m
unfolding scores_to
scores_append j [] m = refl
scores_append j (a ∷ l) m =
    by_bool (eqb a.band j) (λ t. rw t (ap (λ (t : List ℤ). a.score ∷ t) (scores_append j l m))) (λ t. rw t (scores_append j l m))

table_more : {A : Type 0} (f : ℕ → A) (n i : ℕ) → from f (suc n) i ≡ from f n i ++ (f (i + n) ∷ [])
unfolding from
table_more f zero i = ap (λ (k : ℕ). f k ∷ []) (sym (add-zero i))
table_more f (suc n) i =
    ap (λ (l : List _). f i ∷ l) (table_more f n (suc i) ∙ ap (λ (k : ℕ). from f n (suc i) ++ (f k ∷ [])) (omega arith))

-- a score after r steps, and after one more
step : ℤ → ℕ → ℤ
step s t = s -ℤ pos (32 * t)

module _ {s : ℤ} {a b : ℕ} (p : Is s a b) where
  none_fallen : s ≡ step s 0
  unfolding step
  none_fallen = is_unique p (is_same _ _ (is_sub p (is_pos 0)) (omega arith))

  fallen : (r : ℕ) → step s r -ℤ pos 32 ≡ step s (suc r)
  unfolding step
  fallen r = is_unique (is_sub (is_sub p (is_pos (32 * r))) (is_pos 32)) (is_same _ _ (is_sub p (is_pos (32 * suc r))) (omega arith))

none : (s : ℤ) → s ≡ step s 0
none (pos n) = none_fallen (is_pos n)
none (negsuc n) = none_fallen {a = 0} {b = suc n} (omega arith)

falls : (s : ℤ) (r : ℕ) → step s r -ℤ pos 32 ≡ step s (suc r)
falls (pos n) = fallen (is_pos n)
falls (negsuc n) = fallen {a = 0} {b = suc n} (omega arith)

-- a band that started at s stands at the score of its rate, and r steps with those granted in between are the steps of its rate
abbrev Stands : ℤ → ℕ → Band → List ℤ → Type 0
Stands s r b l = (b.score ≡ step s b.rate) × (table r (step s) ++ l ≡ table b.rate (step s))

module _ (s : ℤ) (b : Band) (e : b.score ≡ step s b.rate) where
  stands_granted : Stands s b.rate (granted b) (b.score ∷ [])
  unfolding granted
  stands_granted =
      rw add-one (
        ap (λ (z : ℤ). z -ℤ pos 32) e ∙ falls s b.rate,
        ap (λ (z : ℤ). table b.rate (step s) ++ (z ∷ [])) (e ∙ ap (step s) (omega arith)) ∙ sym (table_more (step s) b.rate 0),
      )

  stands_dropped : Stands s b.rate (dropped b) []
  unfolding dropped
  stands_dropped = (e, append-nil _)

  stands_still : Stands s b.rate b []
  stands_still = (e, append-nil _)

on : (n : ℕ) (g : Game) → (ahead g).competes ≡ true → (contest (suc n) g ≡ contest n (round g)) × (grants (suc n) g ≡ grant_in g ++ grants n (round g))
unfolding contest grants
on n g t = (rw (t, contest), rw (t, grants))

over : (n : ℕ) (g : Game) → (ahead g).competes ≡ false → (contest n g ≡ g) × (grants n g ≡ [])
unfolding contest grants
over zero g t = (refl, refl)
over (suc n) g t = (rw (t, contest), rw (t, grants))

steps_from : (s : ℤ) (n : ℕ) (g : Game) (j : ℕ) → length g.bands ≡ 44 → (at g.bands j).score ≡ step s (at g.bands j).rate
    → table (at g.bands j).rate (step s) ++ scores_to j (grants n g) ≡ table (at (contest n g).bands j).rate (step s)
unfolding contest grants scores_to
steps_from s zero g j l e = append-nil _
steps_from s (suc n) g j l e =
    let b = at g.bands j in
    by_bool (ahead g).competes
    (λ t.
    let p : Stands s b.rate (at (round g).bands j) (scores_to j (grant_in g)) =
    round_part (Stands s b.rate) g j l (stands_granted s b e) (stands_dropped s b e) (stands_still s b e) in
    rw ((on n g t).0, (on n g t).1, scores_append j (grant_in g) (grants n (round g)))
    (sym (append_assoc (table b.rate (step s)) (scores_to j (grant_in g)) (scores_to j (grants n (round g))))
    ∙ ap (λ (x : List ℤ). x ++ scores_to j (grants n (round g))) p.1 ∙ steps_from s n (round g) j (length_round g l) p.0))
    (λ t. rw ((over (suc n) g t).0, (over (suc n) g t).1) (append-nil _))

-- ---- the whole contest
no_steps : (f : ℕ → ℤ) (l : List ℤ) → l ≡ table 0 f ++ l
unfolding from
no_steps f l = refl

module _ (size : ℕ → ℕ) (score : ℕ → ℤ) (competes : ℕ → Bool) (budget : ℕ) where
  fresh : ℕ → Band
  fresh p = record { size = size p; score = score p; rate = 0; competes = competes p }

  start_at : (j : ℕ) → j < 44 → at (begin size score competes budget).bands j ≡ fresh j
  unfolding begin fresh
  start_at j h = get_d_table fresh 44 nobody j h

  start_length : length (begin size score competes budget).bands ≡ 44
  unfolding begin fresh
  start_length = length_from fresh 44 0

  -- the scores at which band j is served are its starting score and 32 less for each step that it has already
  pub steps : (j : ℕ) → j < 44
      → scores_to j (granting size score competes budget) ≡ table (nth (rates (played size score competes budget)) j) (λ t. score j -ℤ pos (32 * t))
  unfolding step granting played rates fresh
  steps j h =
      let start = begin size score competes budget in
      let r : (at start.bands j).rate ≡ 0 = ap (λ (x : Band). x.rate) (start_at j h) in
      let z : (at start.bands j).score ≡ step (score j) (at start.bands j).rate =
      ap (λ (x : Band). x.score) (start_at j h) ∙ none (score j) ∙ ap (step (score j)) (sym r) in
      no_steps (step (score j)) (scores_to j (grants 396 start))
      ∙ ap (λ (n : ℕ). table n (step (score j)) ++ scores_to j (grants 396 start)) (sym r)
      ∙ steps_from (score j) 396 start j start_length z
      ∙ ap (λ (n : ℕ). table n (step (score j))) (sym (get_d_table (λ p. (at (contest 396 start).bands p).rate) 44 0 j h))

-- ---- what the steps below a score cost

-- how many of some scores are below s
unfoldable below : ℤ → List ℤ → ℕ
below s [] = 0
below s (z ∷ l) = cond (lt_z z s) 1 0 + below s l

below_append : (s : ℤ) (l m : List ℤ) → below s (l ++ m) ≡ below s l + below s m
unfolding below
below_append s [] m = omega arith
below_append s (z ∷ l) m = omega (arith, below_append s l m)

below_one : (s z : ℤ) → below s (z ∷ []) ≡ cond (lt_z z s) 1 0
unfolding below
below_one s z = omega arith

below_steps : (s z : ℤ) (n : ℕ) → below s (table n (step z)) ≡ steps_below s z n
unfolding steps_below below from step
below_steps s z zero = refl
below_steps s z (suc n) =
    ap (below s) (table_more (step z) n 0) ∙ below_append s (table n (step z)) (step z (0 + n) ∷ [])
    ∙ ap₂ ◌+◌ (below_steps s z n) (ap (λ (k : ℕ). below s (step z k ∷ [])) (zero-add n) ∙ below_one s (step z n))

-- grants to the 44 bands
data Within : List Grant → Type 0 where
  nothing : Within []
  another : {a : Grant} {l : List Grant} → a.band < 44 → Within l → Within (a ∷ l)

within : (n : ℕ) (g : Game) → Within (grants n g)
unfolding grants grant_in
within zero g = nothing
within (suc n) g =
    by_bool (ahead g).competes
    (λ t. rw (on n g t).1 (by_bool (leb (ahead g).size g.left) (λ u. rw u (another (first_lt g) (within n (round g)))) (λ u. rw u (within n (round g)))))
    (λ t. rw (over (suc n) g t).1 nothing)

-- one grant more to a band of this length, whose steps below s were k
one_more : (size k : ℕ) (b : Bool) → size * (cond b 1 0 + k) ≡ cond b size 0 + size * k
one_more size k true = omega (arith, mul-add size 1 k)
one_more size k false = omega (arith, mul-add size 0 k)

cost_bands : (size : ℕ → ℕ) (s : ℤ) {l : List Grant} → Within l → cost_below size s l ≡ sum_to (λ j. size j * below s (scores_to j l)) 44
unfolding cost_below below scores_to
cost_bands size s nothing = sym (sum_none _ 44 (λ j h. mul-zero (size j)))
cost_bands size s (another {a = a} {l = l} h w) =
    let before : ℕ → ℕ = λ j. size j * below s (scores_to j l) in
    let after : ℕ → ℕ = λ j. size j * below s (scores_to j (a ∷ l)) in
    let here : after a.band ≡ cond (lt_z a.score s) (size a.band) 0 + before a.band =
    rw (eq-eqb a.band a.band refl) (one_more (size a.band) (below s (scores_to a.band l)) (lt_z a.score s)) in
    omega (arith, cost_bands size s w, sum_but after before a.band 44 h (λ j _ n. rw (ne_eqb a.band j (λ e. n (sym e)))), here)

-- what the rounds granted below s costs what Fairness counts from the starting scores and the rates
pub cost_counted : (size : ℕ → ℕ) (score : ℕ → ℤ) (competes : ℕ → Bool) (budget : ℕ) (s : ℤ)
    → cost_below size s (granting size score competes budget)
    ≡ sum_to (λ j. size j * steps_below s (score j) (nth (rates (played size score competes budget)) j)) 44
unfolding granting step
cost_counted size score competes budget s =
    cost_bands size s (within 396 (begin size score competes budget))
    ∙ sum_same _ _ 44
    (λ j h. ap (λ (l : List ℤ). size j * below s l) (steps size score competes budget j h) ∙ ap (λ (k : ℕ). size j * k) (below_steps s (score j) _))
