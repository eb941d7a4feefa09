-- One turn of each loop of the code.
-- Assumes nothing.
use mathlib.Core.Bool.{Bool, cond, false, true}
use mathlib.Core.List.{List}
use mathlib.Core.Logic.{◌⊎◌, ⊎_elim}
use mathlib.Core.Path.{◌≡◌, refl, sym, ap, ◌∙◌}
use Prim.Native.Nat.{zero, suc, ◌%◌, ◌*◌, ◌+◌, ◌-◌, ◌<◌, ◌≤◌, ℕ, max}
use native.Mathlib.Nat.{mul-le-mul, zero-mul, not-suc-le-zero}
use native.Mathlib.Numerals.{add-one}
use native.Mathlib.Omega.{arith}
use borrow.Author.Tests.{eqb-true, eqb-false, le-leb, le-ltb, leb-false, leb-true, lt-leb, lt-ltb, ltb-false, ltb-true}
use lib.Dec.{leb, ltb, eqb}
use Rattle.ground.proofs.Laws.Cases.{by_bool}
use Rattle.ground.specs.ListsByRule.{from, table}
use Rattle.ground.proofs.Laws.ListsByRule.{get_d_table}
use Rattle.ground.specs.Sums.{nth}
use Rattle.ground.proofs.Laws.Sums.{sum_more, sum_nil, sum_none}
use Rattle.contest.specs.Bands.{length_of}
use Rattle.levels.specs.declared.TheConstants.{LENGTHS}
use Rattle.levels.specs.Inner.{bid, bid_at, bill, climb, part, highest, Keyed, Leading}

-- ---- the lengths
pub lengths_range : (p : ℕ) → (8 ≤ length_of p) × (length_of p ≤ 32)
unfolding length_of
lengths_range p = go (ltb p 16) (ltb p 24) (ltb p 36)
  where
    go : (a b c : Bool) → (8 ≤ cond a 8 (cond b 16 (cond c 24 32))) × (cond a 8 (cond b 16 (cond c 24 32)) ≤ 32)
    go true b c = (omega arith, omega arith)
    go false true c = (omega arith, omega arith)
    go false false true = (omega arith, omega arith)
    go false false false = (omega arith, omega arith)

-- the code's list computes to the same lengths
lengths_same : LENGTHS ≡ table 44 length_of
unfolding from length_of
lengths_same = refl

pub length_is : (p : ℕ) → p < 44 → nth LENGTHS p ≡ length_of p
length_is p h = ap (λ (l : List ℕ). nth l p) lengths_same ∙ get_d_table length_of 44 0 p h

-- ---- bids
module _ (key size rate left : ℕ) where
  bid_yes : size ≤ left → rate < 9 → bid key size rate left ≡ key - 2048 * rate
  unfolding bid
  bid_yes h k = rw (le-leb _ _ h, lt-ltb _ _ k)

  pub bid_made : {m r : ℕ} → size ≤ left → rate < 9 → m ≡ rate → r ≡ key - 2048 * m → r ≡ bid key size rate left
  bid_made h k em er = er ∙ ap (λ (n : ℕ). key - 2048 * n) em ∙ sym (bid_yes h k)

  bid_nine : 9 ≤ rate → bid key size rate left ≡ 0
  unfolding bid
  bid_nine h = rw (le-ltb _ _ h) (go (leb size left))
    where
      go : (b : Bool) → ◌≡◌ {A = ℕ} (cond b 0 0) 0
      go true = refl
      go false = refl

  pub bid_short : left < size → bid key size rate left ≡ 0
  unfolding bid
  bid_short h = rw (lt-leb _ _ h)

  pub bid_none : ((size ≤ left) × (9 ≤ rate)) ⊎ (left < size) → 0 ≡ bid key size rate left
  bid_none = ⊎_elim (λ h. sym (bid_nine h.1)) (λ h. sym (bid_short h))

-- a bid above 0 fits and is below nine
pub bid_pos : (key size rate left : ℕ) → 0 < bid key size rate left → (size ≤ left) × (rate < 9)
bid_pos key size rate left h =
    by_bool (leb size left)
    (λ t. by_bool (ltb rate 9)
    (λ u. (leb-true _ _ t, ltb-true _ _ u))
    (λ u. absurd (omega (arith, bid_nine key size rate left (ltb-false _ _ u)))))
    (λ t. absurd (omega (arith, bid_short key size rate left (leb-false _ _ t))))

-- the bid of the band i, from its length
pub bid_at_lem : (keys rates : List ℕ) (left i size r : ℕ) → size ≡ length_of i → r ≡ bid (nth keys i) size (nth rates i) left → r ≡ bid_at keys rates left i
bid_at_lem keys rates left i size r es er = er ∙ ap (λ (n : ℕ). bid (nth keys i) n (nth rates i) left) es

-- one more band is billed
pub bill_none : (keys : List ℕ) (level : ℕ) → bill keys level 0 ≡ 0
unfolding bill
bill_none keys level = sum_nil (part keys level)

pub bill_turn : (keys : List ℕ) (level i climbed size sum : ℕ) → climbed ≡ climb (nth keys i) level → size ≡ length_of i → sum ≡ bill keys level i
    → sum + climbed * size ≡ bill keys level (i + 1)
unfolding bill
bill_turn keys level i climbed size sum ec es f = rw (sum_more (part keys level) i, ec, es, f)

-- the highest bid, one band more
pub highest_none : (f : ℕ → ℕ) → highest f 0 ≡ 0
unfolding highest
highest_none f = refl

pub highest_more : (f : ℕ → ℕ) (i top b r : ℕ) → top ≡ highest f i → b ≡ f i → r ≡ max top b → r ≡ highest f (i + 1)
unfolding highest
highest_more f i top b r et eb er = rw (add-one i) (er ∙ simp (et, eb))

highest_ge : (f : ℕ → ℕ) (n p : ℕ) → p < n → f p ≤ highest f n
unfolding highest
highest_ge f zero p h = absurd (not-suc-le-zero h)
highest_ge f (suc n) p h =
    by_bool (eqb p n)
    (λ t. let e : p ≡ n = eqb-true _ _ t in rw e (omega arith))
    (λ t. omega (arith, highest_ge f n p (omega (arith, eqb-false p n t))))

-- a highest one above 0 is that of a band, whose place a rule reads off it
highest_at : (f : ℕ → ℕ) (rule : ℕ → ℕ) (n : ℕ) → ((p : ℕ) → p < n → 0 < f p → rule (f p) ≡ p) → 0 < highest f n
    → (rule (highest f n) < n) × (f (rule (highest f n)) ≡ highest f n)
unfolding highest
highest_at f rule zero r pos = absurd (not-suc-le-zero pos)
highest_at f rule (suc n) r pos =
    by_bool (ltb (highest f n) (f n))
    (λ t.
    let h = ltb-true (highest f n) (f n) t in
    let e : max (highest f n) (f n) ≡ f n = omega arith in
    let q : rule (f n) ≡ n = r n (omega arith) (omega arith) in
    rw (e, q) (omega arith, refl))
    (λ t.
    let h = ltb-false (highest f n) (f n) t in
    let e : max (highest f n) (f n) ≡ highest f n = omega arith in
    let i = highest_at f rule n (λ p b. r p (omega arith)) (rw e at pos) in
    rw e (omega (arith, i.0), i.1))

bid_low : (key size rate left m : ℕ) → 0 < bid key size rate left → (0 < key → key % 64 ≡ m) → bid key size rate left % 64 ≡ m
bid_low key size rate left m h k =
    let w = bid_pos key size rate left h in
    let e = bid_yes key size rate left w.0 w.1 in
    let h' : 0 < key - 2048 * rate = rw e at h in
    let k' : key % 64 ≡ m = k (omega arith) in
    rw e (omega arith)

-- a band adds at most 288 to the bill
pub bill_low : (i climbed size sum : ℕ) → climbed ≤ 9 → size ≤ 32 → sum ≤ 288 * i → sum + climbed * size ≤ 288 * (i + 1)
bill_low i climbed size sum k h l = omega (arith, mul-le-mul {n₁ = climbed} {m₁ = size} {n₂ = 9} {m₂ = 32} k h)

-- a bid has its band in its lowest six bits
module _ (keys rates : List ℕ) (left : ℕ) (k : Keyed keys) where
  pub best_zero : highest (bid_at keys rates left) 44 ≡ 0 → (p : ℕ) → p < 44 → bid_at keys rates left p ≡ 0
  best_zero e p h = omega (arith, highest_ge (bid_at keys rates left) 44 p h)

  named : (p : ℕ) → p < 44 → 0 < bid_at keys rates left p → 63 - bid_at keys rates left p % 64 ≡ p
  named p h b = omega (arith, bid_low (nth keys p) (length_of p) (nth rates p) left (63 - p) b (k p h))

-- the highest bid above 0 names the band that leads
pub leads_on : (keys rates : List ℕ) (left top : ℕ) → Keyed keys → top ≡ highest (bid_at keys rates left) 44 → 0 < top
    → Leading keys rates left (63 - top % 64)
leads_on keys rates left top k e pos =
    let w = highest_at (bid_at keys rates left) (λ n. 63 - n % 64) 44 (named keys rates left k) (rw e at pos) in
    rw e
    (record {
      inside = w.0;
      bids = omega (arith, w.1);
      high = λ p b. rw w.1 (highest_ge (bid_at keys rates left) 44 p b);
    })

-- it fits, and is below nine
pub leading_fits : (keys rates : List ℕ) (left q : ℕ) → Leading keys rates left q → (length_of q ≤ left) × (nth rates q < 9)
leading_fits keys rates left q w = bid_pos (nth keys q) (length_of q) (nth rates q) left w.bids

-- less than eight bits serve no one
pub none_short : (keys rates : List ℕ) (left : ℕ) → left < 8 → (p : ℕ) → p < 44 → bid_at keys rates left p ≡ 0
none_short keys rates left h p b = bid_short (nth keys p) (length_of p) (nth rates p) left (omega (arith, lengths_range p))

-- at the highest level nothing is billed
bill_top : (keys : List ℕ) → ((p : ℕ) → p < 44 → nth keys p ≤ 65535) → bill keys 65535 44 ≡ 0
unfolding bill
bill_top keys h = sum_none (part keys 65535) 44 (λ p b. free (nth keys p) (length_of p) (h p b))
  where
    free : (key size : ℕ) → key ≤ 65535 → climb key 65535 * size ≡ 0
    free key size k = let e : climb key 65535 ≡ 0 = omega arith in rw e (zero-mul size)

pub bill_paid : (keys : List ℕ) (budget : ℕ) → ((p : ℕ) → p < 44 → nth keys p ≤ 65535) → bill keys 65535 44 ≤ budget
bill_paid keys budget h = omega (arith, bill_top keys h)
