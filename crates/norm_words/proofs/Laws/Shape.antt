-- The shape is the table: each of the 32 words both ways, by one computed test; and from it what some seven bits begin with, how a number is spelt, and
-- how many bits a step has.
-- Assumes nothing.
use mathlib.Core.Path.{◌≡◌, refl, sym, ap, ap₂, ◌∙◌}
use mathlib.Core.Bool.{Bool, ◌&&◌}
use mathlib.Core.List.{List, [], ◌++◌}
use Prim.Native.Nat.{ℕ, ◌+◌, ◌-◌, ◌*◌, ◌≤◌, ◌<◌}
use native.Mathlib.Omega.{arith}
use lib.Dec.{T, eqb, ltb, leb, eqb→eq}
use lib.ListN.{length, get_or, take, length-append, get_or-eq_default}
use lib.Seq.{take-append_seam}
use borrow.Author.Tests.{lt-ltb, le-ltb, ltb-true, ltb-false, leb-true, leb-false}
use Rattle.ground.proofs.Laws.Cases.{and_T, by_bool}
use Rattle.ground.proofs.Laws.PrintedTables.{every, every_at}
use Rattle.bits.specs.Bits.{word, val}
use Rattle.bits.proofs.Laws.NumbersAsBits.{word_val}
use Rattle.bits.specs.Codings.{prefix, unword, word_of, find, strip}
use Rattle.bits.proofs.Laws.Codings.{prefix_free, apart, apart_all, word_unword}
use Rattle.bits.proofs.Laws.NeverRefused.{NeverRefused, any_bits, any_at, found, never_refused_tested}
use Rattle.norm_words.specs.Table16.{table16}
use Rattle.norm_words.specs.Shape.{word_in, middle, more_bits, seven_of, spelling, step_size, beyond}
use Rattle.norm_words.specs.declared.Spelling.{Spelling}

-- no word begins another
pub free16 : T (prefix_free (table16 ++ []))
unfolding table16 prefix_free apart apart_all word
free16 = tt

-- whatever seven bits begin with a word
complete16 : T (any_bits 7 (λ w. found (unword (prefix table16 []) w)))
unfolding any_bits unword find strip table16 word
complete16 = tt

pub sure16 : NeverRefused 7 (prefix table16 [])
sure16 = never_refused_tested 7 (prefix table16 []) free16 complete16

pub long16 : length table16 ≡ 32
unfolding table16
long16 = refl

-- ---- the test

-- number v is spelt as the word w
spells : ℕ → List Bool → Bool
spells v w = eqb (spelling v).bits (length w) && eqb (spelling v).value (val w)

-- the word found at w, with the bits u after it, is w, and its number v
reads : ℕ → List Bool → List Bool → Bool
reads v w u = eqb (word_in (val (w ++ u))).number v && eqb (word_in (val (w ++ u))).bits (length w)

both_ways : ℕ → List Bool → Bool
both_ways v w = spells v w && any_bits (7 - length w) (reads v w)

shape_tested : T (every both_ways 0 table16)
unfolding both_ways spells reads word_in spelling middle more_bits seven_of any_bits table16 word val
shape_tested = tt

-- ---- the law

pub record BothWays (v : ℕ) (w : List Bool) : Type 0 where
  pub bits : (spelling v).bits ≡ length w
  pub value : (spelling v).value ≡ val w
  pub number : (u : List Bool) → length u ≡ 7 - length w → (word_in (val (w ++ u))).number ≡ v
  pub ends : (u : List Bool) → length u ≡ 7 - length w → (word_in (val (w ++ u))).bits ≡ length w

-- the shape is the table: each number is spelt as its word, and the word, whatever follows it, is found
pub shape_is_table : (v : ℕ) → v < 32 → BothWays v (get_or table16 v [])
unfolding both_ways spells reads
shape_is_table v h =
    let w = get_or table16 v [] in
    let t = and_T (spells v w) (any_bits (7 - length w) (reads v w)) (every_at both_ways table16 [] shape_tested v (omega (arith, long16))) in
    let s = and_T (eqb (spelling v).bits (length w)) (eqb (spelling v).value (val w)) t.0 in
    let r : (u : List Bool) → length u ≡ 7 - length w → T (eqb (word_in (val (w ++ u))).number v) × T (eqb (word_in (val (w ++ u))).bits (length w)) =
    λ u l. and_T (eqb (word_in (val (w ++ u))).number v) (eqb (word_in (val (w ++ u))).bits (length w)) (any_at (7 - length w) (reads v w) u l t.1) in
    record {
      bits = eqb→eq (spelling v).bits (length w) s.0;
      value = eqb→eq (spelling v).value (val w) s.1;
      number = λ u l. eqb→eq (word_in (val (w ++ u))).number v (r u l).0;
      ends = λ u l. eqb→eq (word_in (val (w ++ u))).bits (length w) (r u l).1;
    }

-- ---- reading: seven bits begin with the word that is found

pub record Begins (b : List Bool) (v n : ℕ) : Type 0 where
  pub inside : v < 32
  pub few : n ≤ 7
  pub word : get_or table16 v [] ≡ take n b

pub shape_reads : (b : List Bool) → length b ≡ 7 → Begins b (word_in (val b)).number (word_in (val b)).bits
unfolding word_of
shape_reads b l =
    let (v, r, e, m) = sure16 b (omega arith) in
    let (q, f) = word_unword (prefix table16 []) b v r e in
    let w = get_or table16 v [] in
    let n : length b ≡ length w + length r = ap length q ∙ length-append w r in
    let B = shape_is_table v (omega (arith, long16)) in
    let o : length r ≡ 7 - length w = omega arith in
    let ev : (word_in (val b)).number ≡ v = ap (λ (x : List Bool). (word_in (val x)).number) q ∙ B.number r o in
    let en : (word_in (val b)).bits ≡ length w = ap (λ (x : List Bool). (word_in (val x)).bits) q ∙ B.ends r o in
    record {
      inside = omega (arith, long16);
      few = omega arith;
      word =
          ap (λ (k : ℕ). get_or table16 k []) ev ∙ sym (take-append_seam w r) ∙ ap (take (length w)) (sym q)
          ∙ ap (λ (k : ℕ). take k b) (sym en);
    }

-- ---- writing: a number is spelt as its word, and from 32 on there is none

pub shape_writes : (v : ℕ) → word (spelling v).bits (spelling v).value ≡ get_or table16 v []
unfolding spelling word
shape_writes v =
    by_bool (ltb v 32)
    (λ e. let B = shape_is_table v (ltb-true v 32 e) in ap₂ word B.bits B.value ∙ word_val (get_or table16 v []))
    (λ e. let h = ltb-false v 32 e in
    let n : spelling v ≡ record { bits = 0; value = 0 } = rw (lt-ltb 31 v h) in
    ap (λ (s : Spelling). word s.bits s.value) n ∙ sym (get_or-eq_default table16 [] (omega (arith, long16))))

-- ---- counting: the word of a step has three bits, and more the further its number is from the middle

-- the word of 0 has seven bits
first_seven : length (get_or table16 0 []) ≡ 7
unfolding table16 word
first_seven = refl

module _ (x y : ℕ) where
  -- a step is close exactly when its number is at most 15 from the middle
  pub step_close : step_size x y ≤ 15 → (x ≤ y + 15) × (y ≤ x + 16)
  unfolding step_size
  step_close h =
      by_bool (ltb x y)
      (λ e. let l = ltb-true x y e in let q : y - x - 1 ≤ 15 = rw e at h in (omega arith, omega arith))
      (λ e. let l = ltb-false x y e in let q : x - y ≤ 15 = rw e at h in (omega arith, omega arith))

  pub step_far : 15 < step_size x y → x ≤ y + 15 → x + 16 < y
  unfolding step_size
  step_far h a =
      by_bool (ltb x y)
      (λ e. let l = ltb-true x y e in let q : 15 < y - x - 1 = rw e at h in omega arith)
      (λ e. let l = ltb-false x y e in let q : 15 < x - y = rw e at h in absurd (omega arith))

  -- the number of a close step is as far from the middle as the step says
  step_middle : step_size x y ≤ 15 → middle (y + 15 - x) ≡ step_size x y
  unfolding step_size middle
  step_middle h =
      by_bool (ltb x y)
      (λ e. let l = ltb-true x y e in rw (e, le-ltb (y + 15 - x) 16 (omega arith)) (omega arith))
      (λ e. let l = ltb-false x y e in let q : x - y ≤ 15 = rw e at h in rw (e, lt-ltb (y + 15 - x) 16 (omega arith)) (omega arith))

  -- what any step too far has: seven bits if it goes down, as the step to 0 has, none if it goes up
  far_more : 15 < step_size x y → more_bits (step_size x y) ≡ 4
  unfolding more_bits
  far_more h = rw (le-ltb (step_size x y) 2 (omega arith), le-ltb (step_size x y) 4 (omega arith), le-ltb (step_size x y) 8 (omega arith))

  too_high : 15 < step_size x y → x < y → length (get_or table16 (y + 15 - x) []) + 7 * beyond x y ≡ 3 + more_bits (step_size x y)
  unfolding step_size beyond
  too_high h l =
      let q : 15 < y - x - 1 = rw (lt-ltb x y l) at h in
      let one : beyond x y ≡ 1 = rw (lt-ltb x y l, le-ltb (y - x) 17 (omega arith)) in
      omega (arith, one, far_more h, ap length (get_or-eq_default table16 [] {n = y + 15 - x} (omega (arith, long16))))

  too_low : 15 < step_size x y → y ≤ x → length (get_or table16 (y + 15 - x) []) + 7 * beyond x y ≡ 3 + more_bits (step_size x y)
  unfolding step_size beyond
  too_low h l =
      let q : 15 < x - y = rw (le-ltb x y l) at h in
      let none : beyond x y ≡ 0 = rw (le-ltb x y l) in
      let z : y + 15 - x ≡ 0 = omega arith in
      omega (arith, none, far_more h, ap (λ (v : ℕ). length (get_or table16 v [])) z, first_seven)

  near_beyond : step_size x y ≤ 15 → beyond x y ≡ 0
  unfolding step_size beyond
  near_beyond h =
      by_bool (ltb x y)
      (λ e. let l = ltb-true x y e in let q : y - x - 1 ≤ 15 = rw e at h in rw (e, lt-ltb (y - x) 17 (omega arith)))
      (λ e. rw e)

  pub step_bits : step_size x y ≤ 15 → 3 + more_bits (step_size x y) ≡ length (get_or table16 (y + 15 - x) [])
  unfolding spelling
  step_bits h =
      let v = y + 15 - x in
      let c = step_close h in
      let l : v < 32 = omega (arith, c.0, c.1) in
      let n : (spelling v).bits ≡ 3 + more_bits (middle v) = rw (le-ltb 31 v (omega arith)) in
      ap (λ (k : ℕ). 3 + more_bits k) (sym (step_middle h)) ∙ sym n ∙ (shape_is_table v l).bits

  -- of any step: a number under 0 counts as 0, and one over 31 has no word
  pub any_bits_lem : length (get_or table16 (y + 15 - x) []) + 7 * beyond x y ≡ 3 + more_bits (step_size x y)
  any_bits_lem =
      by_bool (leb (step_size x y) 15)
      (λ e. let h = leb-true (step_size x y) 15 e in omega (arith, step_bits h, near_beyond h))
      (λ e. let h = leb-false (step_size x y) 15 e in
      by_bool (ltb x y) (λ f. too_high h (ltb-true x y f)) (λ f. too_low h (ltb-false x y f)))
