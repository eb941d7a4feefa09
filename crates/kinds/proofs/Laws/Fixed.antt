-- The codes of a frame with FlagC 0 (01, Coefficient codes): fixed codes alone, and together as many bits as the bands' rates times their lengths.
-- Assumes nothing.
use mathlib.Core.Path.{◌≡◌, refl, sym, ap, ◌∙◌}
use mathlib.Core.Bool.{false}
use mathlib.Core.List.{List}
use Prim.Native.Nat.{ℕ, zero, suc, ◌+◌, ◌*◌, ◌%◌, ◌≤◌, ◌<◌}
use native.Mathlib.Nat.{mul-add}
use native.Mathlib.Omega.{arith}
use lib.Dec.{ltb, eqb}
use lib.ListN.{get_or}
use borrow.Author.Tests.{eqb-true, eqb-false, lt-ltb, le-ltb, ltb-true, ltb-false}
use Rattle.ground.proofs.Laws.Cases.{by_bool}
use Rattle.ground.proofs.Laws.ListsByRule.{get_d_table}
use Rattle.ground.proofs.Laws.ListsByRule.{everywhere}
use Rattle.ground.specs.Sums.{nth, sum_to}
use Rattle.ground.proofs.Laws.Sums.{sum_front, sum_same, sum_none, sum_add, sum_blocks, sum_of, sum_table}
use Rattle.contest.specs.Bands.{length_of}
use Rattle.kinds.specs.Kinds.{band_of, kind_of, kinds}
use Rattle.kinds.proofs.Laws.Kinds.{length_kinds, band_8, band_16, band_24, band_32, kind_first, kind_none, kind_plain}

-- ---- the bits of one band

-- eight places: one 8-bit index at rate 1, otherwise eight codes of the rate's bits
eight_places : (r a : ℕ) → a % 8 ≡ 0 → sum_to (λ j. kind_of false r (a + j)) 8 ≡ r * 8
unfolding sum_to
eight_places r a m =
    by_bool (eqb r 1)
    (λ t.
    let one = eqb-true r 1 t in
    let none = sum_none (λ j. kind_of false r (a + suc j)) 7 (λ j h. sym (kind_none false r (a + suc j) one (λ z. omega arith))) in
    omega (arith, sum_front (λ j. kind_of false r (a + j)) 7, none, kind_first false r (a + 0) one (omega arith)))
    (λ t. sum_same (λ j. kind_of false r (a + j)) (λ j. r) 8 (λ j h. sym (kind_plain false r (a + j) (eqb-false r 1 t) refl)) ∙ omega arith)

places : (r a m : ℕ) → a % 8 ≡ 0 → sum_to (λ j. kind_of false r (a + j)) (m * 8) ≡ r * (m * 8)
unfolding sum_to
places r a zero h = omega arith
places r a (suc m) h =
    let n : suc m * 8 ≡ m * 8 + 8 = omega arith in
    let last : sum_to (λ j. kind_of false r (a + (m * 8 + j))) 8 ≡ r * 8 =
    sum_same (λ j. kind_of false r (a + (m * 8 + j))) (λ j. kind_of false r (a + m * 8 + j)) 8
    (λ j l. let e : a + (m * 8 + j) ≡ a + m * 8 + j = omega arith in ap (kind_of false r) e)
    ∙ eight_places r (a + m * 8) (omega arith) in
    ap (sum_to (λ j. kind_of false r (a + j))) n ∙ sum_add (λ j. kind_of false r (a + j)) (m * 8) 8
    ∙ omega (arith, places r a m h, last, mul-add r (m * 8) 8, ap (λ (k : ℕ). r * k) n)

-- ---- all 44 bands

length_8 : (p : ℕ) → p < 16 → length_of p ≡ 8
unfolding length_of
length_8 p h = rw (lt-ltb p 16 h)

length_16 : (p : ℕ) → p < 8 → length_of (16 + p) ≡ 16
unfolding length_of
length_16 p h = rw (le-ltb (16 + p) 16 (omega arith), lt-ltb (16 + p) 24 (omega arith))

length_24 : (p : ℕ) → p < 12 → length_of (24 + p) ≡ 24
unfolding length_of
length_24 p h = rw (le-ltb (24 + p) 16 (omega arith), le-ltb (24 + p) 24 (omega arith), lt-ltb (24 + p) 36 (omega arith))

length_32 : (p : ℕ) → length_of (36 + p) ≡ 32
unfolding length_of
length_32 p = rw (le-ltb (36 + p) 16 (omega arith), le-ltb (36 + p) 24 (omega arith), le-ltb (36 + p) 36 (omega arith))

module _ (rate : ℕ → ℕ) where
  abbrev width : ℕ → ℕ
  width i = kind_of false (rate (band_of i)) i

  abbrev cost : ℕ → ℕ
  cost p = rate p * length_of p

  one_band : (p a m : ℕ) → a % 8 ≡ 0 → length_of p ≡ m * 8 → ((j : ℕ) → j < m * 8 → band_of (a + j) ≡ p) → sum_to (λ j. width (a + j)) (m * 8) ≡ cost p
  one_band p a m h l b =
      sum_same (λ j. width (a + j)) (λ j. kind_of false (rate p) (a + j)) (m * 8) (λ j k. ap (λ (q : ℕ). kind_of false (rate q) (a + j)) (b j k))
      ∙ places (rate p) a m h ∙ ap (λ (n : ℕ). rate p * n) (sym l)

  upto_128 : sum_to width 128 ≡ sum_to cost 16
  unfolding sum_to
  upto_128 =
      sum_blocks width cost 8 0 0 16
      (λ p h. one_band (0 + p) (0 + p * 8) 1 (omega arith) (length_8 (0 + p) (omega arith)) (λ j k. sym (band_8 (0 + p * 8 + j) (omega arith)) ∙ omega arith))
      refl

  upto_256 : sum_to width 256 ≡ sum_to cost 24
  upto_256 =
      sum_blocks width cost 16 128 16 8
      (λ p h. one_band (16 + p) (128 + p * 16) 2 (omega arith) (length_16 p h) (λ j k. sym (band_16 (128 + p * 16 + j) (omega arith) (omega arith))
      ∙ omega arith))
      upto_128

  upto_544 : sum_to width 544 ≡ sum_to cost 36
  upto_544 =
      sum_blocks width cost 24 256 24 12
      (λ p h. one_band (24 + p) (256 + p * 24) 3 (omega arith) (length_24 p h) (λ j k. sym (band_24 (256 + p * 24 + j) (omega arith) (omega arith))
      ∙ omega arith))
      upto_256

  -- whatever the rates
  pub widths : sum_to (λ i. kind_of false (rate (band_of i)) i) 800 ≡ sum_to (λ p. rate p * length_of p) 44
  widths =
      sum_blocks width cost 32 544 36 8
      (λ p h. one_band (36 + p) (544 + p * 32) 4 (omega arith) (length_32 p)
      (λ j k. sym (band_32 (544 + p * 32 + j) (omega arith) (omega arith)) ∙ omega arith))
      upto_544

-- ---- the kinds of the 800 places

pub kinds_sum : (rates : List ℕ) → sum_of (kinds false rates) ≡ sum_to (λ p. nth rates p * length_of p) 44
unfolding kinds
kinds_sum rates = sum_table (λ i. kind_of false (nth rates (band_of i)) i) 800 ∙ widths (nth rates)

band_lt : (i : ℕ) → i < 800 → band_of i < 44
band_lt i h =
    by_bool (ltb i 128) (λ t. omega (arith, ltb-true i 128 t, band_8 i (ltb-true i 128 t)))
    (λ t.
    by_bool (ltb i 256) (λ u. omega (arith, ltb-true i 256 u, band_16 i (ltb-false i 128 t) (ltb-true i 256 u)))
    (λ u.
    by_bool (ltb i 544) (λ v. omega (arith, ltb-true i 544 v, band_24 i (ltb-false i 256 u) (ltb-true i 544 v)))
    (λ v. omega (arith, band_32 i (ltb-false i 544 v) h))))

kind_small : (r i : ℕ) → r ≤ 9 → kind_of false r i ≤ 15
kind_small r i h =
    by_bool (eqb r 1)
    (λ t.
    let one = eqb-true r 1 t in
    by_bool (eqb (i % 8) 0) (λ u. omega (arith, kind_first false r i one (eqb-true (i % 8) 0 u)))
    (λ u. omega (arith, kind_none false r i one (eqb-false (i % 8) 0 u))))
    (λ t. omega (arith, kind_plain false r i (eqb-false r 1 t) refl))

-- rates to nine make no kind of a word
pub kinds_small : (rates : List ℕ) → ((p : ℕ) → p < 44 → nth rates p ≤ 9) → (i : ℕ) → get_or (kinds false rates) i 0 ≤ 15
unfolding kinds
kinds_small rates h =
    let f : ℕ → ℕ = λ i. kind_of false (nth rates (band_of i)) i in
    everywhere (kinds false rates) 800 15 (length_kinds false rates)
    (λ i b. rw (get_d_table f 800 0 i b) (kind_small (nth rates (band_of i)) i (h (band_of i) (band_lt i b))))
