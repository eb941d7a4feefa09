-- The band of a place by the four lengths, the kind of a place by the tests, and the loop that fills eight places a turn.
-- Assumes nothing.
use mathlib.Core.Path.{◌≡◌, refl, sym, ap, ◌∙◌}
use mathlib.Core.Bool.{Bool, true, false, cond}
use mathlib.Core.List.{List, ◌++◌}
use Prim.Native.Nat.{ℕ, ◌+◌, ◌-◌, ◌/◌, ◌%◌, ◌≤◌, ◌<◌}
use native.Mathlib.Omega.{arith}
use lib.Dec.{ltb, eqb, eqb→eq}
use lib.ListN.{length, get_or, set, length-set, replicate, take, drop, length-append, get_or-append}
use borrow.Rule.Slice.PartMut.{put_mid}
use Rattle.std.proofs.Common.{get_or-set_same, get_or-set_other}
use Rattle.std.proofs.lemmas.List.{get_or-take, get_or-append_right, get_or-replicate, length-take-le, length-drop}
use borrow.Author.Tests.{lt-ltb, le-ltb, ltb-true, ltb-false, le-leb, lt-leb, eq-eqb, ne_eqb, eqb-true, eqb-false}
use Rattle.ground.proofs.Laws.Cases.{by_bool}
use Rattle.ground.proofs.Laws.ListsByRule.{length_from, filled}
use Rattle.ground.specs.Runs.{runs}
use Rattle.ground.proofs.Laws.PrintedTables.{every_at}
use Rattle.contest.specs.Bands.{length_of}
use Rattle.kinds.specs.Kinds.{place_bands, band_of, kind_of, kinds}

pub length_kinds : (flag_c : Bool) (rates : List ℕ) → length (kinds flag_c rates) ≡ 800
unfolding kinds
length_kinds flag_c rates = length_from (λ i. kind_of flag_c (get_or rates (band_of i) 0) i) 800 0

-- ---- the band of a place, by its four parts

band_by : ℕ → ℕ
band_by i =
    cond (ltb i 128) (i / 8)
    (cond (ltb i 256) (16 + (i - 128) / 16)
    (cond (ltb i 544) (24 + (i - 256) / 24)
    (36 + (i - 544) / 32)))

by_parts : ℕ → ℕ → Bool
by_parts i band = eqb band (band_by i)

-- one test over the 800 places
band_by_lem : (i : ℕ) → i < 800 → band_by i ≡ band_of i
unfolding band_of place_bands runs length_of by_parts band_by
band_by_lem i h = sym (eqb→eq (band_of i) (band_by i) (every_at by_parts place_bands 0 tt i h))

pub band_8 : (i : ℕ) → i < 128 → i / 8 ≡ band_of i
unfolding band_by
band_8 i h = rw (lt-ltb i 128 h) at (band_by_lem i (omega arith))

pub band_16 : (i : ℕ) → 128 ≤ i → i < 256 → 16 + (i - 128) / 16 ≡ band_of i
unfolding band_by
band_16 i p h = rw (le-ltb i 128 p, lt-ltb i 256 h) at (band_by_lem i (omega arith))

pub band_24 : (i : ℕ) → 256 ≤ i → i < 544 → 24 + (i - 256) / 24 ≡ band_of i
unfolding band_by
band_24 i p h = rw (le-ltb i 128 (omega arith), le-ltb i 256 p, lt-ltb i 544 h) at (band_by_lem i (omega arith))

pub band_32 : (i : ℕ) → 544 ≤ i → i < 800 → 36 + (i - 544) / 32 ≡ band_of i
unfolding band_by
band_32 i p h = rw (le-ltb i 128 (omega arith), le-ltb i 256 (omega arith), le-ltb i 544 p) at (band_by_lem i h)

-- what closes the code's tests of a place
pub ruleset by_place = (band_8, band_16, band_24, band_32)

-- ---- the kind of a place, by the tests

module _ (c : Bool) (rate i : ℕ) where
  pub kind_first : rate ≡ 1 → i % 8 ≡ 0 → 8 ≡ kind_of c rate i
  unfolding kind_of
  kind_first h m = rw (eq-eqb rate 1 h, eq-eqb (i % 8) 0 m)

  pub kind_none : rate ≡ 1 → (i % 8 ≡ 0 → ⊥) → 0 ≡ kind_of c rate i
  unfolding kind_of
  kind_none h m = rw (eq-eqb rate 1 h, ne_eqb (i % 8) 0 m)

  module _ (h : rate ≡ 1 → ⊥) where
    pub kind_word : c ≡ true → 2 ≤ rate → rate ≤ 5 → rate + 14 ≡ kind_of c rate i
    unfolding kind_of
    kind_word e l m = rw (ne_eqb rate 1 h, e, le-leb 2 rate l, le-leb rate 5 m)

    pub kind_high : c ≡ true → 2 ≤ rate → 5 < rate → rate ≡ kind_of c rate i
    unfolding kind_of
    kind_high e l m = rw (ne_eqb rate 1 h, e, le-leb 2 rate l, lt-leb rate 5 m)

    pub kind_low : c ≡ true → rate < 2 → rate ≡ kind_of c rate i
    unfolding kind_of
    kind_low e l = rw (ne_eqb rate 1 h, e, lt-leb 2 rate l)

    pub kind_plain : c ≡ false → rate ≡ kind_of c rate i
    unfolding kind_of
    kind_plain e = rw (ne_eqb rate 1 h, e)

-- what closes the code's tests of a rate
pub ruleset by_rate = (kind_first, kind_none, kind_word, kind_high, kind_low, kind_plain)

-- ---- eight places at a time: a group of eight lies in one band, and its places but the first are of one kind

pub band_group : (i k : ℕ) → i < 800 → i % 8 ≡ 0 → i ≤ k → k < i + 8 → band_of k ≡ band_of i
band_group i k n m l h =
    by_bool (ltb i 128)
    (λ a. let p = ltb-true i 128 a in sym (band_8 k (omega arith)) ∙ (let q : k / 8 ≡ i / 8 = omega arith in q) ∙ band_8 i p)
    (λ a.
    let p = ltb-false i 128 a in
    by_bool (ltb i 256)
    (λ b. let q = ltb-true i 256 b in sym (band_16 k (omega arith) (omega arith)) ∙ sixteen i k m l h p ∙ band_16 i p q)
    (λ b.
    let q = ltb-false i 256 b in
    by_bool (ltb i 544)
    (λ c. let r = ltb-true i 544 c in sym (band_24 k (omega arith) (omega arith)) ∙ twenty-four i k m l h q ∙ band_24 i q r)
    (λ c. let r = ltb-false i 544 c in sym (band_32 k (omega arith) (omega arith)) ∙ thirty_two i k m l h r ∙ band_32 i r n)))
  where
    sixteen : (i k : ℕ) → i % 8 ≡ 0 → i ≤ k → k < i + 8 → 128 ≤ i → 16 + (k - 128) / 16 ≡ 16 + (i - 128) / 16
    sixteen i k m l h p = omega arith

    twenty-four : (i k : ℕ) → i % 8 ≡ 0 → i ≤ k → k < i + 8 → 256 ≤ i → 24 + (k - 256) / 24 ≡ 24 + (i - 256) / 24
    twenty-four i k m l h p = omega arith

    thirty_two : (i k : ℕ) → i % 8 ≡ 0 → i ≤ k → k < i + 8 → 544 ≤ i → 36 + (k - 544) / 32 ≡ 36 + (i - 544) / 32
    thirty_two i k m l h p = omega arith

pub kind_group : (c : Bool) (rate i k : ℕ) → (i % 8 ≡ 0 → ⊥) → (k % 8 ≡ 0 → ⊥) → kind_of c rate i ≡ kind_of c rate k
unfolding kind_of
kind_group c rate i k m n = rw (ne_eqb (i % 8) 0 m, ne_eqb (k % 8) 0 n)

-- ---- eight places from i on that are overwritten by one number, and the first of them by another

abbrev overwritten : List ℕ → List ℕ → ℕ → ℕ → List ℕ
overwritten out ys i v = set (put_mid i (i + 8 - i) out ys) i v

module _ (out ys : List ℕ) (i v w : ℕ) (e : ys ≡ replicate 8 w) (b : i + 8 ≤ length out) where
  eight : length ys ≡ 8
  eight = ap length e

  front : length (take i out) ≡ i
  front = length-take-le i out (omega arith)

  length_mid : length (put_mid i (i + 8 - i) out ys) ≡ length out
  length_mid = simp (length-append, length-drop, eight, front) (omega arith)

  length_overwritten : length (overwritten out ys i v) ≡ length out
  length_overwritten = simp length-set length_mid

  overwritten_below : (k : ℕ) → k < i → get_or (overwritten out ys i v) k 0 ≡ get_or out k 0
  overwritten_below k h =
      get_or-set_other (put_mid i (i + 8 - i) out ys) i k v 0 (λ z. omega arith)
      ∙ get_or-append (take i out) (ys ++ drop (i + 8 - i) (drop i out)) 0 k (omega (arith, front)) ∙ get_or-take i out k 0 h

  overwritten_first : get_or (overwritten out ys i v) i 0 ≡ v
  overwritten_first = get_or-set_same (put_mid i (i + 8 - i) out ys) i v 0 (omega (arith, length_mid))

  overwritten_other : (k : ℕ) → i < k → k < i + 8 → get_or (overwritten out ys i v) k 0 ≡ w
  overwritten_other k g h =
      get_or-set_other (put_mid i (i + 8 - i) out ys) i k v 0 (λ z. omega arith)
      ∙ get_or-append_right (take i out) (ys ++ drop (i + 8 - i) (drop i out)) i k 0 front (omega arith)
      ∙ get_or-append ys (drop (i + 8 - i) (drop i out)) 0 (k - i) (omega (arith, eight))
      ∙ ap (λ (l : List ℕ). get_or l (k - i) 0) e ∙ get_or-replicate 8 (k - i) w 0 (omega arith)

-- ---- the loop that fills eight places a turn: those below i stand in out

pub record Filling (c : Bool) (rates out : List ℕ) (i : ℕ) : Type 0 where
  pub upto : i ≤ 800
  pub eights : i % 8 ≡ 0
  pub long : length out ≡ 800
  pub said : (k : ℕ) → k < i → get_or out k 0 ≡ kind_of c (get_or rates (band_of k) 0) k

module _ {c : Bool} {rates : List ℕ} where
  pub fill_start : Filling c rates (replicate 800 0) 0
  fill_start = record { upto = omega arith; eights = refl; long = refl; said = λ k h. absurd (omega arith) }

  module _ {out : List ℕ} {i : ℕ} (I : Filling c rates out i) where
    -- the rate of the band of place i is that of the seven after it
    pub fill_turn : {b v w j : ℕ} {ys : List ℕ} → i < 800 → j ≡ i + 8 → b ≡ band_of i → ys ≡ replicate (length (take (i + 8 - i) (drop i out))) w
        → v ≡ kind_of c (get_or rates b 0) i → w ≡ kind_of c (get_or rates b 0) (i + 1) → Filling c rates (overwritten out ys i v) j
    fill_turn {b} {v} {w} {j} {ys} h ej eb er ev ew =
        let m = I.eights in
        let o : i + 8 ≤ length out = omega (arith, m, I.long) in
        record {
          upto = omega (arith, m);
          eights = omega (arith, m);
          long = length_overwritten out ys i v w ey o ∙ I.long;
          said = λ k q. place k (omega arith);
        }
      where
        ey : ys ≡ replicate 8 w
        ey =
            let o : 8 ≤ length (drop i out) = omega (arith, length-drop i out, I.eights, I.long) in
            let n : i + 8 - i ≡ 8 = omega arith in
            er ∙ ap (λ (k : ℕ). replicate k w) (ap (λ (k : ℕ). length (take k (drop i out))) n ∙ length-take-le 8 (drop i out) o)

        place : (k : ℕ) → k < i + 8 → get_or (overwritten out ys i v) k 0 ≡ kind_of c (get_or rates (band_of k) 0) k
        place k q =
            let m = I.eights in
            let o : i + 8 ≤ length out = omega (arith, m, I.long) in
            let same : (k : ℕ) → i ≤ k → k < i + 8 → get_or rates b 0 ≡ get_or rates (band_of k) 0 =
            λ k p q. ap (λ (x : ℕ). get_or rates x 0) (eb ∙ sym (band_group i k h m p q)) in
            by_bool (ltb k i) (λ t. let l = ltb-true k i t in overwritten_below out ys i v w ey o k l ∙ I.said k l)
            (λ t.
            let l = ltb-false k i t in
            by_bool (eqb k i)
            (λ u.
            let z = eqb-true k i u in
            ap (λ (x : ℕ). get_or (overwritten out ys i v) x 0) z ∙ overwritten_first out ys i v w ey o ∙ ev
            ∙ ap (λ (x : ℕ). kind_of c x i) (same i (omega arith) (omega arith)) ∙ ap (λ (x : ℕ). kind_of c (get_or rates (band_of x) 0) x) (sym z))
            (λ u.
            let n = eqb-false k i u in
            overwritten_other out ys i v w ey o k (omega (arith, n)) q ∙ ew
            ∙ kind_group c (get_or rates b 0) (i + 1) k (λ z. omega (arith, m)) (λ z. omega (arith, m, n)) ∙ ap (λ (x : ℕ). kind_of c x k) (same k l q)))

    pub fill_end : 800 ≤ i → out ≡ kinds c rates
    unfolding kinds
    fill_end h = filled (λ (k : ℕ). kind_of c (get_or rates (band_of k) 0) k) 800 0 out I.long (λ k b. I.said k (omega arith))
