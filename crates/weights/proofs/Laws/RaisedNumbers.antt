-- The code's raised naturals are the paper's whole numbers: stage by stage each is its whole number plus 3,600, or, from (27) on, 3,600 less it.
-- Also that the divisions by H_b leave no rest. Assumes nothing.
use mathlib.Core.Path.{◌≡◌, refl, sym, ap, ◌∙◌, subst, subst⁻¹}
use mathlib.Core.Bool.{Bool, true, false, ◌&&◌}
use mathlib.Core.List.{List, [], ◌∷◌}
use Prim.Native.Nat.{ℕ, zero, suc, ◌+◌, ◌-◌, ◌*◌, ◌/◌, ◌≤◌, ◌<◌, max, min}
use native.Mathlib.Nat.{mul_comm, mul_assoc, mul-div_cancel_left, add-zero}
use native.Mathlib.Omega.{arith}
use borrow.Author.Tests.{lt-ltb, ltb-true, ltb-false, le-ltb}
use lib.Dec.{T, ltb, leb, eqb, eqb→eq, leb→le}
use lib.IntN.{ℤ, pos, negsuc, nat_abs, ◌-ℤ◌, ◌*ℤ◌}
use lib.Signed.{lt_z, shr_z}
use Rattle.ground.proofs.Laws.Cases.{by_bool, and_T}
use Rattle.ground.specs.ListsByRule.{table}
use Rattle.ground.proofs.Laws.ListsByRule.{get_d_table}
use Rattle.ground.proofs.Laws.ListsByRule.{table_same}
use Rattle.ground.specs.Indices.{in_range}
use Rattle.ground.proofs.Laws.Indices.{range_at}
use Rattle.ground.specs.LargerSmaller.{max_z, min_z}
use Rattle.ground.proofs.Laws.LargerSmaller.{is_lt, is_max, is_min, is_scale, is_div}
use Rattle.ground.specs.Sums.{nth, sum_to}
use Rattle.ground.proofs.Laws.Sums.{sum_nil, sum_front}
use Rattle.ground.specs.Differences.{Is}
use Rattle.ground.proofs.Laws.Differences.{is_pos, is_unique, is_same, is_add, is_sub}
use Rattle.weights.specs.Table17.{table17, row_at, bands_of, height_of, lift_of, floor_of, row_of}
use Rattle.weights.specs.Inner.{loud, quarter, quarters, row, smooth, turned, excess, most, least, scaled, raised_rows}
use Rattle.weights.specs.Weights.{nth_z, loudness, louds, sum_over, spe, spes, score, bspe, forward, backward, renormed, largest, smallest, mapped}
use Rattle.weights.specs.Weights.{row_weights, spread, weights_of}
use Rattle.weights.proofs.Laws.Printed.{at_rows, bands_in, part_height}
use Rattle.weights.proofs.Laws.Stages.{most_ge}

-- the same place of two tables
at_table : (f : ℕ → ℤ) (g : ℕ → ℕ) (n m : ℕ) → ((k : ℕ) → k < n → Is (f k) (g k) m) → (k : ℕ) → k < n → Is (nth_z (table n f) k) (nth (table n g) k) m
at_table f g n m h k b = rw (get_d_table f n (pos 0) k b, get_d_table g n 0 k b) (h k b)

-- ---- Table 17: J_b runs upwards from its first band, and has H_b bands
run : ℕ → ℕ → List ℕ
run p zero = []
run p (suc n) = p ∷ run (suc p) n

alike : List ℕ → List ℕ → Bool
alike [] [] = true
alike [] (y ∷ ys) = false
alike (x ∷ xs) [] = false
alike (x ∷ xs) (y ∷ ys) = eqb x y && alike xs ys

alike_same : (xs ys : List ℕ) → T (alike xs ys) → xs ≡ ys
unfolding alike
alike_same [] [] t = refl
alike_same [] (y ∷ ys) t = absurd t
alike_same (x ∷ xs) [] t = absurd t
alike_same (x ∷ xs) (y ∷ ys) t =
    let w = and_T (eqb x y) (alike xs ys) t in
    let e = eqb→eq x y w.0 in
    let f = alike_same xs ys w.1 in
    cc

module _ (b : ℕ) (h : b < 20) where
  bands_run : bands_of b ≡ run (nth (bands_of b) 0) (height_of b)
  unfolding table17 row_at run alike
  bands_run = alike_same _ _ (at_rows (λ b r. alike (bands_of b) (run (nth (bands_of b) 0) (height_of b))) tt b h)

  floor_lift : 720 * lift_of b ≤ 720 * (floor_of b + 5)
  unfolding table17 row_at
  floor_lift = leb→le _ _ (at_rows (λ b r. leb (720 * lift_of b) (720 * (floor_of b + 5))) tt b h)

  height_pos : 0 < height_of b
  unfolding table17 row_at
  height_pos = leb→le _ _ (at_rows (λ b r. leb 1 (height_of b)) tt b h)

-- ---- (23)
loud_is : (x : ℕ) → x ≤ 39 → Is (loudness x) (39 - x) 5
unfolding loudness
loud_is x h = is_same _ _ (is_sub (is_pos 34) (is_pos x)) (omega arith)

louds_is : (norms : List ℕ) → ((k : ℕ) → k < 44 → nth norms k ≤ 39) → (p : ℕ) → p < 44 → Is (nth_z (louds norms) p) (loud norms p) 5
unfolding louds loud
louds_is norms low p h = rw (get_d_table (λ p. loudness (nth norms p)) 44 (pos 0) p h) (loud_is (nth norms p) (low p h))

spe_is : (transient : Bool) (norms : List ℕ) → ((k : ℕ) → k < 44 → nth norms k ≤ 39) → (p : ℕ) → p < 44
    → Is (spe transient (louds norms) p) (180 * quarter transient norms p) 3600
unfolding spe quarter sum_over
spe_is true norms low p h =
    let q = 4 * (p / 4) in
    let l = louds_is norms low in
    is_same _ _
    (is_scale 180 (is_add (l q (omega arith))
    (is_add (l (q + 1) (omega arith)) (is_add (l (q + 2) (omega arith)) (is_add (l (q + 3) (omega arith)) (is_pos 0))))))
    (omega arith)
spe_is false norms low p h = is_same _ _ (is_scale 720 (louds_is norms low p h)) (omega arith)

module _ (transient : Bool) (norms : List ℕ) (low : (k : ℕ) → k < 44 → nth norms k ≤ 39) where
  spes_is : (p : ℕ) → p < 44 → Is (nth_z (spes transient norms) p) (180 * nth (quarters transient norms) p) 3600
  unfolding spes quarters
  spes_is p h =
      rw (get_d_table (spe transient (louds norms)) 44 (pos 0) p h, get_d_table (quarter transient norms) 44 0 p h) (spe_is transient norms low p h)

  -- ---- (24)
  run_is : (n p : ℕ) → p + n ≤ 44
      → Is (sum_over (nth_z (spes transient norms)) (run p n)) (180 * sum_to (λ i. nth (quarters transient norms) (p + i)) n) (3600 * n)
  unfolding sum_over run
  run_is zero p h = is_same _ _ (is_pos 0) (omega (arith, sum_nil (λ i. nth (quarters transient norms) (p + i))))
  run_is (suc n) p h =
      is_same _ _ (is_add (spes_is p (omega arith)) (run_is n (suc p) (omega arith)))
      (omega (arith, sum_front (λ i. nth (quarters transient norms) (p + i)) n, ap (nth (quarters transient norms)) (add-zero p), same))
    where
      same : sum_to (λ i. nth (quarters transient norms) (suc p + i)) n ≡ sum_to (λ i. nth (quarters transient norms) (p + suc i)) n
      same = Rattle.ground.proofs.Laws.Sums.sum_same _ _ n (λ i b. ap (nth (quarters transient norms)) (omega arith))

  module _ (b : ℕ) (h : b < 20) where
    row_sum : ℕ
    row_sum = sum_to (λ i. nth (quarters transient norms) (nth (bands_of b) 0 + i)) (height_of b)

    sum_is : Is (sum_over (nth_z (spes transient norms)) (bands_of b)) (180 * row_sum) (3600 * height_of b)
    unfolding row_sum
    sum_is =
        subst⁻¹ (λ (j : List ℕ). Is (sum_over (nth_z (spes transient norms)) j)
        (180 * sum_to (λ i. nth (quarters transient norms) (nth (bands_of b) 0 + i)) (height_of b)) (3600 * height_of b))
        (bands_run b h) (run_is (height_of b) (nth (bands_of b) 0) (bands_in b h))

    whole : 180 * row_sum ≡ height_of b * (180 / height_of b * row_sum)
    whole =
        ap (λ (n : ℕ). n * row_sum) (sym (part_height b h)) ∙ ap (λ (n : ℕ). n * row_sum) (mul_comm (180 / height_of b) (height_of b))
        ∙ mul_assoc (height_of b) (180 / height_of b) row_sum

    mean_is : Is (shr_z (sum_over (nth_z (spes transient norms)) (bands_of b)) (height_of b)) (180 / height_of b * row_sum) 3600
    mean_is =
        subst (λ (n : ℕ). Is (shr_z (sum_over (nth_z (spes transient norms)) (bands_of b)) (height_of b)) n 3600)
        (ap (λ (n : ℕ). n / height_of b) whole ∙ mul-div_cancel_left (180 / height_of b * row_sum) (height_pos b h))
        (is_div (height_of b) (180 * row_sum) 3600 (height_pos b h) (is_same _ _ sum_is (omega (arith, mul_comm 3600 (height_of b)))))

    -- H_b times the quotient is the sum: the division of (24) is exact
    pub exact : pos (height_of b) *ℤ shr_z (sum_over (nth_z (spes transient norms)) (bands_of b)) (height_of b) ≡ sum_over (nth_z (spes transient norms)) (bands_of b)
    exact = is_unique (is_scale (height_of b) mean_is) (is_same _ _ sum_is (omega (arith, whole, mul_comm 3600 (height_of b))))

    row_is : Is (bspe (spes transient norms) b) (row (quarters transient norms) b) 3600
    unfolding bspe row row_sum
    row_is = is_same _ _ (is_add mean_is (is_pos (720 * lift_of b))) (omega arith)

-- ---- (25) and (26): the larger of a row and its neighbour less d
smoothed : {z w : ℤ} {x y k : ℕ} (d : ℕ) → Is z x k → Is w y k → Is (max_z z (w -ℤ pos d)) (max x (y - d)) k
smoothed {x = x} {y = y} {k = k} d p q =
    is_same _ _ (is_max (is_same (x + d) (k + d) p (omega arith)) (is_same y (k + d) (is_sub q (is_pos d)) (omega arith))) (omega arith)

module _ (bs : List ℤ) (rs : List ℕ) (e : (k : ℕ) → k < 20 → Is (nth_z bs k) (nth rs k) 3600) where
  up_is : (b : ℕ) → b < 20 → Is (forward bs b) (smooth 2880 rs b) 3600
  unfolding forward smooth
  up_is zero h = e 0 h
  up_is (suc b) h = smoothed 2880 (e (suc b) h) (up_is b (omega arith))

  turned_at : (k : ℕ) → k < 20 → Is (nth_z bs (19 - k)) (nth (turned rs) k) 3600
  unfolding turned
  turned_at k h = rw (get_d_table (λ b. nth rs (19 - b)) 20 0 k h) (e (19 - k) (omega arith))

  down_is : (k : ℕ) → k < 20 → Is (backward bs k) (smooth 5760 (turned rs) k) 3600
  unfolding backward smooth
  down_is zero h = turned_at 0 h
  down_is (suc k) h = smoothed 5760 (turned_at (suc k) h) (down_is k (omega arith))

  down_at : (b : ℕ) → b < 20 → Is (backward bs (19 - b)) (nth (turned (table 20 (smooth 5760 (turned rs)))) b) 3600
  unfolding turned
  down_at b h =
      let g : (c : ℕ) → ℕ = λ c. nth (table 20 (smooth 5760 (turned rs))) (19 - c) in
      rw (get_d_table g 20 0 b h, get_d_table (smooth 5760 (turned rs)) 20 0 (19 - b) (omega arith)) (down_is (19 - b) (omega arith))

  -- ---- (27)
  excess_is : (b : ℕ) → b < 20 → Is (renormed bs b) 3600 (excess rs b)
  unfolding renormed excess
  excess_is b h =
      let m = is_max (e b h) (is_same (720 * (floor_of b + 5)) 3600 (is_pos (720 * floor_of b)) (omega arith)) in
      is_same _ _ (is_sub (is_pos (720 * lift_of b)) m) (omega (arith, floor_lift b h))

-- ---- (28)
module _ {z w : ℤ} {k a b : ℕ} (p : Is z k a) (q : Is w k b) where
  lt_from : lt_z z w ≡ ltb b a
  lt_from = is_lt (is_same (k + b) (a + b) p (omega arith)) (is_same (k + a) (a + b) q (omega arith)) ∙ shift
    where
      shift : ltb (k + b) (k + a) ≡ ltb b a
      shift =
          by_bool (ltb b a)
          (λ t. let h = ltb-true b a t in lt-ltb (k + b) (k + a) (omega arith) ∙ sym t)
          (λ t. let h = ltb-false b a t in le-ltb (k + b) (k + a) (omega arith) ∙ sym t)

  max_from : Is (max_z z w) k (min a b)
  max_from = is_same _ _ (is_max (is_same (k + b) (a + b) p (omega arith)) (is_same (k + a) (a + b) q (omega arith))) (omega arith)

  min_from : Is (min_z z w) k (max a b)
  min_from = is_same _ _ (is_min (is_same (k + b) (a + b) p (omega arith)) (is_same (k + a) (a + b) q (omega arith))) (omega arith)

abs_is : {z : ℤ} {a b : ℕ} → Is z a b → b ≤ a → nat_abs z ≡ a - b
abs_is {z = pos n} p h = omega arith
abs_is {z = negsuc n} p h = absurd (omega arith)

module _ (bs : List ℤ) (ds : List ℕ) (e : (k : ℕ) → k < 20 → Is (nth_z bs k) 3600 (nth ds k)) where
  largest_is : (n : ℕ) → n < 20 → Is (largest bs n) 3600 (least ds n)
  unfolding largest least
  largest_is zero h = e 0 h
  largest_is (suc n) h = max_from (largest_is n (omega arith)) (e (suc n) h)

  smallest_is : (n : ℕ) → n < 20 → Is (smallest bs n) 3600 (most ds n)
  unfolding smallest most
  smallest_is zero h = e 0 h
  smallest_is (suc n) h = min_from (smallest_is n (omega arith)) (e (suc n) h)

  mapped_is : (b : ℕ) → b < 20 → mapped (largest bs 19) (smallest bs 19) (nth_z bs b) ≡ scaled (most ds 19) (least ds 19) (nth ds b)
  unfolding mapped scaled
  mapped_is b h =
      let s = smallest_is 19 (omega arith) in
      let l = largest_is 19 (omega arith) in
      rw (lt_from s l)
      (by_bool (ltb (least ds 19) (most ds 19))
      (λ t.
      let k = ltb-true (least ds 19) (most ds 19) t in
      let top : nat_abs (nth_z bs b -ℤ smallest bs 19) ≡ most ds 19 - nth ds b =
      abs_is (is_sub (e b h) s) (omega (arith, most_ge ds 19 b (omega arith))) ∙ omega arith in
      let bottom : nat_abs (largest bs 19 -ℤ smallest bs 19) ≡ most ds 19 - least ds 19 = abs_is (is_sub l s) (omega arith) ∙ omega arith in
      rw (t, top, bottom))
      (λ t. rw t))

-- all stages together
pub rows_same : (transient : Bool) (norms : List ℕ) → ((k : ℕ) → k < 44 → nth norms k ≤ 39) → raised_rows transient norms ≡ row_weights transient norms
unfolding raised_rows row_weights
rows_same transient norms low =
    let z24 = table 20 (bspe (spes transient norms)) in
    let n24 = table 20 (row (quarters transient norms)) in
    let e24 = at_table (bspe (spes transient norms)) (row (quarters transient norms)) 20 3600 (row_is transient norms low) in
    let z25 = table 20 (forward z24) in
    let n25 = table 20 (smooth 2880 n24) in
    let e25 = at_table (forward z24) (smooth 2880 n24) 20 3600 (up_is z24 n24 e24) in
    let z26 = table 20 (λ b. backward z25 (19 - b)) in
    let n26 = turned (table 20 (smooth 5760 (turned n25))) in
    let e26 : (k : ℕ) → k < 20 → Is (nth_z z26 k) (nth n26 k) 3600 =
    λ k h. rw (get_d_table (λ b. backward z25 (19 - b)) 20 (pos 0) k h) (down_at z25 n25 e25 k h) in
    let z27 = table 20 (renormed z26) in
    let ds = table 20 (excess n26) in
    let e27 : (k : ℕ) → k < 20 → Is (nth_z z27 k) 3600 (nth ds k) =
    λ k h. rw (get_d_table (renormed z26) 20 (pos 0) k h, get_d_table (excess n26) 20 0 k h) (excess_is z26 n26 e26 k h) in
    table_same _ _ 20 0 (λ b l h. sym (mapped_is z27 ds e27 b h))

pub weights_made : (transient : Bool) (norms : List ℕ) {rows ws r : List ℕ} → in_range norms 44 ≡ true → rows ≡ raised_rows transient norms
    → ws ≡ table 44 (λ p. nth rows (row_of p)) → r ≡ table 44 (spread transient ws) → r ≡ weights_of transient norms
unfolding weights_of
weights_made transient norms t er ew es = rw (es, ew, er, rows_same transient norms (range_at norms 44 t))

-- (31): the score raised by 368
pub score_is : (index w : ℕ) → index ≤ 39 → Is (score index w) (912 - 16 * index + w) 368
unfolding score
score_is index w h = is_same _ _ (is_add (is_scale 16 (loud_is index h)) (is_pos w)) (omega arith)
