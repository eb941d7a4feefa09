-- One turn of each loop, and the bounds of each stage.
-- Assumes nothing.
use Rattle.std.proofs.Common.{◌≡◌, refl, ap, ◌∙◌, sum, take, drop, reverse, length-drop, get_or-drop}
use Rattle.std.proofs.lemmas.List.{get_or-reverse, length-reverse}
use Rattle.std.specs.Option.{MatchOption, unwrap_or}
use Rattle.std.specs.declared.option.Option.{Option}
use Rattle.std.specs.declared.option.Option.TheVariants.{Some, None}
use Rattle.std.proofs.lemmas.List.Sums.{fold_more}
use mathlib.Core.Bool.{Bool, true, false}
use mathlib.Core.List.{List}
use Prim.Native.Nat.{ℕ, zero, suc, ◌+◌, ◌-◌, ◌*◌, ◌/◌, ◌≤◌, ◌<◌, max}
use native.Mathlib.Decide.{ℕ_discrete}
use native.Mathlib.Nat.{le_refl, div-le_of_le-mul, mul-le-mul_left, mul_left_comm}
use native.Mathlib.Omega.{arith}
use borrow.Author.Tests.{lt-ltb, le-ltb, ltb-true, ltb-false}
use lib.Dec.{ltb}
use lib.IntN.{ℤ, pos}
use lib.ListN.{length, replicate, set, length-set}
use lib.Seq.{get_or-set_other, take-length}
use Rattle.ground.proofs.Laws.ListsByRule.{everywhere, fill, filled, get_d_table, length_from}
use Rattle.ground.proofs.Laws.Cases.{by_bool}
use Rattle.ground.specs.ListsByRule.{table}
use Rattle.ground.specs.Replies.{done, out_of_range}
use Rattle.ground.specs.Sums.{nth, sum_to}
use Rattle.ground.proofs.Laws.Sums.{sum_same}
use Rattle.weights.specs.Table17.{row_of}
use Rattle.weights.specs.declared.table17.Row.{Row}
use Rattle.weights.proofs.Laws.Printed.{bands_in, part_height, lift_le}
use Rattle.weights.specs.Inner.{Counted, loud, quarter, quarters, raised_rows, row, smooth, turned, excess, most, least, scaled}
use Rattle.weights.specs.Weights.{spread, weights_of, score, scores_of, weighed}
use Rattle.ground.specs.Indices.{in_range}
use Rattle.weights.specs.declared.Weights.{Weights}

-- (23): four raised loudnesses, or four times one
module _ (transient : Bool) (norms : List ℕ) (p : ℕ) where
  pub quarter_four : {a b d e : ℕ} → transient ≡ true → a ≡ 39 - nth norms (4 * (p / 4)) → b ≡ 39 - nth norms (4 * (p / 4) + 1)
      → d ≡ 39 - nth norms (4 * (p / 4) + 2) → e ≡ 39 - nth norms (4 * (p / 4) + 3) → a + b + d + e ≡ quarter transient norms p
  unfolding quarter loud
  quarter_four t ea eb ed ee = rw (t, ea, eb, ed, ee)

  pub quarter_own : {a : ℕ} → transient ≡ false → a ≡ 39 - nth norms p → 4 * a ≡ quarter transient norms p
  unfolding quarter loud
  quarter_own t e = rw (t, e)

-- (30): a quarter of four weights, or the one
module _ (transient : Bool) (ws : List ℕ) (p : ℕ) where
  pub spread_four : {a b d e : ℕ} → transient ≡ true → a ≡ nth ws (4 * (p / 4)) → b ≡ nth ws (4 * (p / 4) + 1) → d ≡ nth ws (4 * (p / 4) + 2)
      → e ≡ nth ws (4 * (p / 4) + 3) → (a + b + d + e) / 4 ≡ spread transient ws p
  unfolding spread
  spread_four t ea eb ed ee = rw (t, ea, eb, ed, ee)

  pub spread_own : transient ≡ false → nth ws p ≡ spread transient ws p
  unfolding spread
  spread_own t = rw t

  spread_low : ((k : ℕ) → nth ws k ≤ 64) → spread transient ws p ≤ 64
  spread_low l =
      by_bool transient
      (λ t. rw (← spread_four t refl refl refl refl) (omega (arith, l (4 * (p / 4)), l (4 * (p / 4) + 1), l (4 * (p / 4) + 2), l (4 * (p / 4) + 3))))
      (λ t. rw (← spread_own t) (l p))

-- (28) between the largest and the smallest row
abbrev pub scales_of : List ℕ → ℕ → ℕ
scales_of ds b = scaled (most ds 19) (least ds 19) (nth ds b)

-- the stages one after the other
pub rows_made : (transient : Bool) (norms : List ℕ) {qs b24 b25 t25 s26 b26 ds r : List ℕ} → qs ≡ table 44 (quarter transient norms) → b24 ≡ table 20 (row qs)
    → b25 ≡ table 20 (smooth 2880 b24) → t25 ≡ turned b25 → s26 ≡ table 20 (smooth 5760 t25) → b26 ≡ turned s26 → ds ≡ table 20 (excess b26)
    → r ≡ table 20 (scales_of ds) → r ≡ raised_rows transient norms
unfolding raised_rows quarters
rows_made transient norms e23 e24 e25 et es e26 e27 e28 = rw (e28, e27, e26, es, et, e25, e24, e23)

-- (25): the rows below i are smoothed, the others as they came
pub record Smoothing (by : ℕ) (bs out : List ℕ) (i : ℕ) : Type 0 where
  pub long : length out ≡ 20
  pub same : (k : ℕ) → k < i → nth out k ≡ smooth by bs k
  pub rest : (k : ℕ) → i ≤ k → nth out k ≡ nth bs k

smooth_first : (by : ℕ) (bs : List ℕ) (k : ℕ) → k ≡ 0 → nth bs k ≡ smooth by bs k
unfolding smooth
smooth_first by bs k e = rw e refl

smooth_next : (by : ℕ) (bs : List ℕ) (i j : ℕ) {m r : ℕ} → i ≡ suc j → m ≡ smooth by bs j - by → r ≡ max (nth bs i) m → r ≡ smooth by bs i
unfolding smooth
smooth_next by bs i j {m} {r} e em er =
    let er' : r ≡ max (nth bs (suc j)) m = rw e at er in rw e (er' ∙ ap (λ (n : ℕ). max (nth bs (suc j)) n) em)

module _ {by : ℕ} {bs : List ℕ} where
  pub smoothing_first : length bs ≡ 20 → Smoothing by bs bs 1
  smoothing_first e = record { long = e; same = λ k h. smooth_first by bs k (omega arith); rest = λ k h. refl }

  module _ {out : List ℕ} {i : ℕ} (w : Smoothing by bs out i) where
    pub smoothing_next : {r m : ℕ} → 1 ≤ i → i < 20 → m ≡ nth out (i - 1) - by → r ≡ max (nth out i) m → Smoothing by bs (set out i r) (i + 1)
    smoothing_next {r} {m} l h em er =
        let e : r ≡ smooth by bs i =
        smooth_next by bs i (i - 1) (omega arith) (em ∙ ap (λ (n : ℕ). n - by) (w.same (i - 1) (omega arith)))
        (er ∙ ap (λ (n : ℕ). max n m) (w.rest i (omega arith))) in
        record {
          long = simp length-set w.long;
          same = fill (smooth by bs) 0 out i r (omega (arith, w.long)) w.same e;
          rest = λ k b. get_or-set_other out i k r 0 (omega arith) ∙ w.rest k (omega arith);
        }

    pub smoothing_done : 20 ≤ i → out ≡ table 20 (smooth by bs)
    smoothing_done h = filled (smooth by bs) 20 0 out w.long (λ k b. w.same k (omega arith))

pub ruleset smoothing = (smoothing_first, smoothing_next, smoothing_done)

pub turned_made : (bs : List ℕ) {out : List ℕ} → length bs ≡ 20 → out ≡ reverse bs → out ≡ turned bs
unfolding turned
turned_made bs {out} e er =
    er ∙ filled (λ b. nth bs (19 - b)) 20 0 (reverse bs) (simp length-reverse e)
    (λ k b. get_or-reverse bs k 0 (omega (arith, e)) ∙ ap (nth bs) (omega (arith, e)))

-- the largest and the smallest row
pub most_ge : (ds : List ℕ) (n k : ℕ) → k ≤ n → nth ds k ≤ most ds n
unfolding most
most_ge ds zero k h = let e : k ≡ 0 = omega arith in rw e (le_refl _)
most_ge ds (suc n) k h =
    elim (ℕ_discrete k (suc n)) [ yes e ↦ rw e (omega arith) | no e ↦ omega (arith, e, most_ge ds n k (omega (arith, e))) ]

pub least_le : (ds : List ℕ) (n k : ℕ) → k ≤ n → least ds n ≤ nth ds k
unfolding least
least_le ds zero k h = let e : k ≡ 0 = omega arith in rw e (le_refl _)
least_le ds (suc n) k h =
    elim (ℕ_discrete k (suc n)) [ yes e ↦ rw e (omega arith) | no e ↦ omega (arith, e, least_le ds n k (omega (arith, e))) ]

-- the largest is one of the rows
most_in : (ds : List ℕ) (n m : ℕ) → ((k : ℕ) → k ≤ n → nth ds k ≤ m) → most ds n ≤ m
unfolding most
most_in ds zero m h = h 0 (omega arith)
most_in ds (suc n) m h = omega (arith, most_in ds n m (λ k b. h k (omega arith)), h (suc n) (omega arith))

least_in : (ds : List ℕ) (n m : ℕ) → ((k : ℕ) → k ≤ n → m ≤ nth ds k) → m ≤ least ds n
unfolding least
least_in ds zero m h = h 0 (omega arith)
least_in ds (suc n) m h = omega (arith, least_in ds n m (λ k b. h k (omega arith)), h (suc n) (omega arith))

-- what the maximum and the minimum of an iterator over the rows tell
pub most_is : (ds : List ℕ) (r : Option ℕ) {hi : ℕ} → length ds ≡ 20 → MatchOption r (length ds ≡ 0) (λ m. (k : ℕ) × (k < length ds) × (nth ds k ≡ m))
    → MatchOption r (length ds ≡ 0) (λ m. (k : ℕ) → k < length ds → nth ds k ≤ m) → hi ≡ unwrap_or r 0 → hi ≡ most ds 19
most_is ds None e w h u = absurd (omega (arith, h, e))
most_is ds (Some m) e w h u = omega (arith, u, w.2, most_ge ds 19 w.0 (omega (arith, w.1, e)), most_in ds 19 m (λ k b. h k (omega (arith, e))))

pub least_is : (ds : List ℕ) (r : Option ℕ) {lo : ℕ} → length ds ≡ 20 → MatchOption r (length ds ≡ 0) (λ m. (k : ℕ) × (k < length ds) × (nth ds k ≡ m))
    → MatchOption r (length ds ≡ 0) (λ m. (k : ℕ) → k < length ds → m ≤ nth ds k) → lo ≡ unwrap_or r 0 → lo ≡ least ds 19
least_is ds None e w h u = absurd (omega (arith, h, e))
least_is ds (Some m) e w h u = omega (arith, u, w.2, least_le ds 19 w.0 (omega (arith, w.1, e)), least_in ds 19 m (λ k b. h k (omega (arith, e))))

-- (24): H_b quarters from the first band of J_b on
sum_first : (l : List ℕ) (n : ℕ) → n ≤ length l → sum (take n l) ≡ sum_to (nth l) n
unfolding sum_to
sum_first l zero h = refl
sum_first l (suc n) h = let e : n + 1 ≡ suc n = omega arith in rw (← e) (fold_more ◌+◌ 0 l n 0 (omega arith) ∙ ap (λ (m : ℕ). m + nth l n) (sum_first l n (omega arith)))

sum_slice : (qs : List ℕ) (p n : ℕ) → p + n ≤ length qs → sum (take n (drop p qs)) ≡ sum_to (λ i. nth qs (p + i)) n
sum_slice qs p n h =
    sum_first (drop p qs) n (simp length-drop (omega arith)) ∙ sum_same (nth (drop p qs)) (λ i. nth qs (p + i)) n (λ i b. get_or-drop p qs i 0)

sum_to_le : (f : ℕ → ℕ) (m n : ℕ) → ((k : ℕ) → f k ≤ m) → sum_to f n ≤ m * n
unfolding sum_to
sum_to_le f m zero h = omega arith
sum_to_le f m (suc n) h = omega (arith, sum_to_le f m n h, h n)

pub sum_low : (l : List ℕ) {s : ℕ} → s ≡ sum l → ((k : ℕ) → nth l k < 256) → s ≤ 255 * length l
sum_low l e h =
    let t : sum (take (length l) l) ≡ sum l = ap sum (take-length l) in
    omega (arith, e, t, sum_first l (length l) (omega arith), sum_to_le (nth l) 255 (length l) (λ k. omega (arith, h k)))

module _ (b : ℕ) {r : Row} (l : b < 20) (w : Counted b r) where
  pub row_inside : r.first + r.height ≤ 44
  row_inside = omega (arith, w.first, w.height, bands_in b l)

  module _ {s : ℕ} (h : s ≤ 255 * r.height) where
    pub part_fits : r.part * s ≤ 45900
    part_fits =
        let q : r.part * r.height ≡ 180 = rw (w.part, w.height) (part_height b l) in
        let k : r.part * s ≤ r.part * (255 * r.height) = mul-le-mul_left r.part h in
        omega (arith, k, mul_left_comm r.part 255 r.height)

    pub row_fits : r.part * s + r.lift < 65536
    row_fits = omega (arith, part_fits, w.lift, lift_le b l)

  pub row_made : (qs : List ℕ) {s : ℕ} → length qs ≡ 44 → s ≡ sum (take (r.first + r.height - r.first) (drop r.first qs)) → r.part * s + r.lift ≡ row qs b
  unfolding row
  row_made qs {s} e es =
      let h : r.first + r.height ≤ length qs = omega (arith, e, row_inside) in
      let n : r.first + r.height - r.first ≡ r.height = omega arith in
      let es' : s ≡ sum_to (λ i. nth qs (r.first + i)) r.height = es ∙ ap (λ (m : ℕ). sum (take m (drop r.first qs))) n ∙ sum_slice qs r.first r.height h in
      simp (es', w.part, w.first, w.height, w.lift)

-- (27)
pub excess_made : (bs : List ℕ) (b : ℕ) {r : Row} {m x : ℕ} → Counted b r → m ≡ max (nth bs b) r.floor → x ≡ m - r.lift → x ≡ excess bs b
unfolding excess
excess_made bs b w em ex = ex ∙ simp (em, w.floor, w.lift)

-- (28)
module _ (hi lo d : ℕ) where
  pub scaled_other : {a b : ℕ} → lo < hi → a ≡ hi - d → b ≡ hi - lo → 64 * a / b ≡ scaled hi lo d
  unfolding scaled
  scaled_other h ea eb = rw (lt-ltb lo hi h, ea, eb) refl

  pub scaled_same : hi ≤ lo → 0 ≡ scaled hi lo d
  unfolding scaled
  scaled_same h = rw (le-ltb lo hi h)

  scaled_le : lo < hi → lo ≤ d → d ≤ hi → 64 * (hi - d) / (hi - lo) ≤ 64
  scaled_le h k m = div-le_of_le-mul (hi - lo) (omega arith)

-- (28) between the largest and the smallest row
module _ (ds : List ℕ) {hi lo : ℕ} (eh : hi ≡ most ds 19) (el : lo ≡ least ds 19) (b : ℕ) where
  pub scaled_by : {d v : ℕ} → d ≡ nth ds b → v ≡ scaled hi lo d → v ≡ scales_of ds b
  scaled_by ed ev = rw (ev, ed, eh, el) refl

  pub scale_room : b < 20 → (lo ≤ nth ds b) × (nth ds b ≤ hi)
  scale_room h = (omega (arith, least_le ds 19 b (omega arith)), omega (arith, most_ge ds 19 b (omega arith)))

-- no weight is over 64
table_low : (f : ℕ → ℕ) (n m : ℕ) → ((k : ℕ) → k < n → f k ≤ m) → (k : ℕ) → nth (table n f) k ≤ m
table_low f n m h = everywhere (table n f) n m (length_from f n 0) (λ k b. rw (get_d_table f n 0 k b) (h k b))

scales_low : (ds : List ℕ) (b : ℕ) → b < 20 → scales_of ds b ≤ 64
scales_low ds b h =
    let r = scale_room ds {hi = most ds 19} {lo = least ds 19} refl refl b h in
    by_bool (ltb (least ds 19) (most ds 19))
    (λ t. let l = ltb-true _ _ t in
    rw (← scaled_other (most ds 19) (least ds 19) (nth ds b) l refl refl) (scaled_le (most ds 19) (least ds 19) (nth ds b) l r.0 r.1))
    (λ t. rw (← scaled_same (most ds 19) (least ds 19) (nth ds b) (ltb-false _ _ t)) (omega arith))

raised_low : (transient : Bool) (norms : List ℕ) (k : ℕ) → nth (raised_rows transient norms) k ≤ 64
unfolding raised_rows
raised_low transient norms = table_low (scales_of _) 20 64 (scales_low _)

pub weights_low : (transient : Bool) (norms : List ℕ) {rows ws r : List ℕ} → rows ≡ raised_rows transient norms → ws ≡ table 44 (λ p. nth rows (row_of p))
    → r ≡ table 44 (spread transient ws) → (k : ℕ) → nth r k ≤ 64
weights_low transient norms {rows} {ws} er ew es =
    let lr : (k : ℕ) → nth rows k ≤ 64 = rw er (raised_low transient norms) in
    let lw : (k : ℕ) → nth ws k ≤ 64 = rw ew (table_low (λ p. nth rows (row_of p)) 44 64 (λ k b. lr (row_of k))) in
    rw es (table_low (spread transient ws) 44 64 (λ k b. spread_low transient ws k lw))

-- the answer, by the test
module _ (transient : Bool) (norms : List ℕ) where
  pub weighed_is : (ws : List ℕ) (ss : List ℤ) → in_range norms 44 ≡ true → ws ≡ weights_of transient norms
      → ss ≡ table 44 (λ p. score (nth norms p) (nth ws p)) → ◌≡◌ {A = Weights} (record { reply = done; weights = ws; scores = ss }) (weighed transient norms)
  unfolding weighed scores_of
  weighed_is ws ss t ew es = rw (t, es, ew)

  pub weighed_no : {reply : ℕ} → in_range norms 44 ≡ false → reply ≡ out_of_range
      → ◌≡◌ {A = Weights} (record { reply = reply; weights = replicate 44 0; scores = replicate 44 (pos 0) }) (weighed transient norms)
  unfolding weighed
  weighed_no t e = rw (t, e) refl
