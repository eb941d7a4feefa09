-- Laws of the answers: what is tested place by place, and points that agree.
-- Assumes nothing.
use mathlib.Core.Path.{◌≡◌, refl, sym, ap, subst, ◌∙◌}
use mathlib.Core.Bool.{Bool, true, false}
use mathlib.Core.Logic.{⊎_elim}
use mathlib.Core.List.{List, [], ◌∷◌}
use Prim.Native.Nat.{ℕ, zero, suc, ◌+◌, ◌*◌, ◌^◌, ◌<◌, ◌≤◌}
use native.Mathlib.Nat.{eq-or-lt_of_le, le_of_suc-le-suc}
use native.Mathlib.Numerals.{add-one}
use native.Mathlib.Omega.{arith}
use borrow.Author.Tests.{eqb-true, eq-eqb, lt-ltb, ltb-true}
use borrow.Rule.Slice.PartMut.{mid_of}
use lib.Pointwise.{pointwise}
use Rattle.std.specs.Bool.{Decides, then_some}
use Rattle.std.specs.declared.option.Option.{Option}
use Rattle.std.specs.declared.option.Option.TheVariants.{Some, None}
use Rattle.std.specs.Cmp.{signed_Decides}
use Rattle.std.specs.Ordering.{int_eq}
use Rattle.std.proofs.lemmas.Bool.Decides.{same_from_decides}
use Rattle.std.proofs.lemmas.List.{take_all}
use Rattle.std.proofs.lemmas.Slice.Eq.{slice_eq-Decides}
use lib.Dec.{ltb}
use lib.ListN.{length, get_or}
use lib.Seq.{ext_get_or}
use lib.IntN.{ℤ, pos, negsuc}
use Rattle.ground.proofs.Laws.Cases.{and_true}
use Rattle.ground.specs.Replies.{done}
use Rattle.ground.specs.Differences.{Is}
use Rattle.ground.proofs.Laws.Differences.{is_same}
use Rattle.lattice.specs.Lattice.{sum_z, point, back}
use Rattle.lattice.proofs.Laws.Lattice.{sum_z_more}
use Rattle.points.specs.Answers.{all_to, owns, below, answer_point, point_of, eq_z, agree, answer_index, index_of}

-- ---- tests at each of the first n places

module _ (f : ℕ → Bool) where
  pub all_in : (n : ℕ) → f n ≡ true → all_to f (n + 1) ≡ all_to f n
  unfolding all_to
  all_in n e = rw (add-one, e)

  pub all_out : (n : ℕ) → f n ≡ false → all_to f (n + 1) ≡ false
  unfolding all_to
  all_out n e = rw (add-one, e)

  pub all_yes : (n : ℕ) → ((i : ℕ) → i < n → f i ≡ true) → all_to f n ≡ true
  unfolding all_to
  all_yes zero h = refl
  all_yes (suc n) h = simp (h n (omega arith), all_yes n (λ i l. h i (omega arith)))

  pub all_at : (n : ℕ) → all_to f n ≡ true → (i : ℕ) → i < n → f i ≡ true
  unfolding all_to
  all_at zero e i l = absurd (omega arith)
  all_at (suc n) e i l =
      let b = and_true (f n) (all_to f n) e in
      ⊎_elim (λ q. rw q b.0) (λ q. all_at n b.1 i q) (eq-or-lt_of_le (le_of_suc-le-suc l))

-- ---- equal points

pub eq_z_refl : (z : ℤ) → eq_z z z ≡ true
eq_z_refl (pos n) = eq-eqb n n refl
eq_z_refl (negsuc n) = eq-eqb n n refl

pub eq_z_eq : (z w : ℤ) → eq_z z w ≡ true → z ≡ w
eq_z_eq (pos a) (pos b) e = ap pos (eqb-true a b e)
eq_z_eq (pos a) (negsuc b) e = cc
eq_z_eq (negsuc a) (pos b) e = cc
eq_z_eq (negsuc a) (negsuc b) e = ap negsuc (eqb-true a b e)

pub agree_refl : (v : List ℤ) (n : ℕ) → agree v v n ≡ true
unfolding agree
agree_refl v n = all_yes _ n (λ i l. eq_z_refl (get_or v i (pos 0)))

pub agree_same : (v w : List ℤ) → length v ≡ 8 → length w ≡ 8 → agree v w 8 ≡ true → v ≡ w
unfolding agree
agree_same v w p q e = ext_get_or (pos 0) v w (p ∙ sym q) (λ i l. eq_z_eq _ _ (all_at _ 8 e i (omega arith)))

-- ---- the tests of the code

-- a test that passes exactly where each of eight numbers is below r
pub below_told : (b : Bool) (r : ℕ) (k : List ℕ) → length k ≡ 8 → Decides b ((i : ℕ) → i < length k → get_or k i 0 < r) → b ≡ below r k 8
unfolding below
below_told b r k e d =
    let f : ℕ → Bool = λ (i : ℕ). ltb (get_or k i 0) r in
    same_from_decides b (all_to f 8) d
    (λ t i l. ltb-true (get_or k i 0) r (all_at f 8 t i (omega arith)), λ h. all_yes f 8 (λ i l. lt-ltb (get_or k i 0) r (h i (omega arith))))

-- a test that passes exactly where two points are equal
pub agree_told : (b : Bool) (v w : List ℤ) → length v ≡ 8 → length w ≡ 8 → b ≡ pointwise int_eq v w → b ≡ agree v w 8
agree_told b v w p q e =
    same_from_decides b (agree v w 8) (slice_eq-Decides signed_Decides v w b e) (agree_same v w p q, λ h. rw h (agree_refl w 8))

-- ---- each way out of the two calls is a case of the definition

module _ (rate : ℕ) (k : List ℕ) where
  pub point_foreign : {found : Option (List ℤ)} → owns rate ≡ false → found ≡ None → answer_point found ≡ point_of rate k
  unfolding point_of
  point_foreign e f = simp (e, f)

  module _ {r : ℕ} {b : Bool} (e : (owns rate ≡ true) × (r ≡ 2 ^ rate)) (d : b ≡ below r k 8) where
    tested : b ≡ below (2 ^ rate) k 8
    tested = d ∙ ap (λ (r : ℕ). below r k 8) e.1

    pub point_made : {v : List ℤ} → b ≡ true → v ≡ point r k → answer_point (Some v) ≡ point_of rate k
    unfolding point_of
    point_made t q = simp (e.0, sym tested ∙ t) (ap (λ (v : List ℤ). record { reply = done; at = v }) (q ∙ ap (λ (r : ℕ). point r k) e.1))

    pub point_refused : b ≡ false → answer_point None ≡ point_of rate k
    unfolding point_of
    point_refused t = simp (e.0, sym tested ∙ t)

module _ (rate : ℕ) (v : List ℤ) where
  pub index_foreign : {found : Option (List ℕ)} → owns rate ≡ false → found ≡ None → answer_index found ≡ index_of rate v
  unfolding index_of
  index_foreign e f = simp (e, f)

  pub index_told : {r : ℕ} {k : List ℕ} {w : List ℤ} {found : Option (List ℕ)} (b : Bool) → (owns rate ≡ true) × (r ≡ 2 ^ rate) → k ≡ back r v
      → w ≡ point r k → b ≡ agree w v 8 → found ≡ then_some b k → answer_index found ≡ index_of rate v
  unfolding index_of
  index_told {r} {k} {w} b e h g d f = rw f (go b d)
    where
      leads : k ≡ back (2 ^ rate) v
      leads = h ∙ ap (λ (r : ℕ). back r v) e.1

      again : w ≡ point (2 ^ rate) (back (2 ^ rate) v)
      again = g ∙ ap (λ (r : ℕ). point r k) e.1 ∙ ap (point (2 ^ rate)) leads

      go : (b : Bool) → b ≡ agree w v 8 → answer_index (then_some b k) ≡ index_of rate v
      go true d = simp (e.0, ap (λ (w : List ℤ). agree w v 8) (sym again) ∙ sym d) (ap (λ (k : List ℕ). record { reply = done; at = k }) leads)
      go false d = simp (e.0, ap (λ (w : List ℤ). agree w v 8) (sym again) ∙ sym d)

-- ---- a loop that adds the numbers after the first, each raised: i of the seven are added
pub record Raising (v : List ℤ) (sum i : ℕ) : Type 0 where
  pub upto : i ≤ 7
  pub is : Is (sum_z (λ (j : ℕ). get_or v (suc j) (pos 0)) i) sum (32768 * i)
  pub most : sum ≤ 65535 * i

-- the numbers after the first
pub rest_at : (v : List ℤ) → length v ≡ 8 → (i : ℕ) → get_or (mid_of 1 7 v) i (pos 0) ≡ get_or v (suc i) (pos 0)
rest_at [] e i = absurd (omega arith)
rest_at (z ∷ v) e i = ap (λ (l : List ℤ). get_or l i (pos 0)) (take_all 7 v (omega arith))

pub rest_long : (v : List ℤ) → length v ≡ 8 → length (mid_of 1 7 v) ≡ 7
rest_long [] e = absurd (omega arith)
rest_long (z ∷ v) e = ap length (take_all 7 v (omega arith)) ∙ omega arith

pub raising_more : {v : List ℤ} {sum i u : ℕ} → length v ≡ 8 → Raising v sum i → i < 7
    → Is (get_or (mid_of 1 7 v) i (pos 0)) u 32768 → u < 65536 → Raising v (sum + u) (i + 1)
raising_more {v} {sum} {i} {u} e p b h l =
    let y = subst (λ (z : ℤ). Is z u 32768) (rest_at v e i) h in
    record {
      upto = omega arith;
      is = is_same _ _ (sum_z_more (λ (j : ℕ). get_or v (suc j) (pos 0)) i p.is y) (omega arith);
      most = omega (arith, p.most);
    }

pub raising_done : {v : List ℤ} {sum i : ℕ} → Raising v sum i → 7 ≤ i → Is (sum_z (λ (j : ℕ). get_or v (suc j) (pos 0)) 7) sum 229376 × (sum < 458752)
raising_done {v} {sum} {i} p b =
    let e : i ≡ 7 = omega (arith, p.upto) in
    let q = subst (λ (j : ℕ). Is (sum_z (λ (j : ℕ). get_or v (suc j) (pos 0)) j) sum (32768 * j)) e p.is in
    (is_same _ _ q (omega arith), omega (arith, p.most))
