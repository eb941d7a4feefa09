-- The errors raised by 32768, as the code keeps them: they fill up place by place, and give the place to change and the coordinates.
-- Assumes nothing.
use mathlib.Core.Path.{◌≡◌, refl, sym, ap, subst, ◌∙◌}
use mathlib.Core.Bool.{Bool, true, false, cond}
use mathlib.Core.List.{List}
use Prim.Native.Nat.{ℕ, ◌+◌, ◌*◌, ◌-◌, ◌%◌, ◌<◌, ◌≤◌}
use native.Mathlib.Omega.{arith}
use borrow.Author.Count.{below_more}
use borrow.Author.Tests.{eq-eqb, ne_eqb, eqb-true, eqb-false}
use Rattle.ground.proofs.Laws.Cases.{by_bool}
use Rattle.std.specs.declared.option.Option.{Option}
use Rattle.std.specs.declared.option.Option.TheVariants.{Some, None}
use Rattle.std.specs.Option.{option_eq}
use lib.Dec.{ltb, eqb}
use lib.ListN.{length, get_or, set, length-set}
use lib.Seq.{get_or-set_same, get_or-set_other}
use lib.IntN.{ℤ, nat_abs}
use mir.Facts.{to_z-of_z}
use mir.Syntax.{w16}
use mir.Val.{SFits, to_z, of_z}
use Rattle.ground.specs.Differences.{Is}
use Rattle.ground.proofs.Laws.Differences.{is_same, is_unique}
use Rattle.ground.specs.Sums.{sum_to}
use Rattle.ground.proofs.Laws.Sums.{sum_more}
use Rattle.lattice.specs.Lattice.{x, error, rounded, rounded_sum, worst, largest, changed, coordinate}
use Rattle.lattice.specs.Inner.{Error, Errors, away}
use Rattle.lattice.proofs.Laws.Powers.{changed_place}
use Rattle.lattice.proofs.Laws.Inverse.{settled}
use Rattle.lattice.proofs.Laws.Lattice.{is_abs, near, error_is, largest_alike}

pub error_made : {r y q : ℕ} → 4 ≤ r → r ≤ 512 → q ≡ rounded r y → Error r y (y + 32768 - r * q)
error_made {r} {y} {q} l h e =
    let n = near r y (omega arith) in
    rw e (record { is = is_same _ _ (error_is r y (omega arith)) (omega arith); high = omega arith; low = omega arith })

pub errors_more : (r : ℕ) (k l : List ℕ) (n e : ℕ) → Errors r k l n → n < 8 → Error r (x k n) e → Errors r k (set l n e) (n + 1)
errors_more r k l n e h b p =
    record {
      long = length-set l n e ∙ h.long;
      each = below_more (λ (i : ℕ). Error r (x k i) (get_or (set l n e) i 0)) n
          (λ i q. rw (get_or-set_other l n i e 0 (omega arith)) (h.each i q)) (rw (get_or-set_same l n e 0 (omega (arith, h.long))) p);
    }

-- the first i numbers are rounded: their sum, and so many errors in place
pub record Rounding (r : ℕ) (k : List ℕ) (sum : ℕ) (errors : List ℕ) (i : ℕ) : Type 0 where
  pub upto : i ≤ 8
  pub sum_is : sum ≡ sum_to (λ (j : ℕ). rounded r (x k j)) i
  pub most : sum ≤ 1000512 * i
  pub placed : Errors r k errors i

pub rounding_none : {r : ℕ} {k l : List ℕ} → length l ≡ 8 → Rounding r k 0 l 0
unfolding sum_to
rounding_none e = record { upto = omega arith; sum_is = refl; most = omega arith; placed = record { long = e; each = λ i b. absurd (omega arith) } }

pub rounding_more : {r s i y q e : ℕ} {k l : List ℕ} → Rounding r k s l i → i < 8 → y ≡ x k i → (q ≡ rounded r y) × (q < 1000512) → Error r y e
    → Rounding r k (s + q) (set l i e) (i + 1)
rounding_more {r} {s} {i} {y} {q} {e} {k} {l} p b ey eq h =
    let g : q ≡ rounded r (x k i) = eq.0 ∙ ap (rounded r) ey in
    record {
      upto = omega arith;
      sum_is = omega (arith, p.sum_is, sum_more (λ (j : ℕ). rounded r (x k j)) i);
      most = omega (arith, p.most, eq.1);
      placed = errors_more r k l i e p.placed b (subst (λ (n : ℕ). Error r n e) ey h);
    }

pub rounding_done : {r s i : ℕ} {k l : List ℕ} → Rounding r k s l i → 8 ≤ i → (s ≡ rounded_sum r k) × Errors r k l 8
unfolding rounded_sum
rounding_done {r} {s} {i} {k} {l} p b =
    let e : i ≡ 8 = omega (arith, p.upto) in
    (p.sum_is ∙ ap (sum_to (λ (j : ℕ). rounded r (x k j))) e, subst (λ (i : ℕ). Errors r k l i) e p.placed)

eqb_sym : (a b : ℕ) → eqb a b ≡ eqb b a
eqb_sym a b = by_bool (eqb b a) (λ e. eq-eqb a b (sym (eqb-true b a e)) ∙ sym e) (λ e. ne_eqb a b (λ h. eqb-false b a e (sym h)) ∙ sym e)

-- the place to change, found among the raised errors
pub changed_place_lem : (r : ℕ) (k l : List ℕ) (sum : ℕ) → sum ≡ rounded_sum r k → Errors r k l 8
    → cond (eqb (sum % 2) 1) (Some (largest (λ (i : ℕ). away (get_or l i 0)) 8)) None ≡ changed_place r k
unfolding changed_place worst
changed_place_lem r k l sum e h =
    rw (e, largest_alike (λ (i : ℕ). away (get_or l i 0)) (λ (i : ℕ). nat_abs (error r (x k i))) 8 (λ i b. sym (is_abs (h.each i b).is)))

-- a coordinate as the code makes it, from whether its place is changed and an error
pub coordinate_of : (r : ℕ) (k l : List ℕ) (i u : ℕ) {w : Option ℕ} {t : Bool} → 0 < r → Errors r k l 8 → w ≡ changed_place r k
    → t ≡ option_eq eqb w (Some i) → i < 8
    → u + r * cond t (cond (ltb 32768 (get_or l i 0)) 1 0) 0 ≡ get_or l i 0 + r * cond t (cond (ltb 32768 (get_or l i 0)) 0 1) 0
    → Is (coordinate r k i) u 32768
unfolding changed_place changed
coordinate_of r k l i u {w} {t} b h ew et q e =
    settled r k i 32768 (get_or l i 0) u t (ltb 32768 (get_or l i 0)) b (h.each i q).is (there (eqb (rounded_sum r k % 2) 1) refl) refl e
  where
    there : (o : Bool) → eqb (rounded_sum r k % 2) 1 ≡ o → changed r k i ≡ t
    there true o = simp (o, et, ew) (eqb_sym i (worst r k))
    there false o = simp (o, et, ew)

-- the same from what the code has: the rounded numbers, the place to change, and the raised coordinate made signed
pub coordinate_made : {r i u sum : ℕ} {k l : List ℕ} {w : Option ℕ} {t : Bool} {z : ℤ} → 4 ≤ r → (sum ≡ rounded_sum r k) × Errors r k l 8
    → w ≡ cond (eqb (sum % 2) 1) (Some (largest (λ (i : ℕ). away (get_or l i 0)) 8)) None → i < 8 → t ≡ option_eq eqb w (Some i)
    → (u + r * cond t (cond (ltb 32768 (get_or l i 0)) 1 0) 0 ≡ get_or l i 0 + r * cond t (cond (ltb 32768 (get_or l i 0)) 0 1) 0) × (u < 65536)
    → SFits w16 z → Is z u 32768 → to_z w16 (of_z w16 z) ≡ coordinate r k i
coordinate_made {r} {i} {u} {sum} {k} {l} p h ew b et s f e =
    to_z-of_z {w = w16} f ∙ is_unique e (coordinate_of r k l i u (omega arith) h.1 (ew ∙ changed_place_lem r k l sum h.0 h.1) et b s.0)
