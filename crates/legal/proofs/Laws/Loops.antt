-- The two passes of the legaliser, place by place.
-- Assumes nothing.
use mathlib.Core.Path.{◌≡◌, refl, sym, ap, ◌∙◌, subst⁻¹}
use mathlib.Core.List.{List}
use Prim.Native.Nat.{ℕ, suc, ◌+◌, ◌-◌, ◌≤◌, ◌<◌}
use native.Mathlib.Omega.{arith}
use lib.ListN.{length, get_or, set, length-set}
use native.Mathlib.Decide.{ℕ_discrete}
use Rattle.std.proofs.Common.{get_or-set_same, get_or-set_other}
use Rattle.ground.proofs.Laws.ListsByRule.{everywhere, fill, filled}
use Rattle.legal.specs.Legal.{by_successor, by_predecessor, fallen, risen, lowered, held}
use Rattle.legal.proofs.Laws.Passes.{lowered_le, length_lowered}

-- ---- the two passes of the legaliser

-- the next place below i
fallen_next : (ss : List ℕ) (i last r : ℕ) → 0 < i → i ≤ 43 → last ≡ fallen ss (43 - i) → r ≡ by_successor (get_or ss (i - 1) 0) last
    → r ≡ fallen ss (43 - (i - 1))
unfolding fallen
fallen_next ss i last r p h e q =
    let a : 43 - (i - 1) ≡ suc (43 - i) = omega arith in
    let b : 43 - suc (43 - i) ≡ i - 1 = omega arith in
    q ∙ ap (by_successor (get_or ss (i - 1) 0)) e ∙ ap (λ (k : ℕ). by_successor (get_or ss k 0) (fallen ss (43 - i))) (sym b) ∙ ap (fallen ss) (sym a)

fallen_start : (ss : List ℕ) → get_or ss 43 0 ≡ fallen ss (43 - 43)
unfolding fallen
fallen_start ss = refl

risen_next : (ss : List ℕ) (i last r : ℕ) → 0 < i → last ≡ risen ss (i - 1) → r ≡ by_predecessor (get_or ss i 0) last → r ≡ risen ss i
unfolding risen
risen_next ss i last r p e q =
    let a : i ≡ suc (i - 1) = omega arith in
    q ∙ ap (by_predecessor (get_or ss i 0)) e ∙ ap (λ (k : ℕ). by_predecessor (get_or ss k 0) (risen ss (i - 1))) a ∙ ap (risen ss) (sym a)

risen_start : (ss : List ℕ) → get_or ss 0 0 ≡ risen ss 0
unfolding risen
risen_start ss = refl

-- no index rises
lowered_small : (ss : List ℕ) → ((k : ℕ) → get_or ss k 0 ≤ 39) → (k : ℕ) → get_or (lowered ss) k 0 ≤ 39
lowered_small ss h =
    everywhere (lowered ss) 44 39 (length_lowered ss) (λ k b. omega (arith, lowered_le ss k b, h k))

-- ---- last to first: the places from i on stand in out

-- places from i on are filled, and place j just below them is next
fill_down : (f : ℕ → ℕ) (d : ℕ) (l : List ℕ) (n i j v : ℕ) → i ≡ suc j → j < length l → ((k : ℕ) → i ≤ k → k < n → get_or l k d ≡ f k) → v ≡ f j
    → (k : ℕ) → j ≤ k → k < n → get_or (set l j v) k d ≡ f k
fill_down f d l n i j v q b h e k c m =
    elim (ℕ_discrete k j) [ yes p ↦ rw p (get_or-set_same l j v d b ∙ e) | no p ↦ get_or-set_other l j k v d p ∙ h k (omega (arith, p)) m ]

pub record Lowering (ss out : List ℕ) (i : ℕ) : Type 0 where
  pub upto : i ≤ 43
  pub long : length out ≡ 44
  pub small : get_or out i 0 ≤ 39
  pub each : (k : ℕ) → i ≤ k → k < 44 → get_or out k 0 ≡ fallen ss (43 - k)

module _ {ss : List ℕ} (range : (k : ℕ) → get_or ss k 0 ≤ 39) where
  pub lower_start : length ss ≡ 44 → Lowering ss ss 43
  lower_start l =
      record {
        upto = omega arith;
        long = l;
        small = range 43;
        each = λ k a b. let e : k ≡ 43 = omega arith in rw e (fallen_start ss);
      }

  module _ {out : List ℕ} {i : ℕ} (I : Lowering ss out i) where
    -- by the successor as it stands in out
    pub lower_turn : {v j : ℕ} → 0 < i → j ≡ i → v ≡ by_successor (get_or ss (i - 1) 0) (get_or out j 0) → Lowering ss (set out (i - 1) v) (i - 1)
    lower_turn {v} {j} h ej q =
        let s : get_or out j 0 ≡ fallen ss (43 - i) = ap (λ (k : ℕ). get_or out k 0) ej ∙ I.each i (omega arith) (omega (arith, I.upto)) in
        let e = fallen_next ss i (get_or out j 0) v h I.upto s q in
        let o : i - 1 < length out = omega (arith, I.long, I.upto) in
        record {
          upto = omega (arith, I.upto);
          long = length-set out (i - 1) v ∙ I.long;
          small = rw (get_or-set_same out (i - 1) v 0 o) (omega (arith, range (i - 1)));
          each = fill_down (λ (k : ℕ). fallen ss (43 - k)) 0 out 44 i (i - 1) v (omega arith) o I.each e;
        }

    pub lower_end : i ≤ 0 → (out ≡ lowered ss) × ((k : ℕ) → get_or out k 0 ≤ 39)
    lower_end h =
        let e = filled (λ (k : ℕ). fallen ss (43 - k)) 44 0 out I.long (λ k b. I.each k (omega arith) b) in
        (e, λ k. subst⁻¹ (λ (z : List ℕ). get_or z k 0 ≤ 39) e (lowered_small ss range k))

-- ---- first to last: the places below i stand in out

pub record Holding (ss out : List ℕ) (i : ℕ) : Type 0 where
  pub from : 1 ≤ i
  pub upto : i ≤ 44
  pub long : length out ≡ 44
  pub small : get_or out (i - 1) 0 ≤ 39
  pub each : (k : ℕ) → k < i → get_or out k 0 ≡ risen ss k

module _ {ss : List ℕ} (range : (k : ℕ) → get_or ss k 0 ≤ 39) where
  pub hold_start : length ss ≡ 44 → Holding ss ss 1
  hold_start l =
      record {
        from = omega arith;
        upto = omega arith;
        long = l;
        small = range 0;
        each = λ k b. let e : k ≡ 0 = omega arith in rw e (risen_start ss);
      }

  module _ {out : List ℕ} {i : ℕ} (I : Holding ss out i) where
    pub hold_turn : {v : ℕ} → i < 44 → v ≡ by_predecessor (get_or ss i 0) (get_or out (i - 1) 0) → Holding ss (set out i v) (i + 1)
    hold_turn {v} h q =
        let e = risen_next ss i (get_or out (i - 1) 0) v I.from (I.each (i - 1) (omega (arith, I.from))) q in
        let o : i < length out = omega (arith, I.long) in
        let z : i + 1 - 1 ≡ i = omega arith in
        record {
          from = omega arith;
          upto = omega arith;
          long = length-set out i v ∙ I.long;
          small = rw (z, get_or-set_same out i v 0 o) (omega (arith, range i));
          each = fill (risen ss) 0 out i v o I.each e;
        }

    pub hold_end : 44 ≤ i → out ≡ held ss
    hold_end h = filled (risen ss) 44 0 out I.long (λ k b. I.each k (omega arith))
