-- Why an index of the result is what it is: no place of the input allows less, and one allows no more.
-- Assumes nothing.
use mathlib.Core.Path.{◌≡◌, sym, subst}
use mathlib.Core.List.{List}
use Prim.Native.Nat.{ℕ, zero, suc, ◌+◌, ◌-◌, ◌*◌, ◌≤◌, ◌<◌}
use native.Mathlib.Omega.{arith}
use native.Mathlib.Decide.{dec_lt}
use lib.ListN.{length, get_or}
use Rattle.norms.specs.Legal.{LegalIndices}
use Rattle.legal.specs.Legal.{capped, lowered, held, legal_sent, allowed, NowhereAbove}
use Rattle.legal.proofs.Laws.Passes.{from_last, lowered_last, lowered_step, lowered_le, held_first, held_step, held_le}
use Rattle.legal.proofs.Laws.Greatest.{sent_legal}

-- ---- legal indices allow each other

module _ (ts : List ℕ) (w : LegalIndices ts) where
  later : (d i p : ℕ) → p ≡ i + d → p < 44 → get_or ts i 0 ≤ get_or ts p 0 + 15 * (p - i)
  later zero i p e h = let q : p ≡ i = omega arith in rw q (omega arith)
  later (suc d) i p e h = omega (arith, w.down i (omega arith), later d (suc i) p (omega arith) h)

  earlier : (d i p : ℕ) → i ≡ p + d → i < 44 → get_or ts i 0 ≤ get_or ts p 0 + 16 * (i - p)
  earlier zero i p e h = let q : p ≡ i = omega arith in rw q (omega arith)
  earlier (suc d) i p e h = omega (arith, w.up p (omega arith), earlier d i (suc p) (omega arith) h)

  pub legal_allowed : (i p : ℕ) → i < 44 → p < 44 → get_or ts i 0 ≤ allowed ts p i
  legal_allowed i p hi hp =
      elim (dec_lt p i) [
        | yes q ↦ omega (arith, earlier (i - p) i p (omega arith) hi)
        | no q ↦ (let q' : i ≤ p = omega (arith, q) in omega (arith, later (p - i) i p (omega arith) hp))
      ]

-- ---- the result is accounted for, place by place

-- the index that a place has is what some place of cs allows
pub record Accounted (cs : List ℕ) (v i : ℕ) : Type 0 where
  pub place : ℕ
  pub inside : place < 44
  pub exactly : v ≡ allowed cs place i

-- by itself or a later place
record Later (cs : List ℕ) (v i : ℕ) : Type 0 where
  place : ℕ
  inside : place < 44
  behind : i ≤ place
  exactly : v ≡ get_or cs place 0 + 15 * (place - i)

lowered_later : (cs : List ℕ) (i : ℕ) → i < 44 → Later cs (get_or (lowered cs) i 0) i
lowered_later cs =
    from_last (λ (i : ℕ). Later cs (get_or (lowered cs) i 0) i)
    (record { place = 43; inside = omega arith; behind = omega arith; exactly = omega (arith, lowered_last cs) })
    (λ i h next.
    elim (dec_lt (get_or (lowered cs) (suc i) 0 + 15) (get_or cs i 0)) [
      | yes q ↦
          record {
            place = next.place;
            inside = next.inside;
            behind = omega (arith, next.behind);
            exactly = omega (arith, next.behind, next.exactly, lowered_step cs i h);
          }
      | no q ↦ record { place = i; inside = omega arith; behind = omega arith; exactly = omega (arith, q, lowered_step cs i h) }
    ])

module _ (ss : List ℕ) (long : length ss ≡ 44) (small : (i : ℕ) → i < 44 → get_or ss i 0 ≤ 39) where
  under_first : NowhereAbove (legal_sent ss) (capped ss)
  unfolding legal_sent
  under_first i h = omega (arith, held_le (lowered (capped ss)) i h, lowered_le (capped ss) i h)

  pub none_less : (i p : ℕ) → i < 44 → p < 44 → get_or (legal_sent ss) i 0 ≤ allowed (capped ss) p i
  none_less i p hi hp = omega (arith, legal_allowed (legal_sent ss) (sent_legal ss long small) i p hi hp, under_first p hp)

  from_lowered : (v i : ℕ) → Later (capped ss) v i → Accounted (capped ss) v i
  from_lowered v i a = record { place = a.place; inside = a.inside; exactly = omega (arith, a.behind, a.exactly) }

  pub one_no_more : (i : ℕ) → i < 44 → Accounted (capped ss) (get_or (legal_sent ss) i 0) i
  unfolding legal_sent
  one_no_more zero h =
      subst (λ (v : ℕ). Accounted (capped ss) v 0) (sym (held_first (lowered (capped ss)))) (from_lowered _ 0 (lowered_later (capped ss) 0 h))
  one_no_more (suc i) h =
      let c = capped ss in
      let b = lowered c in
      let step = held_step b i (omega arith) in
      elim (dec_lt (get_or (held b) i 0 + 16) (get_or b (suc i) 0)) [
        | yes q ↦
            (let a = one_no_more i (omega arith) in
            let l = none_less (suc i) a.place h a.inside in
            record { place = a.place; inside = a.inside; exactly = omega (arith, a.exactly) })
        | no q ↦
            (let e : get_or b (suc i) 0 ≡ get_or (held b) (suc i) 0 = omega (arith, q) in
            subst (λ (v : ℕ). Accounted c v (suc i)) e (from_lowered _ (suc i) (lowered_later c (suc i) h)))
      ]
