-- What legalising gives, told without its passes: of all legal norms nowhere above the given ones, the greatest. So there is no other, legal norms stay, and
-- the passes may be exchanged.
-- Assumes nothing.
use mathlib.Core.Path.{◌≡◌, sym, ◌∙◌, subst, subst⁻¹}
use mathlib.Core.Bool.{Bool, true, false}
use mathlib.Core.List.{List}
use Prim.Native.Nat.{ℕ, suc, ◌+◌, ◌≤◌, ◌<◌}
use native.Mathlib.Omega.{arith}
use native.Mathlib.Decide.{ℕ_discrete}
use lib.ListN.{length, get_or, set}
use lib.Seq.{ext_get_or, get_or-set_same, get_or-set_other}
use Rattle.ground.specs.ListsByRule.{table}
use Rattle.ground.proofs.Laws.ListsByRule.{get_d_table}
use Rattle.order.specs.SentOrder.{order, places, pick, sent, banded}
use Rattle.order.proofs.Laws.SentOrder.{place_band, band_place, banded_sent, sent_banded, length_sent, length_banded, sent_each}
use Rattle.norms.specs.Legal.{LegalIndices, LegalNorms}
use Rattle.legal.specs.Legal.{capped, lowered, held, legal_sent, legal_of, NowhereAbove}
use Rattle.legal.proofs.Laws.Passes.{capped_first, capped_le, lowered_step, lowered_le, length_lowered, held_first, held_step, held_le, length_held}
use Rattle.legal.proofs.Laws.Passes.{under_capped, under_lowered, under_held}

-- two lists of 44 of which none is anywhere above the other
pub same : (xs ys : List ℕ) → length xs ≡ 44 → length ys ≡ 44 → NowhereAbove xs ys → NowhereAbove ys xs → xs ≡ ys
same xs ys lx ly u v = ext_get_or 0 xs ys (lx ∙ sym ly) (λ k b. omega (arith, u k (omega arith), v k (omega arith)))

-- ---- in sent order

module _ (ss : List ℕ) (long : length ss ≡ 44) where
  pub sent_under : NowhereAbove (legal_sent ss) ss
  unfolding legal_sent
  sent_under i h = omega (arith, held_le (lowered (capped ss)) i h, lowered_le (capped ss) i h, capped_le ss (omega arith) i h)

  pub sent_greatest : (ts : List ℕ) → LegalIndices ts → NowhereAbove ts ss → NowhereAbove ts (legal_sent ss)
  unfolding legal_sent
  sent_greatest ts w u =
      let first = under_capped ss ts u (omega arith) w.first in
      let down = under_lowered (capped ss) ts first w.down in
      under_held (lowered (capped ss)) ts down w.up

  pub length_legal : length (legal_sent ss) ≡ 44
  unfolding legal_sent
  length_legal = length_held (lowered (capped ss))

  module _ (small : (i : ℕ) → i < 44 → get_or ss i 0 ≤ 39) where
    pub sent_legal : LegalIndices (legal_sent ss)
    unfolding legal_sent
    sent_legal =
        let c = capped ss in
        let b = lowered c in
        record {
          range = λ i h. omega (arith, sent_under i h, small i h);
          first = omega (arith, held_first b, lowered_le c 0 (omega arith), capped_first ss (omega arith));
          down = λ i h. omega (arith, held_le b i (omega arith), lowered_step c i h, held_step b i h);
          up = λ i h. omega (arith, held_step b i h);
        }

    -- first to last and then last pair to first gives the same
    pub legal_exchanged : lowered (held (capped ss)) ≡ legal_sent ss
    legal_exchanged =
        same (lowered h) (legal_sent ss) (length_lowered h) length_legal
        (sent_greatest (lowered h) exchanged_legal exchanged_under)
        (under_lowered h (legal_sent ss)
        (under_held (capped ss) (legal_sent ss) (under_capped ss (legal_sent ss) sent_under (omega arith) sent_legal.first) sent_legal.up)
        sent_legal.down)
      where
        h : List ℕ
        h = held (capped ss)

        exchanged_under : NowhereAbove (lowered h) ss
        exchanged_under i l = omega (arith, lowered_le h i l, held_le (capped ss) i l, capped_le ss (omega arith) i l)

        exchanged_legal : LegalIndices (lowered h)
        exchanged_legal =
            record {
              range = λ i l. omega (arith, exchanged_under i l, small i l);
              first = omega (arith, lowered_le h 0 (omega arith), held_first (capped ss), capped_first ss (omega arith));
              down = λ i l. omega (arith, lowered_step h i l);
              up = λ i l. omega (arith, lowered_le h (suc i) (omega arith), lowered_step h i l, held_step (capped ss) i l);
            }

-- ---- in band order

picked_under : (ks xs ys : List ℕ) → ((i : ℕ) → i < 44 → get_or ks i 0 < 44) → NowhereAbove xs ys → NowhereAbove (table 44 (pick ks xs)) (table 44 (pick ks ys))
picked_under ks xs ys inside u i h = omega (arith, get_d_table (pick ks xs) 44 0 i h, get_d_table (pick ks ys) 44 0 i h, u (get_or ks i 0) (inside i h))

in_sent_order : (transient : Bool) (xs ys : List ℕ) → NowhereAbove xs ys → NowhereAbove (sent transient xs) (sent transient ys)
unfolding sent
in_sent_order false xs ys u = u
in_sent_order true xs ys u = picked_under order xs ys (λ i h. (band_place i h).inside) u

in_band_order : (transient : Bool) (xs ys : List ℕ) → NowhereAbove xs ys → NowhereAbove (banded transient xs) (banded transient ys)
unfolding banded
in_band_order false xs ys u = u
in_band_order true xs ys u = picked_under places xs ys (λ i h. (place_band i h).inside) u

module _ (transient : Bool) (norms : List ℕ) (long : length norms ≡ 44) where
  -- the result as it is sent
  pub legal_as_sent : sent transient (legal_of transient norms) ≡ legal_sent (sent transient norms)
  unfolding legal_of
  legal_as_sent = sent_banded transient (legal_sent (sent transient norms)) (length_legal (sent transient norms) (length_sent transient norms long))

  pub legal_under : NowhereAbove (legal_of transient norms) norms
  unfolding legal_of
  legal_under =
      subst (NowhereAbove (legal_of transient norms)) (banded_sent transient norms long)
      (in_band_order transient (legal_sent (sent transient norms)) (sent transient norms) (sent_under (sent transient norms) (length_sent transient norms long)))

  pub legal_greatest : (others : List ℕ) → LegalNorms transient others → NowhereAbove others norms → NowhereAbove others (legal_of transient norms)
  unfolding legal_of
  legal_greatest others w u =
      let ss = sent transient norms in
      let ts = sent transient others in
      subst (λ (x : List ℕ). NowhereAbove x (legal_of transient norms)) (banded_sent transient others w.long)
      (in_band_order transient ts (legal_sent ss)
      (sent_greatest ss (length_sent transient norms long) ts w.as_sent (in_sent_order transient others norms u)))

  length_legal_of : length (legal_of transient norms) ≡ 44
  unfolding legal_of
  length_legal_of = length_banded transient (legal_sent (sent transient norms)) (length_legal (sent transient norms) (length_sent transient norms long))

  -- legal norms stay as they are
  pub legal_stays : LegalNorms transient norms → legal_of transient norms ≡ norms
  legal_stays w = same (legal_of transient norms) norms length_legal_of long legal_under (legal_greatest norms w (λ i h. omega arith))

  -- an index that was lowered cannot be one higher, the others as they are
  pub legal_none_higher : (band : ℕ) → band < 44 → get_or (legal_of transient norms) band 0 < get_or norms band 0
      → LegalNorms transient (set (legal_of transient norms) band (get_or (legal_of transient norms) band 0 + 1)) → ⊥
  legal_none_higher band h fell w =
      let r = legal_of transient norms in
      let v = get_or r band 0 + 1 in
      let there = get_or-set_same r band v 0 (omega (arith, length_legal_of)) in
      let under : NowhereAbove (set r band v) norms =
      λ i l.
      elim (ℕ_discrete i band) [
        | yes e ↦ rw e (omega (arith, there))
        | no e ↦ omega (arith, get_or-set_other r band i v 0 e, legal_under i l)
      ] in
      omega (arith, there, legal_greatest (set r band v) w under band h)

  module _ (small : (band : ℕ) → band < 44 → get_or norms band 0 ≤ 39) where
    pub legal_legal : LegalNorms transient (legal_of transient norms)
    legal_legal =
        record {
          long = length_legal_of;
          as_sent =
              subst⁻¹ LegalIndices legal_as_sent
              (sent_legal (sent transient norms) (length_sent transient norms long) (sent_each transient norms (λ (x : ℕ). x ≤ 39) small));
        }

    -- no other norms are legal, nowhere above the given ones, and such that no others that are so are above them
    pub legal_only : (others : List ℕ) → LegalNorms transient others → NowhereAbove others norms
        → ((lower : List ℕ) → LegalNorms transient lower → NowhereAbove lower norms → NowhereAbove lower others)
        → others ≡ legal_of transient norms
    legal_only others w u g =
        same others (legal_of transient norms) w.long length_legal_of (legal_greatest others w u) (g (legal_of transient norms) legal_legal legal_under)
