-- The norms' causes by their tests, the FlagN choice, and that 0 is answered exactly for legal norms.
-- Assumes nothing.
use mathlib.Core.Path.{◌≡◌, sym, ap}
use mathlib.Core.Bool.{Bool, true, false}
use mathlib.Core.List.{List}
use Prim.Native.Nat.{ℕ, ◌≤◌, ◌<◌}
use lib.Dec.{ltb, eqb}
use lib.ListN.{length, get_or}
use native.Mathlib.Omega.{arith}
use borrow.Author.Tests.{not-false, ltb-false, lt-leb, le-leb, eq-eqb, ne_eqb, eqb-true}
use Rattle.ground.specs.Indices.{in_range}
use Rattle.norms.specs.Steps.{steps_close}
use Rattle.ground.proofs.Laws.Cases.{by_bool}
use Rattle.ground.proofs.Laws.Indices.{range_yes, range_at}
use Rattle.ground.specs.Replies.{done, out_of_range, far_apart}
use Rattle.ground.proofs.Laws.Refusals.{first_none, by_rows}
use Rattle.order.specs.SentOrder.{sent}
use Rattle.order.proofs.Laws.SentOrder.{length_sent, sent_first, sent_each}
use Rattle.norms.specs.Legal.{LegalNorms}
use Rattle.norms.proofs.Laws.Steps.{near_first, steps_near}
use Rattle.norms.proofs.Laws.Legal.{near_legal, sent_near, legal_range}
use Rattle.norms.specs.Answers.{norm_causes, norm_reply, word_total, chosen, choice_of}

-- ---- what the code answers

module _ {x y : ℕ} (e : x ≡ y) where
  pub chosen_no : (flag : Bool) → (x ≡ 0 → ⊥) → record { reply = x; flag = false } ≡ chosen y flag
  chosen_no flag n = rw (← e, ne_eqb x 0 n)

  pub chosen_yes : {a b : Bool} → x ≡ 0 → a ≡ b → record { reply = done; flag = a } ≡ chosen y b
  chosen_yes z q = rw (← e, eq-eqb x 0 z) (ap (λ (t : Bool). record { reply = done; flag = t }) q)

chosen_reply : (x : ℕ) (flag : Bool) → (chosen x flag).reply ≡ x
chosen_reply x flag = by_bool (eqb x 0) (λ t. rw t (sym (eqb-true x 0 t))) (λ t. rw t)

module _ (transient : Bool) (norms : List ℕ) where
  pub choice_reply_lem : (choice_of transient norms).reply ≡ norm_reply transient norms
  unfolding choice_of
  choice_reply_lem = chosen_reply (norm_reply transient norms) (ltb (word_total transient norms) 215)

  pub choice_no : (r : ℕ) → r ≡ norm_reply transient norms → (r ≡ 0 → ⊥) → record { reply = r; flag = false } ≡ choice_of transient norms
  unfolding choice_of
  choice_no r e n = chosen_no e (ltb (word_total transient norms) 215) n

  pub choice_yes : (r n : ℕ) → r ≡ norm_reply transient norms → r ≡ 0 → n ≡ word_total transient norms
      → record { reply = done; flag = ltb n 215 } ≡ choice_of transient norms
  unfolding choice_of
  choice_yes r n e z q = chosen_yes e z (ap (λ (k : ℕ). ltb k 215) q)

-- ---- the reply by the tests in 01's order

module _ (transient : Bool) (norms : List ℕ) where
  pub reply_range : in_range norms 44 ≡ false → norm_reply transient norms ≡ out_of_range
  unfolding norm_causes
  reply_range r = sym (search by_rows)

  pub reply_first : in_range norms 44 ≡ true → 31 < get_or norms 0 0 → norm_reply transient norms ≡ out_of_range
  unfolding norm_causes
  reply_first r h = sym (search by_rows)

  pub reply_far : in_range norms 44 ≡ true → get_or norms 0 0 ≤ 31 → steps_close (sent transient norms) ≡ false → norm_reply transient norms ≡ far_apart
  unfolding norm_causes
  reply_far r h c = sym (search by_rows)

  pub reply_none : in_range norms 44 ≡ true → get_or norms 0 0 ≤ 31 → steps_close (sent transient norms) ≡ true → norm_reply transient norms ≡ done
  unfolding norm_causes
  reply_none r h c = sym (search by_rows)

-- what closes the returns of the code's tests
pub ruleset by_tests = (reply_range, reply_first, reply_far, reply_none, lt-leb, le-leb)

-- ---- the reply is 0 exactly for legal norms

module _ (transient : Bool) (norms : List ℕ) (l : length norms ≡ 44) where
  pub reply_legal : LegalNorms transient norms → norm_reply transient norms ≡ done
  reply_legal w =
      let range = range_yes norms 44 (legal_range transient norms w) in
      let low : get_or norms 0 0 ≤ 31 = omega (arith, sent_first transient norms, w.as_sent.first) in
      let close = steps_near (sent transient norms) (sent_near transient norms w) in
      reply_none transient norms range low close

  pub legal_reply : norm_reply transient norms ≡ done → LegalNorms transient norms
  unfolding norm_causes
  legal_reply e =
      let c = first_none (norm_causes transient norms) tt e in
      let ls = length_sent transient norms l in
      let ss = sent transient norms in
      record {
        long = l;
        as_sent =
            near_legal ss ls
            (near_first ss (omega arith) (λ i h. sent_each transient norms (λ (x : ℕ). x ≤ 39) (range_at norms 44 (not-false _ (search))) i (omega arith))
            (omega (arith, sent_first transient norms, ltb-false)) (not-false _ (search)));
      }
