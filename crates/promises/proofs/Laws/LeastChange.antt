-- That legalising lowers no index more than it must: the page LeastChange, by the laws of `legal`.
-- Assumes nothing.
use mathlib.Core.Path.{◌≡◌, refl, sym, ap, ◌∙◌, subst⁻¹}
use mathlib.Core.Bool.{Bool}
use mathlib.Core.List.{List}
use Prim.Native.Nat.{ℕ, ◌+◌, ◌≤◌, ◌<◌}
use native.Mathlib.Omega.{arith}
use lib.ListN.{length, set}
use Rattle.ground.specs.Replies.{done}
use Rattle.ground.specs.Sums.{nth}
use Rattle.ground.proofs.Laws.Indices.{range_yes}
use Rattle.order.specs.SentOrder.{sent}
use Rattle.order.proofs.Laws.SentOrder.{length_sent, sent_each}
use Rattle.norms.specs.Legal.{LegalNorms}
use Rattle.norms.proofs.Laws.Legal.{legal_range}
use Rattle.norms.proofs.Laws.Answers.{choice_reply_lem, reply_legal, legal_reply}
use Rattle.legal.specs.Legal.{legal_of, NowhereAbove}
use Rattle.legal.specs.declared.Legal.{Legal}
use Rattle.legal.proofs.Laws.Answers.{legal_yes}
use Rattle.legal.proofs.Laws.Greatest.{legal_legal, legal_under, legal_greatest, legal_only, legal_none_higher, legal_stays, legal_as_sent}
use Rattle.legal.proofs.Laws.Reasons.{none_less, one_no_more}
use Rattle.promises.specs.Calls as call
use Rattle.promises.specs.LeastChange.{Indices, LeastChange, Consequences, Reasons, LegalNormsChangeLeast, result}

-- what the call answers to indices of 0–39
answer : (transient : Bool) (norms : List ℕ) → ((band : ℕ) → band < 44 → nth norms band ≤ 39)
    → call.legalise transient norms ≡ record { reply = done; norms = legal_of transient norms }
answer transient norms small = sym (legal_yes transient norms (legal_of transient norms) (range_yes norms 44 small) refl)

module _ (transient : Bool) (norms : List ℕ) (given : Indices norms) where
  told : result transient norms ≡ legal_of transient norms
  told = ap (λ (a : Legal). a.norms) (answer transient norms given.range)

  legal : LegalNorms transient (legal_of transient norms)
  legal = legal_legal transient norms given.long given.range

  least : LeastChange transient norms
  least =
      record {
        answered = ap (λ (a : Legal). a.reply) (answer transient norms given.range);
        legal = subst⁻¹ (LegalNorms transient) told legal;
        none_raised = subst⁻¹ (λ (r : List ℕ). NowhereAbove r norms) told (legal_under transient norms given.long);
        greatest = λ others w u. subst⁻¹ (NowhereAbove others) told (legal_greatest transient norms given.long others w u);
      }

  twice : call.legalise transient (legal_of transient norms) ≡ call.legalise transient norms
  twice =
      answer transient (legal_of transient norms) (legal_range transient (legal_of transient norms) legal)
      ∙ ap (λ (ns : List ℕ). record { reply = done; norms = ns }) (legal_stays transient (legal_of transient norms) legal.long legal)
      ∙ sym (answer transient norms given.range)

  consequences : Consequences transient norms
  consequences =
      record {
        unchanged = λ w. told ∙ legal_stays transient norms given.long w;
        twice = ap (call.legalise transient) told ∙ twice;
        none_one_higher =
            subst⁻¹ (λ (r : List ℕ). (band : ℕ) → band < 44 → nth r band < nth norms band → LegalNorms transient (set r band (nth r band + 1)) → ⊥) told
            (legal_none_higher transient norms given.long);
        no_other = λ others w u g. legal_only transient norms given.long given.range others w u g ∙ sym told;
      }

  reasons : Reasons transient norms
  reasons =
      let ss = sent transient norms in
      let long = length_sent transient norms given.long in
      let small = sent_each transient norms (λ (x : ℕ). x ≤ 39) given.range in
      let as_sent = ap (sent transient) told ∙ legal_as_sent transient norms given.long in
      record {
        none_allows_less = λ i p hi hp. omega (arith, ap (λ (x : List ℕ). nth x i) as_sent, none_less ss long small i p hi hp);
        one_allows_no_more = λ i h. let a = one_no_more ss long small i h in (a.place, a.inside, ap (λ (x : List ℕ). nth x i) as_sent ∙ a.exactly);
      }

sendable : (transient : Bool) (norms : List ℕ) → length norms ≡ 44
    → (LegalNorms transient norms → (call.choose_flag_n transient norms).reply ≡ done) × ((call.choose_flag_n transient norms).reply ≡ done → LegalNorms transient norms)
sendable transient norms long = (
  λ w. choice_reply_lem transient norms ∙ reply_legal transient norms long w,
  λ e. legal_reply transient norms long (sym (choice_reply_lem transient norms) ∙ e),
)

pub legal_norms_change_least : LegalNormsChangeLeast
legal_norms_change_least = record { least = least; consequences = consequences; reasons = reasons; legal_is_sendable = sendable }
