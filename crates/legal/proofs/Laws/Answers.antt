-- The answer by its test, and the passes as the code makes them.
-- Assumes nothing.
use mathlib.Core.Path.{◌≡◌, ap, ◌∙◌}
use mathlib.Core.Bool.{Bool, true, false}
use mathlib.Core.List.{List}
use Prim.Native.Nat.{ℕ, ◌≤◌}
use lib.ListN.{length, get_or, set, replicate}
use native.Mathlib.Omega.{arith}
use Rattle.ground.proofs.Laws.ListsByRule.{everywhere}
use Rattle.ground.specs.Indices.{in_range}
use Rattle.ground.proofs.Laws.Indices.{range_at}
use Rattle.ground.specs.Replies.{done, out_of_range}
use Rattle.order.specs.SentOrder.{sent, banded}
use Rattle.order.proofs.Laws.SentOrder.{length_sent, sent_each}
use Rattle.legal.specs.Legal.{as_first, legal_of, legal_sent, capped, lowered, held}
use Rattle.legal.proofs.Laws.Passes.{capped_le, length_capped}
use Rattle.legal.specs.Answers.{legalised}

module _ (transient : Bool) (norms : List ℕ) where
  pub legal_no : {r : ℕ} → in_range norms 44 ≡ false → r ≡ out_of_range → record { reply = r; norms = replicate 44 0 } ≡ legalised transient norms
  unfolding legalised
  legal_no e q = rw (e, q)

  pub legal_yes : (ns : List ℕ) → in_range norms 44 ≡ true → ns ≡ legal_of transient norms → record { reply = done; norms = ns } ≡ legalised transient norms
  unfolding legalised
  legal_yes ns e q = rw (e, q)

-- what the first pass is given is in range
ready : (transient : Bool) (norms : List ℕ) → length norms ≡ 44 → in_range norms 44 ≡ true → (cs : List ℕ) → cs ≡ capped (sent transient norms) → (k : ℕ)
    → get_or cs k 0 ≤ 39
ready transient norms l e cs q =
    let ls = length_sent transient norms l in
    everywhere cs 44 39 (ap length q ∙ length_capped (sent transient norms) ∙ ls)
    (λ k b.
    let u = capped_le (sent transient norms) (omega arith) k b in
    let v = sent_each transient norms (λ (x : ℕ). x ≤ 39) (range_at norms 44 e) k b in
    omega (arith, ap (λ (z : List ℕ). get_or z k 0) q))

-- ---- the passes as the code makes them

pub cap_made : (ss : List ℕ) (v : ℕ) → v ≡ as_first (get_or ss 0 0) → set ss 0 v ≡ capped ss
unfolding capped
cap_made ss v e = ap (set ss 0) e

module _ (transient : Bool) (norms : List ℕ) {ss cs : List ℕ} (r : in_range norms 44 ≡ true) (es : ss ≡ sent transient norms) (ec : cs ≡ capped ss) where
  pub cap_ready : length norms ≡ 44 → (k : ℕ) → get_or cs k 0 ≤ 39
  cap_ready l = ready transient norms l r cs (ec ∙ ap capped es)

  pub legal_made : {ls hs ns : List ℕ} → ls ≡ lowered cs → hs ≡ held ls → ns ≡ banded transient hs
      → record { reply = done; norms = ns } ≡ legalised transient norms
  unfolding legal_of legal_sent
  legal_made {ns = ns} el eh en =
      legal_yes transient norms ns r (en ∙ ap (banded transient) (eh ∙ ap held (el ∙ ap lowered (ec ∙ ap capped es))))
