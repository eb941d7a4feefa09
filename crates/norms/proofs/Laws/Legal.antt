-- Legal indices, told by place, are near each other from one to the next, and the other way round.
-- Assumes nothing.
use mathlib.Core.Path.{◌≡◌}
use mathlib.Core.Bool.{Bool}
use mathlib.Core.List.{List, [], ◌∷◌}
use Prim.Native.Nat.{ℕ, zero, suc, ◌+◌, ◌≤◌, ◌<◌}
use native.Mathlib.Nat.{le_of_suc-le-suc}
use native.Mathlib.Omega.{arith}
use lib.ListN.{length, get_or}
use Rattle.order.specs.SentOrder.{sent}
use Rattle.order.proofs.Laws.SentOrder.{length_sent, each_sent}
use Rattle.norms.specs.Legal.{LegalIndices, LegalNorms}
use Rattle.norms.proofs.Laws.Steps.{Near}

record Step (x y : ℕ) : Type 0 where
  small : y ≤ 39
  down : x ≤ y + 15
  up : y ≤ x + 16

near_of : (x : ℕ) (ys : List ℕ) → ((i : ℕ) → i < length ys → Step (get_or (x ∷ ys) i 0) (get_or ys i 0)) → Near x ys
near_of x [] h = tt
near_of x (y ∷ ys) h =
    let s = h 0 (omega arith) in
    (s.small, s.down, s.up, near_of y ys (λ i l. h (suc i) (omega arith)))

near_at : (x : ℕ) (ys : List ℕ) → Near x ys → (i : ℕ) → i < length ys → Step (get_or (x ∷ ys) i 0) (get_or ys i 0)
near_at x [] n i h = absurd (omega arith)
near_at x (y ∷ ys) n zero h = record { small = n.0; down = n.1; up = n.2 }
near_at x (y ∷ ys) n (suc i) h = near_at y ys n.3 i (le_of_suc-le-suc h)

module _ (ss : List ℕ) (long : length ss ≡ 44) where
  pub near_legal : Near 15 ss → LegalIndices ss
  near_legal n =
      let at : (i : ℕ) → i < 44 → Step (get_or (15 ∷ ss) i 0) (get_or ss i 0) = λ i h. near_at 15 ss n i (omega arith) in
      record {
        range = λ i h. (at i h).small;
        first = omega (arith, (at 0 (omega arith)).up);
        down = λ i h. omega (arith, (at (suc i) (omega arith)).down);
        up = λ i h. omega (arith, (at (suc i) (omega arith)).up);
      }

  legal_step : LegalIndices ss → (i : ℕ) → i < 44 → Step (get_or (15 ∷ ss) i 0) (get_or ss i 0)
  legal_step w zero h = record { small = w.range 0 h; down = omega arith; up = omega (arith, w.first) }
  legal_step w (suc i) h = record { small = w.range (suc i) h; down = omega (arith, w.down i (omega arith)); up = omega (arith, w.up i (omega arith)) }

  pub legal_near : LegalIndices ss → Near 15 ss
  legal_near w = near_of 15 ss (λ i h. legal_step w i (omega arith))

pub sent_near : (transient : Bool) (norms : List ℕ) → LegalNorms transient norms → Near 15 (sent transient norms)
sent_near transient norms w = legal_near (sent transient norms) (length_sent transient norms w.long) w.as_sent

-- legal norms are at most 39 in each band
pub legal_range : (transient : Bool) (norms : List ℕ) → LegalNorms transient norms → (band : ℕ) → band < 44 → get_or norms band 0 ≤ 39
legal_range transient norms w = each_sent transient norms (λ (x : ℕ). x ≤ 39) w.as_sent.range
