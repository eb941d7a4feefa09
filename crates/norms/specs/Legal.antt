-- Which norms are legal (01, Norms): those that a frame can send.
-- Assumes nothing.
use Rattle.std.specs.Prelude.{◌≡◌, Bool, List, ℕ, suc, ◌+◌, ◌≤◌, ◌<◌, length}
use Rattle.ground.specs.Sums.{nth}
use Rattle.order.specs.SentOrder.{sent}

-- Indices as they are sent: "44 indices, 0–39"; "The first is 5 bits, so 0–31"; and each of the 43 differences, an index less the one sent before it, is
-- −15 to 16
pub record LegalIndices (ss : List ℕ) : Type 0 where
  pub range : (place : ℕ) → place < 44 → nth ss place ≤ 39
  pub first : nth ss 0 ≤ 31
  pub down : (place : ℕ) → place < 43 → nth ss place ≤ nth ss (suc place) + 15
  pub up : (place : ℕ) → place < 43 → nth ss (suc place) ≤ nth ss place + 16

-- norms in band order, by the order in which their kind of frame sends them
pub record LegalNorms (transient : Bool) (norms : List ℕ) : Type 0 where
  pub long : length norms ≡ 44
  pub as_sent : LegalIndices (sent transient norms)
