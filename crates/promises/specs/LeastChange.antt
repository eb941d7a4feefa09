-- Change No. 14 (02): legal norms that change least. "A singer on one boat came out too loud after legalising, and the makers asked if it lowers indices more than
-- it must. Show that it doesn't: the result is legal, no index is raised, and every legal sequence that is nowhere above the input is nowhere above the result.
-- This covers any 44 indices of 0–39, in either sent order."
-- Told on the answer of the call `legalise`. What legal is stands in norms/specs/Legal, once: 44 indices of 0–39, and as they are sent the first at most 31 and each
-- difference −15 to 16. A smaller index is louder: what is lowered comes out louder. Three cases with numbers are the page LoudPeaks.
-- Assumes nothing.
use Rattle.std.specs.Prelude.{◌≡◌, Bool, List, ℕ, ◌+◌, ◌≤◌, ◌<◌, length, set}
use Rattle.ground.specs.Replies.{done}
use Rattle.ground.specs.Sums.{nth}
use Rattle.order.specs.SentOrder.{sent}
use Rattle.norms.specs.Legal.{LegalNorms}
use Rattle.legal.specs.Legal.{NowhereAbove, capped, allowed}
use Rattle.promises.specs.Calls as call

-- "any 44 indices of 0–39"
pub record Indices (norms : List ℕ) : Type 0 where
  pub long : length norms ≡ 44
  pub range : (band : ℕ) → band < 44 → nth norms band ≤ 39

module _ (transient : Bool) (norms : List ℕ) where
  abbrev pub result : List ℕ
  result = (call.legalise transient norms).norms

  pub record LeastChange : Type 0 where
    pub answered : (call.legalise transient norms).reply ≡ done
    -- "the result is legal, …
    pub legal : LegalNorms transient result
    -- … no index is raised, …
    pub none_raised : NowhereAbove result norms
    -- … and every legal sequence that is nowhere above the input is nowhere above the result"
    pub greatest : (others : List ℕ) → LegalNorms transient others → NowhereAbove others norms → NowhereAbove others result

  pub record Consequences : Type 0 where
    -- a legal input comes back unchanged
    pub unchanged : LegalNorms transient norms → result ≡ norms
    -- legalising twice is legalising once
    pub twice : call.legalise transient result ≡ call.legalise transient norms
    -- an index that was lowered could not stand one higher, the others as they are
    pub none_one_higher : (band : ℕ) → band < 44 → nth result band < nth norms band → LegalNorms transient (set result band (nth result band + 1)) → ⊥
    -- 02's three sentences say the whole result: no other sequence has them
    pub no_other : (others : List ℕ) → LegalNorms transient others → NowhereAbove others norms
        → ((more : List ℕ) → LegalNorms transient more → NowhereAbove more norms → NowhereAbove more others) → others ≡ result

  -- Why an index is what it is, by places in sent order. Each place of the input, the first taken as 31 where it is over, allows at another place at most 15 a place
  -- more than it has itself where it is sent later, and 16 where it is sent earlier (`allowed`)
  pub record Reasons : Type 0 where
    -- no place allows less than the result has, and one allows no more
    pub none_allows_less : (i p : ℕ) → i < 44 → p < 44 → nth (sent transient result) i ≤ allowed (capped (sent transient norms)) p i
    pub one_allows_no_more : (i : ℕ) → i < 44 → (p : ℕ) × (p < 44) × (nth (sent transient result) i ≡ allowed (capped (sent transient norms)) p i)

pub record LegalNormsChangeLeast : Type 0 where
  pub least : (transient : Bool) (norms : List ℕ) → Indices norms → LeastChange transient norms
  pub consequences : (transient : Bool) (norms : List ℕ) → Indices norms → Consequences transient norms
  pub reasons : (transient : Bool) (norms : List ℕ) → Indices norms → Reasons transient norms
  -- legal is what can be sent: exactly then the FlagN choice answers 0
  pub legal_is_sendable : (transient : Bool) (norms : List ℕ) → length norms ≡ 44
      → (LegalNorms transient norms → (call.choose_flag_n transient norms).reply ≡ done)
      × ((call.choose_flag_n transient norms).reply ≡ done → LegalNorms transient norms)
