-- A loop that fills an array of n places, one a turn, or reckons a value in n turns: what holds before a turn, and what it leaves. Assumes nothing.
use mathlib.Core.Path.{◌≡◌, ap, ◌∙◌}
use mathlib.Core.List.{List, ◌∷◌}
use Prim.Native.Nat.{ℕ, ◌+◌, ◌<◌, ◌≤◌}
use native.Mathlib.Omega.{arith}
use lib.ListN.{length, get_or, set, length-set}
use Rattle.ground.specs.ListsByRule.{table}
use Rattle.ground.proofs.Laws.ListsByRule.{filled}
use Rattle.ground.proofs.Laws.ListsByRule.{fill}

module _ {A : Type 0} where
  -- upwards: the first i places are as f says
  pub record Filling (n : ℕ) (f : ℕ → A) (l : List A) (i : ℕ) : Type 0 where
    pub upto : i ≤ n
    pub long : length l ≡ n
    pub same : (d : A) (k : ℕ) → k < i → get_or l k d ≡ f k

  pub filling_none : {n : ℕ} {f : ℕ → A} {l : List A} → length l ≡ n → Filling n f l 0
  filling_none e = record { upto = omega arith; long = e; same = λ d k h. absurd (omega arith) }

  pub filling_one : {n : ℕ} {f : ℕ → A} {v : A} {l : List A} → length (v ∷ l) ≡ n → v ≡ f 0 → Filling n f (v ∷ l) 1
  filling_one {n} {f} {v} {l} q e = record { upto = omega arith; long = q; same = λ d k b. let z : k ≡ 0 = omega arith in rw z e }

  pub filling_more : {n : ℕ} {f : ℕ → A} {l : List A} {i : ℕ} {v : A} → Filling n f l i → i < n → v ≡ f i → Filling n f (set l i v) (i + 1)
  filling_more {n} {f} {l} {i} {v} r h e =
      record { upto = omega arith; long = simp length-set r.long; same = λ d. fill f d l i v (omega arith) (r.same d) e }

  pub filling_done : {n : ℕ} {f : ℕ → A} {l : List A} {i : ℕ} → Filling n f l i → n ≤ i → l ≡ table n f
  filling_done {n} {f} {l} r h = filled f n (f 0) l r.long (λ k b. r.same (f 0) k (omega arith))

-- what closes the start, a turn and the end of a loop that fills
pub ruleset filling = (filling_none, filling_one, filling_more, filling_done)

module _ {A : Type 0} where
  -- a value reckoned in n turns: after i of them it is g i
  pub record Reaching (n : ℕ) (g : ℕ → A) (v : A) (i : ℕ) : Type 0 where
    pub upto : i ≤ n
    pub at : v ≡ g i

  pub reaching_none : {n : ℕ} {g : ℕ → A} {v : A} → v ≡ g 0 → Reaching n g v 0
  reaching_none e = record { upto = omega arith; at = e }

  pub reaching_more : {n : ℕ} {g : ℕ → A} {v w : A} {i : ℕ} → Reaching n g v i → i < n → w ≡ g (i + 1) → Reaching n g w (i + 1)
  reaching_more r h e = record { upto = omega arith; at = e }

  pub reaching_done : {n : ℕ} {g : ℕ → A} {v : A} {i : ℕ} → Reaching n g v i → n ≤ i → v ≡ g n
  reaching_done {n} {g} {v} {i} r h = let e : i ≡ n = omega arith in r.at ∙ ap g e

pub ruleset reaching = (reaching_none, reaching_more)
