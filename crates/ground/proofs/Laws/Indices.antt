-- The test of 44 indices passes where each is at most 39, fails where one is not, and tells it of each.
-- Assumes nothing.
use mathlib.Core.Path.{◌≡◌, refl, sym}
use mathlib.Core.Bool.{Bool, true, false, and-false}
use mathlib.Core.List.{List}
use Prim.Native.Nat.{ℕ, zero, suc, ◌≤◌, ◌<◌}
use native.Mathlib.Nat.{not-suc-le-zero}
use native.Mathlib.Decide.{ℕ_discrete}
use native.Mathlib.Omega.{arith}
use borrow.Author.Tests.{le-leb, lt-leb, leb-true}
use lib.Dec.{leb}
use lib.ListN.{length, get_or}
use Rattle.ground.proofs.Laws.Cases.{and_true}
use Rattle.ground.specs.Indices.{in_range}

pub range_yes : (norms : List ℕ) (n : ℕ) → ((k : ℕ) → k < n → get_or norms k 0 ≤ 39) → in_range norms n ≡ true
unfolding in_range
range_yes norms zero h = refl
range_yes norms (suc n) h = rw (le-leb (get_or norms n 0) 39 (h n (omega arith))) (range_yes norms n (λ k b. h k (omega arith)))

pub range_no : (norms : List ℕ) (n k : ℕ) → k < n → 39 < get_or norms k 0 → in_range norms n ≡ false
unfolding in_range
range_no norms zero k h m = absurd (not-suc-le-zero h)
range_no norms (suc n) k h m =
    elim (ℕ_discrete k n) [
      | yes e ↦ (let m' : 39 < get_or norms n 0 = rw (← e) m in rw (lt-leb (get_or norms n 0) 39 m'))
      | no e ↦ rw (range_no norms n k (omega (arith, e)) m) (and-false (leb (get_or norms n 0) 39))
    ]

pub range_at : (norms : List ℕ) (n : ℕ) → in_range norms n ≡ true → (k : ℕ) → k < n → get_or norms k 0 ≤ 39
unfolding in_range
range_at norms zero t k h = absurd (not-suc-le-zero h)
range_at norms (suc n) t k h =
    let a = and_true (leb (get_or norms n 0) 39) (in_range norms n) t in
    elim (ℕ_discrete k n) [ yes e ↦ rw e (leb-true _ _ a.0) | no e ↦ range_at norms n a.1 k (omega (arith, e)) ]

-- a test that passes exactly where each of 44 numbers is at most 39
pub range_told : (b : Bool) (norms : List ℕ) → length norms ≡ 44 → (b ≡ true → (k : ℕ) → k < length norms → get_or norms k 0 ≤ 39)
    → (((k : ℕ) → k < length norms → get_or norms k 0 ≤ 39) → b ≡ true)
    → b ≡ in_range norms 44
range_told true norms e f g = sym (range_yes norms 44 (λ k h. f refl k (omega arith)))
range_told false norms e f g = denied (in_range norms 44) (λ t. g (λ k h. range_at norms 44 t k (omega arith)))
  where
    denied : (c : Bool) → (c ≡ true → false ≡ true) → false ≡ c
    denied true h = h refl
    denied false h = refl
