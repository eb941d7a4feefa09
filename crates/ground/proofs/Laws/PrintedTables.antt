-- The rule of a printed table: one test that is computed over the whole table gives the rule at each of its entries.
-- Assumes nothing.
use mathlib.Core.Path.{sym, subst, ◌∙◌}
use mathlib.Core.Bool.{Bool, true, ◌&&◌}
use mathlib.Core.List.{List, [], ◌∷◌}
use Prim.Native.Nat.{ℕ, zero, suc, ◌+◌, ◌<◌}
use native.Mathlib.Nat.{add-zero, zero-add, add-suc, suc-add, le_of_suc-le-suc, not-suc-le-zero}
use lib.Dec.{T}
use lib.ListN.{length, get_or}
use Rattle.ground.proofs.Laws.Cases.{and_T}

module _ {A : Type 0} where
  -- the test f passes at each entry with its place, the places counted from i
  abbrev pub every : (ℕ → A → Bool) → ℕ → List A → Bool
  every f i [] = true
  every f i (x ∷ xs) = f i x && every f (suc i) xs

  every_from : (f : ℕ → A → Bool) (xs : List A) (d : A) (i : ℕ) → T (every f i xs) → (k : ℕ) → k < length xs → T (f (i + k) (get_or xs k d))
  every_from f [] d i t k h = absurd (not-suc-le-zero h)
  every_from f (x ∷ xs) d i t zero h =
      subst (λ (m : ℕ). T (f m x)) (sym (add-zero i)) (and_T (f i x) (every f (suc i) xs) t).0
  every_from f (x ∷ xs) d i t (suc k) h =
      subst (λ (m : ℕ). T (f m (get_or xs k d))) (suc-add i k ∙ sym (add-suc i k))
      (every_from f xs d (suc i) (and_T (f i x) (every f (suc i) xs) t).1 k (le_of_suc-le-suc h))

  pub every_at : (f : ℕ → A → Bool) (xs : List A) (d : A) → T (every f 0 xs) → (k : ℕ) → k < length xs → T (f k (get_or xs k d))
  every_at f xs d t k h = subst (λ (m : ℕ). T (f m (get_or xs k d))) (zero-add k) (every_from f xs d 0 t k h)
