-- An array made of what a function gives of each element: the list is mapped.
-- Assumes nothing.
use Rattle.std.proofs.Common.{◌≡◌, ℕ, suc, ◌<◌, List, [], ◌∷◌, length, map, refl, ap₂, arith, slice_index_or}

-- two lists of one length, the second element by element what h gives of the first
pub mapped : {A B : Type 0} (h : A → B) (xs : List A) (ys : List B) → length ys ≡ length xs
    → ((i : ℕ) (d : A) (e : B) → i < length xs → slice_index_or ys i e ≡ h (slice_index_or xs i d)) → ys ≡ map h xs
mapped h [] [] long each = refl
mapped h [] (y ∷ ys) long each = absurd (omega (arith, long))
mapped h (x ∷ xs) [] long each = absurd (omega (arith, long))
mapped h (x ∷ xs) (y ∷ ys) long each =
    ap₂ ◌∷◌ (each 0 x y (omega arith)) (mapped h xs ys (omega (arith, long)) (λ i d e l. each (suc i) d e (omega (arith, l))))
