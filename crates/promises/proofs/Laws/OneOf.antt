-- A test that each of some numbers passes is passed by one of them: so numbers of one list are numbers of another, or never are.
-- Assumes nothing.
use mathlib.Core.Path.{sym, subst}
use mathlib.Core.Bool.{Bool, true, false, not, ◌&&◌}
use mathlib.Core.List.{List, [], ◌∷◌}
use Prim.Native.Nat.{ℕ}
use lib.Dec.{T, eqb}
use borrow.Author.Tests.{eqb-true}
use Rattle.ground.proofs.Laws.Cases.{by_bool, and_T}
use Rattle.ground.specs.Refusals.{among, OneOf}

abbrev pub each : (ℕ → Bool) → List ℕ → Bool
each f [] = true
each f (x ∷ xs) = f x && each f xs

pub each_of : (f : ℕ → Bool) (xs : List ℕ) → T (each f xs) → (n : ℕ) → OneOf xs n → T (f n)
unfolding among
each_of f [] all n h = absurd h
each_of f (x ∷ xs) all n h =
    let a = and_T (f x) (each f xs) all in
    by_bool (eqb n x) (λ t. subst (λ (k : ℕ). T (f k)) (sym (eqb-true n x t)) a.0) (λ t. each_of f xs a.1 n (rw t at h))

not_both : (b : Bool) → T (not b) → T b → ⊥
not_both true x y = x
not_both false x y = y

-- no number of xs is one of ys
pub apart : (xs ys : List ℕ) → T (each (λ n. not (among ys n)) xs) → (n : ℕ) → OneOf xs n → OneOf ys n → ⊥
apart xs ys all n h k = not_both (among ys n) (each_of (λ n. not (among ys n)) xs all n h) k
