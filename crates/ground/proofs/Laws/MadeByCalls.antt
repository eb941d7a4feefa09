-- Arrays made by a call for each place (std::array::from_fn): where the closure keeps what it holds, they are tables.
-- Assumes nothing.
use mathlib.Core.Path.{◌≡◌, sym, ap, ◌∙◌, subst}
use mathlib.Core.List.{List}
use Prim.Native.Nat.{ℕ, zero, suc, ◌+◌, ◌<◌, ◌≤◌}
use native.Mathlib.Decide.{ℕ_discrete}
use native.Mathlib.Omega.{arith}
use denote.Param.Members.{Mut, Called}
use lib.ListN.{get_or}
use Rattle.std.specs.Array.{IsFromFnResult, IsFromFnResultFrom}
use Rattle.ground.specs.ListsByRule.{table}
use Rattle.ground.proofs.Laws.ListsByRule.{filled}

-- each call at i keeps the closure as it is, and gives h i
abbrev pub Gives : {F B : Type 0} → Mut F (ℕ × Unit {0}) B → (ℕ → B) → ℕ → F → Type 0
Gives {F} {B} g h m f = (i : ℕ) (y : B) (q : F) → i < m → Called g f (i, tt) y q → (q ≡ f) × (y ≡ h i)

module _ {F B : Type 0} {g : Mut F (ℕ × Unit {0}) B} {h : ℕ → B} {m : ℕ} where
  made_from : (f : F) (ys : List B) (i n : ℕ) → Gives g h m f → i + n ≤ m → IsFromFnResultFrom g f ys i n → (k : ℕ) (d : B) → i ≤ k → k < i + n
      → get_or ys k d ≡ h k
  made_from f ys i zero r l w k d a b = absurd (omega arith)
  made_from f ys i (suc n) r l w k d a b =
      let here = r i w.1 w.0 (omega arith) w.3 in
      let on : IsFromFnResultFrom g f ys (i + 1) n = subst (λ (q : F). IsFromFnResultFrom g q ys (i + 1) n) here.0 w.4 in
      elim (ℕ_discrete k i) [
        | yes e ↦ ap (λ (j : ℕ). get_or ys j d) e ∙ w.2.1 d ∙ here.1 ∙ ap h (sym e)
        | no e ↦ made_from f ys (i + 1) n r (omega arith) on k d (omega (arith, e)) (omega arith)
      ]

  pub from_fn_table : {f : F} {ys : List B} → IsFromFnResult g f ys m → Gives g h m f → ys ≡ table m h
  from_fn_table {f} {ys} w r = filled h m (h 0) ys w.long (λ k b. made_from f ys 0 m r (omega arith) w.each k (h 0) (omega arith) (omega arith))
