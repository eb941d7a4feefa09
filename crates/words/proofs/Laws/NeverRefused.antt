-- Kinds whose reading cannot be refused where enough bits stand: fixed codes, and the words of Table 16.
-- Assumes nothing.
use mathlib.Core.Path.{◌≡◌, refl, ap₂, ◌∙◌, subst⁻¹}
use mathlib.Core.List.{List, [], ◌∷◌, map}
use Prim.Native.Nat.{ℕ, suc, ◌≤◌, ◌<◌}
use native.Mathlib.Omega.{arith}
use lib.ListN.{get_or}
use Rattle.bits.specs.Codings.{fixed, prefix}
use Rattle.bits.proofs.Laws.NeverRefused.{NeverRefused, fixed_never_refused}
use Rattle.norm_words.specs.Table16.{table16}
use Rattle.norm_words.proofs.Laws.Shape.{sure16}
use Rattle.words.specs.Tables.{words, refused, column, coding}
use Rattle.words.proofs.Laws.Tables.{coding_fixed, coding_column}

pub sure_fixed : (kind : ℕ) → kind < 16 → NeverRefused kind (coding kind)
sure_fixed kind h = subst⁻¹ (NeverRefused kind) (coding_fixed kind h) (fixed_never_refused kind)

-- whatever seven bits begin with a word of Table 16
column_16 : column 4 ≡ prefix table16 []
unfolding words refused
column_16 = refl

pub sure_16 : NeverRefused 7 (coding 20)
sure_16 = subst⁻¹ (NeverRefused 7) (coding_column 20 (omega arith) ∙ column_16) sure16

-- kinds below 16 alone are fixed codes
pub fixed_kinds : (kinds : List ℕ) → ((i : ℕ) → get_or kinds i 0 ≤ 15) → map coding kinds ≡ map fixed kinds
fixed_kinds [] h = refl
fixed_kinds (k ∷ kinds) h = ap₂ ◌∷◌ (coding_fixed k (omega (arith, h 0))) (fixed_kinds kinds (λ i. h (suc i)))
