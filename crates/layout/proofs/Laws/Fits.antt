-- Every number has a word of its kind: by the test, and by the chain that tries each pair.
-- Assumes nothing.
use mathlib.Core.Path.{◌≡◌, refl, sym, ap, ◌∙◌}
use mathlib.Core.Bool.{Bool, true, false, ◌&&◌, and-false}
use mathlib.Core.List.{List, [], ◌∷◌, map}
use Prim.Native.Nat.{ℕ, zero, suc, ◌<◌}
use native.Mathlib.Omega.{arith}
use lib.ListN.{length}
use Rattle.std.specs.Bool.{MatchBool}
use Rattle.std.specs.List.{AllWithin, HoldsAt, zip}
use Rattle.ground.proofs.Laws.Cases.{and_true}
use Rattle.bits.specs.Codings.{Coding, fit}
use Rattle.bits.proofs.Laws.Codings.{fit_yes, fit_at}
use Rattle.bits.specs.Codecs.{FitAll}
use Rattle.words.specs.Tables.{coding}
use Rattle.layout.specs.Fits.{fits}

-- ---- fits

pub fits_all : (cs : List Coding) (vs : List ℕ) → fits cs vs ≡ true → FitAll cs vs
unfolding fits
fits_all [] [] e = tt
fits_all [] (v ∷ vs) e = absurd (let z : ◌≡◌ {A = ℕ} 0 1 = cc in omega arith)
fits_all (c ∷ cs) [] e = absurd (let z : ◌≡◌ {A = ℕ} 0 1 = cc in omega arith)
fits_all (c ∷ cs) (v ∷ vs) e = let a = and_true (fit c v) (fits cs vs) e in (fit_at c v a.0, fits_all cs vs a.1)

pub all_fits : (cs : List Coding) (vs : List ℕ) → FitAll cs vs → fits cs vs ≡ true
unfolding fits
all_fits [] [] f = refl
all_fits [] (v ∷ vs) f = absurd f
all_fits (c ∷ cs) [] f = absurd f
all_fits (c ∷ cs) (v ∷ vs) f = rw (fit_yes c v f.0) (all_fits cs vs f.1)

-- ---- a test of each pair of a kind and a number

abbrev pub Fits : ℕ × ℕ → Type 0
Fits p = fit (coding p.0) p.1 ≡ true

abbrev pub Fails : ℕ × ℕ → Type 0
Fails p = fit (coding p.0) p.1 ≡ false

each_fits : (ks vs : List ℕ) → length ks ≡ length vs → AllWithin Fits (zip ks vs) 0 (length (zip ks vs)) → fits (map coding ks) vs ≡ true
unfolding fits
each_fits [] [] e h = refl
each_fits [] (v ∷ vs) e h = absurd (omega arith)
each_fits (k ∷ ks) [] e h = absurd (omega arith)
each_fits (k ∷ ks) (v ∷ vs) e h = rw (h 0 (0, 0) (omega arith) (omega arith)) (each_fits ks vs (omega arith) (λ i d l u. h (suc i) d (omega arith) (omega arith)))

one_fails : (ks vs : List ℕ) (i : ℕ) → length ks ≡ length vs → i < length (zip ks vs) → HoldsAt Fails (zip ks vs) i → fits (map coding ks) vs ≡ false
unfolding fits
one_fails [] [] i e l h = absurd (omega arith)
one_fails [] (v ∷ vs) i e l h = absurd (omega arith)
one_fails (k ∷ ks) [] i e l h = absurd (omega arith)
one_fails (k ∷ ks) (v ∷ vs) zero e l h = rw (h (0, 0)) refl
one_fails (k ∷ ks) (v ∷ vs) (suc i) e l h =
    ap (λ (b : Bool). fit (coding k) v && b) (one_fails ks vs i (omega arith) (omega arith) (λ d. h d)) ∙ and-false (fit (coding k) v)

pub fits_told : (b : Bool) (ks vs : List ℕ) → length ks ≡ length vs
    → MatchBool b (AllWithin Fits (zip ks vs) 0 (length (zip ks vs))) ((i : ℕ) × (i < length (zip ks vs)) × HoldsAt Fails (zip ks vs) i)
    → b ≡ fits (map coding ks) vs
fits_told true ks vs e m = sym (each_fits ks vs e m)
fits_told false ks vs e m = sym (one_fails ks vs m.0 e m.1 m.2)
