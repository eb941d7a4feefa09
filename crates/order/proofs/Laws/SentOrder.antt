-- 01's order of a transient frame is a permutation of 0–43, and the table of places is its inverse; so sent order and band order lead into each other.
-- Assumes nothing.
use mathlib.Core.Path.{◌≡◌, refl, sym, ap, ◌∙◌, subst, subst⁻¹}
use mathlib.Core.Bool.{Bool, true, false, ◌&&◌}
use mathlib.Core.List.{List}
use Prim.Native.Nat.{ℕ, ◌<◌}
use native.Mathlib.Omega.{arith}
use lib.Dec.{T, ltb, eqb, ltb→lt, eqb→eq}
use lib.ListN.{length, get_or}
use Rattle.ground.proofs.Laws.Cases.{and_T}
use Rattle.ground.proofs.Laws.PrintedTables.{every, every_at}
use Rattle.ground.specs.ListsByRule.{table}
use Rattle.ground.proofs.Laws.ListsByRule.{length_from, get_d_table, filled}
use Rattle.order.specs.SentOrder.{order, places, pick, sent, banded}

-- ---- a permutation of 0–43, and its inverse

undoes : List ℕ → ℕ → ℕ → Bool
undoes ks i x = ltb x 44 && eqb (get_or ks x 0) i

pub record Undone (ks js : List ℕ) (i : ℕ) : Type 0 where
  pub inside : get_or js i 0 < 44
  pub back : get_or ks (get_or js i 0) 0 ≡ i

undone : (ks js : List ℕ) → T (every (undoes ks) 0 js) → length js ≡ 44 → (i : ℕ) → i < 44 → Undone ks js i
unfolding undoes
undone ks js t l i h =
    let x = get_or js i 0 in
    let q = and_T (ltb x 44) (eqb (get_or ks x 0) i) (every_at (undoes ks) js 0 t i (omega arith)) in
    record { inside = ltb→lt x 44 q.0; back = eqb→eq (get_or ks x 0) i q.1 }

-- each band has its place, and each place its band
pub place_band : (b : ℕ) → b < 44 → Undone order places b
unfolding order places undoes
place_band b h = undone order places tt refl b h

pub band_place : (i : ℕ) → i < 44 → Undone places order i
unfolding order places undoes
band_place i h = undone places order tt refl i h

turned : (ks js xs : List ℕ) → ((i : ℕ) → i < 44 → Undone ks js i) → length xs ≡ 44 → table 44 (pick js (table 44 (pick ks xs))) ≡ xs
turned ks js xs u l =
    sym
    (filled (pick js (table 44 (pick ks xs))) 44 0 xs l
    (λ i h. sym (get_d_table (pick ks xs) 44 0 (get_or js i 0) (u i h).inside ∙ ap (λ (k : ℕ). get_or xs k 0) (u i h).back)))

pub banded_sent : (transient : Bool) (norms : List ℕ) → length norms ≡ 44 → banded transient (sent transient norms) ≡ norms
unfolding banded sent
banded_sent false norms l = refl
banded_sent true norms l = turned order places norms place_band l

pub sent_banded : (transient : Bool) (ss : List ℕ) → length ss ≡ 44 → sent transient (banded transient ss) ≡ ss
unfolding banded sent
sent_banded false ss l = refl
sent_banded true ss l = turned places order ss band_place l

pub length_sent : (transient : Bool) (norms : List ℕ) → length norms ≡ 44 → length (sent transient norms) ≡ 44
unfolding sent
length_sent false norms l = l
length_sent true norms l = length_from (pick order norms) 44 0

pub length_banded : (transient : Bool) (ss : List ℕ) → length ss ≡ 44 → length (banded transient ss) ≡ 44
unfolding banded
length_banded false ss l = l
length_banded true ss l = length_from (pick places ss) 44 0

-- ---- by the test of the kind of frame

pub sent_plain : (transient : Bool) (norms : List ℕ) → transient ≡ false → norms ≡ sent transient norms
unfolding sent
sent_plain transient norms e = rw e

pub sent_turned : (transient : Bool) (norms : List ℕ) → transient ≡ true → table 44 (pick order norms) ≡ sent transient norms
unfolding sent
sent_turned transient norms e = rw e

pub banded_plain : (transient : Bool) (ss : List ℕ) → transient ≡ false → ss ≡ banded transient ss
unfolding banded
banded_plain transient ss e = rw e

pub banded_turned : (transient : Bool) (ss : List ℕ) → transient ≡ true → table 44 (pick places ss) ≡ banded transient ss
unfolding banded
banded_turned transient ss e = rw e

-- band 0 is sent first in both orders
first_band : get_or order 0 0 ≡ 0
unfolding order
first_band = refl

pub sent_first : (transient : Bool) (norms : List ℕ) → get_or (sent transient norms) 0 0 ≡ get_or norms 0 0
unfolding sent
sent_first false norms = refl
sent_first true norms = get_d_table (pick order norms) 44 0 0 (omega arith) ∙ ap (λ (k : ℕ). get_or norms k 0) first_band

-- what holds of each norm holds of each sent one, and the other way round
pub sent_each : (transient : Bool) (norms : List ℕ) (P : ℕ → Type 0) → ((k : ℕ) → k < 44 → P (get_or norms k 0))
    → (i : ℕ) → i < 44 → P (get_or (sent transient norms) i 0)
unfolding sent
sent_each false norms P h i l = h i l
sent_each true norms P h i l = subst⁻¹ P (get_d_table (pick order norms) 44 0 i l) (h (get_or order i 0) (band_place i l).inside)

pub each_sent : (transient : Bool) (norms : List ℕ) (P : ℕ → Type 0) → ((i : ℕ) → i < 44 → P (get_or (sent transient norms) i 0))
    → (k : ℕ) → k < 44 → P (get_or norms k 0)
unfolding sent
each_sent false norms P h k l = h k l
each_sent true norms P h k l =
    let u = place_band k l in
    subst P (get_d_table (pick order norms) 44 0 (get_or places k 0) u.inside ∙ ap (λ (j : ℕ). get_or norms j 0) u.back) (h (get_or places k 0) u.inside)
