-- Indices and the numbers that are sent lead into each other, numbers by place, and the tests of the steps.
-- Assumes nothing.
use mathlib.Core.Path.{◌≡◌, refl, ap, ap₂, ◌∙◌, subst}
use mathlib.Core.Bool.{Bool, true, false, ◌&&◌}
use mathlib.Core.List.{List, [], ◌∷◌}
use Prim.Native.Nat.{ℕ, zero, suc, ◌+◌, ◌-◌, ◌≤◌, ◌<◌}
use native.Mathlib.Nat.{le_of_suc-le-suc}
use native.Mathlib.Omega.{arith}
use lib.Dec.{leb}
use lib.ListN.{length, get_or}
use borrow.Author.Tests.{le-leb, leb-true}
use Rattle.ground.proofs.Laws.Cases.{and_true}
use Rattle.ground.specs.ListsByRule.{table}
use Rattle.ground.proofs.Laws.ListsByRule.{filled}
use Rattle.bits.specs.Codecs.{Verdict, fine, bad}
use Rattle.norms.specs.Steps.{numbers, guarded, indices, close, steps_close}

-- every index is at most 39, and every step from the one before is −15 to 16; from 15 on: the first is at most 31
abbrev pub Near : ℕ → List ℕ → Type 0
Near x [] = Unit {0}
Near x (y ∷ ys) = (y ≤ 39) × (x ≤ y + 15) × (y ≤ x + 16) × Near y ys

-- ---- there and back

abbrev pub Below : List ℕ → Type 0
Below [] = Unit {0}
Below (w ∷ ws) = (w < 32) × Below ws

guarded_fine : (a b : Bool) (y : ℕ) (c : Verdict (List ℕ)) (zs : List ℕ) → guarded a b y c ≡ fine zs
    → (ys : List ℕ) × (a ≡ true) × (b ≡ true) × (c ≡ fine ys) × (y ∷ ys ≡ zs)
guarded_fine true true y (fine ys) zs e = (ys, refl, refl, refl, (cc))
guarded_fine true true y (bad k) zs e = absurd (cc)
guarded_fine true false y c zs e = absurd (cc)
guarded_fine false t y c zs e = absurd (cc)

pub indices_sound : (x : ℕ) (ws zs : List ℕ) → Below ws → indices x ws ≡ fine zs → (numbers x zs ≡ ws) × Near x zs
unfolding indices numbers
indices_sound x [] zs l e = let q : ◌≡◌ {A = List ℕ} [] zs = cc in subst (λ (z : List ℕ). (numbers x z ≡ []) × Near x z) q (refl, tt)
indices_sound x (w ∷ ws) zs l e =
    let (ys, a, b, c, q) = guarded_fine (leb 15 (x + w)) (leb (x + w) 54) (x + w - 15) (indices (x + w - 15) ws) zs e in
    let lo = leb-true 15 (x + w) a in
    let hi = leb-true (x + w) 54 b in
    let r = indices_sound (x + w - 15) ws ys l.1 c in
    let back : x + w - 15 + 15 - x ≡ w = omega arith in
    subst (λ (z : List ℕ). (numbers x z ≡ w ∷ ws) × Near x z) q
    (ap₂ ◌∷◌ back r.0, (omega arith, omega arith, omega (arith, l.0), r.1))

pub indices_whole : (x : ℕ) (ys : List ℕ) → Near x ys → (indices x (numbers x ys) ≡ fine ys) × Below (numbers x ys)
unfolding indices numbers
indices_whole x [] n = (refl, tt)
indices_whole x (y ∷ ys) n =
    let r = indices_whole y ys n.3 in
    let e : x + (y + 15 - x) ≡ y + 15 = omega (arith, n.1) in
    let b : y + 15 - 15 ≡ y = omega arith in
    (rw (e, b, le-leb 15 (y + 15) (omega arith), le-leb (y + 15) 54 (omega (arith, n.0)), r.0), (omega (arith, n.2), r.1))

-- ---- numbers by place

pub length_numbers : (x : ℕ) (ys : List ℕ) → length (numbers x ys) ≡ length ys
unfolding numbers
length_numbers x [] = refl
length_numbers x (y ∷ ys) = ap suc (length_numbers y ys)

-- the number at place i, from the index there and the one before
abbrev pub number_at : List ℕ → ℕ → ℕ
number_at ss i = get_or ss i 0 + 15 - get_or (15 ∷ ss) i 0

get_d_numbers : (x : ℕ) (ys : List ℕ) (i : ℕ) → i < length ys → get_or (numbers x ys) i 0 ≡ get_or ys i 0 + 15 - get_or (x ∷ ys) i 0
unfolding numbers
get_d_numbers x [] i h = absurd (omega arith)
get_d_numbers x (y ∷ ys) zero h = refl
get_d_numbers x (y ∷ ys) (suc i) h = get_d_numbers y ys i (le_of_suc-le-suc h)

pub numbers_table : (ss : List ℕ) → length ss ≡ 44 → numbers 15 ss ≡ table 44 (number_at ss)
numbers_table ss l = filled (number_at ss) 44 0 (numbers 15 ss) (length_numbers 15 ss ∙ l) (λ k h. get_d_numbers 15 ss k (omega arith))

-- ---- the tests

near_close : (x : ℕ) (ys : List ℕ) → ((i : ℕ) → i < length ys → get_or ys i 0 ≤ 39) → close x ys ≡ true → Near x ys
unfolding close
near_close x [] h c = tt
near_close x (y ∷ ys) h c =
    let a = and_true (leb x (y + 15) && leb y (x + 16)) (close y ys) c in
    let b = and_true (leb x (y + 15)) (leb y (x + 16)) a.0 in
    (h 0 (omega arith), leb-true x (y + 15) b.0, leb-true y (x + 16) b.1, near_close y ys (λ i l. h (suc i) (omega arith)) a.1)

pub close_near : (x : ℕ) (ys : List ℕ) → Near x ys → close x ys ≡ true
unfolding close
close_near x [] n = refl
close_near x (y ∷ ys) n = rw (le-leb x (y + 15) n.1, le-leb y (x + 16) n.2) (close_near y ys n.3)

-- a list whose indices are in range, whose first is at most 31 and whose steps are close
pub near_first : (ss : List ℕ) → 0 < length ss → ((i : ℕ) → i < length ss → get_or ss i 0 ≤ 39) → get_or ss 0 0 ≤ 31
    → steps_close ss ≡ true → Near 15 ss
unfolding steps_close
near_first [] p h f c = absurd (omega arith)
near_first (y ∷ ys) p h f c = (h 0 (omega arith), omega arith, omega arith, near_close y ys (λ i l. h (suc i) (omega arith)) c)

pub steps_near : (ss : List ℕ) → Near 15 ss → steps_close ss ≡ true
unfolding steps_close close
steps_near [] n = refl
steps_near (y ∷ ys) n = close_near y ys n.3
