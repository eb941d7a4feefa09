-- Tables 22 and A.2 name the same sizes; modes and fields L each by the formulas of the code.
-- Assumes nothing.
use mathlib.Core.Path.{◌≡◌, refl, sym, ap, ◌∙◌}
use mathlib.Core.Bool.{Bool, false, not, ◌&&◌}
use Prim.Native.Nat.{ℕ, zero, suc, ◌+◌, ◌-◌, ◌*◌, ◌≤◌, ◌<◌}
use native.Mathlib.Omega.{arith}
use lib.Dec.{T, T_not, eqb, ltb, leb, eqb→eq, leb→le}
use lib.ListN.{length, get_or, get_or-eq_default}
use borrow.Author.Tests.{eq-eqb, ne_eqb, lt-ltb, le-ltb, le-leb, lt-leb, ltb-true, ltb-false, leb-true, leb-false}
use Rattle.ground.proofs.Laws.Cases.{by_bool, and_T}
use Rattle.ground.proofs.Laws.PrintedTables.{every, every_at}
use Rattle.prefix.specs.declared.Mode.{Mode}
use Rattle.prefix.specs.declared.Length.{Length}
use Rattle.std.specs.declared.option.Option.{Option}
use Rattle.std.specs.declared.option.Option.TheVariants.{Some, None}
use Rattle.prefix.specs.Sizes.{table22, Size, no_body, not_given, sized, table_a2, bytes_in, mode_bytes, length_bytes, length_of, named, mode_of}

-- ---- Table A.2 by its rows

pub a2_none : table_a2 0 ≡ no_body
unfolding table_a2
a2_none = refl

pub a2_low : (l : ℕ) → 0 < l → l < 8 → table_a2 l ≡ not_given
unfolding table_a2
a2_low l p h = rw (ne_eqb l 0 (λ e. omega arith), lt-ltb l 8 h)

pub a2_high : (l : ℕ) → 27 < l → table_a2 l ≡ not_given
unfolding table_a2
a2_high l h = rw (ne_eqb l 0 (λ e. omega arith), le-ltb l 8 (omega arith), lt-leb l 22 (omega arith), lt-leb l 27 h)

pub a2_ten : (l : ℕ) → 8 ≤ l → l ≤ 22 → table_a2 l ≡ sized (80 + 10 * (l - 8))
unfolding table_a2
a2_ten l p h = rw (ne_eqb l 0 (λ e. omega arith), le-ltb l 8 p, le-leb l 22 h)

pub a2_twenty : (l : ℕ) → 22 < l → l ≤ 27 → table_a2 l ≡ sized (240 + 20 * (l - 23))
unfolding table_a2
a2_twenty l p h = rw (ne_eqb l 0 (λ e. omega arith), le-ltb l 8 (omega arith), lt-leb l 22 p, le-leb l 27 h)

-- no body is named below 8
pub a2_below : (l : ℕ) → l < 8 → (length_bytes l ≡ 0) × (mode_of l ≡ None)
unfolding length_bytes mode_of
a2_below zero h = (ap bytes_in a2_none, ap (λ (z : Size). named z 0) a2_none)
a2_below (suc l) h =
    let e = a2_low (suc l) (omega arith) h in
    (ap bytes_in e, ap (λ (z : Size). named z (suc l)) e)

-- nor from 28 on
pub a2_above : (l : ℕ) → 27 < l → (length_bytes l ≡ 0) × (mode_of l ≡ None)
unfolding length_bytes mode_of
a2_above l h = let e = a2_high l h in (ap bytes_in e, ap (λ (z : Size). named z l) e)

-- a size is given for 8 to 27 alone
pub a2_sized : (l n : ℕ) → table_a2 l ≡ sized n → (8 ≤ l) × (l ≤ 27)
a2_sized l n e =
    by_bool (ltb l 8) (λ t. absurd (below l (ltb-true l 8 t) e))
    (λ t. by_bool (leb l 27) (λ u. (ltb-false l 8 t, leb-true l 27 u)) (λ u. absurd (never (a2_high l (leb-false l 27 u)) e)))
  where
    never : {z : Size} → z ≡ not_given → z ≡ sized n → ⊥
    never p q = cc

    below : (l : ℕ) → l < 8 → table_a2 l ≡ sized n → ⊥
    below zero h q = let z : ◌≡◌ {A = Size} no_body (sized n) = sym a2_none ∙ q in let w : ◌≡◌ {A = ℕ} 0 1 = cc in omega arith
    below (suc l) h q = never (a2_low (suc l) (omega arith) h) q

-- ---- the two tables

same : Size → ℕ → Bool
same no_body n = false
same not_given n = false
same (sized x) n = eqb x n

same_eq : (z : Size) (n : ℕ) → T (same z n) → z ≡ sized n
unfolding same
same_eq no_body n t = absurd t
same_eq not_given n t = absurd t
same_eq (sized x) n t = ap sized (eqb→eq x n t)

same_refl : (n : ℕ) → T (same (sized n) n)
unfolding same
same_refl n = rw (eq-eqb n n refl) tt

modes : length table22 ≡ 20
unfolding table22
modes = refl

-- Table 22 and Table A.2 name the same sizes
agreed : T (every (λ (m n : ℕ). same (table_a2 (m + 8)) n) 0 table22)
unfolding same table_a2 table22
agreed = tt

pub same_size : (m : ℕ) → m < 20 → table_a2 (m + 8) ≡ sized (mode_bytes m)
unfolding mode_bytes
same_size m h = same_eq _ _ (every_at (λ (m n : ℕ). same (table_a2 (m + 8)) n) table22 0 agreed m (omega (arith, modes)))

-- no mode stands for the field L: as L its number never names the mode's size
differing : T (every (λ (m n : ℕ). not (same (table_a2 m) n)) 0 table22)
unfolding same table_a2 table22
differing = tt

pub never_same : (m : ℕ) → m < 20 → table_a2 m ≡ sized (mode_bytes m) → ⊥
unfolding mode_bytes
never_same m h e =
    let n = get_or table22 m 0 in
    T_not (same (table_a2 m) n) (every_at (λ (m n : ℕ). not (same (table_a2 m) n)) table22 0 differing m (omega (arith, modes)))
    (rw e (same_refl n))

pub length_bytes_lem : (m : ℕ) → m < 20 → length_bytes (m + 8) ≡ mode_bytes m
unfolding length_bytes
length_bytes_lem m h = ap bytes_in (same_size m h)

pub mode_length : (m : ℕ) → m < 20 → mode_of (m + 8) ≡ Some (record { 0 = m })
unfolding mode_of
mode_length m h =
    let e : m + 8 - 8 ≡ m = omega arith in
    ap (λ (z : Size). named z (m + 8)) (same_size m h) ∙ ap (λ (k : ℕ). Some (record { 0 = k })) e

pub length_mode : (m : ℕ) → m < 20 → length_of m ≡ Some (record { 0 = m + 8 })
unfolding length_of
length_mode m h = rw (lt-ltb m 20 h)

pub no_length : (m : ℕ) → 19 < m → length_of m ≡ None
unfolding length_of
no_length m h = rw (le-ltb m 20 h)

-- a field L of 8 to 27 and its mode
pub a2_between : (l : ℕ) → 8 ≤ l → l ≤ 27 → (length_bytes l ≡ mode_bytes (l - 8)) × (mode_of l ≡ Some (record { 0 = l - 8 }))
a2_between l p h =
    let e : l - 8 + 8 ≡ l = omega arith in
    (ap length_bytes (sym e) ∙ length_bytes_lem (l - 8) (omega arith), ap mode_of (sym e) ∙ mode_length (l - 8) (omega arith))

-- a field's bytes are those of the mode that it names
abbrev pub bytes_named : Option Mode → ℕ
bytes_named None = 0
bytes_named (Some m) = mode_bytes m.0

pub bytes_named_lem : (l : ℕ) → length_bytes l ≡ bytes_named (mode_of l)
bytes_named_lem l =
    by_bool (ltb l 8) (λ t. let a = a2_below l (ltb-true l 8 t) in a.0 ∙ sym (ap bytes_named a.1))
    (λ t.
    by_bool (leb l 27) (λ u. let a = a2_between l (ltb-false l 8 t) (leb-true l 27 u) in a.0 ∙ sym (ap bytes_named a.1))
    (λ u. let a = a2_above l (leb-false l 27 u) in a.0 ∙ sym (ap bytes_named a.1)))

pub mode_below : (l : ℕ) → l < 8 → mode_of l ≡ None
mode_below l h = (a2_below l h).1

pub mode_above : (l : ℕ) → 27 < l → mode_of l ≡ None
mode_above l h = (a2_above l h).1

pub mode_between : (l : ℕ) → 8 ≤ l → l ≤ 27 → mode_of l ≡ Some (record { 0 = l - 8 })
mode_between l p h = (a2_between l p h).1

pub bytes_none : (l : ℕ) → None ≡ mode_of l → length_bytes l ≡ 0
bytes_none l e = bytes_named_lem l ∙ ap bytes_named (sym e)

pub bytes_some : (l : ℕ) (m : Mode) → Some m ≡ mode_of l → length_bytes l ≡ mode_bytes m.0
bytes_some l m e = bytes_named_lem l ∙ ap bytes_named (sym e)

-- what closes the code's tests of a field L
pub ruleset by_length = (bytes_none, bytes_some, mode_below, mode_above, mode_between)

-- the mode that a field of 8 to 27 names is L − 8
pub mode_less_8 : (l : ℕ) → 8 ≤ l → l ≤ 27 → (m : Mode) → mode_of l ≡ Some m → m.0 ≡ l - 8
mode_less_8 l p h m e = let w = mode_between l p h in cc

pub mode_given : (l : ℕ) → 8 ≤ l → l ≤ 27 → mode_of l ≡ None → ⊥
mode_given l p h e = let w = mode_between l p h in cc

-- the field L that names a mode's size is at most 27
pub field_most : (m : ℕ) (f : Length) → length_of m ≡ Some f → f.0 ≤ 27
field_most m f e =
    by_bool (ltb m 20) (λ t. let w = length_mode m (ltb-true m 20 t) in let q : m + 8 ≡ f.0 = cc in omega (arith, ltb-true m 20 t))
    (λ t. absurd (let w = no_length m (ltb-false m 20 t) in cc))

-- ---- what the code computes

pub mode_past : (m : ℕ) → 19 < m → mode_bytes m ≡ 0
unfolding mode_bytes table22
mode_past m h = get_or-eq_default table22 0 h

-- by Table A.2's two formulas
pub mode_ten : (m : ℕ) → m ≤ 14 → mode_bytes m ≡ 10 * m + 80
unfolding length_bytes
mode_ten m h = sym (length_bytes_lem m (omega arith)) ∙ ap bytes_in (a2_ten (m + 8) (omega arith) (omega arith)) ∙ omega arith

pub mode_twenty : (m : ℕ) → 14 < m → m ≤ 19 → mode_bytes m ≡ 20 * m - 60
unfolding length_bytes
mode_twenty m p h = sym (length_bytes_lem m (omega arith)) ∙ ap bytes_in (a2_twenty (m + 8) (omega arith) (omega arith)) ∙ omega arith

-- what closes the code's tests of a mode
pub ruleset by_mode = (mode_ten, mode_twenty, mode_past, length_mode, no_length)

-- a body has 80 to 320 bytes
bounded : T (every (λ (m n : ℕ). leb 80 n && leb n 320) 0 table22)
unfolding table22
bounded = tt

pub mode_bounds : (m : ℕ) → m < 20 → (80 ≤ mode_bytes m) × (mode_bytes m ≤ 320)
unfolding mode_bytes
mode_bounds m h =
    let n = get_or table22 m 0 in
    let t = and_T (leb 80 n) (leb n 320) (every_at (λ (m n : ℕ). leb 80 n && leb n 320) table22 0 bounded m (omega (arith, modes))) in
    (leb→le 80 n t.0, leb→le n 320 t.1)
