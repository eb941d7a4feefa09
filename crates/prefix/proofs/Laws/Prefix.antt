-- The prefix byte: its fields, what it says case by case, that R does not matter, and that the byte of a mode reads as its L.
-- Assumes nothing.
use mathlib.Core.Path.{◌≡◌, refl, sym, ap, ◌∙◌}
use mathlib.Core.Bool.{Bool, true, false, cond}
use mathlib.Core.List.{List, ◌∷◌}
use Prim.Native.Nat.{ℕ, zero, suc, ◌+◌, ◌-◌, ◌*◌, ◌/◌, ◌%◌, ◌≤◌, ◌<◌}
use native.Mathlib.Omega.{arith}
use lib.Dec.{eqb, ltb}
use lib.ListN.{length, get_or}
use borrow.Author.Tests.{eq-eqb, ne_eqb, lt-ltb, le-ltb, ltb-true, ltb-false, eqb-false}
use Rattle.ground.proofs.Laws.Cases.{by_bool}
use Rattle.prefix.specs.Sizes.{Size, no_body, not_given, sized, table_a2, length_of}
use Rattle.prefix.proofs.Laws.Sizes.{a2_none, a2_low, a2_high, a2_sized, same_size, length_mode, no_length}
use Rattle.std.specs.declared.option.Option.{Option}
use Rattle.std.specs.declared.option.Option.TheVariants.{Some, None}
use Rattle.std.specs.declared.result.Result.{Result}
use Rattle.std.specs.declared.result.Result.TheVariants.{Ok, Err}
use Rattle.ground.specs.declared.replies.Reply.{Reply}
use Rattle.ground.specs.declared.replies.Reply.TheVariants.{OutOfRange}
use Rattle.prefix.specs.declared.Length.{Length}
use Rattle.prefix.specs.declared.Prefix.{Prefix}
use Rattle.prefix.specs.declared.Prefix.TheVariants.{Data, NoData, NoByte, Marked, Reserved}
use Rattle.prefix.specs.Prefix.{field_f, field_l, byte_with, said, prefix_byte, prefix_of, byte_of, zero_r}

abbrev pub field_r : ℕ → ℕ
field_r b = b % 4

-- a byte is its three fields
pub byte_fields : (b : ℕ) → b < 256 → byte_with (field_f b) (field_l b) (field_r b) ≡ b
byte_fields b h = omega arith

-- ---- the laws

pub read_none : (s : List ℕ) → length s ≡ 0 → prefix_of s ≡ NoByte
unfolding prefix_of
read_none s h = rw (eq-eqb (length s) 0 h)

pub read_some : (s : List ℕ) → 0 < length s → prefix_of s ≡ prefix_byte (get_or s 0 0)
unfolding prefix_of
read_some s h = rw (ne_eqb (length s) 0 (λ e. omega arith))

pub byte_marked : (b : ℕ) → 128 ≤ b → b < 256 → prefix_byte b ≡ Marked
unfolding prefix_byte
byte_marked b p h = rw (eq-eqb (field_f b) 1 (omega arith))

pub byte_said : (b : ℕ) → b < 128 → prefix_byte b ≡ said (table_a2 (b / 4)) (b / 4)
unfolding prefix_byte
byte_said b h =
    let e : field_l b ≡ b / 4 = omega arith in
    rw (ne_eqb (field_f b) 1 (λ z. omega arith), e)

pub read_said : (s : List ℕ) → 0 < length s → get_or s 0 0 < 128 → prefix_of s ≡ said (table_a2 (get_or s 0 0 / 4)) (get_or s 0 0 / 4)
read_said s h l = read_some s h ∙ byte_said (get_or s 0 0) l

pub said_none : (l : ℕ) → l ≡ 0 → said (table_a2 l) l ≡ NoData
said_none l e = rw (e, a2_none)

pub said_low : (l : ℕ) → 0 < l → l < 8 → said (table_a2 l) l ≡ Reserved
said_low l p h = rw (a2_low l p h)

pub said_high : (l : ℕ) → 27 < l → said (table_a2 l) l ≡ Reserved
said_high l h = rw (a2_high l h)

pub said_data : (l : ℕ) → 8 ≤ l → l ≤ 27 → said (table_a2 l) l ≡ Data (record { 0 = l })
said_data l p h =
    let e : l - 8 + 8 ≡ l = omega arith in
    ap (λ (z : Size). said z l) (ap table_a2 (sym e) ∙ same_size (l - 8) (omega arith))

-- what the first byte says, by what the code tests
pub read_marked : (s : List ℕ) → 0 < length s → 128 ≤ get_or s 0 0 → get_or s 0 0 < 256 → prefix_of s ≡ Marked
read_marked s h m b = read_some s h ∙ byte_marked _ m b

pub read_no_data : (s : List ℕ) → 0 < length s → get_or s 0 0 < 128 → get_or s 0 0 / 4 ≡ 0 → prefix_of s ≡ NoData
read_no_data s h b l = read_said s h b ∙ said_none _ l

pub read_low : (s : List ℕ) → 0 < length s → get_or s 0 0 < 128 → 0 < get_or s 0 0 / 4 → get_or s 0 0 / 4 < 8 → prefix_of s ≡ Reserved
read_low s h b p l = read_said s h b ∙ said_low _ p l

pub read_high : (s : List ℕ) → 0 < length s → get_or s 0 0 < 128 → 27 < get_or s 0 0 / 4 → prefix_of s ≡ Reserved
read_high s h b l = read_said s h b ∙ said_high _ l

pub read_data : (s : List ℕ) → 0 < length s → get_or s 0 0 < 128 → 8 ≤ get_or s 0 0 / 4 → get_or s 0 0 / 4 ≤ 27 → prefix_of s ≡ Data (record { 0 = get_or s 0 0 / 4 })
read_data s h b p l = read_said s h b ∙ said_data _ p l

-- what closes the code's tests of a byte
pub ruleset by_byte = (read_none, read_marked, read_no_data, read_low, read_high, read_data)

-- R is ignored: bytes that agree in F and L say the same
pub r_ignored : (f l r q : ℕ) → l < 32 → r < 4 → q < 4 → prefix_byte (byte_with f l r) ≡ prefix_byte (byte_with f l q)
unfolding prefix_byte
r_ignored f l r q h hr hq =
    let e₁ : field_f (byte_with f l r) ≡ field_f (byte_with f l q) = omega arith in
    let e₂ : field_l (byte_with f l r) ≡ field_l (byte_with f l q) = omega arith in
    rw (e₁, e₂)

-- read after write: the byte of a mode says the field L of the same size
pub read_written : (m : ℕ) (s : List ℕ) → m < 20 → prefix_of (byte_with 0 (m + 8) 0 ∷ s) ≡ Data (record { 0 = m + 8 })
read_written m s h =
    let b = byte_with 0 (m + 8) 0 in
    let e : b / 4 ≡ m + 8 = omega arith in
    read_some (b ∷ s) (omega arith) ∙ byte_said b (omega arith) ∙ ap (λ (l : ℕ). said (table_a2 l) l) e ∙ said_data (m + 8) (omega arith) (omega arith)

pub byte_mode : (m : ℕ) → m < 20 → byte_of m ≡ Ok (byte_with 0 (m + 8) 0)
unfolding byte_of
byte_mode m h = rw (lt-ltb m 20 h)

pub byte_none : (m : ℕ) → 19 < m → byte_of m ≡ Err OutOfRange
unfolding byte_of
byte_none m h = rw (le-ltb m 20 h)

-- the byte of the field L that names the mode's size
abbrev pub byte_named : Option Length → Result ℕ Reply
byte_named None = Err OutOfRange
byte_named (Some f) = Ok (f.0 * 4)

pub byte_named_lem : (m : ℕ) → byte_of m ≡ byte_named (length_of m)
byte_named_lem m =
    by_bool (ltb m 20)
    (λ t. let h = ltb-true m 20 t in byte_mode m h ∙ (let e : byte_with 0 (m + 8) 0 ≡ (m + 8) * 4 = omega arith in ap Ok e)
    ∙ sym (ap byte_named (length_mode m h)))
    (λ t. let h = ltb-false m 20 t in byte_none m h ∙ sym (ap byte_named (no_length m h)))

pub byte_some : (m : ℕ) (f : Length) → length_of m ≡ Some f → byte_of m ≡ Ok (4 * f.0)
byte_some m f e =
    let q : f.0 * 4 ≡ 4 * f.0 = omega arith in
    byte_named_lem m ∙ ap byte_named e ∙ ap Ok q

pub byte_err : (m : ℕ) → length_of m ≡ None → byte_of m ≡ Err OutOfRange
byte_err m e = byte_named_lem m ∙ ap byte_named e

-- a prefix that says data has F 0, and its field L is 8 to 27
said_sized : (z : Size) (l : ℕ) (f : Length) → table_a2 l ≡ z → said z l ≡ Data f → (8 ≤ f.0) × (f.0 ≤ 27) × (l ≡ f.0)
said_sized no_body l f q e = absurd (cc)
said_sized not_given l f q e = absurd (cc)
said_sized (sized n) l f q e =
    let g : ◌≡◌ {A = Length} (record { 0 = l }) f = cc in
    let h : l ≡ f.0 = ap (λ (x : Length). x.0) g in
    let r = a2_sized l n q in
    (omega (arith, r.0), omega (arith, r.1), h)

pick_data : (a b : Bool) (p : Prefix) (f : Length) → cond a NoByte (cond b Marked p) ≡ Data f → (b ≡ false) × (p ≡ Data f)
pick_data true b p f e = absurd (cc)
pick_data false true p f e = absurd (cc)
pick_data false false p f e = (refl, e)

pub prefix_data : (s : List ℕ) (f : Length) → prefix_of s ≡ Data f → (8 ≤ f.0) × (f.0 ≤ 27)
unfolding prefix_of prefix_byte
prefix_data s f e =
    let b = get_or s 0 0 in
    let p = pick_data (eqb (length s) 0) (eqb (field_f b) 1) (said (table_a2 (field_l b)) (field_l b)) f e in
    let q = said_sized (table_a2 (field_l b)) (field_l b) f refl p.1 in
    (q.0, q.1)

-- the byte of a mode is the byte that said it, with R = 0
pub prefix_mode : (s : List ℕ) (f : Length) → get_or s 0 0 < 256 → prefix_of s ≡ Data f → byte_with 0 (f.0 - 8 + 8) 0 ≡ zero_r (get_or s 0 0)
unfolding prefix_of prefix_byte
prefix_mode s f h e =
    let b = get_or s 0 0 in
    let p = pick_data (eqb (length s) 0) (eqb (field_f b) 1) (said (table_a2 (field_l b)) (field_l b)) f e in
    let q = said_sized (table_a2 (field_l b)) (field_l b) f refl p.1 in
    let n = eqb-false (field_f b) 1 p.0 in
    let z : field_f b ≡ 0 = by_zero (field_f b) (omega arith) n in
    omega (arith, q.0, q.2, z)
  where
    by_zero : (x : ℕ) → x < 2 → (x ≡ 1 → ⊥) → x ≡ 0
    by_zero zero h n = refl
    by_zero (suc zero) h n = absurd (n refl)
    by_zero (suc (suc x)) h n = absurd (omega arith)
