-- The sizes of a frame's body: Table 22 by mode, Table A.2 by the field L.
-- Assumes nothing.
use Rattle.std.specs.Prelude.{cond, List, [], ◌∷◌, ℕ, ◌+◌, ◌-◌, ◌*◌, eqb, ltb, leb, get_or}
use Rattle.std.specs.declared.option.Option.{Option}
use Rattle.std.specs.declared.option.Option.TheVariants.{Some, None}
use Rattle.prefix.specs.declared.Mode.{Mode}
use Rattle.prefix.specs.declared.Length.{Length}

-- Table 22: frame size in bytes, by mode
unfoldable pub table22 : List ℕ
table22 =
    80 ∷ 90 ∷ 100 ∷ 110 ∷ 120 ∷ 130 ∷ 140 ∷ 150 ∷ 160 ∷ 170
    ∷ 180 ∷ 190 ∷ 200 ∷ 210 ∷ 220 ∷ 240 ∷ 260 ∷ 280 ∷ 300 ∷ 320 ∷ []

pub data Size : Type 0 where
  no_body : Size
  not_given : Size
  sized : ℕ → Size

-- Table A.2: length in bytes, by the field L
unfoldable pub table_a2 : ℕ → Size
table_a2 l =
    cond (eqb l 0) no_body
    (cond (ltb l 8) not_given
    (cond (leb l 22) (sized (80 + 10 * (l - 8)))
    (cond (leb l 27) (sized (240 + 20 * (l - 23)))
    not_given)))

abbrev pub bytes_in : Size → ℕ
bytes_in no_body = 0
bytes_in not_given = 0
bytes_in (sized n) = n

-- body bytes, 0 where there are none
unfoldable pub mode_bytes : ℕ → ℕ
mode_bytes m = get_or table22 m 0

unfoldable pub length_bytes : ℕ → ℕ
length_bytes l = bytes_in (table_a2 l)

-- mode = L − 8
unfoldable pub length_of : ℕ → Option Length
length_of m = cond (ltb m 20) (Some (record { 0 = m + 8 })) None

abbrev pub named : Size → ℕ → Option Mode
named no_body l = None
named not_given l = None
named (sized n) l = Some (record { 0 = l - 8 })

unfoldable pub mode_of : ℕ → Option Mode
mode_of l = named (table_a2 l) l
