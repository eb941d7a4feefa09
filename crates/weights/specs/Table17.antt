-- Table 17 of 001 as printed: for each row b the bands J_b, then H_b, T_b and A(b).
use Rattle.std.specs.Prelude.{Bool, true, false, cond, List, [], ◌∷◌, ℕ, suc, eqb, get_or}

pub record Row : Type 0 where
  pub bands : List ℕ
  pub height : ℕ
  pub lift : ℕ
  pub floor : ℕ

abbrev row : List ℕ → ℕ → ℕ → ℕ → Row
row j h t a = record { bands = j; height = h; lift = t; floor = a }

unfoldable pub table17 : List Row
table17 =
    row (0 ∷ []) 1 3 8
    ∷ row (1 ∷ []) 1 3 6
    ∷ row (2 ∷ []) 1 3 3
    ∷ row (3 ∷ []) 1 3 3
    ∷ row (4 ∷ []) 1 3 3
    ∷ row (5 ∷ []) 1 3 3
    ∷ row (6 ∷ []) 1 3 3
    ∷ row (7 ∷ []) 1 3 3
    ∷ row (8 ∷ []) 1 3 3
    ∷ row (9 ∷ []) 1 3 3
    ∷ row (10 ∷ 11 ∷ []) 2 4 3
    ∷ row (12 ∷ 13 ∷ []) 2 4 3
    ∷ row (14 ∷ 15 ∷ []) 2 4 3
    ∷ row (16 ∷ 17 ∷ []) 2 5 3
    ∷ row (18 ∷ 19 ∷ []) 2 5 3
    ∷ row (20 ∷ 21 ∷ 22 ∷ 23 ∷ []) 4 6 3
    ∷ row (24 ∷ 25 ∷ 26 ∷ []) 3 6 4
    ∷ row (27 ∷ 28 ∷ 29 ∷ []) 3 6 5
    ∷ row (30 ∷ 31 ∷ 32 ∷ 33 ∷ 34 ∷ []) 5 7 7
    ∷ row (35 ∷ 36 ∷ 37 ∷ 38 ∷ 39 ∷ 40 ∷ 41 ∷ 42 ∷ 43 ∷ []) 9 8 11
    ∷ []

-- row b, for b from 0 to 19
unfoldable pub row_at : ℕ → Row
row_at b = get_or table17 b (row [] 0 0 0)

-- J_b, H_b, T_b and A(b)
abbrev pub bands_of : ℕ → List ℕ
bands_of b = (row_at b).bands

abbrev pub height_of : ℕ → ℕ
height_of b = (row_at b).height

abbrev pub lift_of : ℕ → ℕ
lift_of b = (row_at b).lift

abbrev pub floor_of : ℕ → ℕ
floor_of b = (row_at b).floor

unfoldable pub has : ℕ → List ℕ → Bool
has p [] = false
has p (q ∷ qs) = cond (eqb p q) true (has p qs)

unfoldable pub seek : ℕ → ℕ → List Row → ℕ
seek p b [] = b
seek p b (r ∷ rs) = cond (has p r.bands) b (seek p (suc b) rs)

-- the row b with p ∈ J_b
unfoldable pub row_of : ℕ → ℕ
row_of p = seek p 0 table17
