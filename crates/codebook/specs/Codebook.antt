-- The codebook of rate 1 (001, 7.6.1, Tables 18 and 19), made from the print by 01's repair rule; and what the two point calls answer.
-- Assumes nothing.
use Rattle.std.specs.Prelude.{Bool, true, false, cond, not, ◌&&◌, ◌||◌, List, [], ◌∷◌, ◌++◌, ℕ, zero, suc, ◌-◌, eqb, ltb, length, get_or, take, drop, ℤ, pos}
use Rattle.std.specs.declared.option.Option.{Option}
use Rattle.std.specs.declared.option.Option.TheVariants.{Some, None}
use Rattle.ground.specs.ListsByRule.{from, table}
use Rattle.ground.specs.Replies.{done, out_of_range}
use Rattle.points.specs.Answers.{eq_z, no_point}
use Rattle.points.specs.declared.Point.{Point}
use Rattle.codebook.specs.declared.Row.{Row}
use Rattle.codebook.specs.Table18.{printed, -2, -1, +0, +1, +2}

-- ---- the classes

-- a class of rows: the number of its first row, and how many of its eight numbers are lo, 0 and hi
pub record Class : Type 0 where
  pub first : ℕ
  pub lo : ℤ
  pub hi : ℤ
  pub los : ℕ
  pub zeros : ℕ
  pub his : ℕ

abbrev pub class : ℕ → ℤ → ℤ → ℕ → ℕ → ℕ → Class
class f l h a b c = record { first = f; lo = l; hi = h; los = a; zeros = b; his = c }

-- z in front of each of the vectors
abbrev pub led : ℤ → List (List ℤ) → List (List ℤ)
led z [] = []
led z (v ∷ vs) = (z ∷ v) ∷ led z vs

-- where a number is left over, it may come first
abbrev pub begin : ℤ → ℕ → (ℕ → List (List ℤ)) → List (List ℤ)
begin z zero rest = []
begin z (suc n) rest = led z (rest n)

-- all vectors with so many lo, 0 and hi, "sorted by first differing place with the smaller number first"
abbrev pub arranged : ℕ → ℤ → ℤ → ℕ → ℕ → ℕ → List (List ℤ)
arranged zero lo hi a b c = [] ∷ []
arranged (suc n) lo hi a b c =
    begin lo a (λ (m : ℕ). arranged n lo hi m b c) ++ begin +0 b (λ (m : ℕ). arranged n lo hi a m c) ++ begin hi c (λ (m : ℕ). arranged n lo hi a b m)

abbrev pub vectors : Class → List (List ℤ)
vectors c = arranged 8 c.lo c.hi c.los c.zeros c.his

-- "Rows 0–7: one −2. 8–15: one 2. 16–43: two −2. 44–99: a 2 and a −2. 100–127: two 2. 128–155, 156–225 …: ±1 with two, four … −1"
abbrev pub classes : List Class
classes =
    class 0 -2 +2 1 7 0 ∷ class 8 -2 +2 0 7 1 ∷ class 16 -2 +2 2 6 0 ∷ class 44 -2 +2 1 6 1 ∷ class 100 -2 +2 0 6 2 ∷ class 128 -1 +1 2 0 6 ∷
    class 156 -1 +1 4 0 4 ∷ []

-- "226–253: … six −1; 254 all −1; 255 all 1"
abbrev pub six : Class
six = class 226 -1 +1 6 0 2

abbrev pub ends : List Class
ends = class 254 -1 +1 8 0 0 ∷ class 255 -1 +1 0 0 8 ∷ []

-- ---- the repair

abbrev pub eq_row : List ℤ → List ℤ → Bool
eq_row [] [] = true
eq_row [] (w ∷ ws) = false
eq_row (v ∷ vs) [] = false
eq_row (v ∷ vs) (w ∷ ws) = eq_z v w && eq_row vs ws

abbrev pub among : List ℤ → List (List ℤ) → Bool
among v [] = false
among v (w ∷ ws) = eq_row v w || among v ws

-- "a printed row outside its class or equal to an earlier row is unsound": of each of a class's printed rows, whether it is sound;
-- `all` are the vectors of the class, `earlier` the rows printed before
abbrev pub sound : List (List ℤ) → List (List ℤ) → List (List ℤ) → List Bool
sound all earlier [] = []
sound all earlier (v ∷ rows) = (among v all && not (among v earlier)) ∷ sound all (v ∷ earlier) rows

-- v too, where it is wanted
abbrev keep : Bool → List ℤ → List (List ℤ) → List (List ℤ)
keep true v vs = v ∷ vs
keep false v vs = vs

-- the sound rows
abbrev pub kept : List Bool → List (List ℤ) → List (List ℤ)
kept [] rows = []
kept (s ∷ ss) [] = []
kept (s ∷ ss) (v ∷ rows) = keep s v (kept ss rows)

-- a class's vectors that no sound row has
abbrev pub missing : List (List ℤ) → List (List ℤ) → List (List ℤ)
missing [] have = []
missing (v ∷ all) have = keep (not (among v have)) v (missing all have)

-- the missing vectors "fill its unsound rows from the lowest up"
abbrev pub fill : List Bool → List (List ℤ) → List (List ℤ) → List (List ℤ)
fill [] rows new = []
fill (s ∷ ss) [] new = []
fill (true ∷ ss) (v ∷ rows) new = v ∷ fill ss rows new
fill (false ∷ ss) (v ∷ rows) [] = []
fill (false ∷ ss) (v ∷ rows) (w ∷ new) = w ∷ fill ss rows new

abbrev mend : List (List ℤ) → List Bool → List (List ℤ) → List (List ℤ)
mend all marks rows = fill marks rows (missing all (kept marks rows))

-- the printed rows of a class
abbrev pub part : Class → List (List ℤ)
part c = take (length (vectors c)) (drop c.first printed)

abbrev pub repaired : Class → List (List ℤ)
repaired c = mend (vectors c) (sound (vectors c) (take c.first printed) (part c)) (part c)

-- one class after the other
abbrev pub each : List Class → List (List ℤ)
each [] = []
each (c ∷ cs) = repaired c ++ each cs

-- 1 at places i and j, −1 elsewhere
abbrev pub pair : ℕ → ℕ → List ℤ
pair i j = table 8 (λ (k : ℕ). cond (eqb k i || eqb k j) +1 -1)

abbrev pub join : List (List (List ℤ)) → List (List ℤ)
join [] = []
join (l ∷ ls) = l ++ join ls

-- "Rows 226–253 go by the pair of 1-places in rising order."
abbrev pub pairs : List (List ℤ)
pairs = join (table 7 (λ (i : ℕ). from (pair i) (7 - i) (suc i)))

-- the 256 rows
unfoldable pub book : List (List ℤ)
book = each classes ++ pairs ++ each ends

unfoldable pub row : ℕ → List ℤ
row n = get_or book n []

-- ---- the answers

-- the point that index n names: its row
unfoldable pub row_point : ℕ → ℕ → Point
row_point rate n = cond (eqb rate 1 && ltb n 256) (record { reply = done; at = row n }) no_point

-- the number of the first of the rows that is v; how many they are, if none is
abbrev pub place_of : List ℤ → List (List ℤ) → ℕ
place_of v [] = 0
place_of v (w ∷ rows) = cond (eq_row v w) 0 (suc (place_of v rows))

abbrev pub no_row : Row
no_row = record { reply = out_of_range; index = 0 }

-- the answer to what was found
abbrev pub answer_row : Option ℕ → Row
answer_row (Some n) = record { reply = done; index = n }
answer_row None = no_row

-- the eight numbers of a point
abbrev pub eight : List ℤ → List ℤ
eight v = table 8 (λ (i : ℕ). get_or v i (pos 0))

-- the index that names v: the number of the row that is v
unfoldable pub row_index : ℕ → List ℤ → Row
row_index rate v =
    cond (eqb rate 1 && ltb (place_of (eight v) book) 256) (record { reply = done; index = place_of (eight v) book }) no_row
