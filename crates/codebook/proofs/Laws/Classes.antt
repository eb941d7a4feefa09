-- Each row is in its class, and all vectors of each class occur: by computation over the book. The ten classes of Table 19 follow each
-- other without a gap, with 8, 8, 28, 56, 28, 28, 70, 28, 1 and 1 rows. And the rows that the repair changes, which docs/TABLE18.md lists.
-- Assumes nothing.
use mathlib.Core.Path.{◌≡◌, refl}
use mathlib.Core.Bool.{Bool, true, false, ◌&&◌}
use mathlib.Core.List.{List, [], ◌∷◌, ◌++◌}
use Prim.Native.Nat.{ℕ, suc, ◌+◌}
use lib.ListN.{length, take, drop}
use lib.IntN.{ℤ}
use Rattle.ground.specs.ListsByRule.{from}
use Rattle.codebook.specs.Table18.{printed}
use Rattle.codebook.specs.Codebook.{Class, classes, ends, vectors, eq_row, among, book, six}

abbrev pub all_classes : List Class
all_classes = classes ++ six ∷ ends

-- the rows of the book that belong to a class
abbrev pub rows_of : Class → List (List ℤ)
rows_of c = take (length (vectors c)) (drop c.first book)

-- each of the vectors is among the others
abbrev pub within : List (List ℤ) → List (List ℤ) → Bool
within [] ws = true
within (v ∷ vs) ws = among v ws && within vs ws

abbrev pub whole : List Class → Bool
whole [] = true
whole (c ∷ cs) = within (rows_of c) (vectors c) && within (vectors c) (rows_of c) && whole cs

-- each class begins at row n, where the one before it ended
abbrev pub follow : ℕ → List Class → List ℕ
follow n [] = n ∷ []
follow n (c ∷ cs) = n ∷ follow (n + length (vectors c)) cs

abbrev pub firsts : List Class → List ℕ
firsts [] = 256 ∷ []
firsts (c ∷ cs) = c.first ∷ firsts cs

abbrev pub sizes : List Class → List ℕ
sizes [] = []
sizes (c ∷ cs) = length (vectors c) ∷ sizes cs

pub classed : whole all_classes ≡ true
unfolding book printed from
classed = refl

pub no_gap : follow 0 all_classes ≡ firsts all_classes
no_gap = refl

pub counted : sizes all_classes ≡ 8 ∷ 8 ∷ 28 ∷ 56 ∷ 28 ∷ 28 ∷ 70 ∷ 28 ∷ 1 ∷ 1 ∷ []
counted = refl

-- the numbers of the rows that are not as they are printed, the first of which is row n
abbrev note : Bool → ℕ → List ℕ → List ℕ
note true n ns = ns
note false n ns = n ∷ ns

abbrev pub differ : ℕ → List (List ℤ) → List (List ℤ) → List ℕ
differ n [] rows = []
differ n (p ∷ prints) [] = []
differ n (p ∷ prints) (v ∷ rows) = note (eq_row p v) n (differ (suc n) prints rows)

pub changed : differ 0 printed book
    ≡
    129 ∷ 130 ∷ 131 ∷ 132 ∷ 133 ∷ 134 ∷ 135 ∷ 136 ∷ 137 ∷ 138 ∷ 139 ∷ 140 ∷ 141 ∷ 142 ∷ 143 ∷ 144 ∷ 145 ∷ 146 ∷ 147 ∷ 148 ∷
    149 ∷ 150 ∷ 151 ∷ 152 ∷ 153 ∷ 154 ∷ 155 ∷ 166 ∷ 179 ∷ 181 ∷ 183 ∷ 184 ∷ 232 ∷ 238 ∷ 243 ∷ 245 ∷ 247 ∷ 250 ∷ 252 ∷ []
unfolding book printed from
changed = refl
