-- What the two point calls answer: reply 0 with the result, or reply 8 with zeros.
-- Assumes nothing.
use Rattle.std.specs.Prelude.{Bool, true, false, cond, ◌&&◌, List, ℕ, zero, suc, ◌^◌, ltb, leb, eqb, get_or, ℤ, pos, negsuc}
use Rattle.std.specs.declared.option.Option.{Option}
use Rattle.std.specs.declared.option.Option.TheVariants.{Some, None}
use Rattle.ground.specs.ListsByRule.{table}
use Rattle.ground.specs.Replies.{done, out_of_range}
use Rattle.lattice.specs.Lattice.{point, back}
use Rattle.points.specs.declared.Point.{Point}
use Rattle.points.specs.declared.Index.{Index}

-- f holds of 0 … n − 1
unfoldable pub all_to : (ℕ → Bool) → ℕ → Bool
all_to f zero = true
all_to f (suc n) = f n && all_to f n

-- the rates that these calls own
abbrev pub owns : ℕ → Bool
owns rate = leb 2 rate && leb rate 9

-- the first n numbers of k are below r
unfoldable pub below : ℕ → List ℕ → ℕ → Bool
below r k = all_to (λ (i : ℕ). ltb (get_or k i 0) r)

abbrev pub no_point : Point
no_point = record { reply = out_of_range; at = table 8 (λ (i : ℕ). pos 0) }

-- the answer to what was found
abbrev pub answer_point : Option (List ℤ) → Point
answer_point (Some v) = record { reply = done; at = v }
answer_point None = no_point

-- the point that index k names at this rate
unfoldable pub point_of : ℕ → List ℕ → Point
point_of rate k = cond (owns rate && below (2 ^ rate) k 8) (record { reply = done; at = point (2 ^ rate) k }) no_point

abbrev pub eq_z : ℤ → ℤ → Bool
eq_z (pos a) (pos b) = eqb a b
eq_z (pos a) (negsuc b) = false
eq_z (negsuc a) (pos b) = false
eq_z (negsuc a) (negsuc b) = eqb a b

-- the first n numbers of v and w are the same
unfoldable pub agree : List ℤ → List ℤ → ℕ → Bool
agree v w = all_to (λ (i : ℕ). eq_z (get_or v i (pos 0)) (get_or w i (pos 0)))

abbrev pub no_index : Index
no_index = record { reply = out_of_range; at = table 8 (λ (i : ℕ). 0) }

abbrev pub answer_index : Option (List ℕ) → Index
answer_index (Some k) = record { reply = done; at = k }
answer_index None = no_index

-- the index to which the way back from v leads, if v is the point of that index
unfoldable pub index_of : ℕ → List ℤ → Index
index_of rate v =
    cond (owns rate && agree (point (2 ^ rate) (back (2 ^ rate) v)) v 8) (record { reply = done; at = back (2 ^ rate) v }) no_index
