-- The weights and the starting scores of 7.5.1, in whole numbers of 1/720 (01, Weights). Wherever 7.5 prints the index, loudness is meant.
use Rattle.std.specs.Prelude.{Bool, cond, List, [], ◌∷◌, ℕ, zero, suc, ◌+◌, ◌-◌, ◌*◌, ◌/◌, ℤ, pos, nat_abs, ◌+ℤ◌, ◌-ℤ◌, ◌*ℤ◌, get_or, replicate}
use Rattle.std.specs.Int.Signed.{lt_z, shr_z}
use Rattle.ground.specs.ListsByRule.{table}
use Rattle.ground.specs.Indices.{in_range}
use Rattle.ground.specs.LargerSmaller.{max_z, min_z}
use Rattle.ground.specs.Replies.{done, out_of_range}
use Rattle.ground.specs.Sums.{nth}
use Rattle.weights.specs.declared.Weights.{Weights}
use Rattle.weights.specs.Table17.{bands_of, height_of, lift_of, floor_of, row_of}

abbrev pub nth_z : List ℤ → ℕ → ℤ
nth_z l k = get_or l k (pos 0)

-- loudness is 34 − index
unfoldable pub loudness : ℕ → ℤ
loudness index = pos 34 -ℤ pos index

-- the sum of f(p) over the bands p of a list
unfoldable pub sum_over : (ℕ → ℤ) → List ℕ → ℤ
sum_over f [] = pos 0
sum_over f (p ∷ ps) = f p +ℤ sum_over f ps

-- the bands 4⌊p/4⌋ + k, k = 0, …, 3
abbrev pub four : ℕ → List ℕ
four p = (4 * (p / 4)) ∷ (4 * (p / 4) + 1) ∷ (4 * (p / 4) + 2) ∷ (4 * (p / 4) + 3) ∷ []

-- (23): Spe(p) is a quarter of the sum over four bands in a transient frame, else the band's own
unfoldable pub spe : Bool → List ℤ → ℕ → ℤ
spe transient ls p = cond transient (pos 180 *ℤ sum_over (nth_z ls) (four p)) (pos 720 *ℤ nth_z ls p)

-- (24): BSpe(b) is the sum of Spe(p) over J_b by H_b, plus T_b; the division leaves no rest (proofs/Laws/RaisedNumbers, exact)
unfoldable pub bspe : List ℤ → ℕ → ℤ
bspe ss b = shr_z (sum_over (nth_z ss) (bands_of b)) (height_of b) +ℤ pos (720 * lift_of b)

-- (25): max(BSpe(b), BSpe(b−1) − 4) for b = 1, …, 19, from values already smoothed
unfoldable pub forward : List ℤ → ℕ → ℤ
forward bs zero = nth_z bs 0
forward bs (suc b) = max_z (nth_z bs (suc b)) (forward bs b -ℤ pos (720 * 4))

-- (26): max(BSpe(b), BSpe(b+1) − 8) for b = 18, …, 0; this is row 19 − k
unfoldable pub backward : List ℤ → ℕ → ℤ
backward bs zero = nth_z bs 19
backward bs (suc k) = max_z (nth_z bs (19 - suc k)) (backward bs k -ℤ pos (720 * 8))

-- (27): T_b − max(BSpe(b), A(b))
unfoldable pub renormed : List ℤ → ℕ → ℤ
renormed bs b = pos (720 * lift_of b) -ℤ max_z (nth_z bs b) (pos (720 * floor_of b))

-- the largest and the smallest of rows 0 to n
unfoldable pub largest : List ℤ → ℕ → ℤ
largest bs zero = nth_z bs 0
largest bs (suc n) = max_z (largest bs n) (nth_z bs (suc n))

unfoldable pub smallest : List ℤ → ℕ → ℤ
smallest bs zero = nth_z bs 0
smallest bs (suc n) = min_z (smallest bs n) (nth_z bs (suc n))

-- (28): W = ⌊64 (B − min) / (max − min)⌋, 0 if max = min; the factor 4 of (28) in sixteenths is 64
unfoldable pub mapped : ℤ → ℤ → ℤ → ℕ
mapped high low b = cond (lt_z low high) (64 * nat_abs (b -ℤ low) / nat_abs (high -ℤ low)) 0

-- the loudness of each band, and (23) of each
unfoldable pub louds : List ℕ → List ℤ
louds norms = table 44 (λ p. loudness (nth norms p))

unfoldable pub spes : Bool → List ℕ → List ℤ
spes transient norms = table 44 (spe transient (louds norms))

-- W of each row
unfoldable pub row_weights : Bool → List ℕ → List ℕ
row_weights transient norms =
    let b24 = table 20 (bspe (spes transient norms)) in
    let b25 = table 20 (forward b24) in
    let b26 = table 20 (λ b. backward b25 (19 - b)) in
    let b27 = table 20 (renormed b26) in
    table 20 (λ b. mapped (largest b27 19) (smallest b27 19) (nth_z b27 b))

-- (30): in a transient frame ⌊sum of its four / 4⌋, else the band's own
unfoldable pub spread : Bool → List ℕ → ℕ → ℕ
spread transient ws p =
    let q = 4 * (p / 4) in
    cond transient ((nth ws q + nth ws (q + 1) + nth ws (q + 2) + nth ws (q + 3)) / 4) (nth ws p)

-- (29): band p takes the W of its row
unfoldable pub weights_of : Bool → List ℕ → List ℕ
weights_of transient norms =
    let rows = row_weights transient norms in
    let ws = table 44 (λ p. nth rows (row_of p)) in
    table 44 (spread transient ws)

-- (31): the score is 16 × loudness + W, in sixteenths
unfoldable pub score : ℕ → ℕ → ℤ
score index w = pos 16 *ℤ loudness index +ℤ pos w

unfoldable pub scores_of : Bool → List ℕ → List ℤ
scores_of transient norms = let ws = weights_of transient norms in table 44 (λ p. score (nth norms p) (nth ws p))

-- what the call answers: weights and scores, or 8 and zeros for an index over 39
unfoldable pub weighed : Bool → List ℕ → Weights
weighed transient norms =
    cond (in_range norms 44)
    (record { reply = done; weights = weights_of transient norms; scores = scores_of transient norms })
    (record { reply = out_of_range; weights = replicate 44 0; scores = replicate 44 (pos 0) })
