-- The code's table goes with Table 17 as printed: each column by one computed test over its rows.
-- Assumes nothing.
use mathlib.Core.Path.{◌≡◌}
use Prim.Native.Nat.{ℕ, ◌+◌, ◌*◌, ◌/◌, ◌<◌, ◌≤◌}
use lib.Dec.{T, leb, ltb, eqb, leb→le, ltb→lt, eqb→eq}
use lib.ListN.{get_or}
use mathlib.Core.Bool.{Bool}
use Rattle.ground.specs.Sums.{nth}
use Rattle.ground.proofs.Laws.PrintedTables.{every, every_at}
use Rattle.weights.specs.Inner.{Counted}
use Rattle.weights.specs.Table17.{table17, row_at, bands_of, height_of, lift_of, floor_of, has, seek, row_of}
use Rattle.weights.specs.declared.table17.Row.{Row}
use Rattle.weights.specs.declared.table17.TheConstants.{ROWS, PLACES}

-- past the end
abbrev none : Row
none = record { first = 0; height = 0; part = 0; lift = 0; floor = 0 }

-- a test that passes at each row
abbrev pub at_rows : (f : ℕ → Row → Bool) → T (every f 0 ROWS) → (b : ℕ) → b < 20 → T (f b (get_or ROWS b none))
at_rows f t b h = every_at f ROWS none t b h

module _ (b : ℕ) (h : b < 20) where
  pub counted : Counted b (get_or ROWS b none)
  unfolding table17 row_at
  counted =
      record {
        first = eqb→eq _ _ (at_rows (λ b r. eqb r.first (nth (bands_of b) 0)) tt b h);
        height = eqb→eq _ _ (at_rows (λ b r. eqb r.height (height_of b)) tt b h);
        part = eqb→eq _ _ (at_rows (λ b r. eqb r.part (180 / height_of b)) tt b h);
        lift = eqb→eq _ _ (at_rows (λ b r. eqb r.lift (720 * lift_of b)) tt b h);
        floor = eqb→eq _ _ (at_rows (λ b r. eqb r.floor (720 * (floor_of b + 5))) tt b h);
      }

  -- J_b ends by band 43
  pub bands_in : nth (bands_of b) 0 + height_of b ≤ 44
  unfolding table17 row_at
  bands_in = leb→le _ _ (at_rows (λ b r. leb (nth (bands_of b) 0 + height_of b) 44) tt b h)

  pub part_height : 180 / height_of b * height_of b ≡ 180
  unfolding table17 row_at
  part_height = eqb→eq _ _ (at_rows (λ b r. eqb (180 / height_of b * height_of b) 180) tt b h)

  pub lift_le : lift_of b ≤ 8
  unfolding table17 row_at
  lift_le = leb→le _ _ (at_rows (λ b r. leb (lift_of b) 8) tt b h)

module _ (p : ℕ) (h : p < 44) where
  pub row_is : nth PLACES p ≡ row_of p
  unfolding table17 has seek row_of
  row_is = eqb→eq _ _ (every_at (λ p x. eqb x (row_of p)) PLACES 0 tt p h)

  pub row_in : nth PLACES p < 20
  row_in = ltb→lt _ _ (every_at (λ p x. ltb x 20) PLACES 0 tt p h)
