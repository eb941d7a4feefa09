-- How long a listing is: a line has at most 11 bytes, the total line at most 30, so every listing fits its room.
-- Assumes nothing.
use mathlib.Core.Path.{◌≡◌, ap}
use mathlib.Core.List.{List, [], ◌∷◌}
use Prim.Native.Nat.{ℕ, zero, suc, ◌+◌, ◌*◌, ◌≤◌, ◌<◌}
use native.Mathlib.Omega.{arith}
use borrow.Author.Tests.{ltb-false}
use lib.Dec.{ltb}
use lib.ListN.{length, drop, length-append}
use Rattle.ground.proofs.Laws.Cases.{by_bool}
use Rattle.ground.specs.Replies.{done, no_data}
use Rattle.prefix.specs.Sizes.{mode_bytes}
use Rattle.prefix.proofs.Laws.Sizes.{mode_bounds}
use Rattle.frame.specs.Answers.{Outcome, refused, empty, sound}
use Rattle.recording.specs.Walk.{stored_at, frame_step, walk, most_frames}
use Rattle.recording.proofs.Laws.Walk.{Fits, stored_fits}
use Rattle.recording.proofs.Laws.Units.{Stop, ended, passed, met, walk_says}
use Rattle.recording.proofs.Laws.Frames.{frame_unit}
use Rattle.recording.specs.declared.answer.Check.{Check}
use Rattle.decimals.specs.Decimals.{decimal}
use Rattle.decimals.proofs.Laws.Digits.{length_digits, length_decimal}
use Rattle.listing.specs.Text.{frame_line, total_line}
use Rattle.listing.specs.Listing.{line_of, lines, total_of, most_bytes, listing_of, room}

pub length_line : (number reply bytes : ℕ) → length (frame_line number reply bytes) ≡ 7 + (length (decimal reply) + length (decimal bytes))
unfolding frame_line
length_line number reply bytes = simp length-append (omega (arith, length_digits 4 number))

pub length_total : (count reply place : ℕ)
    → length (total_line count reply place) ≡ 19 + (length (decimal count) + (length (decimal reply) + length (decimal place)))
unfolding total_line
length_total count reply place = simp length-append (omega arith)

-- equal numbers have digits equally many
pub same_digits : {a b : ℕ} → a ≡ b → length (decimal a) ≡ length (decimal b)
same_digits e = ap (λ (n : ℕ). length (decimal n)) e

-- ---- the lines

line_short : (number : ℕ) (s : List ℕ) (o : Outcome) → Fits s o → (rest : ℕ → List ℕ) (n : ℕ) → ((k : ℕ) → length (rest k) ≤ n)
    → length (line_of number o rest) ≤ 11 + n
unfolding line_of
line_short number s (refused x) f rest n h =
    omega (arith, length_line number x 0, length_decimal 0 x (omega (arith, f.1)), length_decimal 0 0 (omega arith))
line_short number s empty f rest n h =
    let l = length_line number no_data 0 in
    omega (arith, l, length_decimal 1 14 (omega arith), length_decimal 0 0 (omega arith), length-append (frame_line number no_data 0) (rest 1), h 1)
line_short number s (sound mode x) f rest n h =
    let m = mode_bytes mode in
    let l = length_line number done m in
    let d = length_decimal 2 m (omega (arith, (mode_bounds mode f.0).1)) in
    omega (arith, l, length_decimal 0 0 (omega arith), d, length-append (frame_line number done m) (rest (m + 1)), h (m + 1))

pub lines_short : (n number : ℕ) (s : List ℕ) → length (lines n number s) ≤ 11 * n
unfolding lines
lines_short zero number s = omega arith
lines_short (suc n) number [] = omega arith
lines_short (suc n) number (b ∷ s) =
    let rest : ℕ → List ℕ = λ k. lines n (number + 1) (drop k (b ∷ s)) in
    let l = line_short number (b ∷ s) (stored_at (b ∷ s)) (stored_fits (b ∷ s) (omega arith)) rest (11 * n) (λ k. lines_short n (number + 1) (drop k (b ∷ s))) in
    omega (arith, l)

-- ---- the total line

-- what the total line prints
pub record Bounded (src : List ℕ) (w : Check) : Type 0 where
  pub few : w.count ≤ most_frames
  pub number : w.reply < 100
  pub inside : w.place ≤ length src

stop_small : (n : ℕ) (rest : List ℕ) (w : Check) → Stop frame_step n rest w → w.reply < 100
stop_small n rest w (ended e q) = omega arith
stop_small n rest w (passed e q h) = omega arith
stop_small n rest w (met h l e) = let f = frame_unit.number rest w.reply h e in omega (arith, f.1)

pub walk_bounded : (src : List ℕ) → Bounded src (walk most_frames src)
walk_bounded src =
    let w = walk most_frames src in
    let t = walk_says frame_unit most_frames src in
    record {
      few = t.few;
      number = stop_small most_frames t.rest w t.stop;
      inside = omega (arith, t.place, ap length t.whole, length-append t.front t.rest);
    }

pub total_short : (src : List ℕ) → length src ≤ most_bytes → length (total_of (walk most_frames src)) ≤ 30
total_short src h =
    let w = walk most_frames src in
    let b = walk_bounded src in
    omega (
      arith,
      length_total w.count w.reply w.place,
      length_decimal 3 w.count (omega (arith, b.few)),
      length_decimal 1 w.reply (omega (arith, b.number)),
      length_decimal 4 w.place (omega (arith, b.inside)),
    )

-- every listing fits the room
pub listing_short : (src : List ℕ) → length (listing_of src) ≤ room
unfolding listing_of
listing_short src =
    by_bool (ltb most_bytes (length src))
    (λ t. rw t (omega arith))
    (λ t.
    let h = ltb-false most_bytes (length src) t in
    rw t (omega (arith, length-append (lines most_frames 0 src) (total_of (walk most_frames src)), lines_short most_frames 0 src, total_short src h)))
