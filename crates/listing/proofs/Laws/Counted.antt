-- How many lines a listing has: one for each sound frame, one more for a refused frame and none for a byte after 3,000, and the total line.
-- Assumes nothing.
use mathlib.Core.Path.{◌≡◌, refl, ap, ap₂, ◌∙◌}
use mathlib.Core.Bool.{Bool, true, false, cond}
use mathlib.Core.List.{List, [], ◌∷◌, ◌++◌}
use Prim.Native.Nat.{ℕ, zero, suc, ◌+◌, ◌/◌, ◌%◌, ◌≤◌}
use native.Mathlib.Omega.{arith}
use borrow.Author.Tests.{ne_eqb}
use lib.Dec.{eqb, ltb}
use lib.ListN.{length, drop}
use Rattle.ground.specs.Replies.{done, no_data, too_many}
use Rattle.prefix.specs.Sizes.{mode_bytes}
use Rattle.frame.specs.Answers.{Outcome, refused, empty, sound}
use Rattle.recording.specs.Walk.{stored_at, step_of, onward, next_step, walk_over, walk, most_frames}
use Rattle.recording.proofs.Laws.Walk.{Fits, stored_fits}
use Rattle.recording.specs.declared.answer.Check.{Check}
use Rattle.decimals.specs.Decimals.{digit, digits, decimal_by, decimal}
use Rattle.listing.specs.Text.{frame_line, total_line}
use Rattle.listing.specs.Listing.{line_of, lines, total_of, most_bytes, listing_of}
use Rattle.listing.proofs.Laws.InRoom.{listing_lines}

-- how many newlines a text has
unfoldable pub newlines : List ℕ → ℕ
newlines [] = 0
newlines (b ∷ s) = cond (eqb b 10) 1 0 + newlines s

newlines_append : (a b : List ℕ) → newlines (a ++ b) ≡ newlines a + newlines b
unfolding newlines
newlines_append [] b = omega arith
newlines_append (x ∷ a) b = omega (arith, newlines_append a b)

-- no digit is one
one_digit : (d : ℕ) → newlines (digit d ∷ []) ≡ 0
unfolding newlines
one_digit d = rw (ne_eqb (48 + d) 10 (λ e. omega arith))

newlines_digits : (k n : ℕ) → newlines (digits k n) ≡ 0
unfolding digits newlines
newlines_digits zero n = refl
newlines_digits (suc k) n =
    newlines_append (digits k (n / 10)) (digit (n % 10) ∷ []) ∙ ap₂ (λ (a b : ℕ). a + b) (newlines_digits k (n / 10)) (one_digit (n % 10))

newlines_decimal : (k n : ℕ) → newlines (decimal_by k n) ≡ 0
unfolding decimal_by newlines
newlines_decimal zero n = refl
newlines_decimal (suc k) n = go (ltb n 10) (newlines_decimal k (n / 10))
  where
    go : (b : Bool) → newlines (decimal_by k (n / 10)) ≡ 0 → newlines (cond b (digit n ∷ []) (decimal_by k (n / 10) ++ (digit (n % 10) ∷ []))) ≡ 0
    go true e = one_digit n
    go false e = newlines_append (decimal_by k (n / 10)) (digit (n % 10) ∷ []) ∙ ap₂ (λ (a b : ℕ). a + b) e (one_digit (n % 10))

none : (n : ℕ) → newlines (decimal n) ≡ 0
unfolding decimal
none n = newlines_decimal (suc n) n

-- a line has one, its last byte
line_one : (number reply bytes : ℕ) → newlines (frame_line number reply bytes) ≡ 1
unfolding frame_line newlines
line_one number reply bytes = simp newlines_append (omega (arith, newlines_digits 4 number, none reply, none bytes))

total_one : (count reply place : ℕ) → newlines (total_line count reply place) ≡ 1
unfolding total_line newlines
total_one count reply place = simp newlines_append (omega (arith, none count, none reply, none place))

-- 1 for a refused frame, 0 for the end and for a byte after the last frame that is allowed
unfoldable pub refused_lines : ℕ → ℕ
refused_lines x = cond (eqb x done) 0 (cond (eqb x too_many) 0 1)

refused_one : (x : ℕ) → 2 ≤ x → x ≤ 7 → refused_lines x ≡ 1
unfolding refused_lines
refused_one x l h = rw (ne_eqb x done (λ e. omega arith), ne_eqb x too_many (λ e. omega arith))

line_counted : (number : ℕ) (s : List ℕ) (o : Outcome) → Fits s o → (rest : ℕ → List ℕ) (w : ℕ → Check)
    → ((k : ℕ) → newlines (rest k) ≡ (w k).count + refused_lines (w k).reply)
    → newlines (line_of number o rest) ≡ (onward (step_of o) w).count + refused_lines (onward (step_of o) w).reply
unfolding line_of onward
line_counted number s (refused x) f rest w h = omega (arith, line_one number x 0, refused_one x f.0 f.1)
line_counted number s empty f rest w h =
    omega (arith, newlines_append (frame_line number no_data 0) (rest 1), line_one number no_data 0, h 1)
line_counted number s (sound mode x) f rest w h =
    let n = mode_bytes mode in
    omega (arith, newlines_append (frame_line number done n) (rest (n + 1)), line_one number done n, h (n + 1))

lines_counted : (n number : ℕ) (s : List ℕ) → newlines (lines n number s) ≡ (walk n s).count + refused_lines (walk n s).reply
unfolding lines walk_over next_step onward newlines refused_lines
lines_counted zero number [] = refl
lines_counted zero number (b ∷ s) = refl
lines_counted (suc n) number [] = refl
lines_counted (suc n) number (b ∷ s) =
    line_counted number (b ∷ s) (stored_at (b ∷ s)) (stored_fits (b ∷ s) (omega arith)) (λ k. lines n (number + 1) (drop k (b ∷ s)))
    (λ k. walk n (drop k (b ∷ s)))
    (λ k. lines_counted n (number + 1) (drop k (b ∷ s)))

pub listing_counted : (src : List ℕ) → length src ≤ most_bytes
    → newlines (listing_of src) ≡ (walk most_frames src).count + refused_lines (walk most_frames src).reply + 1
listing_counted src h =
    let w = walk most_frames src in
    ap newlines (listing_lines src h) ∙ newlines_append (lines most_frames 0 src) (total_of w)
    ∙ ap₂ (λ (a b : ℕ). a + b) (lines_counted most_frames 0 src) (total_one w.count w.reply w.place)
