-- A recording walked so far: so many sound units of so many bytes stand in front of the walk that is left; what a step of it tells, and its end held
-- against the booking.
-- Assumes nothing.
use mathlib.Core.Path.{◌≡◌, sym, ap, ap₂, ◌∙◌}
use mathlib.Core.List.{List}
use Prim.Native.Nat.{ℕ, suc, ◌+◌, ◌-◌, ◌≤◌, ◌<◌}
use native.Mathlib.Omega.{arith}
use lib.ListN.{length, take, drop, length-drop}
use lib.Seq.{drop-drop, length-take-le}
use Rattle.ground.specs.Replies.{done, not_as_booked, too_many}
use Rattle.recording.specs.Walk.{Step, stops, passes, next_step, made_check, ahead, walk_over, booked, most_frames, check_over}
use Rattle.recording.proofs.Laws.Walk.{ahead_none, ahead_ahead, ahead_stopped, booked_done, booked_missed, booked_other}
use Rattle.recording.proofs.Laws.Walk.{next_end, next_full, next_unit, next_passes, walk_stop, walk_pass}
use Rattle.recording.proofs.Laws.Reads.{lent}
use Rattle.recording.proofs.Laws.Units.{LawfulUnit}
use Rattle.recording.specs.declared.answer.Check.{Check}

-- ---- what stands at a place, by its three cases

module _ (unit : List ℕ → Step) (src : List ℕ) (at count : ℕ) where
  pub step_end : length src ≤ at → stops done ≡ next_step unit (most_frames - count) (drop at src)
  step_end h = sym (next_end unit (most_frames - count) (drop at src) (omega (arith, length-drop at src)))

  module _ (h : at < length src) where
    pub step_full : most_frames ≤ count → stops too_many ≡ next_step unit (most_frames - count) (drop at src)
    step_full l =
        let z : 0 ≡ most_frames - count = omega arith in
        sym (next_full unit (drop at src) (omega (arith, length-drop at src))) ∙ ap (λ (n : ℕ). next_step unit n (drop at src)) z

    pub step_unit : {o : Step} → count < most_frames → o ≡ unit (take (length src - at) (drop at src))
        → o ≡ next_step unit (most_frames - count) (drop at src)
    step_unit l e =
        let n = most_frames - (count + 1) in
        let z : suc n ≡ most_frames - count = omega arith in
        e ∙ ap unit (lent src at) ∙ sym (next_unit unit n (drop at src) (omega (arith, length-drop at src))) ∙ ap (λ (k : ℕ). next_step unit k (drop at src)) z

-- ---- the units so far

pub record Walked (unit : List ℕ → Step) (src : List ℕ) (at count : ℕ) : Type 0 where
  pub few : count ≤ most_frames
  pub inside : at ≤ length src
  pub same : walk_over unit most_frames src ≡ ahead count at (walk_over unit (most_frames - count) (drop at src))

pub walked_none : (unit : List ℕ → Step) (src : List ℕ) → Walked unit src 0 0
walked_none unit src = record { few = omega arith; inside = omega arith; same = sym (ahead_none (walk_over unit most_frames src)) }

module _ {unit : List ℕ → Step} {src : List ℕ} {at count : ℕ} (W : Walked unit src at count) where
  -- the end of the walk
  pub walked_end : (x : ℕ) → stops x ≡ next_step unit (most_frames - count) (drop at src) → made_check x count at ≡ walk_over unit most_frames src
  walked_end x e = sym (W.same ∙ ap (ahead count at) (walk_stop unit (most_frames - count) (drop at src) x (sym e)) ∙ ahead_stopped count at x)

  module _ {Whole : List ℕ → Type 0} (L : LawfulUnit unit Whole) {k : ℕ} (e : passes k ≡ next_step unit (most_frames - count) (drop at src)) where
    -- no unit is of no bytes, and each lies in the source
    pub passed_some : 0 < k
    passed_some =
        let u = L.told (drop at src) k (next_passes unit (most_frames - count) (drop at src) k (sym e)).1 in
        omega (arith, L.some (take k (drop at src)) u.0, length-take-le k (drop at src) u.1)

    pub passed_inside : at + k ≤ length src
    passed_inside =
        let u = L.told (drop at src) k (next_passes unit (most_frames - count) (drop at src) k (sym e)).1 in
        omega (arith, W.inside, u.1, length-drop at src)

    -- one unit more
    pub walked_more : Walked unit src (at + k) (count + 1)
    walked_more =
        let u = next_passes unit (most_frames - count) (drop at src) k (sym e) in
        let n : most_frames - count - 1 ≡ most_frames - (count + 1) = omega arith in
        record {
          few = omega (arith, u.0);
          inside = passed_inside;
          same =
              W.same ∙ ap (ahead count at) (walk_pass unit (most_frames - count) (drop at src) k (sym e))
              ∙ ahead_ahead count at 1 k _
              ∙ ap₂ (λ (i : ℕ) (s : List ℕ). ahead (count + 1) (at + k) (walk_over unit i s)) n (drop-drop k at src);
        }

-- ---- held against the booking

module _ (unit : List ℕ → Step) (src : List ℕ) (b : ℕ) (w : Check) (e : w ≡ walk_over unit most_frames src) where
  pub check_missed : w.reply ≡ 0 → (w.count ≡ b → ⊥) → made_check not_as_booked w.count w.place ≡ check_over unit src b
  unfolding check_over
  check_missed z n = sym (ap (booked b) (sym e) ∙ booked_missed b w z n)

  pub check_agreed : w.reply ≡ 0 → w.count ≡ b → w ≡ check_over unit src b
  unfolding check_over
  check_agreed z n = sym (ap (booked b) (sym e) ∙ booked_done b w z n)

  pub check_other : (w.reply ≡ 0 → ⊥) → w ≡ check_over unit src b
  unfolding check_over
  check_other z = sym (ap (booked b) (sym e) ∙ booked_other b w z)
