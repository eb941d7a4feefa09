-- A listing so far: the frames walked, the lines that are laid, and those that are left; one step of it, and its end.
-- Assumes nothing.
use mathlib.Core.Path.{◌≡◌, refl, sym, ap, ap₂, ◌∙◌}
use mathlib.Core.List.{List, [], ◌∷◌, ◌++◌, append_assoc}
use Prim.Native.Nat.{ℕ, zero, suc, ◌+◌, ◌-◌, ◌≤◌, ◌<◌}
use native.Mathlib.Omega.{arith}
use borrow.Author.Tests.{ne_eqb, lt-ltb, le-ltb}
use lib.ListN.{length, drop, length-append}
use lib.Seq.{drop-drop}
use Rattle.ground.specs.Replies.{done, too_many, no_data}
use Rattle.ground.specs.Laying.{laid_text, TextLaid}
use Rattle.ground.proofs.Laws.Laying.{then, laid_long, laid_none}
use Rattle.prefix.specs.Sizes.{mode_bytes}
use Rattle.prefix.proofs.Laws.Sizes.{mode_bounds}
use Rattle.frame.specs.Answers.{Outcome, refused, empty, sound}
use Rattle.recording.specs.Walk.{Step, stops, passes, stored_at, step_of, frame_step, next_step, made_check, most_frames}
use Rattle.recording.proofs.Laws.Walk.{Fits, stored_fits}
use Rattle.recording.proofs.Laws.Walked.{Walked, walked_none, walked_end, passed_some, passed_inside, walked_more}
use Rattle.recording.proofs.Laws.Frames.{frame_unit}
use Rattle.listing.specs.Text.{frame_line}
use Rattle.listing.specs.Listing.{line_of, lines, room}
use Rattle.listing.specs.Inner.{step_line, Complete}
use Rattle.listing.proofs.Laws.Lengths.{lines_short}

-- ---- the line of a step, by its cases

module _ (number : ℕ) where
  pub line_sound : (k : ℕ) → 1 < k → step_line number (passes k) ≡ frame_line number done (k - 1)
  unfolding step_line
  line_sound k h = rw (lt-ltb 1 k h)

  pub line_bare : (k : ℕ) → k ≤ 1 → step_line number (passes k) ≡ frame_line number no_data 0
  unfolding step_line
  line_bare k h = rw (le-ltb 1 k h)

  pub line_end : step_line number (stops done) ≡ []
  unfolding step_line
  line_end = refl

  pub line_unread : step_line number (stops too_many) ≡ []
  unfolding step_line
  line_unread = refl

  pub line_refused : (x : ℕ) → (x ≡ done → ⊥) → (x ≡ too_many → ⊥) → step_line number (stops x) ≡ frame_line number x 0
  unfolding step_line
  line_refused x n m = rw (ne_eqb x done n, ne_eqb x too_many m)

pub laid_nothing : (s : List ℕ) (at : ℕ) → TextLaid s at [] s at
unfolding laid_text
laid_nothing s at = record { after = omega arith; bytes = refl }

-- ---- the lines by the steps of the walk

module _ (number : ℕ) (s : List ℕ) where
  refused_line : (x : ℕ) (rest : ℕ → List ℕ) (o : Outcome) → Fits s o → step_of o ≡ stops x → line_of number o rest ≡ step_line number (stops x)
  unfolding line_of
  refused_line x rest (refused y) f e =
      let q : y ≡ x = cc in
      ap (λ (z : ℕ). frame_line number z 0) q ∙ sym (line_refused number x (λ z. omega (arith, f.0)) (λ z. omega (arith, f.1)))
  refused_line x rest empty f e = absurd (let z : ◌≡◌ {A = ℕ} 0 1 = cc in omega arith)
  refused_line x rest (sound mode y) f e = absurd (let z : ◌≡◌ {A = ℕ} 0 1 = cc in omega arith)

  sound_line : (k : ℕ) (rest : ℕ → List ℕ) (o : Outcome) → Fits s o → step_of o ≡ passes k → line_of number o rest ≡ step_line number (passes k) ++ rest k
  unfolding line_of
  sound_line k rest (refused y) f e = absurd (let z : ◌≡◌ {A = ℕ} 0 1 = cc in omega arith)
  sound_line k rest empty f e =
      let q : 1 ≡ k = cc in
      ap₂ (λ (l : List ℕ) (j : ℕ). l ++ rest j) (sym (line_bare number k (omega arith))) q
  sound_line k rest (sound mode y) f e =
      let q : mode_bytes mode + 1 ≡ k = cc in
      let m : mode_bytes mode ≡ k - 1 = omega arith in
      let l = line_sound number k (omega (arith, (mode_bounds mode f.0).0)) in
      ap₂ (λ (i j : ℕ). frame_line number done i ++ rest j) m q ∙ ap (λ (l : List ℕ). l ++ rest k) (sym l)

-- a step that stops has the last line, or none
pub lines_stop : (n number : ℕ) (s : List ℕ) (x : ℕ) → next_step frame_step n s ≡ stops x → lines n number s ≡ step_line number (stops x)
unfolding lines next_step
lines_stop zero number [] x e = sym (line_end number) ∙ ap (step_line number) e
lines_stop (suc n) number [] x e = sym (line_end number) ∙ ap (step_line number) e
lines_stop zero number (b ∷ s) x e = sym (line_unread number) ∙ ap (step_line number) e
lines_stop (suc n) number (b ∷ s) x e = refused_line number (b ∷ s) x _ (stored_at (b ∷ s)) (stored_fits (b ∷ s) (omega arith)) e

-- behind the line of one that passes are those of the part after it
pub lines_pass : (n number : ℕ) (s : List ℕ) (k : ℕ) → next_step frame_step n s ≡ passes k
    → lines n number s ≡ step_line number (passes k) ++ lines (n - 1) (number + 1) (drop k s)
unfolding lines next_step
lines_pass zero number [] k e = absurd (let z : ◌≡◌ {A = ℕ} 0 1 = cc in omega arith)
lines_pass (suc n) number [] k e = absurd (let z : ◌≡◌ {A = ℕ} 0 1 = cc in omega arith)
lines_pass zero number (b ∷ s) k e = absurd (let z : ◌≡◌ {A = ℕ} 0 1 = cc in omega arith)
lines_pass (suc n) number (b ∷ s) k e =
    let m : n ≡ suc n - 1 = omega arith in
    sound_line number (b ∷ s) k _ (stored_at (b ∷ s)) (stored_fits (b ∷ s) (omega arith)) e
    ∙ ap (λ (i : ℕ). step_line number (passes k) ++ lines i (number + 1) (drop k (b ∷ s))) m

-- ---- the listing so far

pub record Listed (src out₀ out : List ℕ) (next count place : ℕ) : Type 0 where
  pub walked : Walked frame_step src place count
  pub text : List ℕ
  pub laid : TextLaid out₀ 0 text out next
  pub whole : lines most_frames 0 src ≡ text ++ lines (most_frames - count) count (drop place src)

pub listed_none : {src out : List ℕ} → Listed src out out 0 0 0
listed_none {src} {out} = record { walked = walked_none frame_step src; text = []; laid = laid_none out 0 refl; whole = refl }

-- the lines that are left, and those behind a sound frame
abbrev left : List ℕ → ℕ → ℕ → List ℕ
left src count place = lines (most_frames - count) count (drop place src)

module _ {src out₀ out : List ℕ} {next count place : ℕ} (P : Listed src out₀ out next count place) where
  -- a step of the walk
  abbrev Steps : Step → Type 0
  Steps o = o ≡ next_step frame_step (most_frames - count) (drop place src)

  passed_left : (k : ℕ) → Steps (passes k) → left src count place ≡ step_line count (passes k) ++ left src (count + 1) (place + k)
  passed_left k e =
      let n : most_frames - count - 1 ≡ most_frames - (count + 1) = omega arith in
      lines_pass (most_frames - count) count (drop place src) k (sym e)
      ∙ ap₂ (λ (i : ℕ) (s : List ℕ). step_line count (passes k) ++ lines i (count + 1) s) n (drop-drop k place src)

  first : (o : Step) → Steps o → length (step_line count o) ≤ length (left src count place)
  first (stops x) e = omega (arith, ap length (lines_stop (most_frames - count) count (drop place src) x (sym e)))
  first (passes k) e = omega (arith, ap length (passed_left k e), length-append (step_line count (passes k)) (left src (count + 1) (place + k)))

  -- the line has room
  pub listed_room : {o : Step} → Steps o → room ≤ length out₀ → next + length (step_line count o) ≤ length out
  listed_room {o} e q =
      omega (
        arith,
        P.laid.after,
        laid_long P.laid,
        first o e,
        ap length P.whole,
        length-append P.text (left src count place),
        lines_short most_frames 0 src,
      )

  -- the last step
  pub listed_end : {out' : List ℕ} {next' x : ℕ} → Steps (stops x) → TextLaid out next (step_line count (stops x)) out' next'
      → Complete src out₀ out' (made_check x count place, next')
  listed_end {out'} {next'} {x} e m =
      let l = then P.laid m in
      let q : lines most_frames 0 src ≡ P.text ++ step_line count (stops x) = P.whole
      ∙ ap (λ (t : List ℕ). P.text ++ t) (lines_stop (most_frames - count) count (drop place src) x (sym e)) in
      record { answer = walked_end P.walked x e; after = omega (arith, l.after, ap length q); bytes = l.bytes ∙ ap (laid_text out₀ 0) (sym q) }

  -- and the end, which has no line
  pub listed_done : Steps (stops done) → Complete src out₀ out (made_check done count place, next)
  listed_done e = listed_end e (rw (line_end count) (laid_nothing out next))

  -- one frame more, which lies in the source
  module _ {k : ℕ} (e : Steps (passes k)) where
    pub listed_inside : (0 < k) × (place + k ≤ length src)
    listed_inside = (passed_some P.walked frame_unit e, passed_inside P.walked frame_unit e)

    pub listed_more : {out' : List ℕ} {next' : ℕ} → TextLaid out next (step_line count (passes k)) out' next'
        → Listed src out₀ out' next' (count + 1) (place + k)
    listed_more m =
        record {
          walked = walked_more P.walked frame_unit e;
          text = P.text ++ step_line count (passes k);
          laid = then P.laid m;
          whole =
              P.whole ∙ ap (λ (t : List ℕ). P.text ++ t) (passed_left k e)
              ∙ sym (append_assoc P.text (step_line count (passes k)) (left src (count + 1) (place + k)));
        }
