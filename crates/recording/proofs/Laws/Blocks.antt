-- A block is a lawful unit: it passes with exactly the bytes of its sound frames, and where there is a byte it stops with 2 to 7 alone. With one channel
-- it is a frame.
-- Assumes nothing.
use mathlib.Core.Path.{◌≡◌, refl, sym, ap, ap₂, ◌∙◌, subst}
use mathlib.Core.Bool.{true, false, cond}
use mathlib.Core.List.{List, ◌++◌, append_assoc}
use Prim.Native.Nat.{ℕ, zero, suc, ◌+◌, ◌≤◌, ◌<◌}
use native.Mathlib.Nat.{add-zero}
use native.Mathlib.Omega.{arith}
use lib.Dec.{eqb, ltb}
use lib.ListN.{length, take, drop, length-append, length-drop}
use lib.Seq.{drop_at, take-add}
use borrow.Author.Tests.{eqb-false, ltb-true, ne_eqb, lt-ltb}
use Rattle.ground.proofs.Laws.Cases.{by_bool}
use Rattle.ground.specs.Replies.{no_byte, cut}
use Rattle.ground.specs.Numbered.{reply_of}
use Rattle.ground.specs.declared.replies.Reply.{Reply}
use Rattle.std.specs.declared.result.Result.{Result}
use Rattle.std.specs.declared.result.Result.TheVariants.{Ok, Err}
use Rattle.frame.specs.Answers.{Outcome, refused, empty, sound}
use Rattle.recording.specs.Walk.{Step, stops, passes, step_of, frame_step, stored_at, next_step, booked, most_frames, check_over, check_of}
use Rattle.recording.proofs.Laws.Walk.{next_same, walk_same}
use Rattle.recording.specs.Units.{none, more}
use Rattle.recording.proofs.Laws.Units.{LawfulUnit}
use Rattle.recording.specs.Frames.{Stored, Frames}
use Rattle.recording.proofs.Laws.Frames.{frame_unit}
use Rattle.recording.proofs.Laws.Reads.{refused_low}
use Rattle.recording.specs.Told.{told}
use Rattle.recording.specs.Blocks.{further, in_block, followed, is_count, block_step, step_reply, check_blocks}

module _ (n : ℕ) (s : List ℕ) where
  -- the block by its first frame
  pub block_first : (o : Step) → frame_step s ≡ o → block_step (suc n) s ≡ followed o (λ k. block_step n (drop k s))
  unfolding block_step
  block_first o e = ap (λ (x : Step). followed x (λ k. block_step n (drop k s))) e

  pub block_passed : (k : ℕ) → frame_step s ≡ passes k → (o : Step) → block_step n (drop k s) ≡ o → block_step (suc n) s ≡ further k (in_block o)
  block_passed k e o q = block_first (passes k) e ∙ ap (λ (x : Step). further k (in_block x)) q

pub block_front : {n : ℕ} {f : List ℕ} (rest : List ℕ) → Frames n f → block_step n (f ++ rest) ≡ passes (length f)
unfolding block_step
block_front rest none = refl
block_front rest (more {k} {f} {s} a fs) =
    let e : frame_step (f ++ (s ++ rest)) ≡ passes (length f) = frame_unit.front f (s ++ rest) a in
    let q : block_step k (drop (length f) (f ++ (s ++ rest))) ≡ passes (length s) = ap (block_step k) (drop_at f (s ++ rest) (length f) refl)
    ∙ block_front rest fs in
    let m : 1 + k ≡ suc k = omega arith in
    ap₂ block_step m (append_assoc f s rest) ∙ block_passed k (f ++ (s ++ rest)) (length f) e (passes (length s)) q ∙ ap passes (sym (length-append f s))

-- frames of a block, one frame more in front
one_more : (n : ℕ) (s : List ℕ) (j i : ℕ) → Stored (take j s) × (j ≤ length s) → Frames n (take i (drop j s)) × (i ≤ length (drop j s))
    → Frames (suc n) (take (j + i) s) × (j + i ≤ length s)
one_more n s j i a b =
    let m : 1 + n ≡ suc n = omega arith in (
      subst (Frames (suc n)) (sym (take-add j i s)) (subst (λ (k : ℕ). Frames k (take j s ++ take i (drop j s))) m (more a.0 b.0)),
      omega (arith, a.1, b.1, length-drop j s),
    )

pub block_told : (n : ℕ) (s : List ℕ) (k : ℕ) → block_step n s ≡ passes k → Frames n (take k s) × (k ≤ length s)
unfolding block_step
block_told zero s k e =
    let q : 0 ≡ k = cc in
    subst (λ (j : ℕ). Frames 0 (take j s) × (j ≤ length s)) q (none, omega arith)
block_told (suc n) s k e = first (frame_step s) refl (λ t i. block_told n t i)
  where
    then : (j : ℕ) → frame_step s ≡ passes j → (o : Step) → block_step n (drop j s) ≡ o
        → ((t : List ℕ) (i : ℕ) → block_step n t ≡ passes i → Frames n (take i t) × (i ≤ length t)) → Frames (suc n) (take k s) × (k ≤ length s)
    then j q (stops x) r h = absurd (let z = sym (block_passed n s j q (stops x) r) ∙ e in let y : ◌≡◌ {A = ℕ} 0 1 = cc in omega arith)
    then j q (passes i) r h =
        let z = sym (block_passed n s j q (passes i) r) ∙ e in
        let y : j + i ≡ k = cc in
        subst (λ (m : ℕ). Frames (suc n) (take m s) × (m ≤ length s)) y (one_more n s j i (frame_unit.told s j q) (h (drop j s) i r))

    first : (o : Step) → frame_step s ≡ o
        → ((t : List ℕ) (i : ℕ) → block_step n t ≡ passes i → Frames n (take i t) × (i ≤ length t)) → Frames (suc n) (take k s) × (k ≤ length s)
    first (stops x) q h = absurd (let z = sym (block_first n s (stops x) q) ∙ e in let y : ◌≡◌ {A = ℕ} 0 1 = cc in omega arith)
    first (passes j) q h = then j q (block_step n (drop j s)) refl h

frame_low : (s : List ℕ) (x : ℕ) (o : Outcome) → stored_at s ≡ o → step_of o ≡ stops x → (1 ≤ x) × (x ≤ 7)
frame_low s x (refused y) e q = let n : y ≡ x = cc in subst (λ (z : ℕ). (1 ≤ z) × (z ≤ 7)) n (refused_low s y e)
frame_low s x empty e q = absurd (let z : ◌≡◌ {A = ℕ} 0 1 = cc in omega arith)
frame_low s x (sound m y) e q = absurd (let z : ◌≡◌ {A = ℕ} 0 1 = cc in omega arith)

cut_low : (x : ℕ) → (1 ≤ x) × (x ≤ 7) → (2 ≤ cond (eqb x no_byte) cut x) × (cond (eqb x no_byte) cut x ≤ 7)
cut_low x h =
    by_bool (eqb x no_byte) (λ t. rw t (omega arith, omega arith)) (λ t. let n = eqb-false x no_byte t in rw t (omega (arith, h.0, n), omega (arith, h.1)))

-- a block stops with 1 to 7, and with 1 only where there is no byte
block_low : (n : ℕ) (s : List ℕ) (x : ℕ) → block_step n s ≡ stops x → ((1 ≤ x) × (x ≤ 7)) × (0 < length s → 2 ≤ x)
unfolding block_step
block_low zero s x e = absurd (let z : ◌≡◌ {A = ℕ} 0 1 = cc in omega arith)
block_low (suc n) s x e = first (frame_step s) refl (λ t y q. (block_low n t y q).0)
  where
    then : (j : ℕ) → frame_step s ≡ passes j → (o : Step) → block_step n (drop j s) ≡ o
        → ((t : List ℕ) (y : ℕ) → block_step n t ≡ stops y → (1 ≤ y) × (y ≤ 7)) → ((1 ≤ x) × (x ≤ 7)) × (0 < length s → 2 ≤ x)
    then j q (stops y) r h =
        let z = sym (block_passed n s j q (stops y) r) ∙ e in
        let w : cond (eqb y no_byte) cut y ≡ x = cc in
        let l = cut_low y (h (drop j s) y r) in
        ((omega (arith, l.0, w), omega (arith, l.1, w)), λ b. omega (arith, l.0, w))
    then j q (passes i) r h = absurd (let z = sym (block_passed n s j q (passes i) r) ∙ e in let y : ◌≡◌ {A = ℕ} 0 1 = cc in omega arith)

    first : (o : Step) → frame_step s ≡ o
        → ((t : List ℕ) (y : ℕ) → block_step n t ≡ stops y → (1 ≤ y) × (y ≤ 7)) → ((1 ≤ x) × (x ≤ 7)) × (0 < length s → 2 ≤ x)
    first (stops y) q h =
        let z = sym (block_first n s (stops y) q) ∙ e in
        let w : y ≡ x = cc in
        let l = frame_low s y (stored_at s) refl q in
        ((omega (arith, l.0, w), omega (arith, l.1, w)), λ b. omega (arith, w, (frame_unit.number s y b q).0))
    first (passes j) q h = then j q (block_step n (drop j s)) refl h

pub block_stops : (n : ℕ) (s : List ℕ) (x : ℕ) → block_step n s ≡ stops x → (1 ≤ x) × (x ≤ 7)
block_stops n s x e = (block_low n s x e).0

frames_some : {n : ℕ} {f : List ℕ} → 1 ≤ n → Frames n f → 0 < length f
frames_some h none = absurd (omega arith)
frames_some h (more {k} {f} {s} a fs) = omega (arith, frame_unit.some f a, length-append f s)

pub block_unit : (n : ℕ) → 1 ≤ n → LawfulUnit (block_step n) (Frames n)
block_unit n h =
    record {
      some = λ f w. frames_some h w;
      front = λ f rest w. block_front rest w;
      told = block_told n;
      number = λ s x b e. let l = block_low n s x e in (l.1 b, l.0.1);
    }

-- ---- one channel

one_block : (s : List ℕ) → block_step 1 s ≡ frame_step s
unfolding block_step
one_block s = go (frame_step s) refl
  where
    go : (o : Step) → frame_step s ≡ o → block_step 1 s ≡ o
    go (stops x) e = block_first 0 s (stops x) e
    go (passes k) e = block_passed 0 s k e (passes 0) refl ∙ ap passes (add-zero k)

-- with one channel a block is a frame: a step of the walk tells of frames, and the check is the file check
pub one_told : (n : ℕ) (s : List ℕ) {o : Step} → o ≡ next_step (block_step 1) n s → o ≡ next_step frame_step n s
one_told n s e = e ∙ next_same (block_step 1) frame_step one_block n s

pub one_channel : (src : List ℕ) (booking : ℕ) → check_blocks 1 src booking ≡ check_of src booking
unfolding check_over
one_channel src booking = ap (booked booking) (walk_same (block_step 1) frame_step one_block most_frames src)

-- ---- the count of channels

pub counted : (n : ℕ) → is_count n ≡ true → (1 ≤ n) × (n ≤ 8)
unfolding is_count
counted n e =
    by_bool (eqb n 0)
    (λ t. absurd (let q : cond (eqb n 0) false (ltb n 9) ≡ false = rw t refl in let z : ◌≡◌ {A = ℕ} 0 1 = cc in omega arith))
    (λ t.
    let k = eqb-false n 0 t in
    let q : cond (eqb n 0) false (ltb n 9) ≡ ltb n 9 = rw t refl in
    let l = ltb-true n 9 (sym q ∙ e) in
    (omega (arith, k), omega (arith, l)))

pub is_counted : (n : ℕ) → 1 ≤ n → n ≤ 8 → is_count n ≡ true
unfolding is_count
is_counted n a b = rw (ne_eqb n 0 (λ e. omega arith), lt-ltb n 9 (omega arith)) refl

-- ---- the number of an outcome is that of its step

pub told_reply : (r : Result ℕ Reply) → reply_of r ≡ step_reply (told r)
told_reply (Ok n) = refl
told_reply (Err x) = refl
