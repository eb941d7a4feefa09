-- The turns of writing a block: the frames' causes, their bytes, and a lent output laid frame by frame.
-- Assumes nothing.
use mathlib.Core.Path.{◌≡◌, refl, sym, ap, ap₂, ◌∙◌}
use mathlib.Core.Bool.{Bool, true}
use mathlib.Core.List.{List, [], ◌∷◌, ◌++◌, append_assoc, append-nil}
use Prim.Native.Nat.{ℕ, zero, suc, ◌+◌, ◌-◌, ◌≤◌, ◌<◌}
use native.Mathlib.Numerals.{add-one}
use native.Mathlib.Omega.{arith}
use lib.Dec.{T, ltb}
use lib.ListN.{length, drop, take, get_or, length-append, length-drop}
use lib.Seq.{take_at, drop_at, drop-drop, take_all, drop-length, length-take-le}
use borrow.Author.Tests.{eq-eqb, ne_eqb, ltb-true, ltb-false}
use Rattle.ground.proofs.Laws.Cases.{by_bool}
use Rattle.ground.proofs.Laws.Cases.{T_and}
use Rattle.ground.specs.Refusals.{◌gives◌, first, not_done}
use Rattle.ground.proofs.Laws.Refusals.{numbers, by_rows, first_none, front_first, back_first, neither_first, both_first, numbers_append}
use Rattle.ground.proofs.Laws.Refusals.{runs_numbers, runs_told}
use Rattle.ground.specs.Replies.{done, short_room}
use Rattle.ground.specs.Runs.{runs, part}
use Rattle.ground.proofs.Laws.Runs.{runs_more, length_runs, backed}
use Rattle.std.specs.Prelude.{Option, None, Some, sum_by}
use Rattle.std.proofs.lemmas.List.{get_or-take}
use Rattle.std.proofs.lemmas.List.Sums.{sum_by_more}
use Rattle.ground.proofs.Laws.Sums.{sum_more, sum_grows}
use Rattle.bits.proofs.Laws.Bytes.{length_bytes_lem}
use Rattle.prefix.specs.Sizes.{mode_bytes}
use Rattle.prefix.proofs.Laws.Sizes.{mode_bounds, mode_past}
use Rattle.frame.specs.Layout.{frame}
use Rattle.frame.specs.declared.Record.{Record}
use Rattle.layout.specs.Parts.{total}
use Rattle.writer.specs.Empty.{empty_reply, empty_after}
use Rattle.writer.specs.Writes as writer
use Rattle.writer.specs.Writes.{write_causes, write_reply, writing_of, bytes_for}
use Rattle.writer.proofs.Laws.Writes.{write_numbered, reply_roomy}
use Rattle.writer.specs.declared.Writing.{Writing}
use Rattle.block_writer.specs.Writing.{given_at, frame_causes, frame_of, causes_at, bytes_at, block_bytes, block_causes, block_reply}
use Rattle.block_writer.specs.Writing.{block_answer, out_after}
use Rattle.block_writer.specs.Inner.{frame_bytes}
use Rattle.frames.specs.Rooms.{room_causes}
use Rattle.block_writer.specs.declared.Records.{Records}
use Rattle.frames.proofs.Laws.Rooms.{Roomy, rooms_told}

-- ---- one frame

mode_most : (m : ℕ) → mode_bytes m ≤ 320
mode_most m = by_bool (ltb m 20) (λ t. (mode_bounds m (ltb-true m 20 t)).1) (λ t. omega (arith, mode_past m (omega (arith, ltb-false m 20 t))))

length_full : (r : Record) (cs ts : List ℕ) → length (bytes_for r cs ts) ≡ mode_bytes r.mode + 1
unfolding bytes_for
length_full r cs ts = ap suc (length_bytes_lem (mode_bytes r.mode) ((frame (total r)).write (writer.frame_of r cs ts))) ∙ sym (add-one (mode_bytes r.mode))

pub length_frame : (g : Option Record) (cs ts : List ℕ) → length (frame_of g cs ts) ≡ frame_bytes g
length_frame None cs ts = refl
length_frame (Some r) cs ts = length_full r cs ts

pub full_bytes : (r : Record) {n : ℕ} → n ≡ mode_bytes r.mode → n + 1 ≤ 321
full_bytes r q = omega (arith, q, mode_most r.mode)

-- the room of the longest frame is as good as any that holds this one
pub full_put : (r : Record) (cs ts out : List ℕ) (w : Writing) (ys : List ℕ) → write_reply r cs ts 321 ≡ 0 → mode_bytes r.mode + 1 ≤ length out
    → w ≡ writing_of (write_reply r cs ts (length out)) r.mode → ys ≡ writer.out_after (write_reply r cs ts (length out)) r cs ts out
    → (w.next ≡ mode_bytes r.mode + 1) × (ys ≡ bytes_for r cs ts ++ drop (mode_bytes r.mode + 1) out)
full_put r cs ts out w ys z h ew ey =
    let q : write_reply r cs ts (length out) ≡ 0 = sym (reply_roomy r cs ts (length out) (omega arith)) ∙ z in
    (ap (λ (x : Writing). x.next) ew ∙ ap (λ (x : ℕ). (writing_of x r.mode).next) q, ey ∙ ap (λ (x : ℕ). writer.out_after x r cs ts out) q)

bare_made : (out : List ℕ) → 1 ≤ length out → ((empty_reply (length out)).next ≡ 1) × (empty_after out ≡ 0 ∷ drop 1 out)
unfolding empty_reply empty_after
bare_made [] h = absurd (omega arith)
bare_made (x ∷ out) h = (rw (ne_eqb (suc (length out)) 0 (λ z. omega arith)), refl)

pub bare_put : (out : List ℕ) (w : Writing) (ys : List ℕ) → 1 ≤ length out → w ≡ empty_reply (length out) → ys ≡ empty_after out
    → (w.next ≡ 1) × (ys ≡ 0 ∷ drop 1 out)
bare_put out w ys h ew ey = let m = bare_made out h in (ap (λ (x : Writing). x.next) ew ∙ m.0, ey ∙ m.1)

-- ---- the causes, channel by channel

-- channel c of those that are looked at, of eight
pub turn : (r : Records) (n c : ℕ) → length r.at ≡ 8 → n ≤ 8 → c < length (take n r.at) → (c < n) × (get_or (take n r.at) c None ≡ given_at r c)
turn r n c e l h = let b : c < n = omega (arith, length-take-le n r.at (omega arith)) in (b, get_or-take n r.at c None b)

-- what passes the number of each cause of a frame passes those of the block's frames
frame_numbers : (f : ℕ → Bool) → ((r : Record) (cs ts : List ℕ) → T (numbers f (write_causes r cs ts 321)))
    → (g : Option Record) (cs ts : List ℕ) → T (numbers f (frame_causes g cs ts))
frame_numbers f h None cs ts = tt
frame_numbers f h (Some r) cs ts = h r cs ts

module _ (r : Records) (cs ts : List ℕ) where
  frames_numbers : (f : ℕ → Bool) → ((r : Record) (cs ts : List ℕ) → T (numbers f (write_causes r cs ts 321))) → (n : ℕ)
      → T (numbers f (runs n (causes_at r cs ts)))
  frames_numbers f h = runs_numbers (causes_at r cs ts) f (λ c. frame_numbers f h (given_at r c) (part 800 cs c) (part 320 ts c))

  pub numbered_at : (c : ℕ) → T (numbers not_done (causes_at r cs ts c))
  numbered_at c = frame_numbers not_done write_numbered (given_at r c) (part 800 cs c) (part 320 ts c)

  -- ---- the bytes

  -- as many as the frames have together
  pub block_long : (n : ℕ) → n ≤ length r.at → length (block_bytes r n cs ts) ≡ sum_by frame_bytes (take n r.at)
  unfolding runs
  block_long zero h = refl
  block_long (suc n) h =
      length-append (block_bytes r n cs ts) (bytes_at r cs ts n)
      ∙ ap₂ (λ (x y : ℕ). x + y) (block_long n (omega arith)) (length_frame (given_at r n) (part 800 cs n) (part 320 ts n))
      ∙ sym (sum_by_more frame_bytes r.at n None (omega arith)) ∙ ap (λ (k : ℕ). sum_by frame_bytes (take k r.at)) (add-one n)

  -- each frame stands within the block
  pub frame_inside : (c n : ℕ) → c < n → length (block_bytes r c cs ts) + frame_bytes (given_at r c) ≤ length (block_bytes r n cs ts)
  frame_inside c n h =
      let f = bytes_at r cs ts in
      let g : ℕ → ℕ = λ k. length (f k) in
      omega (
        arith,
        length_runs f c,
        length_runs f n,
        length_frame (given_at r c) (part 800 cs c) (part 320 ts c),
        sum_more g c,
        sum_grows g (c + 1) n (omega arith),
      )

-- ---- the output: the frames below c stand at its front, up to a place, and the rest is as before

pub record FramesLaid (f : ℕ → List ℕ) (l₀ l : List ℕ) (at c : ℕ) : Type 0 where
  pub place : at ≡ length (runs c f)
  pub inside : at ≤ length l₀
  pub long : length l ≡ length l₀
  pub same : l ≡ runs c f ++ drop at l₀

pub laid_none : {f : ℕ → List ℕ} {l₀ : List ℕ} → FramesLaid f l₀ l₀ 0 0
unfolding runs
laid_none = record { place = refl; inside = omega arith; long = refl; same = refl }

module _ {f : ℕ → List ℕ} {l₀ l : List ℕ} {at c : ℕ} (p : FramesLaid f l₀ l at c) where
  -- what is left is as it was
  pub laid_rest : take (length l - at) (drop at l) ≡ drop at l₀
  laid_rest =
      take_all (length l - at) (drop at l) (omega (arith, length-drop at l)) ∙ ap (drop at) p.same ∙ drop_at (runs c f) (drop at l₀) at (sym p.place)

  laid_more : (k : ℕ) (ys : List ℕ) → length (f c) ≡ k → at + k ≤ length l₀ → ys ≡ f c ++ drop k (drop at l₀)
      → FramesLaid f l₀ (backed l at (length l - at) ys) (at + k) (c + 1)
  laid_more k ys n h y =
      let front : take at l ≡ runs c f = ap (take at) p.same ∙ take_at (runs c f) (drop at l₀) at (sym p.place) in
      let none : drop (length l - at) (drop at l) ≡ [] = ap (λ (j : ℕ). drop j (drop at l)) (sym (length-drop at l)) ∙ drop-length (drop at l) in
      let s : backed l at (length l - at) ys ≡ runs (c + 1) f ++ drop (at + k) l₀ =
      ap₂ (λ (x z : List ℕ). x ++ (ys ++ z)) front none
      ∙ ap (λ (x : List ℕ). runs c f ++ x) (append-nil ys ∙ y ∙ ap (λ (x : List ℕ). f c ++ x) (drop-drop k at l₀))
      ∙ sym (append_assoc (runs c f) (f c) (drop (at + k) l₀))
      ∙ ap (λ (x : List ℕ). x ++ drop (at + k) l₀) (sym (runs_more f c)) in
      let w : at + k ≡ length (runs (c + 1) f) = sym (ap length (runs_more f c) ∙ length-append (runs c f) (f c) ∙ ap₂ ◌+◌ (sym p.place) n) in
      record {
        place = w;
        inside = h;
        long = ap length s ∙ length-append (runs (c + 1) f) (drop (at + k) l₀) ∙ omega (arith, w, length-drop (at + k) l₀);
        same = s;
      }

  -- all are laid
  pub laid_all : (n : ℕ) → c ≡ n → (at ≡ length (runs n f)) × (l ≡ runs n f ++ drop at l₀)
  laid_all n e = (p.place ∙ ap (λ (k : ℕ). length (runs k f)) e, p.same ∙ ap (λ (k : ℕ). runs k f ++ drop at l₀) e)

-- ---- the block's reply

module _ (r : Records) (n : ℕ) (cs ts : List ℕ) (room : ℕ) where
  -- what passes the numbers of the rooms, of a frame and of the output passes those of the block
  early_numbers : (f : ℕ → Bool) → T (numbers f (room_causes n (length cs) (length ts)))
      → ((r : Record) (cs ts : List ℕ) → T (numbers f (write_causes r cs ts 321)))
      → T (numbers f (room_causes n (length cs) (length ts) ++ runs n (causes_at r cs ts)))
  early_numbers f a h = numbers_append f (room_causes n (length cs) (length ts)) (runs n (causes_at r cs ts)) a (frames_numbers r cs ts f h n)

  early_numbered : T (numbers not_done (room_causes n (length cs) (length ts) ++ runs n (causes_at r cs ts)))
  unfolding room_causes
  early_numbered = early_numbers not_done tt write_numbered

  pub block_numbers : (f : ℕ → Bool) → T (numbers f (room_causes n (length cs) (length ts)))
      → ((r : Record) (cs ts : List ℕ) → T (numbers f (write_causes r cs ts 321))) → T (f short_room) → T (numbers f (block_causes r n cs ts room))
  unfolding block_causes
  block_numbers f a h b =
      numbers_append f (room_causes n (length cs) (length ts) ++ runs n (causes_at r cs ts)) _ (early_numbers f a h) (T_and (f short_room) true b tt)

  pub block_early : {x : ℕ} → x ≡ first (room_causes n (length cs) (length ts)) → (x ≡ 0 → ⊥) → x ≡ block_reply r n cs ts room
  unfolding block_causes
  block_early e q = front_first _ _ (front_first _ _ e q) q

  module _ (z : first (room_causes n (length cs) (length ts)) ≡ 0) where
    pub block_late : {x : ℕ} → x ≡ first (runs n (causes_at r cs ts)) → (x ≡ 0 → ⊥) → x ≡ block_reply r n cs ts room
    unfolding block_causes room_causes
    block_late e q = front_first _ _ (back_first (room_causes n (length cs) (length ts)) _ tt z e) q

    module _ (f : first (runs n (causes_at r cs ts)) ≡ 0) where
      -- the output decides
      block_out : {x : ℕ} → x ≡ first (ltb room (length (block_bytes r n cs ts)) gives short_room ∷ []) → x ≡ block_reply r n cs ts room
      unfolding block_causes
      block_out e = back_first _ _ early_numbered (neither_first _ _ z f) e

      pub block_short : room < length (block_bytes r n cs ts) → short_room ≡ block_reply r n cs ts room
      block_short h = block_out (search by_rows)

      pub block_done : length (block_bytes r n cs ts) ≤ room → done ≡ block_reply r n cs ts room
      block_done h = block_out (search by_rows)

-- what the reply 0 tells
pub record Passing (r : Records) (n : ℕ) (cs ts : List ℕ) (room : ℕ) : Type 0 where
  pub rooms : Roomy n (length cs) (length ts)
  pub frames : (c : ℕ) → c < n → first (causes_at r cs ts c) ≡ 0
  pub out : length (block_bytes r n cs ts) ≤ room

pub block_told : (r : Records) (n : ℕ) (cs ts : List ℕ) (room : ℕ) → block_reply r n cs ts room ≡ 0 → Passing r n cs ts room
unfolding block_causes room_causes
block_told r n cs ts room e =
    let p = both_first (room_causes n (length cs) (length ts) ++ runs n (causes_at r cs ts)) _ (early_numbered r n cs ts room) e in
    let q = both_first (room_causes n (length cs) (length ts)) (runs n (causes_at r cs ts)) tt p.0 in
    let o = first_none (ltb room (length (block_bytes r n cs ts)) gives short_room ∷ []) tt p.1 in
    record {
      rooms = rooms_told n (length cs) (length ts) q.0;
      frames = runs_told (causes_at r cs ts) (numbered_at r cs ts) n q.1;
      out = omega (arith, ltb-false);
    }

-- ---- the answer

module _ (r : Records) (n : ℕ) (cs ts out : List ℕ) where
  pub block_refused : {x y : ℕ} → x ≡ y → (x ≡ 0 → ⊥) → (record { reply = x; next = 0 } ≡ block_answer y r n cs ts) × (out ≡ out_after y r n cs ts out)
  block_refused {x} {y} e q = rw (← e, ne_eqb x 0 q) (refl, refl)

  pub block_written : {y k : ℕ} {ys : List ℕ} → y ≡ 0 → k ≡ length (block_bytes r n cs ts) → ys ≡ block_bytes r n cs ts ++ drop k out
      → (record { reply = done; next = k } ≡ block_answer y r n cs ts) × (ys ≡ out_after y r n cs ts out)
  block_written {y} {k} {ys} z ek ey =
      rw (eq-eqb y 0 z)
      (ap (λ (i : ℕ). record { reply = done; next = i }) ek, ey ∙ ap (λ (i : ℕ). block_bytes r n cs ts ++ drop i out) ek)

-- ---- a turn

module _ {r : Records} {n : ℕ} {cs ts : List ℕ} {out₀ out : List ℕ} {at c : ℕ}
    (q : Passing r n cs ts (length out₀)) (p : FramesLaid (bytes_at r cs ts) out₀ out at c) (h : c < n) where
  fits : at + frame_bytes (given_at r c) ≤ length out₀
  fits = omega (arith, p.place, q.out, frame_inside r cs ts c n h)

  module _ {g : Option Record} {numbers bytes : List ℕ} (eg : g ≡ given_at r c) (en : numbers ≡ part 800 cs c) (eb : bytes ≡ part 320 ts c) where
    -- the next frame passes and has room
    pub frame_ready : (first (frame_causes g numbers bytes) ≡ 0) × (frame_bytes g ≤ length (take (length out - at) (drop at out)))
    frame_ready =
        rw (eg, en, eb) (q.frames c h, omega (arith, ap length (laid_rest p), length-drop at out₀, fits))

    -- and is laid
    pub frame_laid : (k : ℕ) (ys : List ℕ) → k ≡ frame_bytes g
        → ys ≡ frame_of g numbers bytes ++ drop (frame_bytes g) (take (length out - at) (drop at out))
        → FramesLaid (bytes_at r cs ts) out₀ (backed out at (length out - at) ys) (at + k) (c + 1)
    frame_laid k ys ek ey =
        let e : k ≡ frame_bytes (given_at r c) = ek ∙ ap frame_bytes eg in
        let f : frame_of g numbers bytes ≡ bytes_at r cs ts c = rw (eg, en, eb) refl in
        laid_more p k ys (length_frame (given_at r c) (part 800 cs c) (part 320 ts c) ∙ sym e) (omega (arith, e, fits))
        (ey ∙ ap₂ (λ (x : List ℕ) (i : ℕ). frame_of g numbers bytes ++ drop i x) (laid_rest p) (sym ek)
        ∙ ap (λ (x : List ℕ). x ++ drop k (drop at out₀)) f)
