-- The reply of a block by its tests, the turns of reading it, and its bytes: a sound block ends at the place behind its frames.
-- Assumes nothing.
use mathlib.Core.Path.{◌≡◌, refl, sym, ap, ap₂, ◌∙◌, subst}
use mathlib.Core.List.{List, [], ◌∷◌, ◌++◌}
use Prim.Native.Nat.{ℕ, ◌+◌, ◌*◌, ◌-◌, ◌≤◌, ◌<◌}
use native.Mathlib.Omega.{arith}
use lib.ListN.{take-append-drop, length, drop, take, set, replicate}
use lib.Seq.{length-take-le}
use borrow.Author.Tests.{ne_eqb}
use Rattle.ground.specs.Refusals.{said, first}
use Rattle.ground.proofs.Laws.Refusals.{front_first, back_first, both_first, said_first}
use Rattle.ground.specs.ListsByRule.{table}
use Rattle.ground.specs.Runs.{part}
use Rattle.ground.proofs.Laws.Runs.{backed, length_part, Fronted, fronted_none, fronted_more, drop_same, Parted, parted_none, parted_rest, parted_more}
use Rattle.frame.specs.Answers as frame
use Rattle.frame.specs.Answers.{read_answer, reading_of, stopped_at}
use Rattle.frame.specs.declared.Reading.{Reading}
use Rattle.recording.specs.Walk.{passes, stored_at}
use Rattle.recording.proofs.Laws.Reads.{lent}
use Rattle.recording.specs.Blocks.{block_step, step_reply}
use Rattle.recording.specs.Told.{told}
use Rattle.std.specs.Prelude.{Result, Ok, Err}
use Rattle.ground.specs.Numbered.{reply_of}
use Rattle.ground.specs.declared.replies.Reply.{Reply}
use Rattle.recording.proofs.Laws.Blocks.{block_told}
use Rattle.frames.specs.Places.{size_at, place_of}
use Rattle.frames.proofs.Laws.Frames.{placed}
use Rattle.frames.proofs.Laws.Places.{place_none, place_more, place_inside}
use Rattle.frames.specs.Rooms.{room_causes}
use Rattle.block_reader.specs.Reading.{block_causes, block_reply, channel_at, no_block, block_of, codes_of, tails_of, block_answer, codes_after, tails_after}
use Rattle.block_reader.specs.declared.Block.{Block}
use Rattle.frames.proofs.Laws.Rooms.{Roomy, rooms_told}

-- ---- the reply

step_told : (r : Result ℕ Reply) → reply_of r ≡ step_reply (told r)
step_told (Ok n) = refl
step_told (Err x) = refl

module _ (s : List ℕ) (n codes tails : ℕ) where
  pub reply_early : {x : ℕ} → x ≡ first (room_causes n codes tails) → (x ≡ 0 → ⊥) → x ≡ block_reply s n codes tails
  unfolding block_causes
  reply_early e h = front_first _ _ e h

  -- behind the rooms the frames decide
  pub reply_step : {x : ℕ} → x ≡ first (room_causes n codes tails) → x ≡ 0 → step_reply (block_step n s) ≡ block_reply s n codes tails
  unfolding block_causes room_causes
  reply_step e z = back_first (room_causes n codes tails) _ tt (sym e ∙ z) (sym (said_first (step_reply (block_step n s))))

  pub reply_frames : {x : ℕ} → x ≡ first (room_causes n codes tails) → x ≡ 0 → (r : Result ℕ Reply) → told r ≡ block_step n s
      → reply_of r ≡ block_reply s n codes tails
  reply_frames e z r q = step_told r ∙ ap step_reply q ∙ reply_step e z

  -- what a reply of 0 tells
  pub reply_told : block_reply s n codes tails ≡ 0 → (first (room_causes n codes tails) ≡ 0) × (step_reply (block_step n s) ≡ 0)
  unfolding block_causes room_causes
  reply_told z =
      let b = both_first (room_causes n codes tails) (said (step_reply (block_step n s)) ∷ []) tt z in
      (b.0, sym (said_first (step_reply (block_step n s))) ∙ b.1)

-- a block that is read has its rooms
pub reply_rooms : (s : List ℕ) {n codes tails : ℕ} → block_reply s n codes tails ≡ 0 → Roomy n codes tails
reply_rooms s {n} {codes} {tails} z = rooms_told n codes tails (reply_told s n codes tails z).0

-- ---- the turns: the frames of the channels below c are read, each into its own part

pub record Taken (src : List ℕ) (n : ℕ) (codes₀ tails₀ : List ℕ) (frames₀ : List Reading) (codes tails : List ℕ) (frames : List Reading)
    (at c : ℕ) : Type 0 where
  pub few : c ≤ n
  pub place : at ≡ place_of src c
  pub readings : Fronted (λ k. reading_of (channel_at src k)) frames₀ frames c
  pub numbers : Parted 800 (λ k. frame.codes_after (part 800 codes₀ k) (channel_at src k)) codes₀ codes c
  pub bytes : Parted 320 (λ k. frame.tail_after (part 320 tails₀ k) (channel_at src k)) tails₀ tails c

pub taken_none : {src : List ℕ} {n : ℕ} {codes₀ tails₀ : List ℕ} {frames₀ : List Reading} → Taken src n codes₀ tails₀ frames₀ codes₀ tails₀ frames₀ 0 0
taken_none {src} = record { few = omega arith; place = place_none src 0; readings = fronted_none; numbers = parted_none; bytes = parted_none }

-- what is read at a place, into lent parts of 800 and 320
here : (src : List ℕ) (at : ℕ) (cs ts : List ℕ) → length cs ≡ 800 → length ts ≡ 320
    → read_answer (take (length src - at) (drop at src)) (length cs) (length ts) ≡ stored_at (drop at src)
unfolding stored_at
here src at cs ts a b = ap (λ (s : List ℕ). read_answer s (length cs) (length ts)) (lent src at) ∙ ap₂ (λ (k i : ℕ). read_answer (drop at src) k i) a b

module _ {src : List ℕ} {n : ℕ} {codes₀ tails₀ codes tails : List ℕ} {frames₀ frames : List Reading} {at c : ℕ}
    (p : Taken src n codes₀ tails₀ frames₀ codes tails frames at c) where
  -- every place lies inside the source
  pub taken_inside : at ≤ length src
  taken_inside = omega (arith, p.place, place_inside src 0 c (omega arith))

  -- and so does the one behind the frame there
  pub taken_on : {z : ℕ} → z ≡ size_at (drop at src) → at + z ≤ length src
  taken_on {z} es =
      let e : at + z ≡ place_of src (c + 1) =
      ap (λ (k : ℕ). at + k) es ∙ ap (λ (q : ℕ). q + size_at (drop q src)) p.place ∙ sym (place_more src 0 c) in
      omega (arith, e, place_inside src 0 (c + 1) (omega arith))

  module _ (h : c < n) (a : n * 800 ≤ length codes₀) (b : n * 320 ≤ length tails₀) where
    -- the frame at the place is channel c's, and its parts are as they were lent
    pub taken_more : {m j z : ℕ} {r : Reading} {cs ts ys zs : List ℕ} → n ≤ 8 → length frames₀ ≡ 8 → m ≡ 800 → j ≡ 320
        → cs ≡ take m (drop (c * 800) codes) → ts ≡ take j (drop (c * 320) tails)
        → r ≡ reading_of (read_answer (take (length src - at) (drop at src)) (length cs) (length ts))
        → ys ≡ frame.codes_after cs (read_answer (take (length src - at) (drop at src)) (length cs) (length ts))
        → zs ≡ frame.tail_after ts (read_answer (take (length src - at) (drop at src)) (length cs) (length ts))
        → length ys ≡ 800 → length zs ≡ 320 → z ≡ size_at (drop at src)
        → Taken src n codes₀ tails₀ frames₀ (backed codes (c * 800) m ys) (backed tails (c * 320) j zs) (set frames c r) (at + z) (c + 1)
    taken_more {m} {j} {z} {r} {cs} {ts} {ys} {zs} l o em ej ec et er ey ez ny nz es =
        let pc : cs ≡ part 800 codes₀ c = ec ∙ ap₂ (λ (k : ℕ) (x : List ℕ). take k x) em (parted_rest p.numbers) in
        let pt : ts ≡ part 320 tails₀ c = et ∙ ap₂ (λ (k : ℕ) (x : List ℕ). take k x) ej (parted_rest p.bytes) in
        let lc : length cs ≡ 800 = ap length pc ∙ length_part 800 codes₀ c (omega arith) in
        let lt : length ts ≡ 320 = ap length pt ∙ length_part 320 tails₀ c (omega arith) in
        let w : read_answer (take (length src - at) (drop at src)) (length cs) (length ts) ≡ channel_at src c =
        here src at cs ts lc lt ∙ ap (λ (k : ℕ). stored_at (drop k src)) p.place in
        record {
          few = omega arith;
          place = ap (λ (k : ℕ). at + k) es ∙ ap (λ (q : ℕ). q + size_at (drop q src)) p.place ∙ sym (place_more src 0 c);
          readings = fronted_more p.readings (omega (arith, o)) (er ∙ ap reading_of w);
          numbers = parted_more p.numbers em (omega arith) ny (ey ∙ ap₂ frame.codes_after pc w);
          bytes = parted_more p.bytes ej (omega arith) nz (ez ∙ ap₂ frame.tail_after pt w);
        }

-- no channel is left
pub taken_all : {src : List ℕ} {n : ℕ} {codes₀ tails₀ codes tails : List ℕ} {frames : List Reading} {at c : ℕ}
    → Taken src n codes₀ tails₀ (replicate 8 (stopped_at 0 0)) codes tails frames at c → n ≤ c → n ≤ 8
    → (◌≡◌ {A = Block} (record { reply = 0; next = at; frames = frames }) (block_of src n)) × (codes ≡ codes_of src n codes₀) × (tails ≡ tails_of src n tails₀)
taken_all {src} {n} {codes₀} {tails₀} {codes} {tails} {frames} {at} {c} p h l =
    let e : c ≡ n = omega (arith, p.few) in
    let f : ℕ → Reading = λ k. reading_of (channel_at src k) in
    let o : frames ≡ table n f ++ replicate (8 - n) (stopped_at 0 0) =
    p.readings.same ∙ ap (λ (k : ℕ). table k f ++ drop k (replicate 8 (stopped_at 0 0))) e
    ∙ ap (λ (y : List Reading). table n f ++ y) (drop_same n 8 (stopped_at 0 0) l) in (
      ap₂ (λ (k : ℕ) (y : List Reading). let b : Block = record { reply = 0; next = k; frames = y } in b) (p.place ∙ ap (place_of src) e) o,
      p.numbers.same ∙ ap (λ (k : ℕ). codes_of src k codes₀) e,
      p.bytes.same ∙ ap (λ (k : ℕ). tails_of src k tails₀) e,
    )

-- ---- the answer

abbrev Answered : ℕ → List ℕ → ℕ → List ℕ → List ℕ → Block → List ℕ → List ℕ → Type 0
Answered x s n codes tails b codes' tails' = (b ≡ block_answer x s n) × (codes' ≡ codes_after x s n codes) × (tails' ≡ tails_after x s n tails)

module _ (s : List ℕ) (n : ℕ) (codes tails : List ℕ) (x y : ℕ) (e : x ≡ y) (b : Block) where
  -- a refusal leaves lent memory
  pub answer_refused : (x ≡ 0 → ⊥) → b ≡ no_block x → Answered y s n codes tails b codes tails
  answer_refused h q = subst (λ (z : ℕ). Answered z s n codes tails b codes tails) e (rw (ne_eqb x 0 h) (q, refl, refl))

  pub answer_done : {codes' tails' : List ℕ} → x ≡ 0 → (b ≡ block_of s n) × (codes' ≡ codes_of s n codes) × (tails' ≡ tails_of s n tails)
      → Answered y s n codes tails b codes' tails'
  answer_done {codes'} {tails'} h q = subst (λ (z : ℕ). Answered z s n codes tails b codes' tails') (sym h ∙ e) q

-- ---- the bytes of a sound block

-- a block that passes ends at the place behind its frames
pub block_bytes_lem : (s : List ℕ) (n k : ℕ) → block_step n s ≡ passes k → place_of s n ≡ k
block_bytes_lem s n k e =
    let b = block_told n s k e in
    ap (λ (t : List ℕ). place_of t n) (sym (take-append-drop k s)) ∙ placed (drop k s) b.0 ∙ length-take-le k s b.1
