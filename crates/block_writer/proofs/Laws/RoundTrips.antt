-- Demand 2 for blocks (02, No. 2): a block that was read and is written returns, with R zero; records that were written and are read return, with their
-- codes and tails.
-- Assumes nothing.
use mathlib.Core.Path.{◌≡◌, refl, sym, ap, ap₂, ◌∙◌, subst}
use mathlib.Core.Bool.{false, cond}
use mathlib.Core.List.{List, [], ◌∷◌, ◌++◌, append_assoc, append-nil, map}
use Prim.Native.Nat.{ℕ, zero, suc, ◌+◌, ◌-◌, ◌*◌, ◌/◌, ◌≤◌, ◌<◌}
use native.Mathlib.Nat.{add-zero, zero-mul, suc-mul}
use native.Mathlib.Omega.{arith}
use lib.Dec.{ltb}
use lib.ListN.{length, get_or, take, drop, replicate, length-append, length-drop, length-map, take-append-drop, get_or-append, get_or-map}
use lib.Seq.{take_at, drop_at, drop-length, take_all, length-take-le}
use borrow.Author.Tests.{le-ltb, ltb-true, ltb-false}
use Rattle.ground.proofs.Laws.Cases.{by_bool}
use Rattle.ground.specs.Replies.{done, no_data}
use Rattle.ground.specs.Refusals.{first}
use Rattle.ground.proofs.Laws.Refusals.{row_fails, no_row, neither_first, runs_none}
use Rattle.ground.specs.ListsByRule.{table}
use Rattle.ground.proofs.Laws.ListsByRule.{length_from, get_d_table}
use Rattle.ground.proofs.Laws.ListsByRule.{table_same}
use Rattle.ground.specs.Runs.{runs, part}
use Rattle.ground.proofs.Laws.Runs.{runs_add, runs_front, runs_same, length_runs, length_part}
use Rattle.ground.proofs.Laws.Sums.{sum_same}
use Rattle.bits.specs.Bits.{Bytes, bits_of}
use Rattle.bits.proofs.Laws.Bytes.{length_bytes_lem}
use Rattle.bits.proofs.Laws.LaidBits.{bytes_take, bytes_drop}
use Rattle.bits.specs.Codecs.{words}
use Rattle.words.specs.Tables.{coding}
use Rattle.bits.proofs.Laws.Codecs.{fit_length}
use Rattle.prefix.specs.Sizes.{table_a2, mode_bytes}
use Rattle.prefix.proofs.Laws.Sizes.{mode_bounds}
use Rattle.prefix.specs.Prefix.{prefix_of, prefix_byte, zero_r, said}
use Rattle.prefix.proofs.Laws.Prefix.{read_some, byte_said, byte_marked, said_low, said_high, said_data}
use Rattle.prefix.specs.declared.Prefix.{Prefix}
use Rattle.prefix.specs.declared.Prefix.TheVariants.{NoData}
use Rattle.kinds.proofs.Laws.Kinds.{length_kinds}
use Rattle.frame.specs.Layout.{Frame, flags_in, norms_in, codes_in, tail_in, frame, codes_part, kinds_of}
use Rattle.frame.proofs.Laws.Layout.{frame_lawful}
use Rattle.kinds.specs.Budget.{kinds_at}
use Rattle.frame.specs.Answers as frame
use Rattle.frame.specs.Answers.{Outcome, empty, sound, read_answer, reading_of, stopped_at, started, body_of}
use Rattle.tails.specs.Tails.{tail_bytes}
use Rattle.frame.specs.declared.Record.{Record}
use Rattle.frame.specs.declared.Reading.{Reading}
use Rattle.recording.specs.Walk.{Step, stops, passes, stored_at}
use Rattle.recording.proofs.Laws.Walk.{stored_started}
use Rattle.recording.specs.Frames.{Stored, bare, full, Frames}
use Rattle.recording.proofs.Laws.Frames.{stored_front, bare_says}
use Rattle.recording.specs.Blocks.{block_step, step_reply}
use Rattle.recording.proofs.Laws.Blocks.{block_front, block_told, block_stops}
use Rattle.frames.specs.Places.{size_at, place_of, frame_at, zeroed}
use Rattle.frames.proofs.Laws.Frames.{placed, frame_stored, frame_in, frames_made, frames_back}
use Rattle.layout.specs.Parts.{total}
use Rattle.writer.specs.Empty.{empty_after}
use Rattle.writer.proofs.Laws.Empty.{empty_read}
use Rattle.writer.specs.Writes as writer
use Rattle.writer.specs.Writes.{write_reply, bytes_for}
use Rattle.writer.proofs.Laws.Bodies.{passed}
use Rattle.writer.proofs.Laws.WriteBack as writeback
use Rattle.writer.proofs.Laws.WriteBack.{answer_sound}
use Rattle.writer.proofs.Laws.ReadBack as readback
use Rattle.block_reader.specs.Reading as reading
use Rattle.block_reader.specs.Reading.{channel_at, block_of, codes_of, tails_of}
use Rattle.block_writer.specs.ReadBack.{read_again, given_again, reading_back, codes_back, tails_back}
use Rattle.block_writer.specs.Writing as writing
use Rattle.std.specs.Prelude.{Option, None, Some}
use Rattle.block_writer.specs.Writing.{given_at, record_of, is_empty, record_at, empty_at, frame_causes, frame_of, causes_at, bytes_at, block_bytes}
use Rattle.block_reader.specs.declared.Block.{Block}
use Rattle.block_writer.specs.declared.Records.{Records}
use Rattle.frames.proofs.Laws.Rooms.{Roomy, rooms_enough}
use Rattle.block_reader.proofs.Laws.Reading.{reply_rooms, reply_step, reply_told, block_bytes_lem}
use Rattle.block_writer.proofs.Laws.Writing as written

-- ---- runs of one length are the parts of their list

module _ {A : Type 0} (k : ℕ) (f : ℕ → List A) where
  runs_long : (n : ℕ) → ((j : ℕ) → j < n → length (f j) ≡ k) → length (runs n f) ≡ n * k
  unfolding runs
  runs_long zero h = sym (zero-mul k)
  runs_long (suc n) h =
      length-append (runs n f) (f n) ∙ ap₂ (λ (a b : ℕ). a + b) (runs_long n (λ j b. h j (omega arith))) (h n (omega arith)) ∙ sym (suc-mul n k)

  part_runs : (n c : ℕ) (rest : List A) → ((j : ℕ) → j < n → length (f j) ≡ k) → c < n → part k (runs n f ++ rest) c ≡ f c
  part_runs n c rest h b =
      let m = n - (c + 1) in
      let e : n ≡ c + suc m = omega arith in
      let g : ℕ → List A = λ j. f (c + j) in
      let t = runs m (λ j. g (suc j)) ++ rest in
      let q : runs n f ++ rest ≡ runs c f ++ (f c ++ t) =
      ap (λ (i : ℕ). runs i f ++ rest) e ∙ ap (λ (x : List A). x ++ rest) (runs_add f c (suc m) ∙ ap (λ (x : List A). runs c f ++ x) (runs_front g m))
      ∙ append_assoc (runs c f) (g 0 ++ runs m (λ j. g (suc j))) rest
      ∙ ap (λ (x : List A). runs c f ++ x) (append_assoc (g 0) (runs m (λ j. g (suc j))) rest ∙ ap (λ (i : ℕ). f i ++ t) (add-zero c)) in
      ap (λ (x : List A). part k x c) q ∙ ap (take k) (drop_at (runs c f) (f c ++ t) (c * k) (runs_long c (λ j d. h j (omega arith))))
      ∙ take_at (f c) t k (h c b)

  parts_long : (n : ℕ) (l : List A) → ((j : ℕ) → j < n → length (f j) ≡ k) → n * k ≤ length l → length (runs n f ++ drop (n * k) l) ≡ length l
  parts_long n l h b = length-append (runs n f) (drop (n * k) l) ∙ omega (arith, runs_long n h, length-drop (n * k) l)

-- ---- the frame of a channel

-- it reads as its bytes alone do
channel_stored : (s : List ℕ) (c : ℕ) → Stored (frame_at s c) → channel_at s c ≡ stored_at (frame_at s c)
channel_stored s c a =
    let t = drop (place_of s c) s in
    let k = size_at t in
    ap stored_at (sym (take-append-drop k t)) ∙ stored_front (take k t) (drop k t) a

-- a sound frame has 800 codes
sound_codes : (s : List ℕ) (m : ℕ) (x : Frame) → stored_at s ≡ sound m x → length (codes_in x) ≡ 800
unfolding stored_at frame codes_part words kinds_of kinds_at
sound_codes s m x e =
    let S = (answer_sound s 800 320 m x e).2 in
    let ok = ((frame_lawful (mode_bytes m * 8)).there (bits_of (body_of (mode_bytes m) s)) x [] S.body).1 in
    let ks = kinds_of (mode_bytes m * 8) (flags_in x) (norms_in x) in
    fit_length (map coding ks) (codes_in x) ok.1.1.0 ∙ length-map ks coding ∙ length_kinds _ _

-- so a part lent to a stored frame keeps its length
module _ (f : List ℕ) (a : Stored f) where
  codes_long_lem : (cs : List ℕ) → length cs ≡ 800 → length (frame.codes_after cs (stored_at f)) ≡ 800
  codes_long_lem cs l = go a
    where
      go : Stored f → length (frame.codes_after cs (stored_at f)) ≡ 800
      go (bare e n) = ap (λ (o : Outcome). length (frame.codes_after cs o)) e ∙ l
      go (full m x e n) =
          ap (λ (o : Outcome). length (frame.codes_after cs o)) e ∙ length-append (codes_in x) (drop 800 cs)
          ∙ omega (arith, sound_codes f m x e, length-drop 800 cs)

  tail_long : (ts : List ℕ) → length ts ≡ 320 → length (frame.tail_after ts (stored_at f)) ≡ 320
  unfolding tail_bytes
  tail_long ts l = go a
    where
      go : Stored f → length (frame.tail_after ts (stored_at f)) ≡ 320
      go (bare e n) = ap (λ (o : Outcome). length (frame.tail_after ts o)) e ∙ l
      go (full m x e n) =
          let b = tail_in x in
          ap (λ (o : Outcome). length (frame.tail_after ts o)) e ∙ length-append (tail_bytes b) (drop 320 ts)
          ∙ omega (arith, length_bytes_lem 320 (b ++ replicate (2560 - length b) false), length-drop 320 ts)

-- ---- A frame that was read into its parts is written back

-- what is written has no cause of refusal, and is the frame with R zero
abbrev Returns : List ℕ → Option Record → List ℕ → List ℕ → Type 0
Returns f g cs ts = (first (frame_causes g cs ts) ≡ 0) × (frame_of g cs ts ≡ zeroed f)

abbrev Returned : List ℕ → List ℕ → List ℕ → Outcome → Type 0
Returned f cs ts o = Returns f (given_again (reading_of o)) (frame.codes_after cs o) (frame.tail_after ts o)

returns_as : (f : List ℕ) (g g' : Option Record) (cs cs' ts ts' : List ℕ) → g ≡ g' → cs ≡ cs' → ts ≡ ts' → Returns f g' cs' ts' → Returns f g cs ts
returns_as f g g' cs cs' ts ts' eg ec et h =
    subst (λ (x : Option Record). Returns f x cs ts) (sym eg)
    (subst (λ (x : List ℕ). Returns f g' x ts) (sym ec) (subst (λ (x : List ℕ). Returns f g' cs' x) (sym et) h))

-- a byte that says no data is 0 but for R
bare_byte : (b : ℕ) → b < 256 → prefix_byte b ≡ NoData → zero_r b ≡ 0
bare_byte b h e =
    by_bool (ltb b 128)
    (λ t. let l = ltb-true b 128 t in low l (b / 4) refl (sym (byte_said b l) ∙ e))
    (λ t. absurd (let q = sym (byte_marked b (ltb-false b 128 t) h) ∙ e in let z : ◌≡◌ {A = ℕ} 0 1 = cc in omega arith))
  where
    low : b < 128 → (l : ℕ) → b / 4 ≡ l → said (table_a2 l) l ≡ NoData → zero_r b ≡ 0
    low u zero q s = omega arith
    low u (suc l) q s =
        by_bool (ltb (suc l) 8)
        (λ t. absurd (let n = sym (said_low (suc l) (omega arith) (ltb-true (suc l) 8 t)) ∙ s in let z : ◌≡◌ {A = ℕ} 0 1 = cc in omega arith))
        (λ t.
        by_bool (ltb 27 (suc l))
        (λ v. absurd (let n = sym (said_high (suc l) (ltb-true 27 (suc l) v)) ∙ s in let z : ◌≡◌ {A = ℕ} 0 1 = cc in omega arith))
        (λ v.
        absurd (let n = sym (said_data (suc l) (ltb-false (suc l) 8 t) (ltb-false 27 (suc l) v)) ∙ s in let z : ◌≡◌ {A = ℕ} 0 1 = cc in omega arith)))

bare_zeroed : (f : List ℕ) → Bytes f → prefix_of f ≡ NoData → length f ≡ 1 → 0 ∷ [] ≡ zeroed f
bare_zeroed [] h e l = absurd (omega arith)
bare_zeroed (b ∷ []) h e l = ap (λ (x : ℕ). x ∷ []) (sym (bare_byte b (h 0) (sym (read_some (b ∷ []) (omega arith)) ∙ e)))
bare_zeroed (b ∷ d ∷ f) h e l = absurd (omega arith)

full_zeroed : (f : List ℕ) (n : ℕ) → length f ≡ n + 1 → zero_r (get_or f 0 0) ∷ body_of n f ≡ zeroed f
full_zeroed [] n l = absurd (omega arith)
full_zeroed (b ∷ f) n l = ap (λ (x : List ℕ). zero_r b ∷ x) (take_all n f (omega arith))

module _ (f cs ts : List ℕ) (h : Bytes f) (lc : length cs ≡ 800) (lt : length ts ≡ 320) where
  frame_returned : Stored f → Returned f cs ts (stored_at f)
  unfolding stored_at
  frame_returned (bare e l) = subst (Returned f cs ts) (sym e) (sym no_row, bare_zeroed f h (bare_says f e) l)
  frame_returned (full m x e l) =
      let q : read_answer f (length cs) (length ts) ≡ sound m x = ap₂ (read_answer f) lc lt ∙ e in
      let S = (answer_sound f 800 320 m x e).2 in
      let w = writeback.write_back f cs ts m x 321 h q (omega (arith, (mode_bounds m S.low).1)) in
      subst (Returned f cs ts) (sym e) (w.0, w.1 ∙ full_zeroed f (mode_bytes m) l)

-- ---- A block that was read is written back

-- the records that were read; none of an empty frame
abbrev pub records_of : List ℕ → ℕ → Records
records_of s n = record { at = map given_again (block_of s n).frames }

module _ (s : List ℕ) (n c : ℕ) (h : c < n) where
  reading_at : (d : Reading) → get_or (block_of s n).frames c d ≡ reading_of (channel_at s c)
  reading_at d =
      let g : ℕ → Reading = λ k. reading_of (channel_at s k) in
      get_or-append (table n g) (replicate (8 - n) (stopped_at 0 0)) d c (omega (arith, length_from g n 0)) ∙ get_d_table g n d c h

  past : Reading
  past = stopped_at no_data 0

  given_at_lem : given_at (records_of s n) c ≡ given_again (reading_of (channel_at s c))
  unfolding past
  given_at_lem = get_or-map given_again (block_of s n).frames c past ∙ ap given_again (reading_at past)

-- a block that is read passes
passed_step : (s : List ℕ) (n codes tails : ℕ) → reading.block_reply s n codes tails ≡ 0 → block_step n s ≡ passes (place_of s n)
passed_step s n codes tails z = go (block_step n s) refl
  where
    told : step_reply (block_step n s) ≡ 0
    told = (reply_told s n codes tails z).1

    go : (o : Step) → block_step n s ≡ o → block_step n s ≡ passes (place_of s n)
    go (stops x) e = absurd (let q : x ≡ 0 = sym (ap step_reply e) ∙ told in omega (arith, q, (block_stops n s x e).0))
    go (passes k) e = e ∙ ap passes (sym (block_bytes_lem s n k e))

module _ (s : List ℕ) (n codes tails : ℕ) (z : reading.block_reply s n codes tails ≡ 0) where
  told : Frames n (take (place_of s n) s) × (place_of s n ≤ length s)
  told = block_told n s (place_of s n) (passed_step s n codes tails z)

  frame_front : (c : ℕ) → c < n → frame_at s c ≡ frame_at (take (place_of s n) s) c
  frame_front c h =
      let k = place_of s n in
      let a = take k s in
      ap (λ (x : List ℕ). frame_at x c) (sym (take-append-drop k s) ∙ ap (λ (x : List ℕ). x ++ drop k s) (sym (frames_back told.0)))
      ∙ frame_in (frame_at a) n c (drop k s) (frame_stored told.0) h

  -- the frames of its channels are stored frames
  pub channel_frames : (c : ℕ) → c < n → Stored (frame_at s c)
  channel_frames c h = subst Stored (sym (frame_front c h)) (frame_stored told.0 c h)

  -- and one behind the other they are the block
  pub block_whole : runs n (frame_at s) ≡ take (place_of s n) s
  block_whole = runs_same (frame_at s) (frame_at (take (place_of s n) s)) n frame_front ∙ frames_back told.0

zeroed_long : (f : List ℕ) → length (zeroed f) ≡ length f
zeroed_long [] = refl
zeroed_long (b ∷ f) = refl

-- the records, codes and tails that were read from a block, written: reply 0 wherever the block's bytes have room, and the block with R zero in its prefix
-- bytes
pub record WrittenBack (s : List ℕ) (n : ℕ) (codes tails : List ℕ) : Type 0 where
  pub reply : (room : ℕ) → place_of s n ≤ room → writing.block_reply (records_of s n) n (codes_of s n codes) (tails_of s n tails) room ≡ 0
  pub bytes : block_bytes (records_of s n) n (codes_of s n codes) (tails_of s n tails) ≡ runs n (λ c. zeroed (frame_at s c))
  pub long : length (block_bytes (records_of s n) n (codes_of s n codes) (tails_of s n tails)) ≡ place_of s n

module _ (s : List ℕ) (n : ℕ) (codes tails : List ℕ) (b : Bytes s) (z : reading.block_reply s n (length codes) (length tails) ≡ 0) where
  rooms : Roomy n (length codes) (length tails)
  rooms = reply_rooms s z

  stored : (c : ℕ) → c < n → Stored (frame_at s c)
  stored = channel_frames s n (length codes) (length tails) z

  codes_at : ℕ → List ℕ
  codes_at c = frame.codes_after (part 800 codes c) (channel_at s c)

  tail_at : ℕ → List ℕ
  tail_at c = frame.tail_after (part 320 tails c) (channel_at s c)

  lent_codes : (c : ℕ) → c < n → length (part 800 codes c) ≡ 800
  lent_codes c h = length_part 800 codes c (omega (arith, rooms.numbers))

  lent_tail : (c : ℕ) → c < n → length (part 320 tails c) ≡ 320
  lent_tail c h = length_part 320 tails c (omega (arith, rooms.bytes))

  codes_800 : (c : ℕ) → c < n → length (codes_at c) ≡ 800
  unfolding codes_at
  codes_800 c h =
      ap (λ (o : Outcome). length (frame.codes_after (part 800 codes c) o)) (channel_stored s c (stored c h))
      ∙ codes_long_lem (frame_at s c) (stored c h) (part 800 codes c) (lent_codes c h)

  tail_320 : (c : ℕ) → c < n → length (tail_at c) ≡ 320
  unfolding tail_at
  tail_320 c h =
      ap (λ (o : Outcome). length (frame.tail_after (part 320 tails c) o)) (channel_stored s c (stored c h))
      ∙ tail_long (frame_at s c) (stored c h) (part 320 tails c) (lent_tail c h)

  -- channel c's frame, written from what was read
  frame_back : (c : ℕ) → c < n
      → Returns (frame_at s c) (given_at (records_of s n) c) (part 800 (codes_of s n codes) c) (part 320 (tails_of s n tails) c)
  unfolding codes_at tail_at
  frame_back c h =
      let f = frame_at s c in
      let k = place_of s c in
      let w : Returned f (part 800 codes c) (part 320 tails c) (channel_at s c) =
      subst (Returned f (part 800 codes c) (part 320 tails c)) (sym (channel_stored s c (stored c h)))
      (frame_returned f _ _ (bytes_take (size_at (drop k s)) (drop k s) (bytes_drop k s b)) (lent_codes c h) (lent_tail c h) (stored c h)) in
      returns_as f _ _ _ _ _ _ (given_at_lem s n c h)
      (part_runs 800 codes_at n c (drop (n * 800) codes) codes_800 h)
      (part_runs 320 tail_at n c (drop (n * 320) tails) tail_320 h) w

  bytes_back : block_bytes (records_of s n) n (codes_of s n codes) (tails_of s n tails) ≡ runs n (λ c. zeroed (frame_at s c))
  bytes_back = runs_same _ (λ c. zeroed (frame_at s c)) n (λ c h. (frame_back c h).1)

  long_back : length (block_bytes (records_of s n) n (codes_of s n codes) (tails_of s n tails)) ≡ place_of s n
  long_back =
      let k = place_of s n in
      ap length bytes_back ∙ length_runs (λ c. zeroed (frame_at s c)) n
      ∙ sum_same (λ c. length (zeroed (frame_at s c))) (λ c. length (frame_at s c)) n (λ c h. zeroed_long (frame_at s c))
      ∙ sym (length_runs (frame_at s) n) ∙ ap length (block_whole s n (length codes) (length tails) z)
      ∙ length-take-le k s (told s n (length codes) (length tails) z).1

  -- Demand 2: a block that was read and is written returns
  pub write_back : WrittenBack s n codes tails
  unfolding writing.block_causes codes_at tail_at
  write_back =
      let r = records_of s n in
      let cs = codes_of s n codes in
      let ts = tails_of s n tails in
      record {
        reply =
            λ room h.
            neither_first _ _
            (neither_first _ _
            (rooms_enough (record {
              some = rooms.some;
              few = rooms.few;
              numbers = omega (arith, rooms.numbers, parts_long 800 codes_at n codes codes_800 rooms.numbers);
              bytes = omega (arith, rooms.bytes, parts_long 320 tail_at n tails tail_320 rooms.bytes);
            }))
            (runs_none (causes_at r cs ts) n (λ c b. (frame_back c b).0)))
            (sym (row_fails _ _ (le-ltb room (length (block_bytes r n cs ts)) (omega (arith, long_back))) no_row));
        bytes = bytes_back;
        long = long_back;
      }

-- ---- A frame that was written is read back

-- it is a stored frame; it reads as its record, and the lent parts then hold its codes and its tail, or for an empty frame what they held
record Reads (g : Option Record) (cs ts codes tail : List ℕ) : Type 0 where
  stored : Stored (frame_of g cs ts)
  reading : reading_of (stored_at (frame_of g cs ts)) ≡ read_again g
  numbers : frame.codes_after codes (stored_at (frame_of g cs ts)) ≡ cond (is_empty g) codes cs
  bytes : frame.tail_after tail (stored_at (frame_of g cs ts)) ≡ cond (is_empty g) tail ts

long_for : (r : Record) (cs ts : List ℕ) → length (bytes_for r cs ts) ≡ mode_bytes r.mode + 1
unfolding bytes_for
long_for r cs ts = omega (arith, length_bytes_lem (mode_bytes r.mode) ((frame (total r)).write (writer.frame_of r cs ts)))

empty_stored : stored_at (0 ∷ []) ≡ empty
unfolding empty_after
empty_stored = stored_started (0 ∷ []) ∙ ap (λ (p : Prefix). started p (0 ∷ [])) (empty_read 0 [])

replaced : (k : ℕ) (a b : List ℕ) → length a ≡ k → length b ≡ k → take k a ++ drop k b ≡ a
replaced k a b la lb =
    ap₂ (λ (x y : List ℕ). x ++ y) (take_all k a (omega arith)) (ap (λ (j : ℕ). drop j b) (sym lb) ∙ drop-length b) ∙ append-nil a

module _ (cs ts codes tail : List ℕ) (lc : length cs ≡ 800) (lt : length ts ≡ 320) (mc : length codes ≡ 800) (mt : length tail ≡ 320) where
  full_reads : (r : Record) → write_reply r cs ts 321 ≡ 0 → length r.norms ≡ 44 → Bytes ts → Reads (Some r) cs ts codes tail
  unfolding stored_at
  full_reads r z l b =
      let f = bytes_for r cs ts in
      let P = passed r cs ts 321 z in
      let n : f ++ [] ≡ f = append-nil f in
      let e : stored_at f ≡ sound r.mode (writer.frame_of r cs ts) = ap stored_at (sym n)
      ∙ readback.answer_back r cs ts 321 l P [] 800 320 (omega arith) (omega arith) in
      let q : stored_at f ≡ read_answer (f ++ []) (length codes) (length tail) = ap stored_at (sym n) ∙ ap₂ (read_answer (f ++ [])) (sym mc) (sym mt) in
      let w = readback.read_back r cs ts 321 l P [] codes tail (bytes_take 320 ts b) (omega arith) (omega arith) in
      record {
        stored = full r.mode (writer.frame_of r cs ts) e (long_for r cs ts);
        reading = ap reading_of q ∙ w.0;
        numbers = ap (frame.codes_after codes) q ∙ w.1 ∙ replaced 800 cs codes lc mc;
        bytes = ap (frame.tail_after tail) q ∙ w.2 ∙ replaced 320 ts tail lt mt;
      }

  frame_reads : (g : Option Record) → first (frame_causes g cs ts) ≡ 0 → (is_empty g ≡ false → (length (record_of g).norms ≡ 44) × Bytes ts)
      → Reads g cs ts codes tail
  frame_reads None z h =
      record {
        stored = bare empty_stored refl;
        reading = ap reading_of empty_stored;
        numbers = ap (frame.codes_after codes) empty_stored;
        bytes = ap (frame.tail_after tail) empty_stored;
      }
  frame_reads (Some r) z h = full_reads r z (h refl).0 (h refl).1

-- ---- Records that were written are read back

-- the output of a block that was written, read: reply 0, the place behind the block, and the records, codes and tails that it was written from
pub record ReadBack (r : Records) (n : ℕ) (cs ts out codes tails : List ℕ) : Type 0 where
  pub reply : reading.block_reply (writing.out_after 0 r n cs ts out) n (length codes) (length tails) ≡ 0
  pub block : block_of (writing.out_after 0 r n cs ts out) n
      ≡ record { reply = done; next = length (block_bytes r n cs ts); frames = table n (reading_back r) ++ replicate (8 - n) (stopped_at 0 0) }
  pub numbers : codes_of (writing.out_after 0 r n cs ts out) n codes ≡ codes_back r n cs codes
  pub bytes : tails_of (writing.out_after 0 r n cs ts out) n tails ≡ tails_back r n ts tails

module _ (r : Records) (n : ℕ) (cs ts out codes tails : List ℕ) (z : writing.block_reply r n cs ts (length out) ≡ 0)
    (k : (c : ℕ) → c < n → empty_at r c ≡ false → (length (record_at r c).norms ≡ 44) × Bytes (part 320 ts c))
    (hc : n * 800 ≤ length codes) (ht : n * 320 ≤ length tails) where
  -- the output
  s : List ℕ
  s = writing.out_after 0 r n cs ts out

  reads : (c : ℕ) → c < n → Reads (given_at r c) (part 800 cs c) (part 320 ts c) (part 800 codes c) (part 320 tails c)
  reads c h =
      let t = written.block_told r n cs ts (length out) z in
      frame_reads (part 800 cs c) (part 320 ts c) (part 800 codes c) (part 320 tails c)
      (length_part 800 cs c (omega (arith, t.rooms.numbers)))
      (length_part 320 ts c (omega (arith, t.rooms.bytes)))
      (length_part 800 codes c (omega arith))
      (length_part 320 tails c (omega arith))
      (given_at r c) (t.frames c h) (k c h)

  laid_frames : Frames n (block_bytes r n cs ts)
  laid_frames = frames_made (bytes_at r cs ts) n (λ c h. (reads c h).stored)

  laid_channel : (c : ℕ) → c < n → channel_at s c ≡ stored_at (bytes_at r cs ts c)
  unfolding s
  laid_channel c h =
      let e = frame_in (bytes_at r cs ts) n c (drop (length (block_bytes r n cs ts)) out) (λ j b. (reads j b).stored) h in
      channel_stored s c (subst Stored (sym e) (reads c h).stored) ∙ ap stored_at e

  -- Demand 2: records that were written and are read return
  pub read_back : ReadBack r n cs ts out codes tails
  unfolding s
  read_back =
      let rest = drop (length (block_bytes r n cs ts)) out in
      let R = (written.block_told r n cs ts (length out) z).rooms in
      let Q : Roomy n (length codes) (length tails) = record { some = R.some; few = R.few; numbers = hc; bytes = ht } in
      record {
        reply =
            sym (reply_step s n (length codes) (length tails) refl (rooms_enough Q))
            ∙ ap step_reply (block_front rest laid_frames);
        block =
            ap₂ (λ (i : ℕ) (l : List Reading). let b : Block = record { reply = done; next = i; frames = l ++ replicate (8 - n) (stopped_at 0 0) } in b)
            (placed rest laid_frames)
            (table_same (λ c. reading_of (channel_at s c)) (reading_back r) n 0
            (λ c a b. let h : c < n = omega arith in ap reading_of (laid_channel c h) ∙ (reads c h).reading));
        numbers =
            ap (λ (l : List ℕ). l ++ drop (n * 800) codes)
            (runs_same _ _ n (λ c h. ap (frame.codes_after (part 800 codes c)) (laid_channel c h) ∙ (reads c h).numbers));
        bytes =
            ap (λ (l : List ℕ). l ++ drop (n * 320) tails)
            (runs_same _ _ n (λ c h. ap (frame.tail_after (part 320 tails c)) (laid_channel c h) ∙ (reads c h).bytes));
      }
