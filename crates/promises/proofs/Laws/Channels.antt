-- That several channels keep what was promised: the page Channels.
-- Assumes nothing.
use mathlib.Core.Path.{◌≡◌, refl, sym, ap, ap₂, ◌∙◌, subst}
use mathlib.Core.List.{List, ◌++◌}
use Prim.Native.Nat.{ℕ, ◌≤◌, ◌<◌}
use native.Mathlib.Omega.{arith}
use lib.ListN.{length, take, drop}
use borrow.Author.Tests.{eq-eqb}
use Rattle.ground.proofs.Laws.Cases.{by_bool}
use Rattle.ground.specs.Replies.{done, cut, not_as_booked, too_many, wrong_channels}
use Rattle.ground.proofs.Laws.Runs.{runs_same}
use Rattle.ground.specs.Sums.{nth}
use Rattle.recording.specs.Walk.{made_check, most_frames, check_of}
use Rattle.recording.specs.Frames.{Frames}
use Rattle.recording.specs.Blocks.{Blocks, is_count, check_blocks}
use Rattle.recording.proofs.Laws.Checked as checked
use Rattle.recording.specs.declared.answer.Check.{Check}
use Rattle.recording.proofs.Laws.Blocks as blocks
use Rattle.frames.specs.Places.{place_of, frame_at}
use Rattle.block_reader.specs.Reading as reading
use Rattle.block_writer.specs.Writing as writing
use Rattle.block_writer.specs.declared.Records.{Records}
use Rattle.block_writer.proofs.Laws.RoundTrips as round
use Rattle.channels.specs.Copies.{check_answer, extracted, extract_answer, extract_after, made_copy}
use Rattle.joining.specs.Joining.{own_check, recording_at, start_of, joined, joined_of, join_answer, join_after, InSource, Joinable}
use Rattle.channels.specs.declared.Copied.{Copied}
use Rattle.channels.proofs.Laws.Extracting.{among_of, extract_done}
use Rattle.joining.proofs.Laws.Channels.{joined_blocks, extracted_joined, extracted_frames, joined_extracted}
use Rattle.joining.proofs.Laws.JoinedRecordings.{join_told, join_made, joined_is, joined_length}
use Rattle.channels.proofs.Laws.Walks.{walk_made, check_counted}
use Rattle.joining.proofs.Laws.Joining.{length_recording}
use Rattle.channels.proofs.Laws.Cuts as cuts
use Rattle.block_writer.specs.declared.Records.{Records}
use Rattle.block_reader.specs.declared.Block.{Block}
use Rattle.writer.specs.declared.Writing.{Writing}
use Rattle.promises.proofs.Laws.Picked.{made_reply}
use Rattle.promises.specs.Channels.{Joins, BlockTrips, Channels}

-- what a reply of 0 of the check says
whole_blocks : (src : List ℕ) (n booking : ℕ) → (check_answer src n booking).reply ≡ done → (1 ≤ n) × (n ≤ 8) × Blocks n booking src × (booking ≤ most_frames)
unfolding check_answer
whole_blocks src n booking e =
    by_bool (is_count n)
    (λ t.
    let c = blocks.counted n t in
    let q : check_answer src n booking ≡ check_blocks n src booking = rw t refl in
    let w = (checked.check_whole (blocks.block_unit n c.0) src booking).0 (sym (ap (λ (x : Check). x.reply) q) ∙ e) in
    (c.0, c.1, w.0, w.1))
    (λ t. absurd (let q : check_answer src n booking ≡ made_check wrong_channels 0 0 = rw t refl in
    let y = sym (ap (λ (x : Check). x.reply) q) ∙ e in omega (arith, y)))

lying : {src lengths : List ℕ} {k : ℕ} → Joinable src lengths k → InSource src lengths
lying J = record { few = J.most; inside = J.inside }

-- joined are exactly 1 to 8 sound recordings (Joinable: they lie one behind the other in the source, each is k sound frames, at most 3,000), given room for as
-- many bytes as they have together
sound_recordings_join : (src lengths : List ℕ) (k room : ℕ) → Joinable src lengths k → start_of lengths (length lengths) ≤ room
    → join_answer src lengths room ≡ made_copy done 0 k 0 (start_of lengths (length lengths))
sound_recordings_join src lengths k room J h =
    let l = joined_length src lengths room k J in
    join_made src lengths room k J (omega (arith, l)) ∙ ap (made_copy done 0 k 0) l

only_sound_recordings_join : (src lengths : List ℕ) (room : ℕ) → (join_answer src lengths room).reply ≡ done
    → Joinable src lengths (join_answer src lengths room).count
only_sound_recordings_join src lengths room e =
    let D = join_told src lengths room e in
    subst (Joinable src lengths) (sym (ap (λ (c : Copied). c.count) D.answer)) D.joinable

-- what is laid down is the joined recording, at the front of the output
join_lays : (src lengths out : List ℕ) → (join_answer src lengths (length out)).reply ≡ done
    → join_after src lengths out ≡ joined_of src lengths ++ drop (length (joined_of src lengths)) out
join_lays src lengths out e = rw (eq-eqb (join_answer src lengths (length out)).reply 0 e) refl

taken_out_of_a_join : (src lengths : List ℕ) (room : ℕ) → (join_answer src lengths room).reply ≡ done
    → (c : ℕ) → c < length lengths → (out : List ℕ) → nth lengths c ≤ length out
    → (extract_answer (joined_of src lengths) (length lengths) c (length out)
    ≡ made_copy done 0 (join_answer src lengths room).count (length (joined_of src lengths)) (nth lengths c))
    × (extract_after (joined_of src lengths) (length lengths) c out ≡ recording_at src lengths c ++ drop (nth lengths c) out)
taken_out_of_a_join src lengths room e c h out l =
    let D = join_told src lengths room e in
    let J = D.joinable in
    let n = length lengths in
    let r = recording_at src lengths in
    let k = (own_check src lengths 0).count in
    let B = joined_blocks n k r J.sound in
    let x : extracted n c k (joined_of src lengths) ≡ r c = extracted_joined n k r J.sound c h in
    let m : nth lengths c ≡ length (extracted n c k (joined_of src lengths)) = sym (ap length x ∙ length_recording src lengths (lying J) c h) in
    let d =
    extract_done (joined_of src lengths) n c out (among_of n c J.some J.most h) (made_check done k (length (joined_of src lengths)))
    (sym (walk_made n J.some k (joined_of src lengths) B J.few)) refl (nth lengths c) m (r c ++ drop (nth lengths c) out) l
    (ap₂ (λ (y : List ℕ) (j : ℕ). y ++ drop j out) (sym x) m) in (
      sym d.0 ∙ ap (λ (j : ℕ). made_copy done 0 j (length (joined_of src lengths)) (nth lengths c)) (sym (ap (λ (y : Copied). y.count) D.answer)),
      sym d.1,
    )

join_checks_sound : (src lengths : List ℕ) (room : ℕ) → (join_answer src lengths room).reply ≡ done
    → check_answer (joined_of src lengths) (length lengths) (join_answer src lengths room).count
    ≡ record { reply = done; count = (join_answer src lengths room).count; place = length (joined_of src lengths) }
unfolding check_answer
join_checks_sound src lengths room e =
    let D = join_told src lengths room e in
    let J = D.joinable in
    let n = length lengths in
    let k = (own_check src lengths 0).count in
    let q : (join_answer src lengths room).count ≡ k = ap (λ (y : Copied). y.count) D.answer in
    rw (blocks.is_counted n J.some J.most)
    (ap (check_blocks n (joined_of src lengths)) q
    ∙ checked.all_booked (blocks.block_unit n J.some) (joined_blocks n k (recording_at src lengths) J.sound) k J.few refl
    ∙ ap (λ (j : ℕ). made_check done j (length (joined_of src lengths))) (sym q))

join_of_all_channels : (s : List ℕ) (n k : ℕ) → (check_answer s n k).reply ≡ done
    → (src lengths : List ℕ) → length lengths ≡ n → start_of lengths n ≤ length src → ((c : ℕ) → c < n → recording_at src lengths c ≡ extracted n c k s)
    → (room : ℕ) → length s ≤ room → (join_answer src lengths room ≡ made_copy done 0 k 0 (length s)) × (joined_of src lengths ≡ s)
join_of_all_channels s n k e src lengths el inside r room h =
    let W = whole_blocks s n k e in
    let B = W.2 in
    let J : Joinable src lengths k =
    record {
      some = omega (arith, el, W.0);
      most = omega (arith, el, W.1);
      inside = subst (λ (j : ℕ). start_of lengths j ≤ length src) (sym el) inside;
      few = W.3;
      sound = λ c d. subst (Frames k) (sym (r c (omega (arith, el)))) (extracted_frames n k s B c (omega (arith, el)));
    } in
    let j : joined_of src lengths ≡ s =
    joined_is src lengths room k J ∙ ap (λ (m : ℕ). joined m k (recording_at src lengths)) el
    ∙ runs_same _ _ k (λ b l. runs_same _ _ n (λ c d. ap (λ (t : List ℕ). frame_at t b) (r c d))) ∙ joined_extracted n k s B in
    (join_made src lengths room k J (omega (arith, ap length j)) ∙ ap (λ (t : List ℕ). made_copy done 0 k 0 (length t)) j, j)

one_channel : (src : List ℕ) (booking : ℕ) → check_answer src 1 booking ≡ check_of src booking
one_channel src booking = sym (check_counted src 1 booking (blocks.is_counted 1 (omega arith) (omega arith))) ∙ blocks.one_channel src booking

-- 0 says: 1 to 8 channels, as many sound blocks as booked, at most 3,000, and nothing else; and every such recording is answered 0
complete_blocks : (src : List ℕ) (n booking : ℕ)
    → ((check_answer src n booking).reply ≡ done → (1 ≤ n) × (n ≤ 8) × Blocks n booking src × (booking ≤ most_frames))
    × (1 ≤ n → n ≤ 8 → Blocks n booking src → booking ≤ most_frames → (check_answer src n booking).reply ≡ done)
unfolding check_answer
complete_blocks src n booking = (
  whole_blocks src n booking,
  λ a b B h. rw (blocks.is_counted n a b) ((checked.check_whole (blocks.block_unit n a) src booking).1 B h),
)

-- k sound blocks and a part of the next, at least a byte of it and not the whole: 4 at that block's place. Only behind 3,000 blocks, where no byte is read any
-- more, it is 15
cut_in_a_block : {n k : ℕ} {s f : List ℕ} → 1 ≤ n → n ≤ 8 → Blocks n k s → Frames n f → (p : ℕ) → 0 < p → p < length f → (booking : ℕ)
    → (k < most_frames → check_answer (s ++ take p f) n booking ≡ record { reply = cut; count = k; place = length s })
    × (k ≡ most_frames → check_answer (s ++ take p f) n booking ≡ record { reply = too_many; count = most_frames; place = length s })
unfolding check_answer
cut_in_a_block {n} {k} {s} {f} a b B fs p h l booking =
    let c = cuts.cut_in_block a B fs p h l booking in
    (λ t. rw (blocks.is_counted n a b) (c.0 t), λ t. rw (blocks.is_counted n a b) (c.1 t))

cut_between_blocks : {n k : ℕ} {s : List ℕ} → 1 ≤ n → n ≤ 8 → Blocks n k s → k ≤ most_frames → (booking : ℕ)
    → (k ≡ booking → check_answer s n booking ≡ record { reply = done; count = k; place = length s })
    × ((k ≡ booking → ⊥) → check_answer s n booking ≡ record { reply = not_as_booked; count = k; place = length s })
unfolding check_answer
cut_between_blocks {n} {k} {s} a b B few booking =
    let L = blocks.block_unit n a in
    (λ e. rw (blocks.is_counted n a b) (checked.all_booked L B booking few e), λ e. rw (blocks.is_counted n a b) (checked.all_unbooked L B booking few e))

-- ---- blocks read and written

module _ (src : List ℕ) (n : ℕ) (codes tails : List ℕ) where
  read_done : (reading.block_answer (reading.block_reply src n (length codes) (length tails)) src n).reply ≡ done
      → reading.block_reply src n (length codes) (length tails) ≡ done
  read_done z = sym (made_reply (λ (b : Block). b.reply) (reading.block_reply src n (length codes) (length tails)) _ _ refl refl) ∙ z

written_done : (r : Records) (n : ℕ) (codes tails out : List ℕ)
    → (writing.block_answer (writing.block_reply r n codes tails (length out)) r n codes tails).reply ≡ done
    → writing.block_reply r n codes tails (length out) ≡ done
written_done r n codes tails out z =
    sym (made_reply (λ (w : Writing). w.reply) (writing.block_reply r n codes tails (length out)) _ _ refl refl) ∙ z

trips : BlockTrips
trips =
    record {
      block_written_back =
          λ src n codes tails out b z h.
          let e = read_done src n codes tails z in
          let W = round.write_back src n codes tails b e in
          rw e (let l : place_of src n ≤ length out = rw e at h in rw (W.reply (length out) l, W.bytes, ← W.bytes, W.long) (refl, refl));
      block_is_its_frames =
          λ src n codes tails z.
          let e = read_done src n codes tails z in
          rw e (round.block_whole src n (length codes) (length tails) e);
      block_read_back =
          λ r n codes tails out z k room spare hc ht.
          let e = written_done r n codes tails out z in
          let B = round.read_back r n codes tails out room spare e k hc ht in
          rw e (rw B.reply (B.block, B.numbers, B.bytes));
    }

joins : Joins
joins =
    record {
      sound_recordings_join = λ src lengths out k J h. sound_recordings_join src lengths k (length out) J h;
      only_sound_recordings_join = λ src lengths out z. only_sound_recordings_join src lengths (length out) z;
      join_lays = join_lays;
      taken_out_of_a_join = λ src lengths out z c h room l. taken_out_of_a_join src lengths (length out) z c h room l;
      join_checks_sound = λ src lengths out z. join_checks_sound src lengths (length out) z;
      join_of_all_channels = λ s n k e src lengths el inside r out h. join_of_all_channels s n k e src lengths el inside r (length out) h;
    }

pub channels : Channels
channels =
    record {
      joins = joins;
      trips = trips;
      checks =
          record {
            one_channel = one_channel;
            complete_blocks = complete_blocks;
            cut_in_a_block = cut_in_a_block;
            cut_between_blocks = cut_between_blocks;
          };
    }
