-- Change No. 2 (02): several channels in one recording. One stored frame of each channel, in order, is a block for each 20 ms; the number of channels, 1 to
-- 8, comes from the booking. The words: `Blocks n k s` says that s is exactly k sound blocks of n frames (recording/specs/Blocks), `Frames` the same of frames;
-- frame_at s i is stored frame i of s (frames/specs/Places); recording_at src lengths c is recording c of those that lie one behind the other in src
-- (joining/specs/Joining), and start_of lengths c the place where it begins.
-- Assumes nothing.
use Rattle.std.specs.Prelude.{◌≡◌, false, List, ◌++◌, map, ℕ, ◌-◌, ◌*◌, ◌≤◌, ◌<◌, length, take, drop, replicate}
use Rattle.ground.specs.ListsByRule.{table}
use Rattle.ground.specs.Replies.{done, cut, not_as_booked, too_many}
use Rattle.ground.specs.Runs.{runs, part}
use Rattle.ground.specs.Sums.{nth}
use Rattle.bits.specs.Bits.{Bytes}
use Rattle.frame.specs.Answers.{stopped_at}
use Rattle.recording.specs.Walk.{most_frames}
use Rattle.recording.specs.Frames.{Frames}
use Rattle.recording.specs.Blocks.{Blocks}
use Rattle.frames.specs.Places.{frame_at, zeroed}
use Rattle.block_reader.specs.declared.Block.{Block}
use Rattle.block_writer.specs.Writing.{record_at, empty_at}
use Rattle.block_writer.specs.ReadBack.{given_again, reading_back, codes_back, tails_back}
use Rattle.block_writer.specs.declared.Records.{Records}
use Rattle.channels.specs.Copies.{extracted, made_copy}
use Rattle.joining.specs.Joining.{start_of, recording_at, joined_of, Joinable}
use Rattle.promises.specs.Calls as call

-- ---- "Several one_channel recordings of equal frame count joined, frames copied as stored."

pub record Joins : Type 0 where
  -- joined are 1 to 8 sound recordings (Joinable: one behind the other in the source, each k sound frames, at most 3,000), given room for them together …
  pub sound_recordings_join : (src lengths out : List ℕ) (k : ℕ) → Joinable src lengths k → start_of lengths (length lengths) ≤ length out
      → (call.join src lengths out).answer ≡ made_copy done 0 k 0 (start_of lengths (length lengths))
  -- … and no others
  pub only_sound_recordings_join : (src lengths out : List ℕ) → let j = (call.join src lengths out).answer in j.reply ≡ done → Joinable src lengths j.count
  -- what is laid down is the joined recording, at the front of the output
  pub join_lays : (src lengths out : List ℕ) → let j = call.join src lengths out in j.answer.reply ≡ done
      → j.out ≡ joined_of src lengths ++ drop (length (joined_of src lengths)) out
  -- "Taking channel c out of a joined recording gives back recording c": byte for byte, for every c
  pub taken_out_of_a_join : (src lengths out : List ℕ) → let j = (call.join src lengths out).answer in j.reply ≡ done
      → (c : ℕ) → c < length lengths → (room : List ℕ) → nth lengths c ≤ length room
      → let x = call.extract (joined_of src lengths) (length lengths) c room in
      (x.answer ≡ made_copy done 0 j.count (length (joined_of src lengths)) (nth lengths c))
      × (x.out ≡ recording_at src lengths c ++ drop (nth lengths c) room)
  -- a joined recording checks sound, with the common count of blocks
  pub join_checks_sound : (src lengths out : List ℕ) → let j = (call.join src lengths out).answer in j.reply ≡ done
      → call.check_blocks (joined_of src lengths) (length lengths) j.count
      ≡ record { reply = done; count = j.count; place = length (joined_of src lengths) }
  -- and the join of all channels of a sound recording is that recording
  pub join_of_all_channels : (s : List ℕ) (n k : ℕ) → (call.check_blocks s n k).reply ≡ done
      → (src lengths : List ℕ) → length lengths ≡ n → start_of lengths n ≤ length src → ((c : ℕ) → c < n → recording_at src lengths c ≡ extracted n c k s)
      → (out : List ℕ) → length s ≤ length out
      → ((call.join src lengths out).answer ≡ made_copy done 0 k 0 (length s)) × (joined_of src lengths ≡ s)

-- ---- "Demand 2 holds per frame"

-- the records of a block that was read: none for an empty frame, one that says 14
abbrev pub handed_on : Block → Records
handed_on b = record { at = map given_again b.frames }

pub record BlockTrips : Type 0 where
  -- a block that was read and is written returns, with R zero in the prefix byte of each frame …
  pub block_written_back : (src : List ℕ) (n : ℕ) (codes tails out : List ℕ) → Bytes src
      → let a = call.read_block src n codes tails in a.answer.reply ≡ done → a.answer.next ≤ length out
      → let w = call.write_block (handed_on a.answer) n a.codes a.tail out in
      (w.answer ≡ record { reply = done; next = a.answer.next })
      × (w.out ≡ runs n (λ c. zeroed (frame_at src c)) ++ drop a.answer.next out)
  -- … and its frames are its bytes
  pub block_is_its_frames : (src : List ℕ) (n : ℕ) (codes tails : List ℕ) → let a = (call.read_block src n codes tails).answer in a.reply ≡ done
      → runs n (frame_at src) ≡ take a.next src
  -- records that were written and are read return: each record, its 800 numbers and its 320 bytes as they were; and 14 for an empty frame, whose numbers
  -- and bytes stay as they were lent (block_writer/specs/ReadBack)
  pub block_read_back : (r : Records) (n : ℕ) (codes tails out : List ℕ)
      → let w = call.write_block r n codes tails out in w.answer.reply ≡ done
      → ((c : ℕ) → c < n → empty_at r c ≡ false → (length (record_at r c).norms ≡ 44) × Bytes (part 320 tails c))
      → (room spare : List ℕ) → n * 800 ≤ length room → n * 320 ≤ length spare
      → let a = call.read_block w.out n room spare in
      (a.answer ≡ record { reply = done; next = w.answer.next; frames = table n (reading_back r) ++ replicate (8 - n) (stopped_at 0 0) })
      × (a.codes ≡ codes_back r n codes room) × (a.tail ≡ tails_back r n tails spare)

-- ---- A recording that stops inside a block is never answered 0, whatever the booking; cut between blocks it is 11 unless the shorter count is booked

pub record BlockChecks : Type 0 where
  -- with one channel the check of blocks answers what the file check answers, on every input
  pub one_channel : (src : List ℕ) (booking : ℕ) → call.check_blocks src 1 booking ≡ call.check src booking
  -- 0 says: 1 to 8 channels, as many sound blocks as booked, at most 3,000, and nothing else; and every such recording is answered 0
  pub complete_blocks : (src : List ℕ) (n booking : ℕ)
      → ((call.check_blocks src n booking).reply ≡ done → (1 ≤ n) × (n ≤ 8) × Blocks n booking src × (booking ≤ most_frames))
      × (1 ≤ n → n ≤ 8 → Blocks n booking src → booking ≤ most_frames → (call.check_blocks src n booking).reply ≡ done)
  -- k sound blocks and a part of the next, at least a byte of it and not the whole: 4 at that block's place. Only behind 3,000 blocks, where no byte is
  -- read any more, it is 15
  pub cut_in_a_block : {n k : ℕ} {s f : List ℕ} → 1 ≤ n → n ≤ 8 → Blocks n k s → Frames n f → (p : ℕ) → 0 < p → p < length f → (booking : ℕ)
      → (k < most_frames → call.check_blocks (s ++ take p f) n booking ≡ record { reply = cut; count = k; place = length s })
      × (k ≡ most_frames → call.check_blocks (s ++ take p f) n booking ≡ record { reply = too_many; count = most_frames; place = length s })
  pub cut_between_blocks : {n k : ℕ} {s : List ℕ} → 1 ≤ n → n ≤ 8 → Blocks n k s → k ≤ most_frames → (booking : ℕ)
      → (k ≡ booking → call.check_blocks s n booking ≡ record { reply = done; count = k; place = length s })
      × ((k ≡ booking → ⊥) → call.check_blocks s n booking ≡ record { reply = not_as_booked; count = k; place = length s })

pub record Channels : Type 0 where
  pub joins : Joins
  pub trips : BlockTrips
  pub checks : BlockChecks
