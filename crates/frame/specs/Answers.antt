-- What reading a stored frame answers: the reply, the record, and what the lent slices hold afterwards (01, Numbered replies).
-- Assumes nothing.
use Rattle.std.specs.Prelude.{Bool, false, cond, List, ◌++◌, ℕ, ◌+◌, ◌-◌, ◌*◌, ltb, length, replicate, take, drop}
use Rattle.ground.specs.Replies.{done, no_byte, marked, reserved, cut, short_room, no_data}
use Rattle.bits.specs.Bits.{bits_of}
use Rattle.bits.specs.Codings.{Answer, got, no, reply_of}
use Rattle.prefix.specs.Sizes.{length_bytes, mode_bytes}
use Rattle.prefix.specs.Prefix.{prefix_of}
use Rattle.prefix.specs.declared.Prefix.{Prefix}
use Rattle.prefix.specs.declared.Prefix.TheVariants.{Data, NoData, NoByte, Marked, Reserved}
use Rattle.frame.specs.Layout.{Frame, flags_in, norms_in, codes_in, noise_in, tail_in, is_transient, flag_l, flag_n, flag_c, frame}
use Rattle.kinds.specs.declared.Flags.{Flags}
use Rattle.frame.specs.declared.Record.{Record}
use Rattle.frame.specs.declared.Reading.{Reading}
use Rattle.tails.specs.Tails.{tail_bytes}

-- a reply alone; an empty frame; a frame of a mode
pub data Outcome : Type 0 where
  refused : ℕ → Outcome
  empty : Outcome
  sound : ℕ → Frame → Outcome

abbrev pub outcome : ℕ → Answer Frame → Outcome
outcome mode (got x r) = sound mode x
outcome mode (no x) = refused (reply_of x)

-- the body of a mode
unfoldable pub read_body : ℕ → List ℕ → Outcome
read_body mode body = outcome mode ((frame (length body * 8)).read (bits_of body))

abbrev pub body_of : ℕ → List ℕ → List ℕ
body_of n src = take n (drop 1 src)

-- 1, 2, 3, 14, 4, then what the body says
abbrev pub started : Prefix → List ℕ → Outcome
started NoByte src = refused no_byte
started Marked src = refused marked
started Reserved src = refused reserved
started NoData src = empty
started (Data l) src =
    cond (ltb (length_bytes l.0) (length src)) (read_body (l.0 - 8) (body_of (length_bytes l.0) src)) (refused cut)

-- 10 comes first: room for 800 numbers and 320 bytes
unfoldable pub read_answer : List ℕ → ℕ → ℕ → Outcome
read_answer src codes tail = cond (ltb codes 800) (refused short_room) (cond (ltb tail 320) (refused short_room) (started (prefix_of src) src))

-- ---- the record, and the lent slices

abbrev pub flags_of : List Bool → Flags
flags_of f = record { transient = is_transient f; l = flag_l f; n = flag_n f; c = flag_c f }

-- a record's
abbrev pub flags_for : Record → Flags
flags_for r = record { transient = r.transient; l = r.flag_l; n = r.flag_n; c = r.flag_c }

abbrev pub no_record : Record
no_record =
    record { mode = 0; transient = false; flag_l = false; flag_n = false; flag_c = false; norms = replicate 44 0; noise = 0; tail_bits = 0 }

abbrev pub stopped_at : ℕ → ℕ → Reading
stopped_at reply next = record { reply = reply; next = next; «record» = no_record }

abbrev pub record_of : ℕ → Frame → Record
record_of mode x =
    record {
      mode = mode;
      transient = is_transient (flags_in x);
      flag_l = flag_l (flags_in x);
      flag_n = flag_n (flags_in x);
      flag_c = flag_c (flags_in x);
      norms = norms_in x;
      noise = noise_in x;
      tail_bits = length (tail_in x);
    }

-- 0 gives the next place size + 1, 14 gives 1
abbrev pub reading_of : Outcome → Reading
reading_of (refused x) = stopped_at x 0
reading_of empty = stopped_at no_data 1
reading_of (sound mode x) = record { reply = done; next = mode_bytes mode + 1; «record» = record_of mode x }

-- only 0 changes lent memory: the first 800 numbers and 320 bytes
abbrev pub codes_after : List ℕ → Outcome → List ℕ
codes_after codes (refused x) = codes
codes_after codes empty = codes
codes_after codes (sound mode x) = codes_in x ++ drop 800 codes

abbrev pub tail_after : List ℕ → Outcome → List ℕ
tail_after tail (refused x) = tail
tail_after tail empty = tail
tail_after tail (sound mode x) = tail_bytes (tail_in x) ++ drop 320 tail
