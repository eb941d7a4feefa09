-- Flags at the C boundary: a number that comes in is true unless it is 0, and a flag that goes out is 0 or 1.
-- Assumes nothing.
use Rattle.std.specs.Prelude.{Bool, Option, None, Some, cond, not, [], map, ℕ, eqb, get_or}
use Rattle.ground.specs.ListsByRule.{table}
use Rattle.norms.specs.Answers as norms
use Rattle.frame.specs.declared.Record as frame
use Rattle.frame.specs.declared.Reading as read
use Rattle.block_reader.specs.declared.Block as block
use Rattle.block_writer.specs.declared.Records as written
use Rattle.boundary.specs.declared.Record.{Record}
use Rattle.boundary.specs.declared.Block.{Block}
use Rattle.boundary.specs.declared.Records.{Records}
use Rattle.boundary.specs.declared.Reading.{Reading}
use Rattle.boundary.specs.declared.Choice.{Choice}

unfoldable pub flag_in : ℕ → Bool
flag_in number = not (eqb number 0)

unfoldable pub flag_out : Bool → ℕ
flag_out flag = cond flag 1 0

unfoldable pub record_in : Record → frame.Record
record_in r =
    record {
      mode = r.mode;
      transient = flag_in r.transient;
      flag_l = flag_in r.flag_l;
      flag_n = flag_in r.flag_n;
      flag_c = flag_in r.flag_c;
      norms = r.norms;
      noise = r.noise;
      tail_bits = r.tail_bits;
    }

unfoldable pub record_out : frame.Record → Record
record_out r =
    record {
      mode = r.mode;
      transient = flag_out r.transient;
      flag_l = flag_out r.flag_l;
      flag_n = flag_out r.flag_n;
      flag_c = flag_out r.flag_c;
      norms = r.norms;
      noise = r.noise;
      tail_bits = r.tail_bits;
    }

unfoldable pub reading_out : read.Reading → Reading
reading_out r = record { reply = r.reply; next = r.next; «record» = record_out r.«record» }

unfoldable pub choice_out : norms.Choice → Choice
choice_out c = record { reply = c.reply; flag = flag_out c.flag }

-- a block's readings, and what a block is written from
unfoldable pub block_out : block.Block → Block
block_out b = record { reply = b.reply; next = b.next; frames = map reading_out b.frames }

-- what a channel's frame is written from: none where the number says that it is an empty one
unfoldable pub given_in : Record → ℕ → Option frame.Record
given_in r empty = cond (flag_in empty) None (Some (record_in r))

-- what stands past the last place of a list of records
abbrev pub past_record : Record
past_record = record { mode = 0; transient = 0; flag_l = 0; flag_n = 0; flag_c = 0; norms = []; noise = 0; tail_bits = 0 }

unfoldable pub records_in : Records → written.Records
records_in r = record { at = table 8 (λ c. given_in (get_or r.at c past_record) (get_or r.empty c 0)) }
