-- The public calls by name: what each answers, and what the memory that it was lent holds afterwards. The other pages speak of these; that the contracts
-- of the code say the same, letter by letter, is the page Promised.
-- Assumes nothing.
use Rattle.std.specs.Prelude.{Bool, List, ℕ, ℤ, length}
use Rattle.prefix.specs.Prefix as prefix
use Rattle.norms.specs.Answers.{choice_of as flag_n}
use Rattle.norms.specs.Answers.{Choice}
use Rattle.legal.specs.Answers.{legalised}
use Rattle.legal.specs.declared.Legal.{Legal}
use Rattle.weights.specs.Weights.{weighed}
use Rattle.weights.specs.declared.Weights.{Weights}
use Rattle.allotment.specs.Allotment.{shares_of}
use Rattle.allotment.specs.declared.Shares.{Shares}
use Rattle.points.specs.Answers.{point_of, index_of}
use Rattle.points.specs.declared.Point.{Point}
use Rattle.points.specs.declared.Index.{Index}
use Rattle.codebook.specs.Codebook.{row_point, row_index}
use Rattle.codebook.specs.declared.Row.{Row}
use Rattle.frame.specs.Answers as frame
use Rattle.frame.specs.declared.Record.{Record}
use Rattle.frame.specs.declared.Reading.{Reading}
use Rattle.layout.specs.Parts.{layout_of}
use Rattle.layout.specs.declared.Parts.{Parts}
use Rattle.choice.specs.Choice.{choice_of as flag_c}
use Rattle.writer.specs.Writes as writer
use Rattle.writer.specs.Empty.{empty_reply, empty_after}
use Rattle.writer.specs.declared.Writing.{Writing}
use Rattle.recording.specs.Walk.{check_of}
use Rattle.recording.specs.declared.answer.Check.{Check}
use Rattle.channels.specs.Copies.{check_answer, extract_answer, extract_after}
use Rattle.channels.specs.declared.Copied.{Copied}
use Rattle.joining.specs.Joining.{join_answer, join_after}
use Rattle.block_reader.specs.Reading as block_read
use Rattle.block_reader.specs.declared.Block.{Block}
use Rattle.block_writer.specs.Writing as block_written
use Rattle.block_writer.specs.declared.Records.{Records}
use Rattle.listing.specs.Listing as listing
use Rattle.listing.specs.Listing.{Listing}

-- after a call that may write into one lent slice: its answer, and the slice
pub record Wrote (A : Type 0) : Type 0 where
  pub answer : A
  pub out : List ℕ

-- after a call that may write into lent numbers and lent bytes
pub record Read (A : Type 0) : Type 0 where
  pub answer : A
  pub codes : List ℕ
  pub tail : List ℕ

-- ---- the prefix byte, as 01's number and values

abbrev pub read_prefix : List ℕ → prefix.PrefixReading
read_prefix src = prefix.reading_of (prefix.prefix_of src)

abbrev pub write_prefix : ℕ → prefix.PrefixWriting
write_prefix mode = prefix.writing_of (prefix.byte_of mode)

-- ---- a frame

abbrev pub read : List ℕ → List ℕ → List ℕ → Read Reading
read src codes tail =
    let a = frame.read_answer src (length codes) (length tail) in
    record { answer = frame.reading_of a; codes = frame.codes_after codes a; tail = frame.tail_after tail a }

abbrev pub write : Record → List ℕ → List ℕ → List ℕ → Wrote Writing
write r codes tail out =
    let reply = writer.write_reply r codes tail (length out) in
    record { answer = writer.writing_of reply r.mode; out = writer.out_after reply r codes tail out }

abbrev pub write_empty : List ℕ → Wrote Writing
write_empty out = record { answer = empty_reply (length out); out = empty_after out }

abbrev pub layout : Record → List ℕ → Parts
layout r codes = layout_of r codes

abbrev pub choose_flag_c : Record → List ℕ → Choice
choose_flag_c r codes = flag_c r codes

-- ---- norms and bits

abbrev pub choose_flag_n : Bool → List ℕ → Choice
choose_flag_n transient norms = flag_n transient norms

abbrev pub legalise : Bool → List ℕ → Legal
legalise transient norms = legalised transient norms

abbrev pub weigh : Bool → List ℕ → Weights
weigh transient norms = weighed transient norms

abbrev pub allot : Bool → Bool → List ℕ → ℕ → Shares
allot transient wide norms budget = shares_of transient wide norms budget

-- ---- points

abbrev pub lattice_point : ℕ → List ℕ → Point
lattice_point rate index = point_of rate index

abbrev pub lattice_index : ℕ → List ℤ → Index
lattice_index rate point = index_of rate point

abbrev pub codebook_point : ℕ → ℕ → Point
codebook_point rate index = row_point rate index

abbrev pub codebook_index : ℕ → List ℤ → Row
codebook_index rate point = row_index rate point

-- ---- recordings

abbrev pub check : List ℕ → ℕ → Check
check src booking = check_of src booking

abbrev pub list : List ℕ → List ℕ → Wrote Listing
list src out = record { answer = listing.listed_in src (length out); out = listing.out_after src out }

-- ---- several channels

abbrev pub check_blocks : List ℕ → ℕ → ℕ → Check
check_blocks src channels booking = check_answer src channels booking

abbrev pub extract : List ℕ → ℕ → ℕ → List ℕ → Wrote Copied
extract src channels channel out =
    record { answer = extract_answer src channels channel (length out); out = extract_after src channels channel out }

abbrev pub join : List ℕ → List ℕ → List ℕ → Wrote Copied
join src lengths out = record { answer = join_answer src lengths (length out); out = join_after src lengths out }

abbrev pub read_block : List ℕ → ℕ → List ℕ → List ℕ → Read Block
read_block src channels codes tails =
    let reply = block_read.block_reply src channels (length codes) (length tails) in
    record {
      answer = block_read.block_answer reply src channels;
      codes = block_read.codes_after reply src channels codes;
      tail = block_read.tails_after reply src channels tails;
    }

abbrev pub write_block : Records → ℕ → List ℕ → List ℕ → List ℕ → Wrote Writing
write_block records channels codes tails out =
    let reply = block_written.block_reply records channels codes tails (length out) in
    record {
      answer = block_written.block_answer reply records channels codes tails;
      out = block_written.out_after reply records channels codes tails out;
    }
