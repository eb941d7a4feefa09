-- Demand 2. "Reading and writing agree with JT-G719 and with the paper. Write back a frame that was read: its bytes return. Read a record that was
-- written: that record returns. At rates 2–9 lattice indices and points match one to one; any other point is refused."
-- `Bytes s` says that each number of s is below 256, as every byte of a caller is.
-- Assumes nothing.
use Rattle.std.specs.Prelude.{◌≡◌, false, true, List, ◌∷◌, ◌++◌, ℕ, ◌+◌, ◌-◌, ◌*◌, ◌≤◌, ◌<◌, ℤ, length, get_or, take, drop}
use Rattle.ground.specs.Replies.{done, no_word, past_budget}
use Rattle.bits.specs.Bits.{view, bits_of, bytes_of, Bytes}
use Rattle.prefix.specs.Sizes.{mode_bytes}
use Rattle.prefix.specs.Prefix.{byte_with, zero_r}
use Rattle.kinds.specs.Kinds.{kinds}
use Rattle.frame.specs.Layout.{Frame, frame}
use Rattle.frame.specs.Answers.{sound, read_answer}
use Rattle.frame.specs.declared.Record.{Record}
use Rattle.layout.specs.Parts.{kinds_for, budget_for}
use Rattle.writer.specs.Writes.{Roomy}
use Rattle.writer.specs.Bodies.{Passed}
use Rattle.tails.specs.Tails.{clear}
use Rattle.points.specs.Answers.{no_point, no_index}
use Rattle.points.specs.OneToOne as lattice
use Rattle.codebook.specs.Codebook.{no_row}
use Rattle.codebook.specs.OneToOne as codebook
use Rattle.promises.specs.Calls as call

-- ---- "Write back a frame that was read: its bytes return." R, which reading ignores, returns as 0

pub record RoundTrips : Type 0 where
  pub written_back : (src codes tail out : List ℕ) → Bytes src
      → let a = call.read src codes tail in a.answer.reply ≡ done → a.answer.next ≤ length out
      → let w = call.write a.answer.«record» a.codes a.tail out in
      (w.answer.reply ≡ done) × (w.out ≡ take a.answer.next (zero_r (get_or src 0 0) ∷ drop 1 src) ++ drop a.answer.next out)
  -- "Read a record that was written: that record returns", whatever stands behind it in the output, into any room that is enough
  pub read_back : (r : Record) (codes tail out : List ℕ) → length r.norms ≡ 44 → Bytes (take 320 tail)
      → let w = call.write r codes tail out in w.answer.reply ≡ done
      → (room spare : List ℕ) → 800 ≤ length room → 320 ≤ length spare
      → let a = call.read w.out room spare in
      (a.answer ≡ record { reply = done; next = mode_bytes r.mode + 1; «record» = r })
      × (a.codes ≡ take 800 codes ++ drop 800 room) × (a.tail ≡ take 320 tail ++ drop 320 spare)

-- ---- Nothing hollow: what obeys the rules is written and read

-- the record with another tail count
abbrev pub with_tail : ℕ → Record → Record
with_tail n r =
    record {
      mode = r.mode;
      transient = r.transient;
      flag_l = r.flag_l;
      flag_n = r.flag_n;
      flag_c = r.flag_c;
      norms = r.norms;
      noise = r.noise;
      tail_bits = n;
    }

pub record ByTheRules : Type 0 where
  -- 0 exactly for records by the rules. Passed (writer/specs/Bodies) lists them: mode, rooms, noise, norms, each code a word of its kind, Ψ kept, the
  -- tail's count and padding
  pub written_exactly : (r : Record) (codes tail out : List ℕ) → let w = call.write r codes tail out in
      (w.answer.reply ≡ done → Passed r codes tail (length out)) × (Passed r codes tail (length out) → w.answer.reply ≡ done)
  -- every frame by the rules is read as itself: as long as its mode says, behind its prefix byte with any R, before anything. The frame is the codec
  -- `frame` (frame/specs/Layout): flags, norms, codes, noise, tail
  pub read_exactly : (mode x : ℕ) (f : Frame) (rest : List ℕ) (codes tail : ℕ) → mode < 20 → x < 4 → (frame (mode_bytes mode * 8)).Ok f
      → length ((frame (mode_bytes mode * 8)).write f) ≡ mode_bytes mode * 8 → 800 ≤ codes → 320 ≤ tail
      → read_answer (byte_with 0 (mode + 8) x ∷ (bytes_of (mode_bytes mode) ((frame (mode_bytes mode * 8)).write f) ++ rest)) codes tail ≡ sound mode f
  -- the tail count that the layout gives is the one that is written, given room, noise that the kind of frame has, and a clear padding …
  pub layout_writes : (r : Record) (codes tail out : List ℕ) → let p = call.layout r codes in p.reply ≡ done
      → Roomy r (length codes) (length tail) (length out) → clear (view tail p.tail_bits (2560 - p.tail_bits)) ≡ true
      → (call.write (with_tail p.tail_bits r) codes tail out).answer.reply ≡ done
  -- … and no other: what is written is laid out, with its own tail count
  pub written_laid_out : (r : Record) (codes tail out : List ℕ) → (call.write r codes tail out).answer.reply ≡ done
      → let p = call.layout r codes in (p.reply ≡ done) × (p.tail_bits ≡ r.tail_bits) × (p.budget ≡ budget_for r)
  -- the rates of the layout are those by which the 800 places are read and written (kinds/specs/Kinds); codes and tail fill the budget
  pub layout_kinds : (r : Record) (codes : List ℕ) → let p = call.layout r codes in p.reply ≡ done
      → (kinds r.flag_c p.rates ≡ kinds_for r) × (p.code_bits + p.tail_bits ≡ p.budget)
  -- with FlagC 0 there is neither 6 nor 7 in reading, nor 7 in writing: the allotment keeps to Ψ
  pub plain_read : (src codes tail : List ℕ) → get_or (bits_of (drop 1 src)) 3 false ≡ false
      → let a = (call.read src codes tail).answer in (a.reply ≡ no_word → ⊥) × (a.reply ≡ past_budget → ⊥)
  pub plain_write : (r : Record) (codes tail out : List ℕ) → r.flag_c ≡ false → length r.norms ≡ 44
      → (call.write r codes tail out).answer.reply ≡ past_budget → ⊥

-- ---- "At rates 2–9 lattice indices and points match one to one; any other point is refused": OneToOne (points/specs), and by the 256 rows of the repaired
-- Table 18 at rate 1 (codebook/specs). At other rates both calls refuse everything

pub record Points : Type 0 where
  pub one_to_one : (rate : ℕ) → 2 ≤ rate → rate ≤ 9 → lattice.OneToOne rate
  pub other_rates : (rate : ℕ) → (2 ≤ rate → rate ≤ 9 → ⊥) → (k : List ℕ) (v : List ℤ)
      → (call.lattice_point rate k ≡ no_point) × (call.lattice_index rate v ≡ no_index)
  pub rows_one_to_one : codebook.OneToOne
  pub other_rates_than_1 : (rate : ℕ) → (rate ≡ 1 → ⊥) → (n : ℕ) (v : List ℤ)
      → (call.codebook_point rate n ≡ no_point) × (call.codebook_index rate v ≡ no_row)

pub record Demand2 : Type 0 where
  pub trips : RoundTrips
  pub rules : ByTheRules
  pub points : Points
