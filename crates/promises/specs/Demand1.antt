-- Demand 1. "No input makes it fault. Every public call takes any bytes and numbers and gives a numbered answer; a refused call leaves lent buffers
-- exactly as they were." That no call faults is what the proof of each function says, and no public call asks anything of its caller. Here is the rest.
-- The calls stand in Calls; `OneOf xs n` says that n is one of xs.
-- Assumes nothing.
use Rattle.std.specs.Prelude.{◌≡◌, Bool, false, cond, List, [], ◌∷◌, ◌++◌, ℕ, ◌-◌, ◌<◌, eqb, ℤ, pos, replicate}
use Rattle.ground.specs.Refusals.{OneOf}
use Rattle.ground.specs.Replies.{done, no_data, wrong_channels}
use Rattle.words.specs.Answers.{word_at, number_of}
use Rattle.std.specs.Prelude.{Result, Ok, Err}
use Rattle.bits.specs.declared.Refusal.{Refusal}
use Rattle.words.specs.declared.Word.{Word}
use Rattle.runs.specs.Runs.{run_at, ran, passed_up, run_reply}
use Rattle.frame.specs.Answers.{no_record, stopped_at}
use Rattle.frame.specs.declared.Record.{Record}
use Rattle.block_writer.specs.declared.Records.{Records}
use Rattle.channels.specs.Copies.{refused_copy}
use Rattle.promises.specs.Calls as call

-- ---- "… gives a numbered answer": the numbers of 01's table that each call can answer, and no other

pub record Numbered : Type 0 where
  pub read_prefix : (src : List ℕ) → OneOf (0 ∷ 1 ∷ 2 ∷ 3 ∷ 14 ∷ []) (call.read_prefix src).reply
  pub write_prefix : (mode : ℕ) → OneOf (0 ∷ 8 ∷ []) (call.write_prefix mode).reply
  pub read : (src codes tail : List ℕ) → OneOf (0 ∷ 1 ∷ 2 ∷ 3 ∷ 4 ∷ 5 ∷ 6 ∷ 7 ∷ 10 ∷ 14 ∷ []) (call.read src codes tail).answer.reply
  pub write : (r : Record) (codes tail out : List ℕ) → OneOf (0 ∷ 7 ∷ 8 ∷ 9 ∷ 10 ∷ 12 ∷ 13 ∷ []) (call.write r codes tail out).answer.reply
  pub write_empty : (out : List ℕ) → OneOf (0 ∷ 10 ∷ []) (call.write_empty out).answer.reply
  pub layout : (r : Record) (codes : List ℕ) → OneOf (0 ∷ 7 ∷ 8 ∷ 9 ∷ 10 ∷ 12 ∷ []) (call.layout r codes).reply
  pub choose_flag_c : (r : Record) (codes : List ℕ) → OneOf (0 ∷ 8 ∷ 9 ∷ 10 ∷ 12 ∷ []) (call.choose_flag_c r codes).reply
  pub choose_flag_n : (transient : Bool) (norms : List ℕ) → OneOf (0 ∷ 8 ∷ 9 ∷ []) (call.choose_flag_n transient norms).reply
  pub legalise : (transient : Bool) (norms : List ℕ) → OneOf (0 ∷ 8 ∷ []) (call.legalise transient norms).reply
  pub weigh : (transient : Bool) (norms : List ℕ) → OneOf (0 ∷ 8 ∷ []) (call.weigh transient norms).reply
  pub allot : (transient wide : Bool) (norms : List ℕ) (budget : ℕ) → OneOf (0 ∷ 8 ∷ []) (call.allot transient wide norms budget).reply
  pub lattice_point : (rate : ℕ) (index : List ℕ) → OneOf (0 ∷ 8 ∷ []) (call.lattice_point rate index).reply
  pub lattice_index : (rate : ℕ) (point : List ℤ) → OneOf (0 ∷ 8 ∷ []) (call.lattice_index rate point).reply
  pub codebook_point : (rate index : ℕ) → OneOf (0 ∷ 8 ∷ []) (call.codebook_point rate index).reply
  pub codebook_index : (rate : ℕ) (point : List ℤ) → OneOf (0 ∷ 8 ∷ []) (call.codebook_index rate point).reply
  pub check : (src : List ℕ) (booking : ℕ) → OneOf (0 ∷ 2 ∷ 3 ∷ 4 ∷ 5 ∷ 6 ∷ 7 ∷ 11 ∷ 15 ∷ []) (call.check src booking).reply
  pub list : (src out : List ℕ) → OneOf (0 ∷ 10 ∷ []) (call.list src out).answer.reply
  pub check_blocks : (src : List ℕ) (channels booking : ℕ)
      → OneOf (0 ∷ 2 ∷ 3 ∷ 4 ∷ 5 ∷ 6 ∷ 7 ∷ 11 ∷ 15 ∷ 17 ∷ []) (call.check_blocks src channels booking).reply
  pub extract : (src : List ℕ) (channels channel : ℕ) (out : List ℕ)
      → OneOf (0 ∷ 2 ∷ 3 ∷ 4 ∷ 5 ∷ 6 ∷ 7 ∷ 10 ∷ 15 ∷ 17 ∷ []) (call.extract src channels channel out).answer.reply
  pub join : (src lengths out : List ℕ) → OneOf (0 ∷ 2 ∷ 3 ∷ 4 ∷ 5 ∷ 6 ∷ 7 ∷ 10 ∷ 15 ∷ 17 ∷ []) (call.join src lengths out).answer.reply
  pub read_block : (src : List ℕ) (channels : ℕ) (codes tails : List ℕ)
      → OneOf (0 ∷ 1 ∷ 2 ∷ 3 ∷ 4 ∷ 5 ∷ 6 ∷ 7 ∷ 10 ∷ 17 ∷ []) (call.read_block src channels codes tails).answer.reply
  pub write_block : (records : Records) (channels : ℕ) (codes tails out : List ℕ)
      → OneOf (0 ∷ 7 ∷ 8 ∷ 9 ∷ 10 ∷ 12 ∷ 13 ∷ 17 ∷ []) (call.write_block records channels codes tails out).answer.reply
  -- "A decoded word is a number with its next place, or a refusal": 6 or 7, and a run of words passes that number up
  pub word : (s : List ℕ) (at end kind : ℕ) → OneOf (0 ∷ 6 ∷ 7 ∷ []) (number_of (word_at s at end kind))
  pub run : (w : Result Word Refusal) → run_reply (passed_up w) ≡ number_of w
  -- a run whose first word is refused is refused as that word is, whatever words would follow
  pub run_refused : (s : List ℕ) (at end kind : ℕ) (kinds : List ℕ) (x : Refusal) → Err x ≡ word_at s at end kind
      → ran at (end - at) (run_at s at end (kind ∷ kinds)) ≡ Err x
  -- and so is one whose words before that one are read, to the place p: the run's number is the word's
  pub run_stopped : (s : List ℕ) (at end p kind : ℕ) (before after : List ℕ) (x : Refusal) → Ok p ≡ ran at (end - at) (run_at s at end before)
      → Err x ≡ word_at s p end kind → let r = ran at (end - at) (run_at s at end (before ++ (kind ∷ after))) in
      (r ≡ Err x) × (run_reply r ≡ number_of (word_at s p end kind))

-- ---- "… a refused call leaves lent buffers exactly as they were": every reply but 0, 14 too

abbrev pub Refused : ℕ → Type 0
Refused reply = reply ≡ done → ⊥

pub record Untouched : Type 0 where
  pub read : (src codes tail : List ℕ) → let c = call.read src codes tail in Refused c.answer.reply → (c.codes ≡ codes) × (c.tail ≡ tail)
  pub write : (r : Record) (codes tail out : List ℕ) → let c = call.write r codes tail out in Refused c.answer.reply → c.out ≡ out
  pub write_empty : (out : List ℕ) → let c = call.write_empty out in Refused c.answer.reply → c.out ≡ out
  pub list : (src out : List ℕ) → let c = call.list src out in Refused c.answer.reply → c.out ≡ out
  pub extract : (src : List ℕ) (channels channel : ℕ) (out : List ℕ) → let c = call.extract src channels channel out in
      Refused c.answer.reply → c.out ≡ out
  pub join : (src lengths out : List ℕ) → let c = call.join src lengths out in Refused c.answer.reply → c.out ≡ out
  pub read_block : (src : List ℕ) (channels : ℕ) (codes tails : List ℕ) → let c = call.read_block src channels codes tails in Refused c.answer.reply
      → (c.codes ≡ codes) × (c.tail ≡ tails)
  pub write_block : (records : Records) (channels : ℕ) (codes tails out : List ℕ) → let c = call.write_block records channels codes tails out in
      Refused c.answer.reply → c.out ≡ out

-- ---- 01: "all result fields are 0 save the number, for 14 the place, and for the file check its count of sound frames and its place"

-- the next place that comes with a number other than 0
abbrev pub place_on : ℕ → ℕ
place_on reply = cond (eqb reply no_data) 1 0

pub record Zeros : Type 0 where
  pub read_prefix : (src : List ℕ) → let a = call.read_prefix src in Refused a.reply
      → a ≡ record { reply = a.reply; field = 0; bytes = 0; next = place_on a.reply }
  pub write_prefix : (mode : ℕ) → let a = call.write_prefix mode in Refused a.reply → a ≡ record { reply = a.reply; byte = 0 }
  -- no_record has 0 in each of its fields
  pub read : (src codes tail : List ℕ) → let a = (call.read src codes tail).answer in Refused a.reply
      → a ≡ record { reply = a.reply; next = place_on a.reply; «record» = no_record }
  pub write : (r : Record) (codes tail out : List ℕ) → let a = (call.write r codes tail out).answer in Refused a.reply
      → a ≡ record { reply = a.reply; next = 0 }
  pub write_empty : (out : List ℕ) → let a = (call.write_empty out).answer in Refused a.reply → a ≡ record { reply = a.reply; next = 0 }
  pub layout : (r : Record) (codes : List ℕ) → let a = call.layout r codes in Refused a.reply
      → a ≡ record { reply = a.reply; budget = 0; rates = replicate 44 0; code_bits = 0; tail_bits = 0 }
  pub choose_flag_c : (r : Record) (codes : List ℕ) → let a = call.choose_flag_c r codes in Refused a.reply → a ≡ record { reply = a.reply; flag = false }
  pub choose_flag_n : (transient : Bool) (norms : List ℕ) → let a = call.choose_flag_n transient norms in Refused a.reply
      → a ≡ record { reply = a.reply; flag = false }
  pub legalise : (transient : Bool) (norms : List ℕ) → let a = call.legalise transient norms in Refused a.reply
      → a ≡ record { reply = a.reply; norms = replicate 44 0 }
  pub weigh : (transient : Bool) (norms : List ℕ) → let a = call.weigh transient norms in Refused a.reply
      → a ≡ record { reply = a.reply; weights = replicate 44 0; scores = replicate 44 (pos 0) }
  pub allot : (transient wide : Bool) (norms : List ℕ) (budget : ℕ) → let a = call.allot transient wide norms budget in Refused a.reply
      → a ≡ record { reply = a.reply; rates = replicate 44 0; left = 0; rounds = 0 }
  pub lattice_point : (rate : ℕ) (index : List ℕ) → let a = call.lattice_point rate index in Refused a.reply
      → a ≡ record { reply = a.reply; at = replicate 8 (pos 0) }
  pub lattice_index : (rate : ℕ) (point : List ℤ) → let a = call.lattice_index rate point in Refused a.reply
      → a ≡ record { reply = a.reply; at = replicate 8 0 }
  pub codebook_point : (rate index : ℕ) → let a = call.codebook_point rate index in Refused a.reply
      → a ≡ record { reply = a.reply; at = replicate 8 (pos 0) }
  pub codebook_index : (rate : ℕ) (point : List ℤ) → let a = call.codebook_index rate point in Refused a.reply → a ≡ record { reply = a.reply; index = 0 }
  pub list : (src out : List ℕ) → let a = (call.list src out).answer in Refused a.reply → a ≡ record { reply = a.reply; length = 0 }
  pub read_block : (src : List ℕ) (channels : ℕ) (codes tails : List ℕ) → let a = (call.read_block src channels codes tails).answer in Refused a.reply
      → a ≡ record { reply = a.reply; next = 0; frames = replicate 8 (stopped_at 0 0) }
  pub write_block : (records : Records) (channels : ℕ) (codes tails out : List ℕ) → let a = (call.write_block records channels codes tails out).answer in
      Refused a.reply → a ≡ record { reply = a.reply; next = 0 }
  -- of several channels 17 and 10 have zeros beside them; any other number comes with the check's own count and place, and no bytes
  pub check_blocks : (src : List ℕ) (channels booking : ℕ) → let a = call.check_blocks src channels booking in a.reply ≡ wrong_channels
      → a ≡ record { reply = a.reply; count = 0; place = 0 }
  pub extract : (src : List ℕ) (channels channel : ℕ) (out : List ℕ) → let a = (call.extract src channels channel out).answer in
      (OneOf (10 ∷ 17 ∷ []) a.reply → a ≡ refused_copy a.reply) × (Refused a.reply → a.length ≡ 0)
  pub join : (src lengths out : List ℕ) → let a = (call.join src lengths out).answer in
      (OneOf (10 ∷ 17 ∷ []) a.reply → a ≡ refused_copy a.reply) × (Refused a.reply → a.length ≡ 0)
  -- the check tells its count and its place whatever its number: the booking does not change them
  pub check : (src : List ℕ) (booking other : ℕ)
      → ((call.check src booking).count ≡ (call.check src other).count) × ((call.check src booking).place ≡ (call.check src other).place)

-- ---- 01: "Only 0 and 14 give a next place"

pub record NextPlaces : Type 0 where
  pub read_prefix : (src : List ℕ) → let a = call.read_prefix src in 0 < a.next → OneOf (0 ∷ 14 ∷ []) a.reply
  pub read : (src codes tail : List ℕ) → let a = (call.read src codes tail).answer in 0 < a.next → OneOf (0 ∷ 14 ∷ []) a.reply

pub record Demand1 : Type 0 where
  pub numbered : Numbered
  pub untouched : Untouched
  pub zeros : Zeros
  pub places : NextPlaces
