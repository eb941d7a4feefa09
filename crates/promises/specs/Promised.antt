-- The contracts of the code, and that they leave nothing open (01, Nothing hollow). CALL.Post is what Rattle makes of the text of CALL's contract: the
-- claim that its proof shows, of what the call is given, its result, and what is lent at exit.
-- Assumes nothing.
use Rattle.std.specs.Prelude.{◌≡◌, Bool, List, ℕ, Result}
use Rattle.ground.specs.declared.replies.Reply.{Reply}
use Rattle.prefix.specs.Prefix.{prefix_of, byte_of}
use Rattle.prefix.proofs.read_prefix.Reads as read_prefix
use Rattle.prefix.proofs.write_prefix.Reads as write_prefix
use Rattle.norms.proofs.choose_flag_n.Reads as choose_flag_n
use Rattle.legal.proofs.legalise.Reads as legalise
use Rattle.weights.proofs.weigh.Reads as weigh
use Rattle.allotment.proofs.allot.Reads as allot
use Rattle.points.proofs.lattice_point.Reads as lattice_point
use Rattle.points.proofs.lattice_index.Reads as lattice_index
use Rattle.codebook.proofs.codebook_point.Reads as codebook_point
use Rattle.row_search.proofs.codebook_index.Reads as codebook_index
use Rattle.frame.proofs.read.Reads as read
use Rattle.layout.proofs.layout.Reads as layout
use Rattle.writer.proofs.write.Reads as write
use Rattle.writer.proofs.write_empty.Reads as write_empty
use Rattle.choice.proofs.choose_flag_c.Reads as choose_flag_c
use Rattle.recording.proofs.check.Reads as check
use Rattle.channels.proofs.check_blocks.Reads as check_blocks
use Rattle.channels.proofs.extract.Reads as extract
use Rattle.joining.proofs.join.Reads as join
use Rattle.block_reader.proofs.read_block.Reads as read_block
use Rattle.block_writer.proofs.write_block.Reads as write_block
use Rattle.listing.proofs.list.Reads as list
use Rattle.listing.specs.Listing.{answer_of}
use Rattle.norms.specs.Answers.{answered}
use Rattle.promises.specs.Calls as call
use Rattle.promises.specs.Calls.{Wrote, Read}

-- result and slice are those of Calls
abbrev pub Writes : {A : Type 0} → A → List ℕ → Wrote A → Type 0
Writes result out c = (result ≡ c.answer) × (out ≡ c.out)

abbrev pub Reads : {A : Type 0} → A → List ℕ → List ℕ → Read A → Type 0
Reads result codes tail c = (result ≡ c.answer) × (codes ≡ c.codes) × (tail ≡ c.tail)

-- whatever meets the contract of a call is what Calls says of it: no other result, no other bytes
pub record Contracts : Type 0 where
  pub of_read_prefix : (κs : _) (given : _) (r : _) (exit : _) → read_prefix.Post κs given r exit
      → r ≡ prefix_of given.0.now
  pub of_write_prefix : (κs : _) (given : _) (r : _) (exit : _) → write_prefix.Post κs given r exit
      → r ≡ byte_of given.0.0
  pub of_read : (κs : _) (given : _) (r : _) (exit : _) → read.Post κs given r exit
      → Reads r exit.1.0.now exit.1.1.0.now (call.read given.0.now given.1.0.now given.1.1.0.now)
  pub of_write : (κs : _) (given : _) (r : _) (exit : _) → write.Post κs given r exit
      → Writes r exit.1.1.1.0.now (call.write given.0 given.1.0.now given.1.1.0.now given.1.1.1.0.now)
  pub of_write_empty : (κs : _) (given : _) (r : _) (exit : _) → write_empty.Post κs given r exit
      → Writes r exit.0.now (call.write_empty given.0.now)
  pub of_layout : (κs : _) (given : _) (r : _) (exit : _) → layout.Post κs given r exit
      → r ≡ call.layout given.0 given.1.0.now
  pub of_choose_flag_c : (κs : _) (given : _) (r : _) (exit : _) → choose_flag_c.Post κs given r exit
      → answered r ≡ call.choose_flag_c given.0 given.1.0.now
  pub of_choose_flag_n : (κs : _) (given : _) (r : _) (exit : _) → choose_flag_n.Post κs given r exit
      → answered r ≡ call.choose_flag_n given.0 given.1.0
  pub of_legalise : (κs : _) (given : _) (r : _) (exit : _) → legalise.Post κs given r exit
      → r ≡ call.legalise given.0 given.1.0
  pub of_weigh : (κs : _) (given : _) (r : _) (exit : _) → weigh.Post κs given r exit
      → r ≡ call.weigh given.0 given.1.0
  pub of_allot : (κs : _) (given : _) (r : _) (exit : _) → allot.Post κs given r exit
      → r ≡ call.allot given.0 given.1.0 given.1.1.0 given.1.1.1.0
  pub of_lattice_point : (κs : _) (given : _) (r : _) (exit : _) → lattice_point.Post κs given r exit
      → r ≡ call.lattice_point given.0 given.1.0.now
  pub of_lattice_index : (κs : _) (given : _) (r : _) (exit : _) → lattice_index.Post κs given r exit
      → r ≡ call.lattice_index given.0 given.1.0.now
  pub of_codebook_point : (κs : _) (given : _) (r : _) (exit : _) → codebook_point.Post κs given r exit
      → r ≡ call.codebook_point given.0 given.1.0
  pub of_codebook_index : (κs : _) (given : _) (r : _) (exit : _) → codebook_index.Post κs given r exit
      → r ≡ call.codebook_index given.0 given.1.0.now
  pub of_check : (κs : _) (given : _) (r : _) (exit : _) → check.Post κs given r exit
      → r ≡ call.check given.0.now given.1.0
  pub of_list : (κs : _) (given : _) (r : _) (exit : _) → list.Post κs given r exit
      → Writes (answer_of r) exit.1.0.now (call.list given.0.now given.1.0.now)
  pub of_check_blocks : (κs : _) (given : _) (r : _) (exit : _) → check_blocks.Post κs given r exit
      → r ≡ call.check_blocks given.0.now given.1.0 given.1.1.0
  pub of_extract : (κs : _) (given : _) (r : _) (exit : _) → extract.Post κs given r exit
      → Writes r exit.1.1.1.0.now (call.extract given.0.now given.1.0 given.1.1.0 given.1.1.1.0.now)
  pub of_join : (κs : _) (given : _) (r : _) (exit : _) → join.Post κs given r exit
      → Writes r exit.1.1.0.now (call.join given.0.now given.1.0.now given.1.1.0.now)
  pub of_read_block : (κs : _) (given : _) (r : _) (exit : _) → read_block.Post κs given r exit
      → Reads r exit.1.1.0.now exit.1.1.1.0.now (call.read_block given.0.now given.1.0 given.1.1.0.now given.1.1.1.0.now)
  pub of_write_block : (κs : _) (given : _) (r : _) (exit : _) → write_block.Post κs given r exit
      → Writes r exit.1.1.1.1.0.now
      (call.write_block given.0 given.1.0 given.1.1.0.now given.1.1.1.0.now given.1.1.1.1.0.now)

-- "Two results that meet a promise are equal": a result alone, with one slice, with numbers and bytes
pub record Alike : Type 1 where
  pub answers : {A : Type 0} (c r s : A) → r ≡ c → s ≡ c → r ≡ s
  pub writes : {A : Type 0} (c : Wrote A) (r s : A) (o p : List ℕ) → Writes r o c → Writes s p c → (r ≡ s) × (o ≡ p)
  pub reads : {A : Type 0} (c : Read A) (r s : A) (k l t u : List ℕ) → Reads r k t c → Reads s l u c → (r ≡ s) × (k ≡ l) × (t ≡ u)
  -- where the answer is told by a definition over the result, results of one answer are one result
  pub choices : (r s : Result Bool Reply) → answered r ≡ answered s → r ≡ s
  pub listings : (r s : Result ℕ Reply) → answer_of r ≡ answer_of s → r ≡ s
