-- The numbers that each call can answer.
-- Assumes nothing.
use mathlib.Core.Path.{◌≡◌, refl, sym, ap, subst, ◌∙◌}
use mathlib.Core.Bool.{Bool, true, false, ◌&&◌}
use mathlib.Core.List.{List, [], ◌∷◌, ◌++◌, map}
use mathlib.Core.Option.{Option, some, none}
use Prim.Native.Nat.{ℕ, suc, ◌-◌, ◌^◌}
use lib.Dec.{eqb, ltb, leb}
use lib.IntN.{ℤ}
use lib.ListN.{length}
use Rattle.ground.proofs.Laws.Cases.{by_bool}
use Rattle.ground.specs.Indices.{in_range}
use Rattle.ground.specs.Refusals.{among, OneOf}
use Rattle.ground.proofs.Laws.Refusals.{first_number}
use Rattle.bits.specs.Bits.{view}
use Rattle.bits.specs.Codings.{Coding, fixed, prefix, Answer, got, no, or_else, find, strip, keep, below as below_in, whole, unword}
use Rattle.bits.specs.Codecs.{read_all}
use Rattle.words.specs.Tables.{coding}
use Rattle.words.specs.Answers.{placed, word_at, number_of}
use Rattle.runs.specs.Runs.{run_at, ran, passed_up, run_reply}
use Rattle.runs.proofs.Laws.Runs.{placed_no, stops_behind, run_done}
use Rattle.std.proofs.lemmas.List.{map-append}
use Rattle.std.specs.Prelude.{Result, Ok, Err}
use Rattle.bits.specs.declared.Refusal.{Refusal}
use Rattle.ground.specs.declared.replies.Reply.{Reply}
use Rattle.words.specs.declared.Word.{Word}
use Rattle.prefix.specs.Prefix.{prefix_of, byte_of, reading_of as prefix_reading, writing_of as prefix_writing}
use Rattle.prefix.specs.declared.Prefix.{Prefix}
use Rattle.prefix.specs.declared.Prefix.TheVariants.{Data, NoData, NoByte, Marked, Reserved}
use Rattle.norms.specs.Answers.{norm_causes, norm_reply, choice_of as flag_n}
use Rattle.legal.specs.Answers.{legalised}
use Rattle.norms.specs.Answers.{Choice}
use Rattle.legal.specs.declared.Legal.{Legal}
use Rattle.weights.specs.Weights.{weighed}
use Rattle.weights.specs.declared.Weights.{Weights}
use Rattle.allotment.specs.Allotment.{shares_of}
use Rattle.allotment.specs.declared.Shares.{Shares}
use Rattle.lattice.specs.Lattice.{back}
use Rattle.points.specs.Answers.{owns, below, agree, point_of, index_of}
use Rattle.points.specs.declared.Point.{Point}
use Rattle.points.specs.declared.Index.{Index}
use Rattle.codebook.specs.Codebook.{eight, book, place_of, row_point, row_index}
use Rattle.codebook.specs.declared.Row.{Row}
use Rattle.frame.specs.Answers.{Outcome, read_answer, reading_of}
use Rattle.frame.specs.declared.Record.{Record}
use Rattle.writer.specs.Empty.{empty_reply}
use Rattle.layout.specs.Parts.{start_causes, code_causes, layout_causes, layout_of}
use Rattle.layout.proofs.Laws.Parts.{layout_reply}
use Rattle.writer.specs.Writes.{room_causes, tail_causes, write_causes, write_reply}
use Rattle.choice.specs.Choice.{choice_causes, choice_reply, choice_of as flag_c}
use Rattle.writer.specs.declared.Writing.{Writing as Written}
use Rattle.listing.specs.Listing.{Listing, listed_in}
use Rattle.recording.specs.Walk.{check_of}
use Rattle.recording.proofs.Laws.Checked.{check_replies}
use Rattle.recording.proofs.Laws.Frames.{frame_unit}
use Rattle.recording.specs.Blocks.{is_count, check_blocks}
use Rattle.recording.proofs.Laws.Blocks.{block_unit, counted}
use Rattle.frames.specs.Rooms.{room_causes as block_rooms}
use Rattle.block_reader.specs.Reading as block_read
use Rattle.block_writer.specs.Writing as block_written
use Rattle.block_writer.specs.declared.Records.{Records}
use Rattle.block_writer.proofs.Laws.ReplyNumbers.{read_numbers, write_numbers}
use Rattle.channels.specs.Copies.{check_answer, extract_answer}
use Rattle.joining.specs.Joining.{join_answer}
use Rattle.channels.specs.declared.Copied.{Copied}
use Rattle.block_reader.specs.declared.Block.{Block}
use Rattle.promises.proofs.Laws.Readings.{each_reading}
use Rattle.promises.proofs.Laws.Picked.{picked}
use Rattle.promises.specs.Demand1.{Numbered}
use Rattle.channels.specs.Copies.{stopped_copy}
use Rattle.recording.specs.declared.answer.Check.{Check}
use Rattle.promises.proofs.Laws.OneOf.{each_of}
use Rattle.promises.proofs.Laws.WalkNumbers.{walking, checking, check_number}
use Rattle.promises.proofs.Laws.Copies.{each_extract, each_join}

-- ---- reading a frame: 0, 1, 2, 3, 4, 5, 6, 7, 10, 14

abbrev reading : List ℕ
reading = 0 ∷ 1 ∷ 2 ∷ 3 ∷ 4 ∷ 5 ∷ 6 ∷ 7 ∷ 10 ∷ 14 ∷ []

abbrev Reads : Outcome → Type 0
Reads o = OneOf reading (reading_of o).reply

pub read_number : (src : List ℕ) (codes tail : ℕ) → OneOf reading (reading_of (read_answer src codes tail)).reply
unfolding among
read_number = each_reading Reads tt tt tt tt tt tt tt tt tt (λ mode x. tt)

-- ---- writing a frame: 0, 7, 8, 9, 10, 12, 13

abbrev writing : List ℕ
writing = 0 ∷ 7 ∷ 8 ∷ 9 ∷ 10 ∷ 12 ∷ 13 ∷ []

pub write_number : (r : Record) (codes tail : List ℕ) (room : ℕ) → OneOf writing (write_reply r codes tail room)
unfolding among write_causes room_causes norm_causes code_causes tail_causes
write_number r codes tail room = first_number (among writing) (write_causes r codes tail room) tt tt

-- ---- an empty frame: 0, 10

pub empty_number : (room : ℕ) → OneOf (0 ∷ 10 ∷ []) (empty_reply room).reply
unfolding among empty_reply
empty_number room = picked (λ (w : Written). OneOf (0 ∷ 10 ∷ []) w.reply) (eqb room 0) _ _ tt tt

-- ---- the choices: FlagN 0, 8, 9; FlagC 0, 8, 9, 10, 12

pub flag_n_number : (transient : Bool) (norms : List ℕ) → OneOf (0 ∷ 8 ∷ 9 ∷ []) (flag_n transient norms).reply
unfolding among flag_n norm_causes
flag_n_number transient norms =
    picked (λ (c : Choice). OneOf (0 ∷ 8 ∷ 9 ∷ []) c.reply) (eqb (norm_reply transient norms) 0) _ _ tt
    (first_number (among (0 ∷ 8 ∷ 9 ∷ [])) (norm_causes transient norms) tt tt)

abbrev choosing : List ℕ
choosing = 0 ∷ 8 ∷ 9 ∷ 10 ∷ 12 ∷ []

pub flag_c_number : (r : Record) (codes : List ℕ) → OneOf choosing (flag_c r codes).reply
unfolding among flag_c choice_causes start_causes norm_causes
flag_c_number r codes =
    picked (λ (c : Choice). OneOf choosing c.reply) (eqb (choice_reply r codes) 0) _ _ tt (first_number (among choosing) (choice_causes r codes) tt tt)

-- ---- the layout of a record: 0, 7, 8, 9, 10, 12

pub layout_number : (r : Record) (codes : List ℕ) → OneOf (0 ∷ 7 ∷ 8 ∷ 9 ∷ 10 ∷ 12 ∷ []) (layout_of r codes).reply
unfolding among layout_causes start_causes norm_causes code_causes
layout_number r codes =
    subst (OneOf (0 ∷ 7 ∷ 8 ∷ 9 ∷ 10 ∷ 12 ∷ [])) (sym (layout_reply r codes))
    (first_number (among (0 ∷ 7 ∷ 8 ∷ 9 ∷ 10 ∷ 12 ∷ [])) (layout_causes r codes) tt tt)

-- ---- a recording: 0, 2, 3, 4, 5, 6, 7, 11, 15

pub check_file_number : (src : List ℕ) (booking : ℕ) → OneOf checking (check_of src booking).reply
check_file_number src booking = check_number (check_of src booking).reply (check_replies frame_unit src booking)

-- ---- blocks of several channels: reading 0–7, 10, 17; writing 0, 7, 8, 9, 10, 12, 13, 17; the check as of a recording, and 17

pub read_block_number : (src : List ℕ) (channels codes tails : ℕ)
    → OneOf (0 ∷ 1 ∷ 2 ∷ 3 ∷ 4 ∷ 5 ∷ 6 ∷ 7 ∷ 10 ∷ 17 ∷ []) (block_read.block_reply src channels codes tails)
unfolding among block_rooms
read_block_number src channels codes tails = read_numbers (among (0 ∷ 1 ∷ 2 ∷ 3 ∷ 4 ∷ 5 ∷ 6 ∷ 7 ∷ 10 ∷ 17 ∷ [])) tt src channels codes tails tt

pub write_block_number : (r : Records) (channels : ℕ) (codes tails : List ℕ) (room : ℕ)
    → OneOf (0 ∷ 7 ∷ 8 ∷ 9 ∷ 10 ∷ 12 ∷ 13 ∷ 17 ∷ []) (block_written.block_reply r channels codes tails room)
unfolding among block_rooms write_causes room_causes norm_causes code_causes tail_causes
write_block_number r channels codes tails room =
    write_numbers (among (0 ∷ 7 ∷ 8 ∷ 9 ∷ 10 ∷ 12 ∷ 13 ∷ 17 ∷ [])) r channels codes tails room tt tt (λ r cs ts. tt) tt

abbrev block_checking : List ℕ
block_checking = 0 ∷ 2 ∷ 3 ∷ 4 ∷ 5 ∷ 6 ∷ 7 ∷ 11 ∷ 15 ∷ 17 ∷ []

pub check_blocks_number : (src : List ℕ) (channels booking : ℕ) → OneOf block_checking (check_answer src channels booking).reply
unfolding among check_answer
check_blocks_number src channels booking =
    by_bool (is_count channels)
    (λ t. rw t (each_of (among block_checking) checking tt (check_blocks channels src booking).reply
    (check_number (check_blocks channels src booking).reply (check_replies (block_unit channels (counted channels t).0) src booking))))
    (λ t. rw t tt)

-- ---- a channel taken out, recordings joined: 0, 2 to 7, 10, 15, 17

abbrev copying : List ℕ
copying = 0 ∷ 2 ∷ 3 ∷ 4 ∷ 5 ∷ 6 ∷ 7 ∷ 10 ∷ 15 ∷ 17 ∷ []

abbrev Copies : Copied → Type 0
Copies c = OneOf copying c.reply

own_number : (w : Check) (which : ℕ) → OneOf walking w.reply → Copies (stopped_copy w which)
unfolding among
own_number w which = each_of (among copying) walking tt w.reply

pub extract_number : (src : List ℕ) (channels channel room : ℕ) → OneOf copying (extract_answer src channels channel room).reply
unfolding among
extract_number = each_extract Copies tt tt own_number (λ count place bytes. tt)

pub join_number : (src lengths : List ℕ) (room : ℕ) → OneOf copying (join_answer src lengths room).reply
unfolding among
join_number = each_join Copies tt tt own_number (λ count place bytes. tt)

-- ---- a listing: 0, 10

pub list_number : (src : List ℕ) (room : ℕ) → OneOf (0 ∷ 10 ∷ []) (listed_in src room).reply
unfolding among listed_in
list_number src room = picked (λ (l : Listing). OneOf (0 ∷ 10 ∷ []) l.reply) (ltb room 33030) _ _ tt tt

-- ---- the prefix byte: read 0, 1, 2, 3, 14; written 0, 8

pub prefix_number : (p : Prefix) → OneOf (0 ∷ 1 ∷ 2 ∷ 3 ∷ 14 ∷ []) (prefix_reading p).reply
unfolding among
prefix_number (Data l) = tt
prefix_number NoData = tt
prefix_number NoByte = tt
prefix_number Marked = tt
prefix_number Reserved = tt

pub byte_number : (mode : ℕ) → OneOf (0 ∷ 8 ∷ []) (prefix_writing (byte_of mode)).reply
unfolding among byte_of
byte_number mode = picked (λ (b : Result ℕ Reply). OneOf (0 ∷ 8 ∷ []) (prefix_writing b).reply) (ltb mode 20) _ _ tt tt

-- ---- a decoded word is a number with its next place (0), or a refusal: 6, 7

abbrev decoding : List ℕ
decoding = 0 ∷ 6 ∷ 7 ∷ []

abbrev Decodes : Answer ℕ → Type 0
Decodes a = (at left : ℕ) → OneOf decoding (number_of (placed at left a))

else_number : (o : Option (List Bool)) (k : ℕ) (g : Answer ℕ) → Decodes g → Decodes (or_else o k g)
unfolding among
else_number (some r) k g d = λ at left. tt
else_number none k g d = d

find_number : (t : List (List Bool)) (k : ℕ) (b : List Bool) → Decodes (find t k b)
unfolding among find
find_number [] k b = λ at left. tt
find_number (w ∷ t) k b = else_number (strip w b) k (find t (suc k) b) (find_number t (suc k) b)

keep_number : (b : Bool) (g : Answer ℕ) → Decodes g → Decodes (keep b g)
unfolding among
keep_number true g d = d
keep_number false g d = λ at left. tt

whole_number : (t : Bool) (n : ℕ) (b : List Bool) → Decodes (whole t n b)
unfolding among
whole_number true n b at left = tt
whole_number false n b at left = tt

below_number : (k : ℕ) (a : Answer ℕ) → Decodes a → Decodes (below_in k a)
below_number k (got v r) d = keep_number (ltb v k) (got v r) d
below_number k (no x) d = d

unword_number : (c : Coding) (b : List Bool) → Decodes (unword c b)
unfolding unword
unword_number (fixed n) b = whole_number (leb n (length b)) n b
unword_number (prefix t u) b = below_number (length t) (find (t ++ u) 0 b) (find_number (t ++ u) 0 b)

pub word_number : (s : List ℕ) (at end kind : ℕ) → OneOf decoding (number_of (word_at s at end kind))
unfolding word_at
word_number s at end kind = unword_number (coding kind) (view s at (end - at)) at (end - at)

-- and a run of words passes the refusal up with its number
pub word_passed : (w : Result Word Refusal) → run_reply (passed_up w) ≡ number_of w
word_passed (Ok w) = refl
word_passed (Err x) = refl

pub run_refused : (s : List ℕ) (at end kind : ℕ) (kinds : List ℕ) (x : Refusal) → Err x ≡ word_at s at end kind
    → ran at (end - at) (run_at s at end (kind ∷ kinds)) ≡ Err x
unfolding word_at run_at read_all
run_refused s at end kind kinds x e = go (unword (coding kind) (view s at (end - at))) refl e
  where
    go : (g : Answer ℕ) → unword (coding kind) (view s at (end - at)) ≡ g → Err x ≡ placed at (end - at) g
        → ran at (end - at) (read_all (map coding (kind ∷ kinds)) (view s at (end - at))) ≡ Err x
    go (got v r) q d = absurd (cc)
    go (no y) q d = let z : y ≡ x = cc in rw q (ap Err z)

pub run_stopped : (s : List ℕ) (at end p kind : ℕ) (before after : List ℕ) (x : Refusal) → Ok p ≡ ran at (end - at) (run_at s at end before)
    → Err x ≡ word_at s p end kind
    → (ran at (end - at) (run_at s at end (before ++ (kind ∷ after))) ≡ Err x)
    × (run_reply (ran at (end - at) (run_at s at end (before ++ (kind ∷ after)))) ≡ number_of (word_at s p end kind))
unfolding run_at word_at
run_stopped s at end p kind before after x d e =
    let (vs, g, n₁, n₂, n₃, n₄) = run_done s at end before [] p d in
    let n = placed_no p (end - p) (unword (coding kind) (view s p (end - p))) x e in
    let z = stops_behind (map coding before) (coding kind) (map coding after) (view s at (end - at)) vs (view s p (end - p)) x g n in
    let stop : ran at (end - at) (read_all (map coding (before ++ (kind ∷ after))) (view s at (end - at))) ≡ Err x =
    rw (map-append coding before (kind ∷ after), z) refl in
    (stop, ap run_reply stop ∙ ap number_of e)

-- ---- norms, weights, shares and points: 0, 8

abbrev two : List ℕ
two = 0 ∷ 8 ∷ []

pub legal_number : (transient : Bool) (norms : List ℕ) → OneOf two (legalised transient norms).reply
unfolding among legalised
legal_number transient norms = picked (λ (a : Legal). OneOf two a.reply) (in_range norms 44) _ _ tt tt

pub weigh_number : (transient : Bool) (norms : List ℕ) → OneOf two (weighed transient norms).reply
unfolding among weighed
weigh_number transient norms = picked (λ (a : Weights). OneOf two a.reply) (in_range norms 44) _ _ tt tt

pub allot_number : (transient wide : Bool) (norms : List ℕ) (budget : ℕ) → OneOf two (shares_of transient wide norms budget).reply
unfolding among shares_of
allot_number transient wide norms budget = picked (λ (a : Shares). OneOf two a.reply) (in_range norms 44 && leb budget 2560) _ _ tt tt

pub point_number : (rate : ℕ) (index : List ℕ) → OneOf two (point_of rate index).reply
unfolding among point_of
point_number rate index = picked (λ (a : Point). OneOf two a.reply) (owns rate && below (2 ^ rate) index 8) _ _ tt tt

pub index_number : (rate : ℕ) (point : List ℤ) → OneOf two (index_of rate point).reply
unfolding among index_of
index_number rate point =
    picked (λ (a : Index). OneOf two a.reply) (owns rate && agree (Rattle.lattice.specs.Lattice.point (2 ^ rate) (back (2 ^ rate) point)) point 8) _ _ tt tt

pub row_point_number : (rate index : ℕ) → OneOf two (row_point rate index).reply
unfolding among row_point
row_point_number rate index = picked (λ (a : Point). OneOf two a.reply) (eqb rate 1 && ltb index 256) _ _ tt tt

pub row_index_number : (rate : ℕ) (point : List ℤ) → OneOf two (row_index rate point).reply
unfolding among row_index
row_index_number rate point = picked (λ (a : Row). OneOf two a.reply) (eqb rate 1 && ltb (place_of (eight point) book) 256) _ _ tt tt

-- ---- all calls

pub numbered : Numbered
unfolding among
numbered =
    record {
      read_prefix = λ src. prefix_number (prefix_of src);
      write_prefix = λ mode. byte_number mode;
      read = λ src codes tail. read_number src (length codes) (length tail);
      write =
          λ r codes tail out.
          picked (λ (w : Written). OneOf writing w.reply) (eqb (write_reply r codes tail (length out)) 0) _ _ tt (write_number r codes tail (length out));
      write_empty = λ out. empty_number (length out);
      layout = layout_number;
      choose_flag_c = flag_c_number;
      choose_flag_n = flag_n_number;
      legalise = legal_number;
      weigh = weigh_number;
      allot = allot_number;
      lattice_point = point_number;
      lattice_index = index_number;
      codebook_point = row_point_number;
      codebook_index = row_index_number;
      check = check_file_number;
      list = λ src out. list_number src (length out);
      check_blocks = check_blocks_number;
      extract = λ src channels channel out. extract_number src channels channel (length out);
      join = λ src lengths out. join_number src lengths (length out);
      read_block =
          λ src channels codes tails.
          picked (λ (b : Block). OneOf (0 ∷ 1 ∷ 2 ∷ 3 ∷ 4 ∷ 5 ∷ 6 ∷ 7 ∷ 10 ∷ 17 ∷ []) b.reply)
          (eqb (block_read.block_reply src channels (length codes) (length tails)) 0) _ _ tt (read_block_number src channels (length codes) (length tails));
      write_block =
          λ r channels codes tails out.
          picked (λ (w : Written). OneOf (0 ∷ 7 ∷ 8 ∷ 9 ∷ 10 ∷ 12 ∷ 13 ∷ 17 ∷ []) w.reply)
          (eqb (block_written.block_reply r channels codes tails (length out)) 0) _ _ tt (write_block_number r channels codes tails (length out));
      word = word_number;
      run = word_passed;
      run_refused = run_refused;
      run_stopped = run_stopped;
    }
