-- That each call is refused with its number alone, and leaves what was lent.
-- Assumes nothing.
use mathlib.Core.Path.{◌≡◌, refl, sym, ap, ◌∙◌}
use mathlib.Core.Bool.{Bool, false, cond, ◌&&◌}
use mathlib.Core.List.{List, [], ◌∷◌}
use Prim.Native.Nat.{ℕ, zero, suc, ◌^◌, ◌<◌}
use native.Mathlib.Omega.{arith}
use lib.Dec.{eqb, ltb, leb}
use lib.IntN.{ℤ, pos}
use lib.ListN.{length, replicate}
use borrow.Author.Tests.{ne_eqb, eqb-true}
use Rattle.ground.proofs.Laws.Cases.{by_bool}
use Rattle.ground.specs.ListsByRule.{from}
use Rattle.ground.specs.Indices.{in_range}
use Rattle.ground.specs.Replies.{done, wrong_channels}
use Rattle.prefix.specs.Prefix.{prefix_of, byte_of, reading_of as prefix_reading, writing_of as prefix_writing, PrefixReading}
use Rattle.prefix.specs.declared.Prefix.{Prefix}
use Rattle.prefix.specs.declared.Prefix.TheVariants.{Data, NoData, NoByte, Marked, Reserved}
use Rattle.std.specs.Prelude.{Result, Ok, Err}
use Rattle.ground.specs.declared.replies.Reply.{Reply}
use Rattle.norms.specs.Answers.{norm_reply, choice_of as flag_n}
use Rattle.norms.specs.Answers.{Choice}
use Rattle.legal.specs.Answers.{legalised}
use Rattle.legal.specs.declared.Legal.{Legal}
use Rattle.weights.specs.Weights.{weighed}
use Rattle.weights.specs.declared.Weights.{Weights}
use Rattle.allotment.specs.Allotment.{shares_of}
use Rattle.allotment.specs.declared.Shares.{Shares}
use Rattle.lattice.specs.Lattice as lattice
use Rattle.points.specs.Answers.{owns, below, agree, point_of, index_of}
use Rattle.points.specs.declared.Point.{Point}
use Rattle.points.specs.declared.Index.{Index}
use Rattle.codebook.specs.Codebook.{eight, book, place_of, row_point, row_index}
use Rattle.codebook.specs.declared.Row.{Row}
use Rattle.frame.specs.Answers.{Outcome, refused, empty, sound, read_answer, no_record, reading_of, codes_after, tail_after}
use Rattle.frame.specs.declared.Record.{Record}
use Rattle.frame.specs.declared.Reading.{Reading}
use Rattle.layout.specs.Parts.{no_parts, layout_causes, layout_of}
use Rattle.layout.specs.declared.Parts.{Parts}
use Rattle.choice.specs.Choice.{choice_reply, choice_of as flag_c}
use Rattle.writer.specs.Empty.{empty_reply, empty_after}
use Rattle.writer.specs.Writes.{write_reply}
use Rattle.writer.specs.declared.Writing.{Writing}
use Rattle.listing.specs.Listing.{Listing, listed_in, out_after, room}
use Rattle.recording.specs.Walk.{walk, booked, most_frames, check_over, check_of}
use Rattle.recording.specs.declared.answer.Check.{Check}
use Rattle.recording.specs.Blocks.{is_count, check_blocks}
use Rattle.recording.proofs.Laws.Blocks.{block_unit, counted}
use Rattle.recording.proofs.Laws.Checked.{check_replies}
use Rattle.block_reader.specs.Reading as block_read
use Rattle.block_reader.specs.declared.Block.{Block}
use Rattle.block_writer.specs.Writing as block_written
use Rattle.channels.specs.Copies.{check_answer, made_copy, refused_copy, stopped_copy, extract_answer}
use Rattle.channels.specs.declared.Copied.{Copied}
use Rattle.joining.specs.Joining.{join_answer}
use Rattle.ground.specs.Refusals.{first, among, OneOf}
use Rattle.promises.specs.Demand1.{Refused, Untouched, Zeros, NextPlaces, Demand1, place_on}
use Rattle.promises.proofs.Laws.Picked.{picked, made_reply}
use Rattle.promises.proofs.Laws.Readings.{each_reading}
use Rattle.promises.proofs.Laws.Numbered.{numbered}
use Rattle.promises.proofs.Laws.OneOf.{apart}
use Rattle.promises.proofs.Laws.WalkNumbers.{walking, checking, check_number}
use Rattle.promises.proofs.Laws.Copies.{each_extract, each_join}

-- ---- what was lent

read_keeps : (codes tail : List ℕ) (o : Outcome) → Refused (reading_of o).reply → (codes_after codes o ≡ codes) × (tail_after tail o ≡ tail)
read_keeps codes tail (refused x) n = (refl, refl)
read_keeps codes tail empty n = (refl, refl)
read_keeps codes tail (sound mode x) n = absurd (n refl)

empty_keeps : (out : List ℕ) → Refused (empty_reply (length out)).reply → empty_after out ≡ out
unfolding empty_reply empty_after
empty_keeps [] n = refl
empty_keeps (x ∷ out) n = absurd (n (rw (ne_eqb (suc (length out)) 0 (λ e. omega arith))))

list_keeps : (src out : List ℕ) → Refused (listed_in src (length out)).reply → out_after src out ≡ out
unfolding listed_in out_after
list_keeps src out n = by_bool (ltb (length out) room) (λ t. rw t refl) (λ t. absurd (n (rw t refl)))

pub untouched : Untouched
untouched =
    record {
      read = λ src codes tail n. read_keeps codes tail (read_answer src (length codes) (length tail)) n;
      write =
          λ r codes tail out n.
          let x = write_reply r codes tail (length out) in
          rw (ne_eqb x 0 (λ z. n (made_reply (λ (w : Writing). w.reply) x _ _ refl refl ∙ z)));
      write_empty = empty_keeps;
      list = list_keeps;
      extract = λ src channels channel out n. rw (ne_eqb (extract_answer src channels channel (length out)).reply 0 n);
      join = λ src lengths out n. rw (ne_eqb (join_answer src lengths (length out)).reply 0 n);
      read_block =
          λ src channels codes tails n.
          let x = block_read.block_reply src channels (length codes) (length tails) in
          let m : Refused x = λ z. n (made_reply (λ (b : Block). b.reply) x _ _ refl refl ∙ z) in
          (rw (ne_eqb x 0 m), rw (ne_eqb x 0 m));
      write_block =
          λ r channels codes tails out n.
          let x = block_written.block_reply r channels codes tails (length out) in
          rw (ne_eqb x 0 (λ z. n (made_reply (λ (w : Writing). w.reply) x _ _ refl refl ∙ z)));
    }

-- ---- the answer

abbrev ReadingZeros : Reading → Type 0
ReadingZeros a = Refused a.reply → a ≡ record { reply = a.reply; next = place_on a.reply; «record» = no_record }

read_zeros : (src : List ℕ) (codes tail : ℕ) → ReadingZeros (reading_of (read_answer src codes tail))
read_zeros =
    each_reading (λ (o : Outcome). ReadingZeros (reading_of o)) (λ n. refl) (λ n. refl) (λ n. refl) (λ n. refl) (λ n. refl) (λ n. refl) (λ n. refl) (λ n. refl)
    (λ n. refl) (λ mode x n. absurd (n refl))

prefix_zeros : (p : Prefix) → let a = prefix_reading p in Refused a.reply → a ≡ record { reply = a.reply; field = 0; bytes = 0; next = place_on a.reply }
prefix_zeros (Data l) n = absurd (n refl)
prefix_zeros NoData n = refl
prefix_zeros NoByte n = refl
prefix_zeros Marked n = refl
prefix_zeros Reserved n = refl

byte_zeros : (b : Result ℕ Reply) → let a = prefix_writing b in Refused a.reply → a ≡ record { reply = a.reply; byte = 0 }
byte_zeros (Ok b) n = absurd (n refl)
byte_zeros (Err r) n = refl

-- an answer picked by a test: one arm is 0, the other a number alone
module _ {A : Type 0} (reply : A → ℕ) (alone : ℕ → A) where
  abbrev Alone : A → Type 0
  Alone a = Refused (reply a) → a ≡ alone (reply a)

  done_first : (b : Bool) (fine other : A) → reply fine ≡ 0 → other ≡ alone (reply other) → Alone (cond b fine other)
  done_first b fine other y z = picked Alone b fine other (λ n. absurd (n y)) (λ n. z)

  done_last : (b : Bool) (other fine : A) → reply fine ≡ 0 → other ≡ alone (reply other) → Alone (cond b other fine)
  done_last b other fine y z = picked Alone b other fine (λ n. z) (λ n. absurd (n y))

abbrev written : ℕ → Writing
written x = record { reply = x; next = 0 }

abbrev chosen : ℕ → Choice
chosen x = record { reply = x; flag = false }

empty_zeros : (room : ℕ) → Refused (empty_reply room).reply → empty_reply room ≡ written (empty_reply room).reply
unfolding empty_reply
empty_zeros room = done_last (λ (w : Writing). w.reply) written (eqb room 0) _ _ refl refl

flag_n_zeros : (transient : Bool) (norms : List ℕ) → let a = flag_n transient norms in Refused a.reply → a ≡ chosen a.reply
unfolding flag_n
flag_n_zeros transient norms = done_first (λ (c : Choice). c.reply) chosen (eqb (norm_reply transient norms) 0) _ _ refl refl

flag_c_zeros : (r : Record) (codes : List ℕ) → let a = flag_c r codes in Refused a.reply → a ≡ chosen a.reply
unfolding flag_c
flag_c_zeros r codes = done_first (λ (c : Choice). c.reply) chosen (eqb (choice_reply r codes) 0) _ _ refl refl

-- the layout of a record
abbrev PartsZeros : Parts → Type 0
PartsZeros a = Refused a.reply → a ≡ no_parts a.reply

layout_zeros : (r : Record) (codes : List ℕ) → PartsZeros (layout_of r codes)
unfolding layout_of
layout_zeros r codes = picked PartsZeros (eqb (first (layout_causes r codes)) 0) _ _ (λ n. absurd (n refl)) (λ n. refl)

legal_zeros : (transient : Bool) (norms : List ℕ) → let a = legalised transient norms in Refused a.reply
    → a ≡ record { reply = a.reply; norms = replicate 44 0 }
unfolding legalised
legal_zeros transient norms = done_first (λ (a : Legal). a.reply) (λ x. record { reply = x; norms = replicate 44 0 }) (in_range norms 44) _ _ refl refl

weigh_zeros : (transient : Bool) (norms : List ℕ) → let a = weighed transient norms in Refused a.reply
    → a ≡ record { reply = a.reply; weights = replicate 44 0; scores = replicate 44 (pos 0) }
unfolding weighed
weigh_zeros transient norms =
    done_first (λ (a : Weights). a.reply) (λ x. record { reply = x; weights = replicate 44 0; scores = replicate 44 (pos 0) }) (in_range norms 44) _ _ refl refl

allot_zeros : (transient wide : Bool) (norms : List ℕ) (budget : ℕ) → let a = shares_of transient wide norms budget in Refused a.reply
    → a ≡ record { reply = a.reply; rates = replicate 44 0; left = 0; rounds = 0 }
unfolding shares_of
allot_zeros transient wide norms budget =
    done_first (λ (a : Shares). a.reply) (λ x. record { reply = x; rates = replicate 44 0; left = 0; rounds = 0 }) (in_range norms 44 && leb budget 2560) _ _ refl refl

abbrev pointless : ℕ → Point
pointless x = record { reply = x; at = replicate 8 (pos 0) }

point_zeros : (rate : ℕ) (index : List ℕ) → let a = point_of rate index in Refused a.reply → a ≡ pointless a.reply
unfolding point_of from
point_zeros rate index = done_first (λ (a : Point). a.reply) pointless (owns rate && below (2 ^ rate) index 8) _ _ refl refl

row_point_zeros : (rate index : ℕ) → let a = row_point rate index in Refused a.reply → a ≡ pointless a.reply
unfolding row_point from
row_point_zeros rate index = done_first (λ (a : Point). a.reply) pointless (eqb rate 1 && ltb index 256) _ _ refl refl

index_zeros : (rate : ℕ) (point : List ℤ) → let a = index_of rate point in Refused a.reply → a ≡ record { reply = a.reply; at = replicate 8 0 }
unfolding index_of from
index_zeros rate point =
    let r = 2 ^ rate in
    done_first (λ (a : Index). a.reply) (λ x. record { reply = x; at = replicate 8 0 })
    (owns rate && agree (lattice.point r (lattice.back r point)) point 8) _ _ refl refl

row_index_zeros : (rate : ℕ) (point : List ℤ) → let a = row_index rate point in Refused a.reply → a ≡ record { reply = a.reply; index = 0 }
unfolding row_index
row_index_zeros rate point =
    done_first (λ (a : Row). a.reply) (λ x. record { reply = x; index = 0 }) (eqb rate 1 && ltb (place_of (eight point) book) 256) _ _ refl refl

list_zeros : (src : List ℕ) (n : ℕ) → let a = listed_in src n in Refused a.reply → a ≡ record { reply = a.reply; length = 0 }
unfolding listed_in
list_zeros src n = done_last (λ (a : Listing). a.reply) (λ x. record { reply = x; length = 0 }) (ltb n room) _ _ refl refl

-- count and place are the walk's, whatever the booking
check_walks : (src : List ℕ) (booking : ℕ)
    → ((check_of src booking).count ≡ (walk most_frames src).count) × ((check_of src booking).place ≡ (walk most_frames src).place)
unfolding check_over booked
check_walks src booking =
    let w = walk most_frames src in
    picked (λ (c : Check). (c.count ≡ w.count) × (c.place ≡ w.place)) (eqb w.reply 0) _ _
    (picked (λ (c : Check). (c.count ≡ w.count) × (c.place ≡ w.place)) (eqb w.count booking) _ _ (refl, refl) (refl, refl)) (refl, refl)

-- the check of blocks: 17 alone where the count of channels is wrong
blocks_zeros : (src : List ℕ) (channels booking : ℕ) → let a = check_answer src channels booking in a.reply ≡ wrong_channels
    → a ≡ record { reply = a.reply; count = 0; place = 0 }
unfolding check_answer among
blocks_zeros src channels booking e =
    by_bool (is_count channels)
    (λ t.
    let x = (check_blocks channels src booking).reply in
    let q : x ≡ wrong_channels = rw t at e in
    let h = check_number x (check_replies (block_unit channels (counted channels t).0) src booking) in
    absurd (apart checking (17 ∷ []) tt x h (rw q tt)))
    (λ t. rw t refl)

abbrev CopyZeros : Copied → Type 0
CopyZeros a = (OneOf (10 ∷ 17 ∷ []) a.reply → a ≡ refused_copy a.reply) × (Refused a.reply → a.length ≡ 0)

own_zeros : (w : Check) (which : ℕ) → OneOf walking w.reply → CopyZeros (stopped_copy w which)
unfolding among
own_zeros w which h = (
  λ k. absurd (apart walking (10 ∷ 17 ∷ []) tt w.reply h k),
  λ n. refl,
)

done_zeros : (count place bytes : ℕ) → CopyZeros (made_copy done 0 count place bytes)
unfolding among
done_zeros count place bytes = (λ k. absurd k, λ n. absurd (n refl))

pub zeros : Zeros
zeros =
    record {
      read_prefix = λ src. prefix_zeros (prefix_of src);
      write_prefix = λ mode. byte_zeros (byte_of mode);
      read = λ src codes tail. read_zeros src (length codes) (length tail);
      write =
          λ r codes tail out.
          done_first (λ (w : Writing). w.reply) written (eqb (write_reply r codes tail (length out)) 0) _ _ refl refl;
      write_empty = λ out. empty_zeros (length out);
      layout = layout_zeros;
      choose_flag_c = flag_c_zeros;
      choose_flag_n = flag_n_zeros;
      legalise = legal_zeros;
      weigh = weigh_zeros;
      allot = allot_zeros;
      lattice_point = point_zeros;
      lattice_index = index_zeros;
      codebook_point = row_point_zeros;
      codebook_index = row_index_zeros;
      list = λ src out. list_zeros src (length out);
      read_block =
          λ src channels codes tails.
          done_first (λ (b : Block). b.reply) block_read.no_block (eqb (block_read.block_reply src channels (length codes) (length tails)) 0) _ _ refl refl;
      write_block =
          λ records channels codes tails out.
          done_first (λ (w : Writing). w.reply) written (eqb (block_written.block_reply records channels codes tails (length out)) 0) _ _ refl refl;
      check_blocks = blocks_zeros;
      extract =
          λ src channels channel out.
          each_extract CopyZeros (λ k. refl, λ n. refl) (λ k. refl, λ n. refl) own_zeros done_zeros src channels channel (length out);
      join = λ src lengths out. each_join CopyZeros (λ k. refl, λ n. refl) (λ k. refl, λ n. refl) own_zeros done_zeros src lengths (length out);
      check =
          λ src booking other.
          let b = check_walks src booking in
          let o = check_walks src other in
          (b.0 ∙ sym o.0, b.1 ∙ sym o.1);
    }

-- ---- the next place

only_0_and_14 : (reply next : ℕ) → (Refused reply → next ≡ place_on reply) → 0 < next → OneOf (0 ∷ 14 ∷ []) reply
unfolding among
only_0_and_14 zero next e h = tt
only_0_and_14 (suc x) next e h =
    let q = e (λ z. omega arith) in
    by_bool (eqb (suc x) 14) (λ t. rw (eqb-true (suc x) 14 t) tt) (λ t. absurd (let z : next ≡ 0 = q ∙ rw t in omega arith))

pub places : NextPlaces
places =
    record {
      read_prefix = λ src. only_0_and_14 _ _ (λ n. ap (λ (a : PrefixReading). a.next) (prefix_zeros (prefix_of src) n));
      read = λ src codes tail. only_0_and_14 _ _ (λ n. ap (λ (a : Reading). a.next) (read_zeros src (length codes) (length tail) n));
    }

pub demand1 : Demand1
demand1 = record { numbered = numbered; untouched = untouched; zeros = zeros; places = places }
