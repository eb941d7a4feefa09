-- That reading and writing agree: the page Demand2.
-- Assumes nothing.
use mathlib.Core.Path.{◌≡◌, refl, sym, ap, ap₂, ◌∙◌}
use mathlib.Core.Bool.{Bool, true, false}
use mathlib.Core.List.{List, [], ◌∷◌, ◌++◌, append-nil}
use Prim.Native.Nat.{ℕ, ◌+◌, ◌-◌, ◌*◌, ◌≤◌, ◌<◌, zero-le}
use native.Mathlib.Numerals.{add-one}
use native.Mathlib.Omega.{arith}
use lib.ListN.{length, get_or, take, drop, length-append}
use lib.Seq.{take_at}
use Rattle.ground.specs.Replies.{no_word, past_budget}
use Rattle.bits.specs.Bits.{view, bits_of, bytes_of, Bytes}
use Rattle.bits.proofs.Laws.Bytes.{bits_bytes, length_bytes_lem}
use Rattle.prefix.specs.Sizes.{mode_bytes}
use Rattle.prefix.specs.Prefix.{prefix_of, byte_with, zero_r}
use Rattle.prefix.proofs.Laws.Prefix.{read_some, r_ignored, read_written}
use Rattle.prefix.specs.declared.Prefix.TheVariants.{Data}
use Rattle.kinds.specs.Kinds.{kinds}
use Rattle.frame.specs.Layout.{Frame, frame, kinds_of}
use Rattle.frame.proofs.Laws.Layout.{frame_lawful}
use Rattle.kinds.specs.Budget.{kinds_at}
use Rattle.frame.specs.Answers.{Outcome, refused, empty, sound, outcome, read_body, read_answer, reading_of, codes_after, tail_after}
use Rattle.frame.proofs.Laws.Reads.{read_started, data_whole}
use Rattle.frame.specs.declared.Record.{Record}
use Rattle.layout.specs.Parts.{kinds_for, budget_for, rates_for, codes_long, parts_with, layout_of}
use Rattle.layout.proofs.Laws.Parts.{laid_out, laid_told}
use Rattle.writer.specs.Writes.{write_reply, out_after, Roomy}
use Rattle.layout.specs.declared.Parts.{Parts}
use Rattle.tails.specs.Tails.{clear}
use Rattle.layout.proofs.Laws.Fits.{all_fits, fits_all}
use Rattle.writer.proofs.Laws.Bodies.{passed, writes}
use Rattle.writer.proofs.Laws.ReadBack as readback
use Rattle.writer.proofs.Laws.WriteBack.{write_back}
use Rattle.points.proofs.Laws.OneToOne as lattice_laws
use Rattle.codebook.proofs.Laws.OneToOne as codebook_laws
use Rattle.frame.proofs.Laws.PlainCodes as reading
use Rattle.writer.proofs.Laws.PlainCodes as writing
use Rattle.writer.specs.Writes.{writing_of}
use Rattle.writer.specs.declared.Writing.{Writing}
use Rattle.promises.specs.Demand2.{RoundTrips, ByTheRules, Points, Demand2, with_tail}
use Rattle.promises.proofs.Laws.Picked.{made_reply}
use Rattle.promises.proofs.Laws.Readings.{each_reading}

-- the reply of a writing is the number that it was made by
writing_reply : (x mode : ℕ) → (writing_of x mode).reply ≡ x
writing_reply x mode = made_reply (λ (w : Writing). w.reply) x _ _ refl refl

-- a refusal is never 0
abbrev NotDone : Outcome → Type 0
NotDone (refused x) = x ≡ 0 → ⊥
NotDone empty = Unit {0}
NotDone (sound mode x) = Unit {0}

answer_told : (src : List ℕ) (codes tail : ℕ) → NotDone (read_answer src codes tail)
answer_told =
    each_reading NotDone (λ e. omega arith) (λ e. omega arith) (λ e. omega arith) (λ e. omega arith) (λ e. omega arith) (λ e. omega arith) (λ e. omega arith)
    (λ e. omega arith) tt (λ mode x. tt)

-- the record, the numbers and the bytes of a reading, written: reply 0, and the output holds the source's first bytes, as many as the frame has, with R zero
abbrev Returned : List ℕ → List ℕ → List ℕ → List ℕ → Outcome → Type 0
Returned src codes tail out a =
    (write_reply (reading_of a).«record» (codes_after codes a) (tail_after tail a) (length out) ≡ 0)
    × (out_after 0 (reading_of a).«record» (codes_after codes a) (tail_after tail a) out
    ≡ take (reading_of a).next (zero_r (get_or src 0 0) ∷ drop 1 src) ++ drop (reading_of a).next out)

returned : (src codes tail out : List ℕ) (a : Outcome) → Bytes src → read_answer src (length codes) (length tail) ≡ a → NotDone a → (reading_of a).reply ≡ 0
    → (reading_of a).next ≤ length out → Returned src codes tail out a
returned src codes tail out (refused x) b e n z h = absurd (n z)
returned src codes tail out empty b e n z h = absurd (omega arith)
returned src codes tail out (sound mode x) b e n z h =
    let w = write_back src codes tail mode x (length out) b e (omega arith) in (
      w.0,
      ap (λ (l : List ℕ). l ++ drop (mode_bytes mode + 1) out) (w.1
          ∙ ap (λ (k : ℕ). take k (zero_r (get_or src 0 0) ∷ drop 1 src)) (sym (add-one (mode_bytes mode)))),
    )

layout_writes : (r : Record) (cs ts : List ℕ) (room : ℕ) → (layout_of r cs).reply ≡ 0 → Roomy r (length cs) (length ts) room
    → clear (view ts (layout_of r cs).tail_bits (2560 - (layout_of r cs).tail_bits)) ≡ true
    → write_reply (with_tail (layout_of r cs).tail_bits r) cs ts room ≡ 0
layout_writes r cs ts room z R c =
    let L = laid_told r cs z in
    let n : (layout_of r cs).tail_bits ≡ budget_for r - codes_long (kinds_for r) (take 800 cs) = ap (λ (p : Parts). p.tail_bits) (laid_out r cs L) in
    writes (with_tail (layout_of r cs).tail_bits r) cs ts room
    (record {
      rooms = record { mode = R.mode; codes = R.codes; tail = R.tail; out = R.out; quiet = R.quiet };
      norms = L.start.norms;
      fit = fits_all _ (take 800 cs) L.fit;
      paid = L.paid;
      count = n;
      pad = c;
    })

written_laid_out : (r : Record) (cs ts : List ℕ) (room : ℕ) → write_reply r cs ts room ≡ 0
    → layout_of r cs ≡ parts_with (budget_for r) (rates_for r) (budget_for r - r.tail_bits)
written_laid_out r cs ts room z =
    let P = passed r cs ts room z in
    let k : codes_long (kinds_for r) (take 800 cs) ≡ budget_for r - r.tail_bits = omega (arith, P.paid, P.count) in
    laid_out r cs
    (record { start = record { mode = P.rooms.mode; codes = P.rooms.codes; norms = P.norms }; fit = all_fits _ (take 800 cs) P.fit; paid = P.paid })
    ∙ ap (parts_with (budget_for r) (rates_for r)) k

layout_kinds : (r : Record) (cs : List ℕ) → (layout_of r cs).reply ≡ 0
    → (kinds r.flag_c (layout_of r cs).rates ≡ kinds_for r) × ((layout_of r cs).code_bits + (layout_of r cs).tail_bits ≡ (layout_of r cs).budget)
unfolding kinds_of kinds_at
layout_kinds r cs z =
    let L = laid_told r cs z in
    let e = laid_out r cs L in
    let n = codes_long (kinds_for r) (take 800 cs) in (
      ap (λ (p : Parts). kinds r.flag_c p.rates) e,
      ap (λ (p : Parts). p.code_bits + p.tail_bits) e ∙ (let q : n + (budget_for r - n) ≡ budget_for r = omega (arith, L.paid) in q)
          ∙ sym (ap (λ (p : Parts). p.budget) e),
    )

read_exactly : (mode x : ℕ) (f : Frame) (rest : List ℕ) (codes tail : ℕ) → mode < 20 → x < 4 → (frame (mode_bytes mode * 8)).Ok f
    → length ((frame (mode_bytes mode * 8)).write f) ≡ mode_bytes mode * 8 → 800 ≤ codes → 320 ≤ tail
    → read_answer (byte_with 0 (mode + 8) x ∷ (bytes_of (mode_bytes mode) ((frame (mode_bytes mode * 8)).write f) ++ rest)) codes tail ≡ sound mode f
unfolding read_body
read_exactly mode x f rest codes tail hm hx k l hc ht =
    let n = mode_bytes mode in
    let w = (frame (n * 8)).write f in
    let b = bytes_of n w in
    let src = byte_with 0 (mode + 8) x ∷ (b ++ rest) in
    let p : prefix_of src ≡ Data (record { 0 = mode + 8 }) =
    read_some src (omega arith) ∙ r_ignored 0 (mode + 8) x 0 (omega arith) hx (omega arith)
    ∙ sym (read_some (byte_with 0 (mode + 8) 0 ∷ (b ++ rest)) (omega arith)) ∙ read_written mode (b ++ rest) hm in
    let lb = length_bytes_lem n w in
    let s : n < length src = omega (arith, length-append b rest, lb) in
    let e : mode + 8 - 8 ≡ mode = omega arith in
    read_started src codes tail hc ht (Data (record { 0 = mode + 8 })) (sym p)
    ∙ data_whole src (record { 0 = mode + 8 }) n (sym (Rattle.prefix.proofs.Laws.Sizes.length_bytes_lem mode hm)) s
    ∙ ap₂ read_body e (take_at b rest n lb)
    ∙ ap₂ (λ (i : ℕ) (y : List Bool). outcome mode ((frame (i * 8)).read y)) lb (bits_bytes n w l ∙ sym (append-nil w))
    ∙ ap (outcome mode) ((frame_lawful (n * 8)).back f [] k zero-le)

-- the reply of a reading that is refused is its number; the others are 0 and 14
plain_read : (src : List ℕ) (codes tail : ℕ) → get_or (bits_of (drop 1 src)) 3 false ≡ false → (o : Outcome) → read_answer src codes tail ≡ o
    → ((reading_of o).reply ≡ no_word → ⊥) × ((reading_of o).reply ≡ past_budget → ⊥)
plain_read src codes tail f (refused x) e = reading.plain_read src codes tail x f e
plain_read src codes tail f empty e = (λ z. omega arith, λ z. omega arith)
plain_read src codes tail f (sound mode x) e = (λ z. omega arith, λ z. omega arith)

-- ---- the pages

trips : RoundTrips
trips =
    record {
      written_back =
          λ src codes tail out b z h.
          let a = read_answer src (length codes) (length tail) in
          let r = returned src codes tail out a b refl (answer_told src (length codes) (length tail)) z h in
          let x = write_reply (reading_of a).«record» (codes_after codes a) (tail_after tail a) (length out) in
          (writing_reply x _ ∙ r.0, rw r.0 r.1);
      read_back =
          λ r codes tail out l b z room spare hc ht.
          let x = write_reply r codes tail (length out) in
          let e : x ≡ 0 = sym (writing_reply x r.mode) ∙ z in
          rw e (readback.read_back r codes tail (length out) l (passed r codes tail (length out) e) (drop (mode_bytes r.mode + 1) out) room spare b hc ht);
    }

rules : ByTheRules
rules =
    record {
      written_exactly =
          λ r codes tail out.
          let w = writing_reply (write_reply r codes tail (length out)) r.mode in
          (λ z. passed r codes tail (length out) (sym w ∙ z), λ P. w ∙ writes r codes tail (length out) P);
      read_exactly = read_exactly;
      layout_writes = λ r codes tail out z R c. writing_reply _ _ ∙ layout_writes r codes tail (length out) z R c;
      written_laid_out =
          λ r codes tail out z.
          let e = sym (writing_reply (write_reply r codes tail (length out)) r.mode) ∙ z in
          let p = written_laid_out r codes tail (length out) e in
          let P = passed r codes tail (length out) e in
          let t : budget_for r - (budget_for r - r.tail_bits) ≡ r.tail_bits = omega (arith, P.count) in
          (ap (λ (p : Parts). p.reply) p, ap (λ (p : Parts). p.tail_bits) p ∙ t, ap (λ (p : Parts). p.budget) p);
      layout_kinds = layout_kinds;
      plain_read = λ src codes tail f. plain_read src (length codes) (length tail) f _ refl;
      plain_write = λ r codes tail out f l e. writing.plain_write r codes tail (length out) f l (sym (writing_reply _ _) ∙ e);
    }

points : Points
points =
    record {
      one_to_one = lattice_laws.one_to_one;
      other_rates = lattice_laws.foreign;
      rows_one_to_one = codebook_laws.one_to_one;
      other_rates_than_1 = codebook_laws.foreign;
    }

pub demand2 : Demand2
demand2 = record { trips = trips; rules = rules; points = points }
