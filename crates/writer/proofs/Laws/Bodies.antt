-- The bits that the code lays are the codec's; what a reply of 0 tells, and that what obeys the rules is answered 0.
-- Assumes nothing.
use mathlib.Core.Path.{◌≡◌, refl, sym, ap, ap₂, ◌∙◌}
use mathlib.Core.Bool.{Bool, true, false}
use mathlib.Core.List.{List, [], ◌∷◌, ◌++◌, append_assoc, map}
use Prim.Native.Nat.{ℕ, ◌+◌, ◌*◌, ◌^◌, ◌<◌, ◌≤◌, min}
use native.Mathlib.Omega.{arith}
use borrow.Author.Tests.{eqb-true, ltb-true, ltb-false, not-false, eq-eqb, ne_eqb}
use mir.Val.{bool_byte}
use lib.ListN.{length, take, drop, set, length-append}
use Rattle.ground.proofs.Laws.Refusals.{by_rows, first_none, neither_first}
use Rattle.std.specs.declared.result.Result.{Result}
use Rattle.std.specs.declared.result.Result.TheVariants.{Ok, Err}
use Rattle.ground.specs.Replies.{done}
use Rattle.ground.specs.Numbered.{number}
use Rattle.ground.specs.declared.replies.Reply.{Reply}
use Rattle.bits.specs.Bits.{word, view, laid, bytes_of, Bytes}
use Rattle.bits.proofs.Laws.NumbersAsBits.{length_word}
use Rattle.bits.proofs.Laws.Views.{length_view}
use Rattle.bits.proofs.Laws.LaidBits.{laid_append, laid_behind}
use Rattle.bits.specs.Codecs.{write_all, words, raw}
use Rattle.words.specs.Tables.{coding}
use Rattle.bits.proofs.Laws.Codings.{word_fixed}
use Rattle.prefix.specs.Sizes.{mode_bytes}
use Rattle.prefix.proofs.Laws.Sizes.{mode_bounds}
use Rattle.prefix.specs.Prefix.{byte_with, byte_of}
use Rattle.prefix.proofs.Laws.Prefix.{byte_mode}
use Rattle.norms.specs.Legal.{LegalNorms}
use Rattle.norms.specs.Part.{norm_bits}
use Rattle.norms.proofs.Laws.Codec.{write_is, ok_legal}
use Rattle.norms.proofs.Laws.Part.{bits_few, norm_bits_lem}
use Rattle.runs.proofs.Laws.Writes.{run_few}
use Rattle.norms.specs.Answers.{norm_causes}
use Rattle.norms.proofs.Laws.Answers.{legal_reply}
use Rattle.kinds.specs.Budget.{noise_bits}
use Rattle.kinds.proofs.Laws.Budget.{noise_le}
use Rattle.frame.specs.Layout.{budget_of, code_bits, tail_left, codes_part, frame}
use Rattle.frame.proofs.Laws.Layout.{frame_bits}
use Rattle.ground.proofs.Laws.Numbered.{never_zero}
use Rattle.frame.specs.declared.Record.{Record}
use Rattle.writer.specs.Noise.{noise_fits}
use Rattle.layout.proofs.Laws.Fits.{fits_all, all_fits}
use Rattle.layout.specs.Parts.{flag_bits, total, kinds_for, code_causes}
use Rattle.writer.specs.Writes.{frame_of, bytes_for, room_causes, tail_causes, write_causes, write_reply, out_after, writing_of, answered, Roomy}
use Rattle.layout.proofs.Laws.Parts.{codes_none}
use Rattle.writer.proofs.Laws.Writes.{rooms_enough, rooms_told, tail_none}
use Rattle.writer.specs.Bodies.{body_bits, Passed}

-- they are the frame's
pub body_is : (r : Record) (cs ts : List ℕ) → (frame (total r)).write (frame_of r cs ts) ≡ body_bits r (take 800 cs) ts
unfolding frame codes_part words body_bits raw
body_is r cs ts =
    ap₂ (λ (x y : List Bool). flag_bits r ++ (x ++ (write_all (map coding (kinds_for r)) (take 800 cs) ++ (y ++ view ts 0 r.tail_bits))))
    (write_is r.transient r.flag_n r.norms) (word_fixed (noise_bits r.transient) r.noise)

-- the flags as a number
flag_word : (a b c d : Bool) → word 4 (bool_byte a * 8 + bool_byte b * 4 + bool_byte c * 2 + bool_byte d) ≡ a ∷ b ∷ c ∷ d ∷ []
unfolding word
flag_word true true true true = refl
flag_word true true true false = refl
flag_word true true false true = refl
flag_word true true false false = refl
flag_word true false true true = refl
flag_word true false true false = refl
flag_word true false false true = refl
flag_word true false false false = refl
flag_word false true true true = refl
flag_word false true true false = refl
flag_word false true false true = refl
flag_word false true false false = refl
flag_word false false true true = refl
flag_word false false true false = refl
flag_word false false false true = refl
flag_word false false false false = refl

pub flags_word : {t l n k : ℕ} (r : Record) → t ≡ bool_byte r.transient → l ≡ bool_byte r.flag_l → n ≡ bool_byte r.flag_n → k ≡ bool_byte r.flag_c
    → word 4 (t * 8 + l * 4 + n * 2 + k) ≡ flag_bits r
flags_word r et el en ek = rw (et, el, en, ek) (flag_word r.transient r.flag_l r.flag_n r.flag_c)

-- ---- laid part after part

module _ (r : Record) (vs ts s₀ s₁ s₂ s₃ s₄ s₅ : List ℕ) (f n m k z : ℕ)
    (ef : word 4 f ≡ flag_bits r) (e₁ : s₁ ≡ laid s₀ 8 (word 4 f))
    (en : n ≡ length (norm_bits r.transient r.flag_n r.norms)) (e₂ : s₂ ≡ laid s₁ 12 (norm_bits r.transient r.flag_n r.norms))
    (em : m ≡ length (write_all (map coding (kinds_for r)) vs)) (e₃ : s₃ ≡ laid s₂ (12 + n) (write_all (map coding (kinds_for r)) vs))
    (ek : k ≡ noise_bits r.transient) (ez : z ≡ r.noise) (e₄ : s₄ ≡ laid s₃ (12 + n + m) (word (min k 16) z))
    (e₅ : s₅ ≡ laid s₄ (12 + n + m + k) (view ts 0 r.tail_bits)) where
  a : List Bool
  a = flag_bits r

  b : List Bool
  b = norm_bits r.transient r.flag_n r.norms

  c : List Bool
  c = write_all (map coding (kinds_for r)) vs

  d : List Bool
  d = word (noise_bits r.transient) r.noise

  e : List Bool
  e = view ts 0 r.tail_bits

  four : length a ≡ 4
  unfolding a
  four = refl

  one : s₁ ≡ laid s₀ 8 a
  unfolding a
  one = e₁ ∙ ap (laid s₀ 8) ef

  two : s₂ ≡ laid s₀ 8 (a ++ b)
  unfolding b
  two =
      let p : 12 ≡ 8 + length a = omega (arith, four) in
      e₂ ∙ ap₂ (λ (x : List ℕ) (i : ℕ). laid x i b) one p ∙ laid_append s₀ 8 a b

  three : s₃ ≡ laid s₀ 8 ((a ++ b) ++ c)
  unfolding b c
  three =
      let p : 12 + n ≡ 8 + length (a ++ b) = omega (arith, length-append a b, four, en) in
      e₃ ∙ ap₂ (λ (x : List ℕ) (i : ℕ). laid x i c) two p ∙ laid_append s₀ 8 (a ++ b) c

  four_parts : s₄ ≡ laid s₀ 8 (((a ++ b) ++ c) ++ d)
  unfolding b c d
  four_parts =
      let p : 12 + n + m ≡ 8 + length ((a ++ b) ++ c) = omega (arith, length-append (a ++ b) c, length-append a b, four, en, em) in
      let q : min k 16 ≡ noise_bits r.transient = omega (arith, ek, noise_le r.transient) in
      e₄ ∙ ap (laid s₃ (12 + n + m)) (ap₂ word q ez) ∙ ap₂ (λ (x : List ℕ) (i : ℕ). laid x i d) three p ∙ laid_append s₀ 8 ((a ++ b) ++ c) d

  pub body_laid : s₅ ≡ laid s₀ 8 (body_bits r vs ts)
  unfolding a b c d e body_bits
  body_laid =
      let p : 12 + n + m + k ≡ 8 + length (((a ++ b) ++ c) ++ d) =
      omega (
        arith,
        length-append ((a ++ b) ++ c) d,
        length-append (a ++ b) c,
        length-append a b,
        four,
        en,
        em,
        ek,
        length_word (noise_bits r.transient) r.noise,
      ) in
      e₅ ∙ ap₂ (λ (x : List ℕ) (i : ℕ). laid x i e) four_parts p ∙ laid_append s₀ 8 (((a ++ b) ++ c) ++ d) e
      ∙ ap (laid s₀ 8) (append_assoc ((a ++ b) ++ c) d e ∙ append_assoc (a ++ b) c (d ++ e) ∙ append_assoc a b (c ++ (d ++ e)))

-- as the code makes them: the kinds and the count of the tail are the record's
pub body_code : {n m k z t : ℕ} {ks s₁ s₂ s₃ s₄ s₅ : List ℕ} (r : Record) (vs ts s₀ : List ℕ) (f : ℕ) → ks ≡ kinds_for r → word 4 f ≡ flag_bits r
    → s₁ ≡ laid s₀ 8 (word 4 f) → n ≡ length (norm_bits r.transient r.flag_n r.norms) → s₂ ≡ laid s₁ 12 (norm_bits r.transient r.flag_n r.norms)
    → m ≡ length (write_all (map coding ks) vs) → s₃ ≡ laid s₂ (12 + n) (write_all (map coding ks) vs) → k ≡ noise_bits r.transient → z ≡ r.noise
    → s₄ ≡ laid s₃ (12 + n + m) (word (min k 16) z) → t ≡ r.tail_bits → s₅ ≡ laid s₄ (12 + n + m + k) (view ts 0 t)
    → s₅ ≡ laid s₀ 8 (body_bits r vs ts)
body_code {n} {m} {k} {z} {t} {ks} {s₁} {s₂} {s₃} {s₄} {s₅} r vs ts s₀ f q ef e₁ en e₂ em e₃ ek ez e₄ et e₅ =
    body_laid r vs ts s₀ s₁ s₂ s₃ s₄ s₅ f n m k z ef e₁ en e₂
    (em ∙ ap (λ (l : List ℕ). length (write_all (map coding l) vs)) q)
    (e₃ ∙ ap (λ (l : List ℕ). laid s₂ (12 + n) (write_all (map coding l) vs)) q)
    ek ez e₄
    (e₅ ∙ ap (λ (i : ℕ). laid s₄ (12 + n + m + k) (view ts 0 i)) et)

-- the norms and the codes have few bits
pub few : {n m : ℕ} (r : Record) (ks vs : List ℕ) → length ks ≡ 800 → n ≡ length (norm_bits r.transient r.flag_n r.norms)
    → m ≡ length (write_all (map coding ks) vs) → n + m ≤ 13504
few r ks vs l en em = omega (arith, bits_few r.transient r.flag_n r.norms, run_few ks vs)

pub passed : (r : Record) (cs ts : List ℕ) (room : ℕ) → write_reply r cs ts room ≡ 0 → Passed r cs ts room
unfolding write_causes room_causes norm_causes code_causes tail_causes
passed r cs ts room e =
    let q = first_none (write_causes r cs ts room) tt e in
    record {
      rooms = rooms_told r (length cs) (length ts) room (sym (search by_rows depth 7));
      norms = sym (search by_rows);
      fit = fits_all (map coding (kinds_for r)) (take 800 cs) (not-false _ (search));
      paid = omega (arith, ltb-false);
      count = eqb-true _ _ (not-false _ (search));
      pad = not-false _ (search);
    }

-- and every record that obeys these rules is written
pub writes : (r : Record) (cs ts : List ℕ) (room : ℕ) → Passed r cs ts room → write_reply r cs ts room ≡ 0
unfolding write_causes
writes r cs ts room P =
    let rooms = neither_first _ _ (rooms_enough r (length cs) (length ts) room P.rooms) P.norms in
    let codes = neither_first _ _ rooms (codes_none _ _ _ (all_fits _ (take 800 cs) P.fit) P.paid) in
    neither_first _ _ codes (tail_none ts _ _ P.count P.pad)

-- ---- a record that passes means a frame of its mode's length

quiet_fit : (t : Bool) (z : ℕ) → noise_fits t z ≡ true → z < 2 ^ noise_bits t
unfolding noise_fits noise_bits
quiet_fit true z e = omega (arith, eqb-true z 0 e)
quiet_fit false z e = omega (arith, ltb-true z 4 e)

module _ (r : Record) (cs ts : List ℕ) (room : ℕ) (l : length r.norms ≡ 44) (P : Passed r cs ts room) where
  legal : LegalNorms r.transient r.norms
  legal = legal_reply r.transient r.norms l P.norms

  pub meant : (frame (total r)).Ok (frame_of r cs ts)
  unfolding frame codes_part words raw tail_left code_bits
  meant = (
    refl,
    (
      ok_legal r.transient r.flag_n r.norms legal,
      (P.fit, (quiet_fit r.transient r.noise P.rooms.quiet, length_view ts 0 r.tail_bits ∙ P.count)),
    ),
  )

  pub meant_long : length ((frame (total r)).write (frame_of r cs ts)) ≡ mode_bytes r.mode * 8
  unfolding tail_left code_bits budget_of
  meant_long =
      omega (
        arith,
        frame_bits (total r) (frame_of r cs ts) meant,
        P.paid,
        noise_le r.transient,
        (norm_bits_lem r.transient r.flag_n r.norms legal).1,
        (mode_bounds r.mode (omega (arith, P.rooms.mode))).0,
      )

  -- the output holds the frame's bytes
  pub out_made : (out : List ℕ) (y : ℕ) → Bytes out → mode_bytes r.mode < length out → y ≡ byte_with 0 (r.mode + 8) 0
      → laid (set out 0 y) 8 (body_bits r (take 800 cs) ts) ≡ bytes_for r cs ts ++ drop (mode_bytes r.mode + 1) out
  unfolding bytes_for
  out_made [] y b h e = absurd (omega arith)
  out_made (x ∷ out) y b h e =
      let n = mode_bytes r.mode in
      let w = (frame (total r)).write (frame_of r cs ts) in
      let q : drop (n + 1) (x ∷ out) ≡ drop n out = ap (λ (k : ℕ). drop k (x ∷ out)) (native.Mathlib.Numerals.add-one n) in
      ap (laid (y ∷ out) 8) (sym (body_is r cs ts))
      ∙ laid_behind y out n w (omega (arith, P.rooms.mode)) (λ i. b (Prim.Native.Nat.suc i)) meant_long (omega arith)
      ∙ ap₂ (λ (y : ℕ) (t : List ℕ). y ∷ (bytes_of n w ++ t)) e (sym q)

-- ---- the answers

pub refused_out : (x : ℕ) (r : Record) (cs ts out : List ℕ) → (x ≡ 0 → ⊥)
    → (record { reply = x; next = 0 } ≡ writing_of x r.mode) × (out ≡ out_after x r cs ts out)
refused_out x r cs ts out n = (rw (ne_eqb x 0 n), rw (ne_eqb x 0 n))

-- a reply other than 0 is answered alone, and leaves the output as it was
pub refuses : (r : Record) (cs ts out : List ℕ) (e : Reply) → number e ≡ write_reply r cs ts (length out)
    → (answered (Err e) ≡ writing_of (write_reply r cs ts (length out)) r.mode) × (out ≡ out_after (write_reply r cs ts (length out)) r cs ts out)
refuses r cs ts out e q = rw (← q) (refused_out (number e) r cs ts out (never_zero e))

-- a record that passes, and bytes to lay it over
pub record Ready (r : Record) (cs ts out : List ℕ) : Type 0 where
  pub passes : Passed r cs ts (length out)
  pub norms : length r.norms ≡ 44
  pub bytes : Bytes out

pub ready : (r : Record) (cs ts out : List ℕ) → done ≡ write_reply r cs ts (length out) → length r.norms ≡ 44 → Bytes out → Ready r cs ts out
ready r cs ts out e l b = record { passes = passed r cs ts (length out) (sym e); norms = l; bytes = b }

-- a mode of 0 to 19 has a prefix byte
pub pass_prefix : {r : Record} {c t room : ℕ} {x : Reply} → Roomy r c t room → Err x ≡ byte_of r.mode → ⊥
pass_prefix {r = r} {x = x} R e = let w : Err x ≡ Ok (byte_with 0 (r.mode + 8) 0) = e ∙ byte_mode r.mode (omega (arith, R.mode)) in absurd (cc)

module _ {r : Record} {cs ts out : List ℕ} (R : Ready r cs ts out) where
  pass_byte : (y : ℕ) → Ok y ≡ byte_of r.mode → y ≡ byte_with 0 (r.mode + 8) 0
  pass_byte y e = let w : ◌≡◌ {A = Result ℕ Reply} (Ok y) (Ok (byte_with 0 (r.mode + 8) 0)) = e ∙ byte_mode r.mode (omega (arith, R.passes.rooms.mode)) in cc

  pub pass_out : {n y : ℕ} {t : List ℕ} → n ≡ mode_bytes r.mode → Ok y ≡ byte_of r.mode → t ≡ laid (set out 0 y) 8 (body_bits r (take 800 cs) ts)
      → (record { reply = done; next = n + 1 } ≡ writing_of (write_reply r cs ts (length out)) r.mode)
      × (t ≡ out_after (write_reply r cs ts (length out)) r cs ts out)
  pass_out {n} {y} {t} en ey et =
      let q : write_reply r cs ts (length out) ≡ 0 = writes r cs ts (length out) R.passes in (
        rw (eq-eqb (write_reply r cs ts (length out)) 0 q) (ap (λ (k : ℕ). record { reply = done; next = k + 1 }) en),
        rw (eq-eqb (write_reply r cs ts (length out)) 0 q)
            (et ∙ out_made r cs ts (length out) R.norms R.passes out y R.bytes R.passes.rooms.out (pass_byte y ey)),
      )
