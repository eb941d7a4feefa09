-- Write back a frame that was read: its bytes return, with R = 0 in the prefix byte.
-- Assumes nothing.
use mathlib.Core.Path.{◌≡◌, refl, sym, ap, ap₂, ◌∙◌, subst}
use mathlib.Core.Bool.{Bool, true, false}
use mathlib.Core.List.{List, [], ◌∷◌, ◌++◌, append-nil, map}
use Prim.Native.Nat.{ℕ, zero, suc, ◌+◌, ◌-◌, ◌*◌, ◌^◌, ◌≤◌, ◌<◌}
use native.Mathlib.Nat.{zero-add}
use native.Mathlib.Omega.{arith}
use lib.Dec.{ltb}
use lib.ListN.{length, get_or, take, drop, replicate, length-append, length-map, length-replicate}
use lib.Seq.{take_at}
use borrow.Author.Tests.{lt-ltb, eq-eqb, ltb-true, ltb-false}
use Rattle.ground.proofs.Laws.Cases.{by_bool}
use Rattle.bits.specs.Bits.{view, bits_of, bytes_of, Bytes}
use Rattle.bits.proofs.Laws.Bytes.{length_bytes_lem, bits_bytes, bytes_bits, length_bits, view_part}
use Rattle.bits.proofs.Laws.LaidBits.{bits_append, bytes_drop, bytes_take}
use Rattle.bits.proofs.Laws.Views.{view_rest, view_front}
use Rattle.bits.specs.Codings.{Answer, got, no}
use Rattle.bits.specs.Codecs.{FitAll, words, raw}
use Rattle.words.specs.Tables.{coding}
use Rattle.bits.proofs.Laws.Codecs.{fit_length}
use Rattle.prefix.specs.Sizes.{mode_bytes, length_bytes}
use Rattle.prefix.proofs.Laws.Sizes.{mode_bounds, a2_between}
use Rattle.prefix.specs.Prefix.{prefix_of, byte_with, zero_r}
use Rattle.prefix.proofs.Laws.Prefix.{prefix_data, prefix_mode}
use Rattle.prefix.specs.declared.Prefix.{Prefix}
use Rattle.prefix.specs.declared.Prefix.TheVariants.{Data, NoData, NoByte, Marked, Reserved}
use Rattle.norms.specs.Legal.{LegalNorms}
use Rattle.norms.proofs.Laws.Codec.{legal_ok}
use Rattle.norms.proofs.Laws.Part.{norm_bits_lem}
use Rattle.norms.proofs.Laws.Answers.{reply_legal}
use Rattle.kinds.proofs.Laws.Kinds.{length_kinds}
use Rattle.frame.specs.Layout.{Frame, flags_in, frame, budget_of, kinds_of, code_bits, tail_left, codes_part}
use Rattle.frame.proofs.Laws.Layout.{frame_lawful, frame_whole, frame_bits}
use Rattle.kinds.specs.Budget.{noise_bits, kinds_at}
use Rattle.kinds.proofs.Laws.Budget.{noise_le}
use Rattle.frame.proofs.Laws.Reads.{read_codes_short, read_tail_short, read_started, data_cut, data_whole, length_body}
use Rattle.frame.specs.Answers.{sound, outcome, read_body, body_of, started, read_answer, record_of, codes_after, tail_after}
use Rattle.tails.specs.Tails.{tail_bytes, clear}
use Rattle.frame.specs.declared.Record.{Record}
use Rattle.writer.specs.Noise.{noise_fits}
use Rattle.layout.specs.Parts.{budget_for, kinds_for, codes_long}
use Rattle.writer.specs.Writes.{frame_of, bytes_for, write_reply}
use Rattle.writer.specs.Bodies.{Passed}
use Rattle.writer.proofs.Laws.Bodies.{writes}

-- ---- what a sound answer tells

rest_of : Answer Frame → List Bool
rest_of (got x r) = r
rest_of (no y) = []

outcome_sound : (m mode : ℕ) (x : Frame) (a : Answer Frame) → outcome m a ≡ sound mode x → (m ≡ mode) × (a ≡ got x (rest_of a))
unfolding rest_of
outcome_sound m mode x (got y r) e =
    let g : m ≡ mode = cc in
    let h : y ≡ x = cc in
    (g, ap (λ (z : Frame). got z r) h)
outcome_sound m mode x (no y) e = absurd (let z : ◌≡◌ {A = ℕ} 0 1 = cc in omega arith)

body_sound : (m mode : ℕ) (x : Frame) (body : List ℕ) → length body ≡ mode_bytes m → read_body m body ≡ sound mode x
    → (m ≡ mode) × ((frame (mode_bytes m * 8)).read (bits_of body) ≡ got x [])
unfolding read_body
body_sound m mode x body l e =
    let a = (frame (length body * 8)).read (bits_of body) in
    let o = outcome_sound m mode x a e in
    let g : (frame (mode_bytes m * 8)).read (bits_of body) ≡ got x (rest_of a) = ap (λ (k : ℕ). (frame (k * 8)).read (bits_of body)) (sym l) ∙ o.1 in
    (o.0, g ∙ ap (got x) (frame_whole (mode_bytes m * 8) (bits_of body) x (rest_of a) (length_bits body ∙ ap (λ (k : ℕ). k * 8) l) g))

pub record Sound (src : List ℕ) (mode : ℕ) (x : Frame) : Type 0 where
  pub low : mode < 20
  pub long : mode_bytes mode < length src
  pub first : get_or src 0 0 < 256 → byte_with 0 (mode + 8) 0 ≡ zero_r (get_or src 0 0)
  pub body : (frame (mode_bytes mode * 8)).read (bits_of (body_of (mode_bytes mode) src)) ≡ got x []

started_sound : (src : List ℕ) (mode : ℕ) (x : Frame) (p : Prefix) → prefix_of src ≡ p → started p src ≡ sound mode x → Sound src mode x
started_sound src mode x NoByte q e = absurd (let z : ◌≡◌ {A = ℕ} 0 1 = cc in omega arith)
started_sound src mode x Marked q e = absurd (let z : ◌≡◌ {A = ℕ} 0 1 = cc in omega arith)
started_sound src mode x Reserved q e = absurd (let z : ◌≡◌ {A = ℕ} 0 1 = cc in omega arith)
started_sound src mode x NoData q e = absurd (let z : ◌≡◌ {A = ℕ} 0 1 = cc in omega arith)
started_sound src mode x (Data f) q e =
    let d = prefix_data src f q in
    let m = f.0 - 8 in
    let n = mode_bytes m in
    let s : n ≡ length_bytes f.0 = sym (a2_between f.0 d.0 d.1).0 in
    by_bool (ltb n (length src))
    (λ t.
    let l = ltb-true n (length src) t in
    let o = body_sound m mode x (body_of n src) (length_body src n l) (sym (data_whole src f n s l) ∙ e) in
    record {
      low = omega (arith, o.0, d.1);
      long = subst (λ (k : ℕ). mode_bytes k < length src) o.0 l;
      first = λ h. subst (λ (k : ℕ). byte_with 0 (k + 8) 0 ≡ zero_r (get_or src 0 0)) o.0 (prefix_mode src f h q);
      body = subst (λ (k : ℕ). (frame (mode_bytes k * 8)).read (bits_of (body_of (mode_bytes k) src)) ≡ got x []) o.0 o.1;
    })
    (λ t.
    let c = sym (data_cut src f n s (ltb-false n (length src) t)) ∙ e in
    absurd (let z : ◌≡◌ {A = ℕ} 0 1 = cc in omega arith))

-- an answer of 0 had room, and a whole body that is the frame's bits
pub answer_sound : (src : List ℕ) (c t mode : ℕ) (x : Frame) → read_answer src c t ≡ sound mode x → (800 ≤ c) × (320 ≤ t) × Sound src mode x
answer_sound src c t mode x e =
    by_bool (ltb c 800)
    (λ a. let z = sym (read_codes_short src c t (ltb-true c 800 a)) ∙ e in absurd (let y : ◌≡◌ {A = ℕ} 0 1 = cc in omega arith))
    (λ a.
    let h = ltb-false c 800 a in
    by_bool (ltb t 320)
    (λ b. let z = sym (read_tail_short src c t h (ltb-true t 320 b)) ∙ e in absurd (let y : ◌≡◌ {A = ℕ} 0 1 = cc in omega arith))
    (λ b.
    let l = ltb-false t 320 b in
    (h, l, started_sound src mode x (prefix_of src) refl (sym (read_started src c t h l (prefix_of src) refl) ∙ e))))

-- a frame has four flags
four_flags : (src : List ℕ) (c t mode : ℕ) (x : Frame) → read_answer src c t ≡ sound mode x → length (flags_in x) ≡ 4
unfolding frame raw
four_flags src c t mode x e =
    let s = (answer_sound src c t mode x e).2 in
    ((frame_lawful (mode_bytes mode * 8)).there (bits_of (body_of (mode_bytes mode) src)) x [] s.body).1.0

-- ---- the lent slices after a reading

zeros_clear : (n : ℕ) → clear (replicate n false) ≡ true
unfolding clear
zeros_clear zero = refl
zeros_clear (suc n) = zeros_clear n

module _ (b : List Bool) (rest : List ℕ) (l : length b ≤ 2560) where
  tail_whole : view (tail_bytes b ++ rest) 0 2560 ≡ b ++ replicate (2560 - length b) false
  unfolding tail_bytes
  tail_whole =
      let w = b ++ replicate (2560 - length b) false in
      let a = bytes_of 320 w in
      let k : length w ≡ 2560 = omega (arith, length-append b (replicate (2560 - length b) false), length-replicate (2560 - length b) false) in
      view_part (a ++ rest) 0 2560 (omega (arith, length-append a rest, length_bytes_lem 320 w)) ∙ ap (take 2560) (bits_append a rest)
      ∙ take_at (bits_of a) (bits_of rest) 2560 (omega (arith, length_bits a, length_bytes_lem 320 w)) ∙ bits_bytes 320 w k

  tail_front : view (tail_bytes b ++ rest) 0 (length b) ≡ b
  tail_front = view_front (tail_bytes b ++ rest) 0 2560 b (replicate (2560 - length b) false) tail_whole

  tail_clear : clear (view (tail_bytes b ++ rest) (length b) (2560 - length b)) ≡ true
  tail_clear =
      let v = (view_rest (tail_bytes b ++ rest) 0 2560 b (replicate (2560 - length b) false) tail_whole).0 in
      ap clear (ap (λ (k : ℕ). view (tail_bytes b ++ rest) k (2560 - length b)) (sym (zero-add (length b))) ∙ sym v) ∙ zeros_clear (2560 - length b)

  length_tail : length (tail_bytes b ++ rest) ≡ 320 + length rest
  unfolding tail_bytes
  length_tail = let w = b ++ replicate (2560 - length b) false in omega (arith, length-append (bytes_of 320 w) rest, length_bytes_lem 320 w)

bytes_body : (n : ℕ) (src : List ℕ) → Bytes src → Bytes (body_of n src)
bytes_body n src h = bytes_take n (drop 1 src) (bytes_drop 1 src h)

fit_quiet : (t : Bool) (z : ℕ) → z < 2 ^ noise_bits t → noise_fits t z ≡ true
unfolding noise_fits noise_bits
fit_quiet true z h = eq-eqb z 0 (omega arith)
fit_quiet false z h = lt-ltb z 4 (omega arith)

-- ---- the frame written again

module _ (mode : ℕ) (a b c d : Bool) (ns vs : List ℕ) (z : ℕ) (tb : List Bool) (src codes tail : List ℕ) (room : ℕ)
    (S : Sound src mode (a ∷ b ∷ c ∷ d ∷ [], (ns, (vs, (z, tb))))) (h : mode_bytes mode < room) where
  f : List Bool
  f = a ∷ b ∷ c ∷ d ∷ []

  x : Frame
  x = (a ∷ b ∷ c ∷ d ∷ [], (ns, (vs, (z, tb))))

  t : ℕ
  t = mode_bytes mode * 8

  ok : (frame t).Ok x
  unfolding x t
  ok = ((frame_lawful t).there (bits_of (body_of (mode_bytes mode) src)) x [] S.body).1

  ok_norms : LegalNorms a ns
  unfolding frame x t
  ok_norms = legal_ok a c ns ok.1.0

  ok_codes : FitAll (map coding (kinds_of t f ns)) vs
  unfolding frame codes_part words f x t
  ok_codes = ok.1.1.0

  ok_noise : z < 2 ^ noise_bits a
  unfolding frame f x t
  ok_noise = ok.1.1.1.0

  ok_tail : length tb ≡ tail_left t f ns vs
  unfolding frame raw f x t
  ok_tail = ok.1.1.1.1

  r : Record
  r = record_of mode (a ∷ b ∷ c ∷ d ∷ [], (ns, (vs, (z, tb))))

  cs : List ℕ
  cs = vs ++ drop 800 codes

  ts : List ℕ
  ts = tail_bytes tb ++ drop 320 tail

  many : length vs ≡ 800
  unfolding kinds_of kinds_at
  many = fit_length (map coding (kinds_of t f ns)) vs ok_codes ∙ length-map (kinds_of t f ns) coding ∙ length_kinds _ _

  codes_front : take 800 cs ≡ vs
  unfolding cs
  codes_front = take_at vs (drop 800 codes) 800 many

  -- the codes keep to the budget
  paid : length (code_bits t f ns vs) ≤ budget_of t f ns
  unfolding f x t tail_left budget_of
  paid =
      let body = body_of (mode_bytes mode) src in
      let e = ((frame_lawful t).there (bits_of body) x [] S.body).0 in
      omega (
        arith,
        frame_bits t x ok,
        ap length e,
        length-append ((frame t).write x) [],
        length_bits body,
        length_body src (mode_bytes mode) S.long,
        noise_le a,
        (norm_bits_lem a c ns ok_norms).1,
        (mode_bounds mode S.low).0,
      )

  few : length tb ≤ 2560
  unfolding t tail_left budget_of
  few = omega (arith, ok_tail, (mode_bounds mode S.low).1)

  module _ (hc : 800 ≤ length codes) (ht : 320 ≤ length tail) where
    obeys : Passed r cs ts room
    unfolding r cs ts f t tail_left code_bits
    obeys =
        record {
          rooms =
              record {
                mode = omega (arith, S.low);
                codes = omega (arith, length-append vs (drop 800 codes), many);
                tail = omega (arith, length_tail tb (drop 320 tail) few);
                out = h;
                quiet = fit_quiet a z ok_noise;
              };
          norms = reply_legal a ns ok_norms.long ok_norms;
          fit = subst (λ (l : List ℕ). FitAll (map coding (kinds_for r)) l) (sym codes_front) ok_codes;
          paid = subst (λ (l : List ℕ). codes_long (kinds_for r) l ≤ budget_for r) (sym codes_front) paid;
          count = ok_tail ∙ ap (λ (l : List ℕ). budget_for r - codes_long (kinds_for r) l) (sym codes_front);
          pad = tail_clear tb (drop 320 tail) few;
        }

    accepted : write_reply r cs ts room ≡ 0
    accepted = writes r cs ts room obeys

  same_frame : frame_of r cs ts ≡ x
  unfolding r ts x
  same_frame = ap₂ (λ (l : List ℕ) (w : List Bool). (a ∷ b ∷ c ∷ d ∷ [], (ns, (l, (z, w))))) codes_front (tail_front tb (drop 320 tail) few)

  bytes_return : Bytes src → bytes_for r cs ts ≡ zero_r (get_or src 0 0) ∷ body_of (mode_bytes mode) src
  unfolding bytes_for r t x
  bytes_return k =
      let n = mode_bytes mode in
      let body = body_of n src in
      let e = ((frame_lawful t).there (bits_of body) x [] S.body).0 in
      ap₂ (λ (b : ℕ) (l : List ℕ). b ∷ l) (S.first (k 0)) (ap (λ (y : Frame). bytes_of n ((frame t).write y)) same_frame
      ∙ ap (bytes_of n) (sym (append-nil ((frame t).write x)) ∙ sym e)
      ∙ ap (λ (j : ℕ). bytes_of j (bits_of body)) (sym (length_body src n S.long)) ∙ bytes_bits body (bytes_body n src k))

-- what was read is accepted by the writer, and its bytes return: the prefix byte with R = 0, and the body
pub write_back : (src codes tail : List ℕ) (mode : ℕ) (x : Frame) (room : ℕ) → Bytes src → read_answer src (length codes) (length tail) ≡ sound mode x
    → mode_bytes mode < room
    → (write_reply (record_of mode x) (codes_after codes (sound mode x)) (tail_after tail (sound mode x)) room ≡ 0)
    × (bytes_for (record_of mode x) (codes_after codes (sound mode x)) (tail_after tail (sound mode x)) ≡ zero_r (get_or src 0 0) ∷ body_of (mode_bytes mode) src)
unfolding r cs ts
write_back src codes tail mode (a ∷ b ∷ c ∷ d ∷ [], (ns, (vs, (z, tb)))) room k e h =
    let s = answer_sound src (length codes) (length tail) mode (a ∷ b ∷ c ∷ d ∷ [], (ns, (vs, (z, tb)))) e in
    (accepted mode a b c d ns vs z tb src codes tail room s.2 h s.0 s.1, bytes_return mode a b c d ns vs z tb src codes tail room s.2 h k)
write_back src codes tail mode ([], y) room k e h = absurd (let q = four_flags src (length codes) (length tail) mode ([], y) e in omega arith)
write_back src codes tail mode (a ∷ [], y) room k e h = absurd (let q = four_flags src (length codes) (length tail) mode (a ∷ [], y) e in omega arith)
write_back src codes tail mode (a ∷ b ∷ [], y) room k e h = absurd (let q = four_flags src (length codes) (length tail) mode (a ∷ b ∷ [], y) e in omega arith)
write_back src codes tail mode (a ∷ b ∷ c ∷ [], y) room k e h =
    absurd (let q = four_flags src (length codes) (length tail) mode (a ∷ b ∷ c ∷ [], y) e in omega arith)
write_back src codes tail mode (a ∷ b ∷ c ∷ d ∷ i ∷ l, y) room k e h =
    absurd (let q = four_flags src (length codes) (length tail) mode (a ∷ b ∷ c ∷ d ∷ i ∷ l, y) e in omega arith)
