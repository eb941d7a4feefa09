-- 01: 6 is "word 1111110 in the 5-bit column", 7 is "codes go past Ψ". Our reading: with FlagC 0 there is neither 6 nor 7. All codes are fixed codes then;
-- their widths are the bits that the allotment gave, at most Ψ by demand 3; and the norms find their words in any body.
-- Assumes nothing.
use mathlib.Core.Path.{◌≡◌, refl, sym, ap, ◌∙◌}
use mathlib.Core.Bool.{Bool, false}
use mathlib.Core.List.{List, [], ◌∷◌, map}
use Prim.Native.Nat.{ℕ, zero, suc, ◌+◌, ◌-◌, ◌*◌, ◌≤◌, ◌<◌}
use native.Mathlib.Omega.{arith}
use lib.Dec.{ltb}
use lib.ListN.{length, get_or, take, drop, length-append, length-map, get_or-append}
use lib.Seq.{length-take-le}
use borrow.Author.Tests.{ltb-true, ltb-false}
use Rattle.ground.proofs.Laws.Cases.{by_bool}
use Rattle.ground.specs.Replies.{norm_outside, no_word, past_budget}
use Rattle.ground.specs.Sums.{nth}
use Rattle.ground.proofs.Laws.Sums.{sum_of}
use Rattle.bits.specs.Bits.{bits_of, word}
use Rattle.bits.proofs.Laws.Bytes.{length_bits}
use Rattle.bits.proofs.Laws.NumbersAsBits.{length_word}
use Rattle.bits.specs.Codings.{Coding, fixed, Answer, got, no, word_of, reply_of}
use Rattle.bits.proofs.Laws.Codings.{word_unword, word_fixed}
use Rattle.bits.specs.Codecs.{coded, words, raw, within, read_all, write_all}
use Rattle.bits.proofs.Laws.NeverRefused.{fixed_never_refused, read_never_refused, all_fixed, fixed_bits}
use Rattle.bits.proofs.Laws.NeverRefused.{NormAlone, sound_alone, coded_alone, raw_alone, pair_alone, within_alone}
use Rattle.words.specs.Tables.{coding}
use Rattle.bits.proofs.Laws.Codecs.{raw_lawful, within_lawful, fit_length}
use Rattle.words.proofs.Laws.NeverRefused.{fixed_kinds}
use Rattle.weights.specs.Weights.{nth_z, scores_of}
use Rattle.contest.specs.Bands.{length_of, competing}
use Rattle.contest.specs.Fairness.{Fair}
use Rattle.allotment.specs.Allotment.{shares_of}
use Rattle.allotment.proofs.Laws.Fair.{demand3}
use Rattle.prefix.specs.Sizes.{length_bytes}
use Rattle.prefix.specs.Prefix.{prefix_of}
use Rattle.prefix.specs.declared.Prefix.{Prefix}
use Rattle.prefix.specs.declared.Prefix.TheVariants.{Data, NoData, NoByte, Marked, Reserved}
use Rattle.norms.specs.Legal.{LegalNorms}
use Rattle.norms.specs.Part.{norm_bits, norm_part}
use Rattle.norms.proofs.Laws.Codec.{norms_there}
use Rattle.norms.proofs.Laws.Part.{norm_bits_lem}
use Rattle.norms.proofs.Laws.Legal.{legal_range}
use Rattle.norms.proofs.Laws.NeverRefused.{norms_alone}
use Rattle.kinds.specs.Kinds.{kinds}
use Rattle.frame.specs.Layout.{Frame, is_transient, flag_l, flag_n, flag_c, budget_of, kinds_of, code_bits, tail_left, codes_part, ending_part}
use Rattle.frame.specs.Layout.{rest_part, norms_and_rest, frame}
use Rattle.kinds.specs.Budget.{noise_bits, all_compete, kinds_at}
use Rattle.kinds.proofs.Laws.Budget.{noise_le}
use Rattle.kinds.proofs.Laws.Fixed.{kinds_sum, kinds_small}
use Rattle.frame.proofs.Laws.Layout.{codes_lawful}
use Rattle.frame.proofs.Laws.Reads.{read_codes_short, read_tail_short, read_started, data_cut, data_whole, length_body, field_sized}
use Rattle.frame.specs.Answers.{refused, outcome, read_body, body_of, started, read_answer}

-- ---- the codes of legal norms, under any flags with FlagC 0

module _ (total : ℕ) (flags : List Bool) (norms : List ℕ) (c : flag_c flags ≡ false) (w : LegalNorms (is_transient flags) norms)
    (most : budget_of total flags norms ≤ 2560) where
  abbrev t : Bool
  t = is_transient flags

  abbrev wide : Bool
  wide = all_compete total (flag_l flags)

  abbrev budget : ℕ
  budget = budget_of total flags norms

  abbrev rates : List ℕ
  rates = (shares_of t wide norms budget).rates

  abbrev ks : List ℕ
  ks = kinds_of total flags norms

  fair : Fair length_of (nth_z (scores_of t norms)) (competing wide) budget (nth rates) (shares_of t wide norms budget).left
  fair = (demand3 t wide norms budget (legal_range t norms w) most).1

  plain_kinds : kinds_of total flags norms ≡ kinds false rates
  unfolding kinds_of kinds_at
  plain_kinds = ap (λ (b : Bool). kinds b rates) c

  -- each is a fixed code
  all_plain : map coding (kinds_of total flags norms) ≡ map fixed (kinds_of total flags norms)
  all_plain = fixed_kinds ks (λ i. rw plain_kinds (kinds_small rates fair.nine i))

  -- (33): their widths are the bits given, at most the budget
  paid : sum_of (kinds_of total flags norms) ≤ budget_of total flags norms
  paid = omega (arith, ap sum_of plain_kinds, kinds_sum rates, fair.sum)

  pub plain_bits : (vs : List ℕ) → length vs ≡ length (kinds_of total flags norms)
      → length (write_all (map coding (kinds_of total flags norms)) vs) ≤ budget_of total flags norms
  plain_bits vs l = omega (arith, ap (λ (cs : List Coding). length (write_all cs vs)) all_plain, fixed_bits ks vs l, paid)

  -- ---- the rest of a frame

  codes_alone : (u : List Bool) → budget_of total flags norms ≤ length u → NormAlone ((codes_part total flags norms).read u)
  unfolding codes_part words
  codes_alone u h =
      let (vs, r, g) = read_never_refused ks (map fixed ks) (all_fixed ks) u (omega (arith, paid)) in
      sound_alone (read_all (map coding ks) u) vs r (ap (λ (cs : List Coding). read_all cs u) all_plain ∙ g)

  ending_alone : (vs : List ℕ) (r : List Bool) → noise_bits (is_transient flags) + tail_left total flags norms vs ≤ length r
      → NormAlone ((ending_part total flags norms vs).read r)
  ending_alone vs r l =
      let n = noise_bits t in
      let m = tail_left total flags norms vs in
      pair_alone (coded (fixed n)) (λ z. raw m) r (coded_alone n (fixed n) (fixed_never_refused n) r (omega arith))
      (λ z q e.
      raw_alone m q
      (omega (arith, ap length (word_unword (fixed n) r z q e).0, length-append (word_of (fixed n) z) q, ap length (word_fixed n z), length_word n z)))

  rest_alone : (q : List Bool) → length q ≡ budget_of total flags norms + noise_bits (is_transient flags) → NormAlone ((rest_part total flags norms).read q)
  unfolding tail_left code_bits codes_part words
  rest_alone q l =
      let n = noise_bits t in
      let part = codes_part total flags norms in
      let m = length q - n in
      pair_alone (within n part) (ending_part total flags norms) q
      (within_alone n part q (codes_alone (take m q) (omega (arith, length-take-le m q (omega arith)))))
      (λ vs r e.
      let o = (within_lawful n (codes_lawful total flags norms)).there q vs r e in
      ending_alone vs r
      (omega (
        arith,
        ap length o.0,
        length-append (write_all (map coding ks) vs) r,
        plain_bits vs (fit_length (map coding ks) vs o.1 ∙ length-map ks coding),
      )))

-- ---- a body

module _ (total : ℕ) (least : 640 ≤ total) (most : total ≤ 2560) where
  norms_rest : (flags r : List Bool) → flag_c flags ≡ false → length r ≡ total - 4 → NormAlone ((norms_and_rest total flags).read r)
  unfolding budget_of
  norms_rest flags r c l =
      let t = is_transient flags in
      let n = flag_n flags in
      pair_alone (norm_part t n) (rest_part total flags) r (norms_alone t n r (omega arith))
      (λ norms q e.
      let o = norms_there t n r norms q e in
      let b = (norm_bits_lem t n norms o.1).1 in
      rest_alone total flags norms c o.1 (omega arith) q (omega (arith, ap length o.0, length-append (norm_bits t n norms) q, b, noise_le t)))

  frame_alone : (b : List Bool) → length b ≡ total → get_or b 3 false ≡ false → NormAlone ((frame total).read b)
  unfolding frame raw
  frame_alone b l c =
      pair_alone (raw 4) (norms_and_rest total) b (raw_alone 4 b (omega arith))
      (λ flags r e.
      let o = (raw_lawful 4).there b flags r e in
      let four : length flags ≡ 4 = o.1 in
      let flag : get_or flags 3 false ≡ false = sym (get_or-append flags r false 3 (omega arith)) ∙ ap (λ (z : List Bool). get_or z 3 false) (sym o.0) ∙ c in
      norms_rest flags r flag (omega (arith, ap length o.0, length-append flags r)))

outcome_five : (mode x : ℕ) (a : Answer Frame) → NormAlone a → outcome mode a ≡ refused x → x ≡ norm_outside
outcome_five mode x (got f r) h e = absurd (let z : ◌≡◌ {A = ℕ} 0 1 = cc in omega arith)
outcome_five mode x (no y) h e = let q : reply_of y ≡ x = cc in sym q ∙ ap reply_of (h y refl)

-- the one refusal of a body with FlagC 0 is 5
pub body_five : (mode x : ℕ) (body : List ℕ) → 80 ≤ length body → length body ≤ 320 → get_or (bits_of body) 3 false ≡ false → read_body mode body ≡ refused x
    → x ≡ norm_outside
unfolding read_body
body_five mode x body lo hi c e =
    outcome_five mode x ((frame (length body * 8)).read (bits_of body))
    (frame_alone (length body * 8) (omega arith) (omega arith) (bits_of body) (length_bits body) c) e

-- ---- the whole reading

-- FlagC is in the first byte
first_byte : (n : ℕ) (s : List ℕ) → 0 < n → get_or (bits_of (take n s)) 3 false ≡ get_or (bits_of s) 3 false
unfolding bits_of word
first_byte zero s h = absurd (omega arith)
first_byte (suc n) [] h = refl
first_byte (suc n) (b ∷ s) h = refl

abbrev Neither : ℕ → Type 0
Neither x = (x ≡ no_word → ⊥) × (x ≡ past_budget → ⊥)

other : (y x : ℕ) → Neither y → refused y ≡ refused x → Neither x
other y x n e = let q : y ≡ x = cc in (λ z. n.0 (q ∙ z), λ z. n.1 (q ∙ z))

started_plain : (src : List ℕ) (x : ℕ) → get_or (bits_of (drop 1 src)) 3 false ≡ false → (p : Prefix) → prefix_of src ≡ p → started p src ≡ refused x → Neither x
started_plain src x c NoByte q e = other 1 x (λ z. omega arith, λ z. omega arith) e
started_plain src x c Marked q e = other 2 x (λ z. omega arith, λ z. omega arith) e
started_plain src x c Reserved q e = other 3 x (λ z. omega arith, λ z. omega arith) e
started_plain src x c NoData q e = absurd (let z : ◌≡◌ {A = ℕ} 0 1 = cc in omega arith)
started_plain src x c (Data f) q e =
    let n = length_bytes f.0 in
    let s = field_sized src f n (sym q) refl in
    by_bool (ltb n (length src))
    (λ t.
    let l = ltb-true n (length src) t in
    let k = length_body src n l in
    let five = body_five (f.0 - 8) x (body_of n src) (omega (arith, s.least)) (omega (arith, s.most)) (first_byte n (drop 1 src) (omega (arith, s.least))
    ∙ c)
    (sym (data_whole src f n refl l) ∙ e) in
    (λ z. omega arith, λ z. omega arith))
    (λ t. other 4 x (λ z. omega arith, λ z. omega arith) (sym (data_cut src f n refl (ltb-false n (length src) t)) ∙ e))

-- With FlagC 0 (the fourth bit of the body) there is neither 6 nor 7 in reading, whatever the source and the lent room
pub plain_read : (src : List ℕ) (codes tail x : ℕ) → get_or (bits_of (drop 1 src)) 3 false ≡ false → read_answer src codes tail ≡ refused x
    → (x ≡ no_word → ⊥) × (x ≡ past_budget → ⊥)
plain_read src codes tail x c e =
    by_bool (ltb codes 800)
    (λ a. other 10 x (λ z. omega arith, λ z. omega arith) (sym (read_codes_short src codes tail (ltb-true codes 800 a)) ∙ e))
    (λ a.
    let h = ltb-false codes 800 a in
    by_bool (ltb tail 320)
    (λ b. other 10 x (λ z. omega arith, λ z. omega arith) (sym (read_tail_short src codes tail h (ltb-true tail 320 b)) ∙ e))
    (λ b.
    let l = ltb-false tail 320 b in
    started_plain src x c (prefix_of src) refl (sym (read_started src codes tail h l (prefix_of src) refl) ∙ e)))
