-- What reading tells stage by stage: the flags, the norms that are refused or opened, the data behind the prefix byte.
-- Assumes nothing.
use mathlib.Core.Path.{◌≡◌, refl, sym, ap, ap₂, ◌∙◌}
use mathlib.Core.Bool.{Bool, true, false}
use mathlib.Core.List.{List}
use Prim.Native.Nat.{ℕ, ◌+◌, ◌-◌, ◌*◌, ◌≤◌, ◌<◌, min}
use native.Mathlib.Omega.{arith}
use lib.Dec.{eqb}
use lib.ListN.{length, take, drop, length-drop}
use lib.Seq.{length-take-le}
use borrow.Author.Tests.{lt-ltb, le-ltb}
use Rattle.ground.specs.Replies.{short_room, cut}
use Rattle.ground.specs.Numbered.{number}
use Rattle.ground.specs.declared.replies.Reply.{Reply}
use Rattle.bits.specs.Bits.{num, bit, view, val}
use Rattle.bits.proofs.Laws.Views.{view_rest}
use Rattle.bits.proofs.Laws.Bytes.{view_bits}
use Rattle.bits.specs.Codings.{Answer, got, no, reply_of}
use Rattle.bits.specs.declared.Refusal.{Refusal}
use Rattle.bits.specs.declared.Refusal.TheVariants.{Outside, Missing, Past}
use Rattle.norms.specs.Part.{norm_part, norm_bits}
use Rattle.norms.proofs.Laws.Codec.{norms_there}
use Rattle.norms.proofs.Laws.Part.{norm_bits_lem}
use Rattle.norms.specs.Answers.{part_of, reply_for}
use Rattle.norms.proofs.Laws.Replies.{number_for}
use Rattle.norms.specs.declared.NormPart.{NormPart}
use Rattle.prefix.specs.Sizes.{mode_bytes, length_bytes, mode_of}
use Rattle.prefix.proofs.Laws.Sizes.{a2_between, mode_bounds, mode_less_8, mode_given}
use Rattle.prefix.specs.Prefix.{prefix_of}
use Rattle.prefix.proofs.Laws.Prefix.{prefix_data}
use Rattle.prefix.specs.declared.Prefix.{Prefix}
use Rattle.prefix.specs.declared.Prefix.TheVariants.{Data}
use Rattle.prefix.specs.declared.Length.{Length}
use Rattle.prefix.specs.declared.Mode.{Mode}
use Rattle.std.specs.declared.option.Option.TheVariants.{Some, None}
use Rattle.std.specs.declared.result.Result.TheVariants.{Ok, Err}
use Rattle.frame.specs.Layout.{is_transient, flag_n, frame}
use Rattle.kinds.proofs.Laws.Budget.{noise_le}
use Rattle.frame.proofs.Laws.Places.{frame_no}
use Rattle.frame.specs.Answers.{refused, outcome, read_body, body_of, started, read_answer, flags_of}
use Rattle.frame.specs.Inner.{NormsRead}

-- ---- flags

one_bit : (b : Bool) → eqb (num b * 1 + 0) 1 ≡ b
one_bit true = refl
one_bit false = refl

flag_is : (s : List ℕ) (i : ℕ) → eqb (val (view s i (min 1 16))) 1 ≡ bit s i
unfolding view val
flag_is s i = one_bit (bit s i)

pub flag_made : (s : List ℕ) (i z : ℕ) → z ≡ val (view s i (min 1 16)) → eqb z 1 ≡ bit s i
flag_made s i z e = ap (λ (x : ℕ). eqb x 1) e ∙ flag_is s i

flags_are : (s : List ℕ) → record { transient = bit s 0; l = bit s 1; n = bit s 2; c = bit s 3 } ≡ flags_of (view s 0 4)
unfolding view
flags_are s = refl

pub flags_made : (s : List ℕ) (t l n k : Bool) → t ≡ bit s 0 → l ≡ bit s 1 → n ≡ bit s 2 → k ≡ bit s 3
    → record { transient = t; l = l; n = n; c = k } ≡ flags_of (view s 0 4)
flags_made s t l n k a b d e = rw (a, b, d, e) (flags_are s)

pub never_done : (x : Refusal) → reply_of x ≡ 0 → ⊥
never_done Outside e = omega arith
never_done Missing e = omega arith
never_done Past e = omega arith

module _ (s : List ℕ) (long : 80 ≤ length s) where
  abbrev read : Answer (List ℕ)
  read = (norm_part (is_transient (view s 0 4)) (flag_n (view s 0 4))).read (view s 4 (length s * 8 - 4))

  refused_of : (x : Reply) (a : Answer (List ℕ)) → read ≡ a → Err x ≡ part_of 4 (length s * 8 - 4) a → (mode : ℕ) → read_body mode s ≡ refused (number x)
  unfolding read_body
  refused_of x (got ns r) q g mode = absurd (cc)
  refused_of x (no y) q g mode =
      let e : x ≡ reply_for y = cc in
      ap (λ (b : List Bool). outcome mode ((frame (length s * 8)).read b)) (sym (view_bits s))
      ∙ ap (outcome mode) (frame_no s (length s * 8) (omega arith) y q)
      ∙ ap refused (sym (number_for y) ∙ ap number (sym e))

  pub norms_refused : (x : Reply) → Err x ≡ part_of 4 (length s * 8 - 4) read → (mode : ℕ) → read_body mode s ≡ refused (number x)
  norms_refused x e mode = refused_of x read refl e mode

  opened_of : (n : NormPart) (a : Answer (List ℕ)) → read ≡ a → Ok n ≡ part_of 4 (length s * 8 - 4) a → NormsRead s n.norms n.next
  opened_of n (no x) q g = absurd (cc)
  opened_of n (got ns r) q g =
      let t = is_transient (view s 0 4) in
      let f = flag_n (view s 0 4) in
      let end = length s * 8 in
      let w = norms_there t f (view s 4 (end - 4)) ns r q in
      let v = view_rest s 4 (end - 4) (norm_bits t f ns) r w.0 in
      let l = norm_bits_lem t f ns w.1 in
      let m₀ : NormPart = record { next = 4 + (end - 4 - length r); norms = ns } in
      let made : n ≡ m₀ = cc in
      let next : n.next ≡ 4 + (end - 4 - length r) = ap (λ (y : NormPart). y.next) made in
      let p : 4 + length (norm_bits t f ns) ≡ n.next = omega (arith, v.1) in
      let m : end - 4 - length (norm_bits t f ns) ≡ end - n.next = omega (arith, v.1) in
      record {
        said = q ∙ ap₂ got (sym (ap (λ (y : NormPart). y.norms) made)) (v.0 ∙ ap₂ (λ (x y : ℕ). view s x y) p m);
        far = omega arith;
        near = omega (arith, l.1);
        four = omega arith;
        room = omega (arith, l.1, noise_le t);
      }

  pub norms_opened : (n : NormPart) → Ok n ≡ part_of 4 (length s * 8 - 4) read → NormsRead s n.norms n.next
  norms_opened n e = opened_of n read refl e

-- ---- the whole reading

module _ (src : List ℕ) (c t : ℕ) where
  pub read_codes_short : c < 800 → read_answer src c t ≡ refused short_room
  unfolding read_answer
  read_codes_short h = rw (lt-ltb c 800 h)

  pub read_tail_short : 800 ≤ c → t < 320 → read_answer src c t ≡ refused short_room
  unfolding read_answer
  read_tail_short h l = rw (le-ltb c 800 h, lt-ltb t 320 l)

  module _ (h : 800 ≤ c) (l : 320 ≤ t) where
    pub read_started : (p : Prefix) → p ≡ prefix_of src → read_answer src c t ≡ started p src
    unfolding read_answer
    read_started p e = rw (le-ltb c 800 h, le-ltb t 320 l) (ap (λ (z : Prefix). started z src) (sym e))

module _ (src : List ℕ) (f : Length) (n : ℕ) (q : n ≡ length_bytes f.0) where
  pub data_cut : length src ≤ n → started (Data f) src ≡ refused cut
  data_cut m = rw (le-ltb (length_bytes f.0) (length src) (omega arith))

  pub data_whole : n < length src → started (Data f) src ≡ read_body (f.0 - 8) (body_of n src)
  data_whole m = (rw (lt-ltb (length_bytes f.0) (length src) (omega arith))) ∙ ap (λ (k : ℕ). read_body (f.0 - 8) (body_of k src)) (sym q)

-- a field of 8 to 27: the bytes are those of its mode, 80 to 320
pub record Sized (f n : ℕ) : Type 0 where
  pub low : 8 ≤ f
  pub mode : n ≡ mode_bytes (f - 8)
  pub least : 80 ≤ n
  pub most : n ≤ 320

pub field_sized : (src : List ℕ) (f : Length) (n : ℕ) → Data f ≡ prefix_of src → n ≡ length_bytes f.0 → Sized f.0 n
field_sized src f n e q =
    let d = prefix_data src f (sym e) in
    let m = (a2_between f.0 d.0 d.1).0 in
    let b = mode_bounds (f.0 - 8) (omega (arith, d.1)) in
    record { low = d.0; mode = q ∙ m; least = omega (arith, b.0); most = omega (arith, b.1) }

-- the part of the source that is the body
pub body_part : (src : List ℕ) (n : ℕ) → n < length src → take (n + 1 - 1) (drop 1 src) ≡ body_of n src
body_part src n h = let e : n + 1 - 1 ≡ n = omega arith in ap (λ (k : ℕ). take k (drop 1 src)) e

pub length_body : (src : List ℕ) (n : ℕ) → n < length src → length (body_of n src) ≡ n
length_body src n h = length-take-le n (drop 1 src) (omega (arith, length-drop 1 src))

-- the mode that the field names is L − 8
pub field_mode : (src : List ℕ) (f : Length) → Data f ≡ prefix_of src → (m : Mode) → mode_of f.0 ≡ Some m → m.0 ≡ f.0 - 8
field_mode src f e = let d = prefix_data src f (sym e) in mode_less_8 f.0 d.0 d.1

pub field_named : (src : List ℕ) (f : Length) → Data f ≡ prefix_of src → mode_of f.0 ≡ None → ⊥
field_named src f e = let d = prefix_data src f (sym e) in mode_given f.0 d.0 d.1
