-- The turns of taking a channel out: its frames of so many blocks are counted, or copied, and the next of them begins at the place.
-- Assumes nothing.
use mathlib.Core.Path.{◌≡◌, refl, sym, ap, ap₂, ◌∙◌, subst}
use mathlib.Core.Bool.{true, false}
use mathlib.Core.List.{List, ◌++◌}
use Prim.Native.Nat.{ℕ, zero, suc, ◌+◌, ◌-◌, ◌*◌, ◌≤◌, ◌<◌}
use native.Mathlib.Nat.{zero-mul, suc-mul}
use native.Mathlib.Numerals.{add-one}
use native.Mathlib.Omega.{arith}
use lib.Dec.{ltb}
use lib.ListN.{length, take, drop, length-append, length-drop}
use lib.Seq.{length-take-le}
use borrow.Author.Tests.{eq-eqb, ne_eqb, lt-ltb, le-ltb, ltb-true}
use Rattle.ground.specs.Runs.{runs}
use Rattle.ground.proofs.Laws.Runs.{runs_none, runs_more, length_runs}
use Rattle.ground.proofs.Laws.Sums.{sum_grows}
use Rattle.ground.proofs.Laws.Cases.{by_bool}
use Rattle.ground.specs.Laying.{laid_text, TextLaid}
use Rattle.ground.proofs.Laws.Laying.{laid_none, laid_long, laid_front, then}
use Rattle.ground.specs.Replies.{done, short_room, wrong_channels}
use Rattle.recording.specs.Blocks.{is_count, walk_blocks}
use Rattle.recording.proofs.Laws.Blocks.{counted, is_counted}
use Rattle.recording.specs.declared.answer.Check.{Check}
use Rattle.frames.specs.Places.{size_at, place_from, place_of, frame_at}
use Rattle.frames.proofs.Laws.Places.{size_inside, place_inside, place_add}
use Rattle.channels.specs.Copies.{extracted, is_among, made_copy, refused_copy, stopped_copy, extract_answer, extract_after, copied_to}
use Rattle.channels.specs.declared.Copied.{Copied}

-- ---- frames and places

pub length_frame : (s : List ℕ) (i : ℕ) → length (frame_at s i) ≡ size_at (drop (place_of s i) s)
length_frame s i = length-take-le (size_at (drop (place_of s i) s)) (drop (place_of s i) s) (size_inside (drop (place_of s i) s))

place_not_less : (s : List ℕ) (at n : ℕ) → at ≤ place_from s at n
unfolding place_from
place_not_less s at zero = omega arith
place_not_less s at (suc n) = omega (arith, place_not_less s at n)

pub place_grows : (s : List ℕ) (at m n : ℕ) → m ≤ n → place_from s at m ≤ place_from s at n
place_grows s at m n h =
    let e : n ≡ m + (n - m) = omega arith in
    omega (arith, ap (place_from s at) e, place_add s at m (n - m), place_not_less s (place_from s at m) (n - m))

one_frame : (s : List ℕ) (at : ℕ) → place_from s at 1 ≡ at + size_at (drop at s)
unfolding place_from
one_frame s at = refl

-- the part of the source from a frame's place on is that frame
pub frame_part : (s : List ℕ) (at i k : ℕ) → at ≡ place_of s i → k ≡ size_at (drop at s) → take (at + k - at) (drop at s) ≡ frame_at s i
frame_part s at i k e q =
    let n : at + k - at ≡ k = omega arith in
    ap (λ (j : ℕ). take j (drop at s)) (n ∙ q) ∙ ap (λ (p : ℕ). take (size_at (drop p s)) (drop p s)) e

-- the frame's end is inside
pub frame_inside : (s : List ℕ) (at k : ℕ) → at ≤ length s → k ≡ size_at (drop at s) → at + k ≤ length s
frame_inside s at k h q = omega (arith, size_inside (drop at s), length-drop at s)

pub taken_inside : (s : List ℕ) (at : ℕ) {t : List ℕ} → at ≤ length s → t ≡ take (size_at (drop at s)) (drop at s) → at + length t ≤ length s
taken_inside s at h e =
    omega (arith, ap length e, length-take-le (size_at (drop at s)) (drop at s) (size_inside (drop at s)), frame_inside s at (size_at (drop at s)) h refl)

-- fewer runs are not longer
pub runs_under : (f : ℕ → List ℕ) (m n : ℕ) → m ≤ n → length (runs m f) ≤ length (runs n f)
runs_under f m n h = omega (arith, length_runs f m, length_runs f n, sum_grows (λ k. length (f k)) m n h)

-- ---- the turns

module _ (s : List ℕ) (n c : ℕ) where
  pub record At (at b : ℕ) : Type 0 where
    pub place : at ≡ place_of s (b * n + c)
    pub inside : at ≤ length s

  pub at_first : (at : ℕ) → at ≡ place_from s 0 c → At at 0
  at_first at e =
      let z : c ≡ 0 * n + c = omega (arith, zero-mul n) in
      record { place = e ∙ ap (place_of s) z; inside = omega (arith, e, place_inside s 0 c (omega arith)) }

  pub at_next : {at b : ℕ} (r : ℕ) → At at b → r ≡ place_from s at n → At r (b + 1)
  at_next {at} {b} r A e =
      let z : b * n + c + n ≡ (b + 1) * n + c = omega (arith, suc-mul b n, ap (λ (j : ℕ). j * n) (add-one b)) in
      let q : r ≡ place_of s (b * n + c + n) = e ∙ ap (λ (p : ℕ). place_from s p n) A.place ∙ sym (place_add s 0 (b * n + c) n) in
      record { place = q ∙ ap (place_of s) z; inside = omega (arith, q, place_inside s 0 (b * n + c + n) (omega arith)) }

  -- the bytes of the channel's frames so far lie before the place
  pub record Counting (k at m b : ℕ) : Type 0 where
    pub few : b ≤ k
    pub at_frame : At at b
    pub bytes : m ≡ length (extracted n c b s)
    pub before : m ≤ at

  pub counting_none : (k at : ℕ) → at ≡ place_from s 0 c → Counting k at 0 0
  counting_none k at e =
      record { few = omega arith; at_frame = at_first at e; bytes = sym (ap length (runs_none (λ b. frame_at s (b * n + c)))); before = omega arith }

  pub counting_more : {k at m b : ℕ} (t : List ℕ) (r : ℕ) → 1 ≤ n → Counting k at m b → b < k → t ≡ take (size_at (drop at s)) (drop at s)
      → r ≡ place_from s at n → Counting k r (m + length t) (b + 1)
  counting_more {k} {at} {m} {b} t r one C h et er =
      let l : length t ≡ length (frame_at s (b * n + c)) = ap length (et ∙ ap (λ (p : ℕ). take (size_at (drop p s)) (drop p s)) C.at_frame.place) in
      let f : ℕ → List ℕ = λ j. frame_at s (j * n + c) in
      let g : at + length t ≤ r =
      omega (arith, er, place_grows s at 1 n one, one_frame s at, ap length et, length-take-le (size_at (drop at s)) (drop at s) (size_inside (drop at s))) in
      record {
        few = omega arith;
        at_frame = at_next r C.at_frame er;
        bytes = ap₂ (λ (x y : ℕ). x + y) C.bytes l ∙ sym (ap length (runs_more f b) ∙ length-append (runs b f) (f b));
        before = omega (arith, C.before, g);
      }

  -- the channel's frames so far are laid
  pub record Copying (k : ℕ) (out₀ out : List ℕ) (at to b : ℕ) : Type 0 where
    pub few : b ≤ k
    pub at_frame : At at b
    pub laid : TextLaid out₀ 0 (extracted n c b s) out to

  pub copying_none : (k : ℕ) (out : List ℕ) (at : ℕ) → at ≡ place_from s 0 c → Copying k out out at 0 0
  copying_none k out at e =
      record {
        few = omega arith;
        at_frame = at_first at e;
        laid = subst (λ (t : List ℕ). TextLaid out 0 t out 0) (sym (runs_none (λ b. frame_at s (b * n + c)))) (laid_none out 0 refl);
      }

  module _ {k : ℕ} {out₀ out : List ℕ} {at to b : ℕ} (C : Copying k out₀ out at to b) (h : b < k) {t : List ℕ} (et : t ≡ take (size_at (drop at s)) (drop at s)) where
    part : t ≡ frame_at s (b * n + c)
    part = et ∙ ap (λ (p : ℕ). take (size_at (drop p s)) (drop p s)) C.at_frame.place

    -- the next frame has room
    pub copying_room : length (extracted n c k s) ≤ length out₀ → to + length t ≤ length out
    copying_room r =
        let f : ℕ → List ℕ = λ j. frame_at s (j * n + c) in
        omega (
          arith,
          r,
          C.laid.after,
          laid_long C.laid,
          ap length part,
          runs_under f (b + 1) k (omega arith),
          ap length (runs_more f b),
          length-append (runs b f) (f b),
        )

    pub copying_more : {out' : List ℕ} {to' : ℕ} (r : ℕ) → TextLaid out to t out' to' → r ≡ place_from s at n
        → Copying k out₀ out' r to' (b + 1)
    copying_more {out'} {to'} r m er =
        let f : ℕ → List ℕ = λ j. frame_at s (j * n + c) in
        record {
          few = omega arith;
          at_frame = at_next r C.at_frame er;
          laid = subst (λ (t : List ℕ). TextLaid out₀ 0 t out' to') (ap (λ (u : List ℕ). runs b f ++ u) part ∙ sym (runs_more f b)) (then C.laid m);
        }

  pub copied_all : {k : ℕ} {out₀ out : List ℕ} {at to b : ℕ} → Copying k out₀ out at to b → k ≤ b → length (extracted n c k s) ≤ length out₀
      → out ≡ extracted n c k s ++ drop (length (extracted n c k s)) out₀
  copied_all {k} {out₀} {out} {at} {to} {b} C h r =
      let e : b ≡ k = omega (arith, C.few) in
      C.laid.bytes ∙ ap (λ (j : ℕ). laid_text out₀ 0 (extracted n c j s)) e ∙ laid_front out₀ (extracted n c k s) r

-- ---- the answer, by the tests

pub among_not : (n c : ℕ) → is_count n ≡ false → is_among n c ≡ false
unfolding is_among
among_not n c e = rw e refl

pub among_is : (n c : ℕ) → is_count n ≡ true → is_among n c ≡ ltb c n
unfolding is_among
among_is n c e = rw e refl

pub among_told : (n c : ℕ) → is_among n c ≡ true → (1 ≤ n) × (n ≤ 8) × (c < n)
among_told n c e =
    by_bool (is_count n)
    (λ t. let k = counted n t in (k.0, k.1, ltb-true c n (sym (among_is n c t) ∙ e)))
    (λ t. absurd (let z = sym (among_not n c t) ∙ e in let y : ◌≡◌ {A = ℕ} 0 1 = cc in omega arith))

pub among_of : (n c : ℕ) → 1 ≤ n → n ≤ 8 → c < n → is_among n c ≡ true
among_of n c a b h = among_is n c (is_counted n a b) ∙ lt-ltb c n h

-- what the call gives back: the answer, and the output
abbrev pub Extracted : List ℕ → ℕ → ℕ → List ℕ → Copied → List ℕ → Type 0
Extracted src n c out r out' = (r ≡ extract_answer src n c (length out)) × (out' ≡ extract_after src n c out)

-- an answer that is not 0 leaves the output
left_as_was : (out bytes : List ℕ) (a r : Copied) → r ≡ a → (r.reply ≡ 0 → ⊥) → out ≡ copied_to out a bytes
left_as_was out bytes a r e n = let q : a.reply ≡ r.reply = ap (λ (x : Copied). x.reply) (sym e) in rw (ne_eqb a.reply 0 (λ z. n (sym q ∙ z))) refl

module _ (src : List ℕ) (n c : ℕ) (out : List ℕ) where
  answer_refused : (r : Copied) → r ≡ extract_answer src n c (length out) → (r.reply ≡ 0 → ⊥) → Extracted src n c out r out
  answer_refused r e z = (e, left_as_was out (extracted n c (walk_blocks n src).count src) (extract_answer src n c (length out)) r e z)

  pub extract_outside : (r : Copied) → is_among n c ≡ false → r ≡ refused_copy wrong_channels → Extracted src n c out r out
  unfolding extract_answer
  extract_outside r e q = answer_refused r (q ∙ sym (rw e refl)) (λ z. let y = ap (λ (x : Copied). x.reply) q in omega (arith, y, z))

  module _ (a : is_among n c ≡ true) (found : Check) (ef : found ≡ walk_blocks n src) where
    pub extract_stopped : (r : Copied) → (found.reply ≡ 0 → ⊥) → r ≡ stopped_copy found 0 → Extracted src n c out r out
    unfolding extract_answer
    extract_stopped r z q =
        let f : (walk_blocks n src).reply ≡ found.reply = ap (λ (x : Check). x.reply) (sym ef) in
        answer_refused r (q ∙ ap (λ (x : Check). stopped_copy x 0) ef ∙ sym (rw (a, ne_eqb (walk_blocks n src).reply 0 (λ y. z (sym f ∙ y))) refl))
        (λ y. let g = ap (λ (x : Copied). x.reply) q in z (sym g ∙ y))

    module _ (z : found.reply ≡ 0) (m : ℕ) (em : m ≡ length (extracted n c found.count src)) where
      same_reply : (walk_blocks n src).reply ≡ 0
      same_reply = ap (λ (x : Check). x.reply) (sym ef) ∙ z

      same_bytes : length (extracted n c (walk_blocks n src).count src) ≡ m
      same_bytes = ap (λ (x : Check). length (extracted n c x.count src)) (sym ef) ∙ sym em

      pub extract_short : (r : Copied) → length out < m → r ≡ refused_copy short_room → Extracted src n c out r out
      unfolding extract_answer
      extract_short r h q =
          answer_refused r (q ∙ sym
          (rw (
            a,
            eq-eqb (walk_blocks n src).reply 0 same_reply,
            lt-ltb (length out) (length (extracted n c (walk_blocks n src).count src)) (omega (arith, same_bytes)),
          ) refl))
          (λ y. let g = ap (λ (x : Copied). x.reply) q in omega (arith, g, y))

      pub extract_done : (out' : List ℕ) → m ≤ length out → out' ≡ extracted n c found.count src ++ drop (length (extracted n c found.count src)) out
          → Extracted src n c out (made_copy done 0 found.count found.place m) out'
      unfolding extract_answer
      extract_done out' h q =
          let bytes = extracted n c (walk_blocks n src).count src in
          let g : extract_answer src n c (length out) ≡ made_copy done 0 (walk_blocks n src).count (walk_blocks n src).place (length bytes) =
          rw (a, eq-eqb (walk_blocks n src).reply 0 same_reply, le-ltb (length out) (length bytes) (omega (arith, same_bytes))) refl in (
            ap₂ (λ (x : Check) (k : ℕ). made_copy done 0 x.count x.place k) ef (sym same_bytes) ∙ sym g,
            q ∙ ap (λ (x : Check). extracted n c x.count src ++ drop (length (extracted n c x.count src)) out) ef
                ∙ sym (ap (λ (x : Copied). copied_to out x bytes) g),
          )
