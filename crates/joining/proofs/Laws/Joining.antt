-- The turns of joining: the recordings' own checks one after the other, the places where they go on, the blocks laid, and the bytes of all together.
-- Assumes nothing.
use mathlib.Core.Path.{◌≡◌, refl, sym, ap, ap₂, ◌∙◌, subst}
use mathlib.Core.Bool.{Bool, true, false, cond, false≢true}
use mathlib.Core.List.{List, [], ◌∷◌, ◌++◌}
use Prim.Native.Nat.{ℕ, zero, suc, ◌+◌, ◌-◌, ◌≤◌, ◌<◌}
use native.Mathlib.Nat.{add-zero, zero-add, add-suc, suc-add}
use native.Mathlib.Numerals.{add-one}
use native.Mathlib.Omega.{arith}
use lib.Dec.{eqb, ltb}
use Rattle.std.specs.Prelude.{sum_by}
use Rattle.std.proofs.lemmas.List.{get_or-take}
use Rattle.std.proofs.lemmas.List.Sums.{sum_by_more}
use lib.ListN.{length, take, drop, get_or, set, replicate, length-append, length-drop, length-replicate, get_or-append}
use lib.Seq.{length-take-le, take_all, drop-cons, drop_at, get_or_at}
use borrow.Author.Tests.{eq-eqb, ne_eqb, lt-ltb, le-ltb, eqb-true, eqb-false}
use Rattle.ground.proofs.Laws.Cases.{by_bool}
use Rattle.ground.specs.ListsByRule.{from, table}
use Rattle.ground.proofs.Laws.ListsByRule.{length_from, get_d_table}
use Rattle.ground.specs.Runs.{runs}
use Rattle.ground.proofs.Laws.Runs.{runs_none, runs_more, length_runs, Fronted, fronted_none, fronted_more}
use Rattle.ground.specs.Sums.{nth, sum_to}
use Rattle.ground.proofs.Laws.Sums.{sum_more, sum_same, sum_none, sum_both, sum_grows}
use Rattle.ground.specs.Laying.{laid_text, TextLaid}
use Rattle.ground.proofs.Laws.Laying.{laid_none, laid_front, laid_long, then}
use Rattle.ground.specs.Replies.{done, short_room, wrong_channels}
use Rattle.recording.specs.Walk.{most_frames}
use Rattle.recording.specs.Blocks.{is_count, walk_blocks}
use Rattle.recording.specs.declared.answer.Check.{Check}
use Rattle.recording.proofs.Laws.Blocks.{counted}
use Rattle.frames.specs.Places.{size_at, place_of, frame_at}
use Rattle.frames.proofs.Laws.Places.{place_none, place_more, place_inside}
use Rattle.frames.proofs.Laws.Frames.{placed_all}
use Rattle.channels.proofs.Laws.Walks.{walk_sound, own_frames}
use Rattle.channels.proofs.Laws.Extracting.{length_frame, frame_part, frame_inside, runs_under}
use Rattle.joining.specs.Joining.{start_of, recording_at, own_check, block_of, joined, joined_of, first_copy, refused_in, equal_counts, check_all, join_answer}
use Rattle.joining.specs.Joining.{join_after, InSource}
use Rattle.channels.specs.Copies.{made_copy, refused_copy, stopped_copy}
use Rattle.joining.specs.Inner.{places_at, BlocksLaid}
use Rattle.channels.specs.declared.Copied.{Copied}
use Rattle.joining.specs.declared.Progress.{Progress}

-- ---- where the recordings lie

-- behind the lengths in front of it together
pub start_is : (lengths : List ℕ) (c : ℕ) → c ≤ length lengths → sum_by (λ (n : ℕ). n) (take c lengths) ≡ start_of lengths c
unfolding sum_to
start_is lengths zero h = refl
start_is lengths (suc c) h =
    ap (λ (k : ℕ). sum_by (λ (n : ℕ). n) (take k lengths)) (sym (add-one c)) ∙ sum_by_more (λ (n : ℕ). n) lengths c 0 h
    ∙ ap (λ (k : ℕ). k + nth lengths c) (start_is lengths c (omega arith))

pub total_is : (lengths : List ℕ) → sum_by (λ (n : ℕ). n) lengths ≡ start_of lengths (length lengths)
total_is lengths =
    ap (sum_by (λ (n : ℕ). n)) (sym (take_all (length lengths) lengths (omega arith))) ∙ start_is lengths (length lengths) (omega arith)

module _ (src lengths : List ℕ) where
  -- the next begins behind
  pub start_next : (c : ℕ) → start_of lengths (c + 1) ≡ start_of lengths c + nth lengths c
  start_next c = sum_more (nth lengths) c

  pub start_inside : InSource src lengths → (c : ℕ) → c ≤ length lengths → start_of lengths c ≤ length src
  start_inside L c h = omega (arith, L.inside, sum_grows (nth lengths) c (length lengths) h)

  pub length_recording : InSource src lengths → (c : ℕ) → c < length lengths → length (recording_at src lengths c) ≡ nth lengths c
  length_recording L c h =
      length-take-le (nth lengths c) (drop (start_of lengths c) src)
      (omega (arith, length-drop (start_of lengths c) src, start_inside L (c + 1) (omega arith), start_next c))

-- ---- each recording's own check

first_kept : (a b : Copied) → (a.reply ≡ 0 → ⊥) → first_copy a b ≡ a
first_kept a b h = rw (ne_eqb a.reply 0 h)

first_next : (a b : Copied) → a.reply ≡ 0 → first_copy a b ≡ b
first_next a b h = rw (eq-eqb a.reply 0 h)

-- the reply and the others of an equal answer
pub same_reply : {a b : Copied} → a ≡ b → a.reply ≡ b.reply
same_reply e = ap (λ (x : Copied). x.reply) e

-- c recordings are sound, and their counts are the first of eight
pub record Checked (w : ℕ → Check) (counts : List ℕ) (c : ℕ) : Type 0 where
  pub none : refused_in w c ≡ refused_copy done
  pub counted : Fronted (λ k. (w k).count) (replicate 8 0) counts c

pub checked_none : {w : ℕ → Check} → Checked w (replicate 8 0) 0
unfolding refused_in
checked_none = record { none = refl; counted = fronted_none }

pub counts_made : (w : ℕ → Check) (k n : ℕ) → ((c : ℕ) → c < n → (w c).count ≡ k) → equal_counts w k n ≡ true
unfolding equal_counts
counts_made w k zero h = refl
counts_made w k (suc n) h = rw (eq-eqb (w n).count k (h n (omega arith))) (counts_made w k n (λ c b. h c (omega arith)))

module _ (w : ℕ → Check) where
  refused_kept : (c k : ℕ) → ((refused_in w c).reply ≡ 0 → ⊥) → refused_in w (c + k) ≡ refused_in w c
  unfolding refused_in
  refused_kept c zero h = ap (refused_in w) (add-zero c)
  refused_kept c (suc k) h =
      let e = refused_kept c k h in
      ap (refused_in w) (add-suc c k) ∙ first_kept (refused_in w (c + k)) _ (λ z. h (sym (same_reply e) ∙ z)) ∙ e

  refused_here : (c : ℕ) → refused_in w c ≡ refused_copy done → ((w c).reply ≡ 0 → ⊥) → refused_in w (suc c) ≡ stopped_copy (w c) (c + 1)
  unfolding refused_in
  refused_here c e h = first_next (refused_in w c) _ (same_reply e) ∙ (rw (ne_eqb (w c).reply 0 h))

  none_here : (c : ℕ) → refused_in w c ≡ refused_copy done → (w c).reply ≡ 0 → refused_in w (suc c) ≡ refused_copy done
  unfolding refused_in
  none_here c e h = first_next (refused_in w c) _ (same_reply e) ∙ (rw (eq-eqb (w c).reply 0 h))

  equal_more : (k c : ℕ) → equal_counts w k (suc c) ≡ cond (eqb (w c).count k) (equal_counts w k c) false
  unfolding equal_counts
  equal_more k c = refl

  all_equal : (k n : ℕ) → equal_counts w k n ≡ true → (c : ℕ) → c < n → (w c).count ≡ k
  all_equal k zero e c h = absurd (omega arith)
  all_equal k (suc n) e c h =
      by_bool (eqb (w n).count k)
      (λ t.
      let q : equal_counts w k n ≡ true = sym (equal_more k n ∙ (rw t)) ∙ e in
      by_bool (eqb c n)
      (λ y. ap (λ (j : ℕ). (w j).count) (eqb-true c n y) ∙ eqb-true (w n).count k t)
      (λ y. let d = eqb-false c n y in all_equal k n q c (omega (arith, d))))
      (λ t. let q : false ≡ true = sym (equal_more k n ∙ (rw t)) ∙ e in absurd (false≢true q))

module _ {w : ℕ → Check} {counts : List ℕ} {c : ℕ} (A : Checked w counts c) where
  -- a recording that is refused stops all
  pub checked_stop : (n : ℕ) → c < n → (found : Check) → found ≡ w c → (found.reply ≡ 0 → ⊥) → (x : Copied) → x ≡ stopped_copy found (c + 1)
      → (x ≡ check_all w n) × (0 < x.reply)
  unfolding check_all
  checked_stop n h found f z x e =
      let y : (w c).reply ≡ 0 → ⊥ = λ q. z (ap (λ (v : Check). v.reply) f ∙ q) in
      let s = refused_here w c A.none y in
      let m : n ≡ suc c + (n - suc c) = omega arith in
      let r : refused_in w n ≡ stopped_copy (w c) (c + 1) = ap (refused_in w) m ∙ refused_kept w (suc c) (n - suc c) (λ q. y (sym (same_reply s) ∙ q)) ∙ s in (
        e ∙ ap (λ (v : Check). stopped_copy v (c + 1)) f ∙ sym r ∙ sym (first_kept (refused_in w n) _ (λ q. y (sym (same_reply r) ∙ q))),
        omega (arith, z, same_reply e),
      )

  pub checked_more : c < 8 → (found : Check) → found ≡ w c → found.reply ≡ 0 → Checked w (set counts c found.count) (c + 1)
  checked_more h found f z =
      record {
        none = ap (refused_in w) (add-one c) ∙ none_here w c A.none (ap (λ (v : Check). v.reply) (sym f) ∙ z);
        counted = fronted_more A.counted h (ap (λ (v : Check). v.count) f);
      }

-- all n recordings are sound
module _ {w : ℕ → Check} {counts : List ℕ} {n : ℕ} (A : Checked w counts n) (h : 1 ≤ n) (m : n ≤ 8) where
  count_at : (k : ℕ) → k < n → get_or counts k 0 ≡ (w k).count
  count_at k b =
      let g : ℕ → ℕ = λ j. (w j).count in
      ap (λ (l : List ℕ). get_or l k 0) A.counted.same
      ∙ get_or-append (table n g) (drop n (replicate 8 0)) 0 k (omega (arith, length_from g n 0)) ∙ get_d_table g n 0 k b

  pub counts_long : length (take n counts) ≡ n
  counts_long = length-take-le n counts (omega (arith, A.counted.long))

  -- the test whether each count is the first
  module _ {one : ℕ} (e : one ≡ get_or counts 0 0) (b : Bool) where
    pub test_told : (b ≡ true → (k : ℕ) → k < length (take n counts) → get_or (take n counts) k 0 ≡ one)
        → (((k : ℕ) → k < length (take n counts) → get_or (take n counts) k 0 ≡ one) → b ≡ true) → b ≡ equal_counts w (w 0).count n
    test_told f g =
        let first : one ≡ (w 0).count = e ∙ count_at 0 h in
        by_bool b
        (λ t. t ∙ sym (counts_made w (w 0).count n
        (λ k l. sym (count_at k l) ∙ sym (get_or-take n counts k 0 l) ∙ f t k (omega (arith, counts_long)) ∙ first)))
        (λ t.
        by_bool (equal_counts w (w 0).count n)
        (λ y. g (λ k l. let l' : k < n = omega (arith, counts_long, l) in
        get_or-take n counts k 0 l' ∙ count_at k l' ∙ all_equal w (w 0).count n y k l' ∙ sym first) ∙ sym y)
        (λ y. t ∙ sym y))

    all_said : check_all w n ≡ cond (equal_counts w (w 0).count n) (made_copy done 0 (w 0).count 0 0) (refused_copy wrong_channels)
    unfolding check_all
    all_said = first_next (refused_in w n) _ (same_reply A.none)

    pub checked_not : b ≡ equal_counts w (w 0).count n → b ≡ false → refused_copy wrong_channels ≡ check_all w n
    checked_not q t = let y : equal_counts w (w 0).count n ≡ false = sym q ∙ t in sym (all_said ∙ (rw y))

    pub checked_all : b ≡ equal_counts w (w 0).count n → b ≡ true → made_copy done 0 one 0 0 ≡ check_all w n
    checked_all q t =
        let y : equal_counts w (w 0).count n ≡ true = sym q ∙ t in
        ap (λ (k : ℕ). made_copy done 0 k 0 0) (e ∙ count_at 0 h) ∙ sym (all_said ∙ (rw y))

-- ---- the places

-- where frame b begins in recording c
abbrev pub place_in : List ℕ → List ℕ → ℕ → ℕ → ℕ
place_in src lengths b c = place_of (recording_at src lengths c) b

zeros : (f : ℕ → ℕ) (n i m : ℕ) → ((k : ℕ) → f k ≡ 0) → from f n i ++ replicate m 0 ≡ replicate (n + m) 0
unfolding from
zeros f zero i m h = ap (λ (k : ℕ). replicate k 0) (sym (zero-add m))
zeros f (suc n) i m h = ap₂ (λ (x : ℕ) (l : List ℕ). x ∷ l) (h i) (zeros f n (suc i) m h) ∙ ap (λ (k : ℕ). replicate k 0) (sym (suc-add n m))

pub places_first : (src lengths : List ℕ) → length lengths ≤ 8 → replicate 8 0 ≡ places_at src lengths 0
places_first src lengths h =
    let n = length lengths in
    let e : n + (8 - n) ≡ 8 = omega arith in
    sym (zeros (place_in src lengths 0) n 0 (8 - n) (λ c. sym (place_none (recording_at src lengths c) 0)) ∙ ap (λ (k : ℕ). replicate k 0) e)

pub length_places : (src lengths : List ℕ) (b : ℕ) → length lengths ≤ 8 → length (places_at src lengths b) ≡ 8
length_places src lengths b h =
    let n = length lengths in
    length-append (table n (place_in src lengths b)) (replicate (8 - n) 0)
    ∙ ap₂ (λ (x y : ℕ). x + y) (length_from (place_in src lengths b) n 0) (length-replicate (8 - n) 0) ∙ (omega arith)

place_at : (src lengths : List ℕ) (b c : ℕ) → c < length lengths → get_or (places_at src lengths b) c 0 ≡ place_in src lengths b c
place_at src lengths b c h =
    let n = length lengths in
    let t = table n (place_in src lengths b) in
    get_or-append t (replicate (8 - n) 0) 0 c (omega (arith, length_from (place_in src lengths b) n 0))
    ∙ get_d_table (place_in src lengths b) n 0 c h

-- behind the filled front a list is as it was
fronted_at : {f : ℕ → ℕ} {l₀ l : List ℕ} {i : ℕ} → Fronted f l₀ l i → i < length l₀ → get_or l i 0 ≡ get_or l₀ i 0
fronted_at {f} {l₀} {l} {i} F h =
    ap (λ (x : List ℕ). get_or x i 0) (F.same ∙ ap (λ (x : List ℕ). table i f ++ x) (drop-cons l₀ i 0 h))
    ∙ get_or_at (table i f) (get_or l₀ i 0) (drop (suc i) l₀) 0 i (length_from f i 0)

-- ---- one block

laid_nothing : (s : List ℕ) (at : ℕ) → TextLaid s at [] s at
unfolding laid_text
laid_nothing s at = record { after = sym (add-zero at); bytes = refl }

-- the frames of c recordings are laid, and these go on behind them
pub record BlockSoFar (src lengths out₀ : List ℕ) (b next : ℕ) (out places : List ℕ) (to c : ℕ) : Type 0 where
  pub few : c ≤ length lengths
  pub front : Fronted (place_in src lengths (b + 1)) (places_at src lengths b) places c
  pub laid : TextLaid out₀ next (runs c (λ c. frame_at (recording_at src lengths c) b)) out to

module _ {src lengths out₀ : List ℕ} {b next : ℕ} {out places : List ℕ} {to c : ℕ} (T : BlockSoFar src lengths out₀ b next out places to c)
    (few : length lengths ≤ 8) (h : c < length lengths) {r : List ℕ} (eᵣ : r ≡ recording_at src lengths c) {p : ℕ} (eₚ : p ≡ get_or places c 0) where
  -- where the recording goes on
  turn_place : p ≡ place_of r b
  turn_place =
      eₚ ∙ fronted_at T.front (omega (arith, length_places src lengths b few)) ∙ place_at src lengths b c h ∙ ap (λ (s : List ℕ). place_of s b) (sym eᵣ)

  pub turn_inside : p ≤ length r
  turn_inside = omega (arith, turn_place, place_inside r 0 b (omega arith))

  module _ {k : ℕ} (eₖ : k ≡ size_at (drop p r)) where
    pub frame_end : p + k ≤ length r
    frame_end = frame_inside r p k turn_inside eₖ

    -- what is put is the recording's next frame
    text_is : take (p + k - p) (drop p r) ≡ frame_at (recording_at src lengths c) b
    text_is = frame_part r p b k turn_place eₖ ∙ ap (λ (s : List ℕ). frame_at s b) eᵣ

    pub frame_room : next + length (block_of (length lengths) (recording_at src lengths) b) ≤ length out₀
        → to + length (take (p + k - p) (drop p r)) ≤ length out
    frame_room m =
        let f : ℕ → List ℕ = λ c. frame_at (recording_at src lengths c) b in
        omega (
          arith,
          T.laid.after,
          laid_long T.laid,
          ap length text_is,
          ap length (runs_more f c),
          length-append (runs c f) (f c),
          runs_under f (c + 1) (length lengths) (omega arith),
        )

    pub frame_more : {after : List ℕ} {on : ℕ} → TextLaid out to (take (p + k - p) (drop p r)) after on
        → BlockSoFar src lengths out₀ b next after (set places c (p + k)) on (c + 1)
    frame_more {after} {on} l =
        let f : ℕ → List ℕ = λ c. frame_at (recording_at src lengths c) b in
        let e : p + k ≡ place_in src lengths (b + 1) c =
        ap₂ (λ (x y : ℕ). x + y) turn_place (eₖ ∙ ap (λ (x : ℕ). size_at (drop x r)) turn_place) ∙ sym (place_more r 0 b)
        ∙ ap (λ (s : List ℕ). place_of s (b + 1)) eᵣ in
        record {
          few = omega arith;
          front = fronted_more T.front (omega (arith, length_places src lengths b few)) e;
          laid = subst (λ (t : List ℕ). TextLaid out₀ next t after on) (ap (λ (x : List ℕ). runs c f ++ x) text_is ∙ sym (runs_more f c)) (then T.laid l);
        }

module _ {src lengths out : List ℕ} {t : Progress} (S : BlocksLaid src lengths out t) where
  pub block_so_far_none : BlockSoFar src lengths out t.block t.next out t.places t.next 0
  unfolding runs
  block_so_far_none =
      record {
        few = omega arith;
        front = subst (λ (l : List ℕ). Fronted (place_in src lengths (t.block + 1)) (places_at src lengths t.block) l 0) (sym S.places) fronted_none;
        laid = laid_nothing out t.next;
      }

module _ {src lengths out₀ : List ℕ} {b next : ℕ} {out places : List ℕ} {to c : ℕ} (T : BlockSoFar src lengths out₀ b next out places to c) where
  pub block_so_far_long : length out ≡ length out₀
  block_so_far_long = laid_long T.laid

  -- after the last recording
  module _ (h : length lengths ≤ c) where
    all_turned : c ≡ length lengths
    all_turned = omega (arith, T.few)

    pub block_places : length lengths ≤ 8 → places ≡ places_at src lengths (b + 1)
    block_places l =
        let n = length lengths in
        T.front.same ∙ ap (λ (k : ℕ). table k (place_in src lengths (b + 1)) ++ drop k (places_at src lengths b)) all_turned
        ∙ ap (λ (x : List ℕ). table n (place_in src lengths (b + 1)) ++ x)
        (drop_at (table n (place_in src lengths b)) (replicate (8 - n) 0) n (length_from (place_in src lengths b) n 0))

    pub block_laid : TextLaid out₀ next (block_of (length lengths) (recording_at src lengths) b) out to
    block_laid = subst (λ (k : ℕ). TextLaid out₀ next (runs k (λ c. frame_at (recording_at src lengths c) b)) out to) all_turned T.laid

-- ---- all blocks

pub record Joining (src lengths out₀ : List ℕ) (blocks : ℕ) (out : List ℕ) (t : Progress) : Type 0 where
  pub few : t.block ≤ blocks
  pub places : t.places ≡ places_at src lengths t.block
  pub laid : TextLaid out₀ 0 (joined (length lengths) t.block (recording_at src lengths)) out t.next

pub joining_none : {src lengths out : List ℕ} {blocks : ℕ} {t : Progress} → t.block ≡ 0 → t.next ≡ 0 → t.places ≡ places_at src lengths 0
    → Joining src lengths out blocks out t
joining_none {src} {lengths} {out} {blocks} {t} b n p =
    let f = block_of (length lengths) (recording_at src lengths) in
    record {
      few = omega arith;
      places = p ∙ ap (places_at src lengths) (sym b);
      laid = subst (λ (l : List ℕ). TextLaid out 0 l out t.next) (sym (runs_none f) ∙ ap (λ (k : ℕ). runs k f) (sym b)) (laid_none out t.next n);
    }

module _ {src lengths out₀ : List ℕ} {blocks : ℕ} {out : List ℕ} {t : Progress} (J : Joining src lengths out₀ blocks out t) where
  abbrev f : ℕ → List ℕ
  f = block_of (length lengths) (recording_at src lengths)

  pub joining_long : length out ≡ length out₀
  joining_long = laid_long J.laid

  pub joining_stands : InSource src lengths → t.block < blocks → length (joined (length lengths) blocks (recording_at src lengths)) ≤ length out₀
      → BlocksLaid src lengths out t
  joining_stands L h r =
      let b = t.block in
      record {
        lying = L;
        places = J.places;
        room = omega
            (arith, J.laid.after, joining_long, ap length (runs_more f b), length-append (runs b f) (f b), runs_under f (b + 1) blocks (omega arith));
      }

  pub joining_more : {after : List ℕ} {t' : Progress} → t.block < blocks → t'.block ≡ t.block + 1 → t'.places ≡ places_at src lengths (t.block + 1)
      → TextLaid out t.next (f t.block) after t'.next → Joining src lengths out₀ blocks after t'
  joining_more {after} {t'} h b p l =
      record {
        few = omega arith;
        places = p ∙ ap (places_at src lengths) (sym b);
        laid = subst (λ (x : List ℕ). TextLaid out₀ 0 x after t'.next) (sym (runs_more f t.block) ∙ ap (λ (k : ℕ). runs k f) (sym b)) (then J.laid l);
      }

  pub joining_end : blocks ≤ t.block → length (joined (length lengths) blocks (recording_at src lengths)) ≤ length out₀
      → out ≡ joined (length lengths) blocks (recording_at src lengths) ++ drop (length (joined (length lengths) blocks (recording_at src lengths))) out₀
  joining_end h r =
      let e : t.block ≡ blocks = omega (arith, J.few) in
      J.laid.bytes ∙ ap (λ (k : ℕ). laid_text out₀ 0 (runs k f)) e ∙ laid_front out₀ (runs blocks f) r

-- ---- the bytes of all

pub own_placed : (s : List ℕ) → (walk_blocks 1 s).reply ≡ 0 → (place_of s (walk_blocks 1 s).count ≡ length s) × ((walk_blocks 1 s).count ≤ most_frames)
own_placed s z = (placed_all (own_frames s z), (walk_sound 1 (omega arith) s z).1)

length_block : (n : ℕ) (r : ℕ → List ℕ) (b : ℕ) → length (block_of n r b) ≡ sum_to (λ c. size_at (drop (place_of (r c) b) (r c))) n
length_block n r b =
    length_runs (λ c. frame_at (r c) b) n
    ∙ sum_same _ (λ c. size_at (drop (place_of (r c) b) (r c))) n (λ c h. length_frame (r c) b)

pub length_joined : (n k : ℕ) (r : ℕ → List ℕ) → length (joined n k r) ≡ sum_to (λ c. place_of (r c) k) n
unfolding runs
length_joined n zero r = sym (sum_none (λ c. place_of (r c) 0) n (λ c h. sym (place_none (r c) 0)))
length_joined n (suc k) r =
    let p : ℕ → ℕ = λ c. place_of (r c) k in
    let z : ℕ → ℕ = λ c. size_at (drop (place_of (r c) k) (r c)) in
    length-append (joined n k r) (block_of n r k)
    ∙ ap₂ (λ (x y : ℕ). x + y) (length_joined n k r) (length_block n r k)
    ∙ sum_both p z n
    ∙ sum_same (λ c. p c + z c) (λ c. place_of (r c) (suc k)) n (λ c h. sym (place_more (r c) 0 k) ∙ ap (place_of (r c)) (add-one k))

-- ---- all checked

-- n recordings are sound and have as many frames as the first
pub record Common (w : ℕ → Check) (n : ℕ) : Type 0 where
  pub sound : (c : ℕ) → c < n → (w c).reply ≡ 0
  pub equal : (c : ℕ) → c < n → (w c).count ≡ (w 0).count
  pub said : check_all w n ≡ made_copy done 0 (w 0).count 0 0

module _ (w : ℕ → Check) where
  all_sound : (n : ℕ) → (refused_in w n).reply ≡ 0 → (c : ℕ) → c < n → (w c).reply ≡ 0
  unfolding refused_in
  all_sound zero e c h = absurd (omega arith)
  all_sound (suc n) e c h =
      let own = cond (eqb (w n).reply 0) (refused_copy done) (stopped_copy (w n) (n + 1)) in
      by_bool (eqb (refused_in w n).reply 0)
      (λ t.
      let z = eqb-true (refused_in w n).reply 0 t in
      let q : own.reply ≡ 0 = sym (same_reply (first_next (refused_in w n) own z)) ∙ e in
      let l : (w n).reply ≡ 0 = by_bool (eqb (w n).reply 0) (λ y. eqb-true (w n).reply 0 y)
      (λ y. let d : own ≡ stopped_copy (w n) (n + 1) = rw y in sym (same_reply d) ∙ q) in
      by_bool (eqb c n)
      (λ y. ap (λ (k : ℕ). (w k).reply) (eqb-true c n y) ∙ l)
      (λ y. let d = eqb-false c n y in all_sound n z c (omega (arith, d))))
      (λ t. let d = eqb-false (refused_in w n).reply 0 t in absurd (d (sym (same_reply (first_kept (refused_in w n) own d)) ∙ e)))

  pub checked_common : (n : ℕ) → (check_all w n).reply ≡ 0 → Common w n
  unfolding check_all
  checked_common n e =
      let k = (w 0).count in
      let own = cond (equal_counts w k n) (made_copy done 0 k 0 0) (refused_copy wrong_channels) in
      by_bool (eqb (refused_in w n).reply 0)
      (λ t.
      let z = eqb-true (refused_in w n).reply 0 t in
      let f : check_all w n ≡ own = first_next (refused_in w n) own z in
      by_bool (equal_counts w k n)
      (λ y. record { sound = all_sound n z; equal = all_equal w k n y; said = f ∙ (rw y) })
      (λ y. let d : own ≡ refused_copy wrong_channels = rw y in absurd (let x : 17 ≡ 0 = sym (same_reply (f ∙ d)) ∙ e in omega arith)))
      (λ t. let d = eqb-false (refused_in w n).reply 0 t in absurd (d (sym (same_reply (first_kept (refused_in w n) own d)) ∙ e)))

-- the joined recording is as long as all together, and has at most 3,000 blocks
pub joined_long : (src lengths : List ℕ) → InSource src lengths → Common (own_check src lengths) (length lengths)
    → length (joined_of src lengths) ≡ start_of lengths (length lengths)
joined_long src lengths L C =
    let n = length lengths in
    let r = recording_at src lengths in
    let k = (own_check src lengths 0).count in
    length_joined n k r
    ∙ sum_same (λ c. place_of (r c) k) (nth lengths) n
    (λ c h. ap (place_of (r c)) (sym (C.equal c h)) ∙ (own_placed (r c) (C.sound c h)).0 ∙ length_recording src lengths L c h)

pub joined_few : (src lengths : List ℕ) → 1 ≤ length lengths → Common (own_check src lengths) (length lengths) → (own_check src lengths 0).count ≤ most_frames
joined_few src lengths h C = (own_placed (recording_at src lengths 0) (C.sound 0 (omega arith))).1

-- ---- the answer

module _ (src lengths out : List ℕ) where
  abbrev n : ℕ
  n = length lengths

  abbrev all : Copied
  all = check_all (own_check src lengths) n

  abbrev whole : Copied
  whole =
      cond (ltb (length out) (length (joined_of src lengths))) (refused_copy short_room)
      (made_copy done 0 (own_check src lengths 0).count 0 (length (joined_of src lengths)))

  pub join_uncounted : is_count n ≡ false → join_answer src lengths (length out) ≡ refused_copy wrong_channels
  unfolding join_answer
  join_uncounted e = rw e

  module _ (e : is_count n ≡ true) where
    pub join_past : length src < start_of lengths n → join_answer src lengths (length out) ≡ refused_copy short_room
    unfolding join_answer
    join_past h = rw (e, lt-ltb (length src) (start_of lengths n) h)

    module _ (h : start_of lengths n ≤ length src) where
      pub join_stopped : (all.reply ≡ 0 → ⊥) → join_answer src lengths (length out) ≡ all
      unfolding join_answer
      join_stopped z = (rw (e, le-ltb (length src) (start_of lengths n) h)) ∙ first_kept all whole z

      last : all.reply ≡ 0 → join_answer src lengths (length out) ≡ whole
      unfolding join_answer
      last z = (rw (e, le-ltb (length src) (start_of lengths n) h)) ∙ first_next all whole z

      pub join_short : all.reply ≡ 0 → length out < length (joined_of src lengths) → join_answer src lengths (length out) ≡ refused_copy short_room
      join_short z l = last z ∙ (rw (lt-ltb (length out) (length (joined_of src lengths)) l))

      pub join_done : all.reply ≡ 0 → length (joined_of src lengths) ≤ length out
          → join_answer src lengths (length out) ≡ made_copy done 0 (own_check src lengths 0).count 0 (length (joined_of src lengths))
      join_done z l = last z ∙ (rw (le-ltb (length out) (length (joined_of src lengths)) l))

  -- an answer other than 0 leaves the output
  pub join_kept : (x : Copied) → join_answer src lengths (length out) ≡ x → (x.reply ≡ 0 → ⊥) → out ≡ join_after src lengths out
  join_kept x e h = rw (ne_eqb (join_answer src lengths (length out)).reply 0 (λ z. h (sym (same_reply e) ∙ z)))

  -- 0 has the joined recording in front
  pub join_laid : (x : Copied) → join_answer src lengths (length out) ≡ x → x.reply ≡ 0
      → joined_of src lengths ++ drop (length (joined_of src lengths)) out ≡ join_after src lengths out
  join_laid x e h = rw (eq-eqb (join_answer src lengths (length out)).reply 0 (same_reply e ∙ h))

-- all recordings were found sound and equal
module _ {src lengths : List ℕ} (e : is_count (length lengths) ≡ true) (L : InSource src lengths) {found : Copied}
    (f : found ≡ check_all (own_check src lengths) (length lengths)) (z : found.reply ≡ 0) where
  checked : Common (own_check src lengths) (length lengths)
  checked = checked_common (own_check src lengths) (length lengths) (sym (same_reply f) ∙ z)

  count_is : found.count ≡ (own_check src lengths 0).count
  count_is = ap (λ (x : Copied). x.count) (f ∙ checked.said)

  pub found_few : found.count ≤ most_frames
  found_few = omega (arith, count_is, joined_few src lengths (counted (length lengths) e).0 checked)

  pub found_long : length (joined (length lengths) found.count (recording_at src lengths)) ≡ start_of lengths (length lengths)
  found_long = ap (λ (k : ℕ). length (joined (length lengths) k (recording_at src lengths))) count_is ∙ joined_long src lengths L checked

  pub found_short : (out : List ℕ) → length out < start_of lengths (length lengths) → join_answer src lengths (length out) ≡ refused_copy short_room
  found_short out h = join_short src lengths out e L.inside (sym (same_reply f) ∙ z) (omega (arith, joined_long src lengths L checked))

  module _ (out : List ℕ) {total : ℕ} (t : total ≡ start_of lengths (length lengths)) (h : total ≤ length out) where
    pub found_joined : join_answer src lengths (length out) ≡ made_copy done 0 found.count 0 total
    found_joined =
        join_done src lengths out e L.inside (sym (same_reply f) ∙ z) (omega (arith, joined_long src lengths L checked))
        ∙ ap₂ (λ (k m : ℕ). made_copy done 0 k 0 m) (sym count_is) (joined_long src lengths L checked ∙ sym t)

    pub found_after : {after : List ℕ}
        → after ≡ joined (length lengths) found.count (recording_at src lengths) ++ drop
        (length (joined (length lengths) found.count (recording_at src lengths))) out
        → after ≡ join_after src lengths out
    found_after q =
        q ∙ ap (λ (k : ℕ). joined (length lengths) k (recording_at src lengths) ++ drop
        (length (joined (length lengths) k (recording_at src lengths))) out) count_is
        ∙ join_laid src lengths out (made_copy done 0 found.count 0 total) found_joined refl
