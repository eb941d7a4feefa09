-- Inside a block: so many frames of so many bytes are passed, and the rest of the block is left.
-- Assumes nothing.
use mathlib.Core.Path.{◌≡◌, refl, sym, ap, ◌∙◌}
use mathlib.Core.Bool.{cond}
use mathlib.Core.List.{List}
use Prim.Native.Nat.{ℕ, zero, suc, ◌+◌, ◌-◌, ◌≤◌, ◌<◌}
use native.Mathlib.Nat.{add-zero, add_assoc}
use native.Mathlib.Numerals.{add-one}
use native.Mathlib.Omega.{arith}
use lib.Dec.{eqb}
use lib.ListN.{length, take, drop, length-drop}
use lib.Seq.{drop-drop}
use Rattle.ground.proofs.Laws.Cases.{by_bool}
use Rattle.ground.specs.Replies.{no_byte, cut}
use Rattle.recording.specs.Walk.{Step, stops, passes, frame_step}
use Rattle.recording.proofs.Laws.Frames.{frame_unit}
use Rattle.recording.proofs.Laws.Reads.{lent}
use Rattle.recording.specs.Blocks.{further, in_block, followed, block_step}
use Rattle.recording.specs.Inner.{reply_behind}

abbrev pub begun : ℕ → ℕ → Step → Step
begun zero at x = x
begun (suc c) at x = further at (in_block x)

begun_stops : (c at x : ℕ) → begun c at (stops x) ≡ stops (reply_behind c x)
begun_stops zero at x = refl
begun_stops (suc c) at x = refl

begun_ends : (c at : ℕ) → (c ≡ 0 → at ≡ 0) → begun c at (passes 0) ≡ passes at
begun_ends zero at z = ap passes (sym (z refl))
begun_ends (suc c) at z = ap passes (add-zero at)

cut_once : (x : ℕ) → cond (eqb (cond (eqb x no_byte) cut x) no_byte) cut (cond (eqb x no_byte) cut x) ≡ cond (eqb x no_byte) cut x
cut_once x = by_bool (eqb x no_byte) (λ t. rw t refl) (λ t. rw (t, t) refl)

further_on : (at k : ℕ) (y : Step) → further at (in_block (further k (in_block y))) ≡ further (at + k) (in_block y)
further_on at k (stops x) = ap stops (cut_once x)
further_on at k (passes n) = ap passes (sym (add_assoc at k n))

begun_more : (c at k : ℕ) (y : Step) → (c ≡ 0 → at ≡ 0) → begun c at (further k (in_block y)) ≡ begun (c + 1) (at + k) y
begun_more zero at k y z =
    let e : k ≡ at + k = omega (arith, z refl) in
    ap (λ (n : ℕ). further n (in_block y)) e
begun_more (suc c) at k y z = further_on at k y ∙ ap (λ (n : ℕ). begun n (at + k) y) (sym (add-one (suc c)))

pub record Begun (src : List ℕ) (n at c : ℕ) : Type 0 where
  pub few : c ≤ n
  pub inside : at ≤ length src
  pub first : c ≡ 0 → at ≡ 0
  pub same : block_step n src ≡ begun c at (block_step (n - c) (drop at src))

pub begun_none : {src : List ℕ} {n : ℕ} → Begun src n 0 0
begun_none {src} {n} =
    record { few = omega arith; inside = omega arith; first = λ e. refl; same = let q : n ≡ n - 0 = omega arith in ap (λ (k : ℕ). block_step k src) q }

module _ {src : List ℕ} {n at c : ℕ} (B : Begun src n at c) where
  block_more : c < n → (o : Step) → frame_step (drop at src) ≡ o
      → block_step (n - c) (drop at src) ≡ followed o (λ k. block_step (n - (c + 1)) (drop k (drop at src)))
  unfolding block_step
  block_more h o e =
      let q : n - c ≡ suc (n - (c + 1)) = omega arith in
      ap (λ (k : ℕ). block_step k (drop at src)) q ∙ ap (λ (x : Step). followed x (λ k. block_step (n - (c + 1)) (drop k (drop at src)))) e

  -- the frame there is read from the part that is lent
  module _ (h : c < n) where
    pub begun_stop : {r x : ℕ} → r ≡ reply_behind c x → stops x ≡ frame_step (take (length src - at) (drop at src)) → stops r ≡ block_step n src
    begun_stop {r} {x} q e =
        let f = sym (e ∙ ap frame_step (lent src at)) in
        ap stops q ∙ sym (B.same ∙ ap (begun c at) (block_more h (stops x) f) ∙ begun_stops c at x)

    pub begun_next : {k : ℕ} → passes k ≡ frame_step (take (length src - at) (drop at src)) → Begun src n (at + k) (c + 1)
    begun_next {k} e =
        let f = sym (e ∙ ap frame_step (lent src at)) in
        record {
          few = omega arith;
          inside = omega (arith, B.inside, (frame_unit.told (drop at src) k f).1, length-drop at src);
          first = λ z. absurd (omega arith);
          same =
              B.same ∙ ap (begun c at) (block_more h (passes k) f) ∙ begun_more c at k _ B.first
              ∙ ap (λ (s : List ℕ). begun (c + 1) (at + k) (block_step (n - (c + 1)) s)) (drop-drop k at src);
        }

  pub begun_end : n ≤ c → passes at ≡ block_step n src
  unfolding block_step
  begun_end h =
      let q : n - c ≡ 0 = omega arith in
      sym (B.same ∙ ap (λ (k : ℕ). begun c at (block_step k (drop at src))) q ∙ begun_ends c at B.first)
