-- What a join that is done tells, and which recordings are joined: 1 to 8 sound ones of equal count.
-- Assumes nothing.
use mathlib.Core.Path.{◌≡◌, refl, sym, ap, ◌∙◌, subst}
use mathlib.Core.Bool.{true, cond}
use mathlib.Core.List.{List}
use Prim.Native.Nat.{ℕ, zero, suc, ◌+◌, ◌≤◌, ◌<◌}
use native.Mathlib.Omega.{arith}
use lib.Dec.{eqb, ltb}
use lib.ListN.{length}
use borrow.Author.Tests.{eq-eqb, eqb-true, eqb-false, ltb-false, le-ltb}
use Rattle.ground.proofs.Laws.Cases.{by_bool}
use Rattle.ground.specs.Sums.{nth}
use Rattle.ground.proofs.Laws.Sums.{sum_same}
use Rattle.ground.specs.Replies.{done, short_room, wrong_channels}
use Rattle.recording.specs.Walk.{made_check}
use Rattle.recording.specs.Frames.{Frames}
use Rattle.recording.specs.Blocks.{is_count}
use Rattle.recording.specs.declared.answer.Check.{Check}
use Rattle.recording.proofs.Laws.Blocks.{counted, is_counted}
use Rattle.frames.specs.Places.{place_of}
use Rattle.frames.proofs.Laws.Frames.{placed_all}
use Rattle.joining.specs.Joining.{start_of, recording_at, own_check, joined, joined_of, first_copy, refused_in, equal_counts, check_all, join_answer}
use Rattle.joining.specs.Joining.{InSource, Joinable}
use Rattle.channels.specs.Copies.{made_copy, refused_copy, stopped_copy}
use Rattle.channels.proofs.Laws.Walks.{own_frames, own_made}
use Rattle.joining.proofs.Laws.Joining.{counts_made, length_recording, length_joined, checked_common, joined_few}
use Rattle.channels.specs.declared.Copied.{Copied}

-- ---- all recordings

-- the first that has a reply has none: neither has
first_none : (a b : Copied) → (first_copy a b).reply ≡ 0 → (a.reply ≡ 0) × (b.reply ≡ 0)
first_none a b e =
    by_bool (eqb a.reply 0)
    (λ t. let z = eqb-true a.reply 0 t in let q : first_copy a b ≡ b = rw t refl in (z, sym (ap (λ (x : Copied). x.reply) q) ∙ e))
    (λ t. let z = eqb-false a.reply 0 t in let q : first_copy a b ≡ a = rw t refl in absurd (z (sym (ap (λ (x : Copied). x.reply) q) ∙ e)))

refused_none : (w : ℕ → Check) (n : ℕ) → ((c : ℕ) → c < n → (w c).reply ≡ 0) → refused_in w n ≡ refused_copy done
unfolding refused_in
refused_none w zero h = refl
refused_none w (suc n) h =
    let r = refused_none w n (λ c b. h c (omega arith)) in
    ap (λ (a : Copied). first_copy a (cond (eqb (w n).reply 0) (refused_copy done) (stopped_copy (w n) (n + 1)))) r
    ∙ rw (eq-eqb (w n).reply 0 (h n (omega arith))) refl

-- ---- the join

module _ (src lengths : List ℕ) (room : ℕ) where
  pub record Done : Type 0 where
    pub joinable : Joinable src lengths (own_check src lengths 0).count
    pub room_for : length (joined_of src lengths) ≤ room
    pub answer : join_answer src lengths room ≡ made_copy done 0 (own_check src lengths 0).count 0 (length (joined_of src lengths))

  all_checked : (check_all (own_check src lengths) (length lengths)).reply ≡ 0 → is_count (length lengths) ≡ true → start_of lengths (length lengths) ≤ length src
      → Joinable src lengths (own_check src lengths 0).count
  all_checked e i l =
      let c = counted (length lengths) i in
      let C = checked_common (own_check src lengths) (length lengths) e in
      record {
        some = c.0;
        most = c.1;
        inside = l;
        few = joined_few src lengths c.0 C;
        sound = λ d h. subst (λ (j : ℕ). Frames j (recording_at src lengths d)) (C.equal d h) (own_frames (recording_at src lengths d) (C.sound d h));
      }

  -- a join that is done
  pub join_told : (join_answer src lengths room).reply ≡ 0 → Done
  unfolding join_answer
  join_told e =
      let m = length lengths in
      let w = own_check src lengths in
      let rest = cond (ltb room (length (joined_of src lengths))) (refused_copy short_room) (made_copy done 0 (w 0).count 0 (length (joined_of src lengths))) in
      let late = first_copy (check_all w m) rest in
      let mid = cond (ltb (length src) (start_of lengths m)) (refused_copy short_room) late in
      by_bool (is_count m)
      (λ i.
      let a : join_answer src lengths room ≡ mid = rw i refl in
      by_bool (ltb (length src) (start_of lengths m))
      (λ t. absurd (let b : mid ≡ refused_copy short_room = rw t refl in let y = sym (ap (λ (x : Copied). x.reply) (a ∙ b)) ∙ e in omega (arith, y)))
      (λ t.
      let b : mid ≡ late = rw t refl in
      let f = first_none (check_all w m) rest (sym (ap (λ (x : Copied). x.reply) (a ∙ b)) ∙ e) in
      let d : late ≡ rest = rw (eq-eqb (check_all w m).reply 0 f.0) refl in
      by_bool (ltb room (length (joined_of src lengths)))
      (λ u. absurd (let g : rest ≡ refused_copy short_room = rw u refl in let y = sym (ap (λ (x : Copied). x.reply) g) ∙ f.1 in omega (arith, y)))
      (λ u.
      let g : rest ≡ made_copy done 0 (w 0).count 0 (length (joined_of src lengths)) = rw u refl in
      record {
        joinable = all_checked f.0 i (ltb-false (length src) (start_of lengths m) t);
        room_for = ltb-false room (length (joined_of src lengths)) u;
        answer = a ∙ b ∙ d ∙ g;
      })))
      (λ i. absurd (let a : join_answer src lengths room ≡ refused_copy wrong_channels = rw i refl in
      let y = sym (ap (λ (x : Copied). x.reply) a) ∙ e in omega (arith, y)))

  -- recordings that are joined
  module _ (k : ℕ) (J : Joinable src lengths k) where
    own_is : (c : ℕ) → c < length lengths → own_check src lengths c ≡ made_check done k (length (recording_at src lengths c))
    own_is c h = own_made k (recording_at src lengths c) (J.sound c h) J.few

    pub count_is : (own_check src lengths 0).count ≡ k
    count_is = ap (λ (x : Check). x.count) (own_is 0 (omega (arith, J.some)))

    pub joined_is : joined_of src lengths ≡ joined (length lengths) k (recording_at src lengths)
    joined_is = ap (λ (j : ℕ). joined (length lengths) j (recording_at src lengths)) count_is

    -- as many bytes as the recordings have together
    pub joined_length : length (joined_of src lengths) ≡ start_of lengths (length lengths)
    joined_length =
        let y : InSource src lengths = record { few = J.most; inside = J.inside } in
        ap length joined_is ∙ length_joined (length lengths) k (recording_at src lengths)
        ∙ sum_same (λ c. place_of (recording_at src lengths c) k) (nth lengths) (length lengths) (λ c h. placed_all (J.sound c h)
        ∙ length_recording src lengths y c h)

    checked_is : check_all (own_check src lengths) (length lengths) ≡ made_copy done 0 (own_check src lengths 0).count 0 0
    unfolding check_all
    checked_is =
        let w = own_check src lengths in
        ap (λ (a : Copied). first_copy a (cond (equal_counts w (w 0).count (length lengths)) (made_copy done 0 (w 0).count 0 0) (refused_copy wrong_channels)))
        (refused_none w (length lengths) (λ c h. ap (λ (x : Check). x.reply) (own_is c h)))
        ∙ rw (counts_made w (w 0).count (length lengths) (λ c h. ap (λ (x : Check). x.count) (own_is c h) ∙ sym count_is)) refl

    pub join_made : length (joined_of src lengths) ≤ room → join_answer src lengths room ≡ made_copy done 0 k 0 (length (joined_of src lengths))
    unfolding join_answer
    join_made h =
        let m = length lengths in
        let w = own_check src lengths in
        let rest = cond (ltb room (length (joined_of src lengths))) (refused_copy short_room) (made_copy done 0 (w 0).count 0 (length (joined_of src lengths))) in
        let a : join_answer src lengths room ≡ first_copy (check_all w m) rest = rw
        (is_counted m J.some J.most, le-ltb (length src) (start_of lengths m) J.inside) refl in
        let b : first_copy (check_all w m) rest ≡ rest = ap (λ (x : Copied). first_copy x rest) checked_is in
        let d : rest ≡ made_copy done 0 (w 0).count 0 (length (joined_of src lengths)) = rw (le-ltb room (length (joined_of src lengths)) h) refl in
        a ∙ b ∙ d ∙ ap (λ (j : ℕ). made_copy done 0 j 0 (length (joined_of src lengths))) count_is
