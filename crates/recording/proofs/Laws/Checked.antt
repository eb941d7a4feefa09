-- What the check answers, of any lawful unit: 0 and 11 exactly where they should, the count and the place always true.
-- Assumes nothing.
use mathlib.Core.Path.{◌≡◌, refl, sym, ap, ◌∙◌, subst}
use mathlib.Core.List.{List, [], ◌++◌, append-nil}
use mathlib.Core.Logic.{◌⊎◌, inl, inr}
use Prim.Native.Nat.{ℕ, suc, ◌+◌, ◌-◌, ◌≤◌, ◌<◌}
use native.Mathlib.Omega.{arith}
use lib.Dec.{eqb}
use lib.ListN.{length}
use borrow.Author.Tests.{eqb-true, eqb-false}
use Rattle.ground.proofs.Laws.Cases.{by_bool}
use Rattle.ground.specs.Replies.{done, no_byte, short_room, not_as_booked, no_data, too_many}
use Rattle.recording.specs.Walk.{Step, stops, made_check, ahead, walk_over, booked, most_frames, check_over}
use Rattle.recording.proofs.Laws.Walk.{ahead_stopped, booked_done, booked_missed, booked_other, walk_end, walk_full, walk_stops}
use Rattle.recording.specs.Units.{Units}
use Rattle.recording.proofs.Laws.Units.{LawfulUnit, Stop, ended, passed, met, WalkSays, walk_says, walk_units}
use Rattle.recording.specs.declared.answer.Check.{Check}
use Rattle.recording.specs.Checked.{Reason, agreed, unbooked, passed_all, stopped_at_lem, Checked, Number}

never : (x : ℕ) → Number x → (x ≡ no_byte → ⊥) × (x ≡ short_room → ⊥) × (x ≡ no_data → ⊥)
never x (inl e) = (λ z. omega arith, λ z. omega arith, λ z. omega arith)
never x (inr (inl e)) = (λ z. omega arith, λ z. omega arith, λ z. omega arith)
never x (inr (inr (inl e))) = (λ z. omega arith, λ z. omega arith, λ z. omega arith)
never x (inr (inr (inr e))) = (λ z. omega arith, λ z. omega arith, λ z. omega arith)

module _ {unit : List ℕ → Step} {Whole : List ℕ → Type 0} (L : LawfulUnit unit Whole) where
  module _ (src : List ℕ) (b : ℕ) (w : Check) (t : WalkSays unit Whole most_frames src w) where
    same_front : (c : Check) → w.count ≡ c.count → w.place ≡ c.place → Reason unit b t.rest c → Checked unit Whole src b c
    same_front c k p r =
        record {
          front = t.front;
          rest = t.rest;
          whole = t.whole;
          units = subst (λ (n : ℕ). Units Whole n t.front) k t.units;
          place = t.place ∙ p;
          few = omega (arith, t.few);
          reason = r;
        }

    checked_by : Stop unit most_frames t.rest w → Checked unit Whole src b (booked b w)
    checked_by (ended e q) =
        by_bool (eqb w.count b)
        (λ u.
        let k = eqb-true w.count b u in
        subst (Checked unit Whole src b) (sym (booked_done b w e k)) (same_front w refl refl (agreed e k q)))
        (λ u.
        let k = eqb-false w.count b u in
        subst (Checked unit Whole src b) (sym (booked_missed b w e k)) (same_front (made_check not_as_booked w.count w.place) refl refl (unbooked refl k q)))
    checked_by (passed e q h) =
        subst (Checked unit Whole src b) (sym (booked_other b w (λ z. omega arith))) (same_front w refl refl (passed_all e q h))
    checked_by (met h l e) =
        let f = L.number t.rest w.reply h e in
        subst (Checked unit Whole src b) (sym (booked_other b w (λ z. omega (arith, f.0)))) (same_front w refl refl (stopped_at_lem e f l h))

  -- whatever the check answers: its count of sound units stands in front of its place, and its number is given for its reason
  pub check_told : (src : List ℕ) (b : ℕ) → Checked unit Whole src b (check_over unit src b)
  unfolding check_over
  check_told src b = let t = walk_says L most_frames src in checked_by src b (walk_over unit most_frames src) t t.stop

  -- ---- what the check answers of units

  module _ {k : ℕ} {s : List ℕ} (f : Units Whole k s) (b : ℕ) where
    walk_all : k ≤ most_frames → walk_over unit most_frames s ≡ made_check done k (length s)
    walk_all h =
        ap (walk_over unit most_frames) (sym (append-nil s)) ∙ walk_units L most_frames [] f h ∙ ap (ahead k (length s)) (walk_end unit (most_frames - k) [] refl)
        ∙ ahead_stopped k (length s) done

    -- as many as booked and the end
    pub all_booked : k ≤ most_frames → k ≡ b → check_over unit s b ≡ record { reply = done; count = k; place = length s }
    unfolding check_over
    all_booked h e = ap (booked b) (walk_all h) ∙ booked_done b (made_check done k (length s)) refl e

    -- not as many
    pub all_unbooked : k ≤ most_frames → (k ≡ b → ⊥) → check_over unit s b ≡ record { reply = not_as_booked; count = k; place = length s }
    unfolding check_over
    all_unbooked h e = ap (booked b) (walk_all h) ∙ booked_missed b (made_check done k (length s)) refl e

    -- a refused unit behind them
    pub refused_behind : (rest : List ℕ) (x : ℕ) → k < most_frames → 0 < length rest → unit rest ≡ stops x
        → check_over unit (s ++ rest) b ≡ record { reply = x; count = k; place = length s }
    unfolding check_over
    refused_behind rest x h l e =
        let n = most_frames - (k + 1) in
        let q : most_frames - k ≡ suc n = omega arith in
        let y = L.number rest x l e in
        ap (booked b) (walk_units L most_frames rest f (omega arith) ∙ ap (λ (i : ℕ). ahead k (length s) (walk_over unit i rest)) q
        ∙ ap (ahead k (length s)) (walk_stops unit n rest l x e) ∙ ahead_stopped k (length s) x)
        ∙ booked_other b (made_check x k (length s)) (λ z. omega (arith, y.0))

    -- a byte after 3,000: whatever it is
    pub byte_behind : (rest : List ℕ) → k ≡ most_frames → 0 < length rest
        → check_over unit (s ++ rest) b ≡ record { reply = too_many; count = most_frames; place = length s }
    unfolding check_over
    byte_behind rest e l =
        let q : most_frames - k ≡ 0 = omega arith in
        ap (booked b) (walk_units L most_frames rest f (omega arith) ∙ ap (λ (i : ℕ). ahead k (length s) (walk_over unit i rest)) q
        ∙ ap (ahead k (length s)) (walk_full unit rest l) ∙ ahead_stopped k (length s) too_many
        ∙ ap (λ (i : ℕ). made_check too_many i (length s)) e)
        ∙ booked_other b (made_check too_many most_frames (length s)) (λ z. omega arith)

  -- ---- each number exactly when

  all_there : (src front rest : List ℕ) (k : ℕ) → src ≡ front ++ rest → rest ≡ [] → Units Whole k front → Units Whole k src
  all_there src front rest k e q f = subst (Units Whole k) (sym (e ∙ ap (λ (r : List ℕ). front ++ r) q ∙ append-nil front)) f

  -- 0: as many units as booked, at most 3,000, and nothing else
  pub check_whole : (src : List ℕ) (b : ℕ)
      → ((check_over unit src b).reply ≡ done → Units Whole b src × (b ≤ most_frames))
      × (Units Whole b src → b ≤ most_frames → (check_over unit src b).reply ≡ done)
  check_whole src b = (λ e. go t.reason e, λ f h. ap (λ (c : Check). c.reply) (all_booked f b h refl))
    where
      t : Checked unit Whole src b (check_over unit src b)
      t = check_told src b

      go : Reason unit b t.rest (check_over unit src b) → (check_over unit src b).reply ≡ done → Units Whole b src × (b ≤ most_frames)
      go (agreed r k q) e = (subst (λ (n : ℕ). Units Whole n src) k (all_there src t.front t.rest _ t.whole q t.units), omega (arith, t.few))
      go (unbooked r k q) e = absurd (omega arith)
      go (passed_all r k l) e = absurd (omega arith)
      go (stopped_at_lem r f k l) e = absurd (omega (arith, f.0))

  -- 11: some other number of units, at most 3,000, and nothing else
  pub check_unbooked : (src : List ℕ) (b : ℕ)
      → ((check_over unit src b).reply ≡ not_as_booked → (k : ℕ) × Units Whole k src × (k ≤ most_frames) × (k ≡ b → ⊥))
      × ((k : ℕ) → Units Whole k src → k ≤ most_frames → (k ≡ b → ⊥) → (check_over unit src b).reply ≡ not_as_booked)
  check_unbooked src b = (λ e. go t.reason e, λ k f h n. ap (λ (c : Check). c.reply) (all_unbooked f b h n))
    where
      t : Checked unit Whole src b (check_over unit src b)
      t = check_told src b

      go : Reason unit b t.rest (check_over unit src b) → (check_over unit src b).reply ≡ not_as_booked
          → (k : ℕ) × Units Whole k src × (k ≤ most_frames) × (k ≡ b → ⊥)
      go (agreed r k q) e = absurd (omega arith)
      go (unbooked r k q) e = ((check_over unit src b).count, all_there src t.front t.rest _ t.whole q t.units, t.few, k)
      go (passed_all r k l) e = absurd (omega arith)
      go (stopped_at_lem r f k l) e = absurd (omega (arith, f.1))

  -- 0 or 11, the end: so many units and nothing else; else there is no such number of them
  pub check_sound : (src : List ℕ) (b : ℕ) → ((check_over unit src b).reply ≡ done) ⊎ ((check_over unit src b).reply ≡ not_as_booked)
      → Units Whole (check_over unit src b).count src × ((check_over unit src b).count ≤ most_frames) × ((check_over unit src b).place ≡ length src)
  check_sound src b e = go t.reason e
    where
      t : Checked unit Whole src b (check_over unit src b)
      t = check_told src b

      all : t.rest ≡ [] → Units Whole (check_over unit src b).count src × ((check_over unit src b).count ≤ most_frames)
          × ((check_over unit src b).place ≡ length src)
      all q = (
        all_there src t.front t.rest _ t.whole q t.units,
        t.few,
        sym t.place ∙ ap length (sym (append-nil t.front) ∙ ap (λ (r : List ℕ). t.front ++ r) (sym q) ∙ sym t.whole),
      )

      go : Reason unit b t.rest (check_over unit src b) → ((check_over unit src b).reply ≡ done) ⊎ ((check_over unit src b).reply ≡ not_as_booked)
          → Units Whole (check_over unit src b).count src × ((check_over unit src b).count ≤ most_frames) × ((check_over unit src b).place ≡ length src)
      go (agreed r k q) e = all q
      go (unbooked r k q) e = all q
      go (passed_all r k l) (inl e) = absurd (omega arith)
      go (passed_all r k l) (inr e) = absurd (omega arith)
      go (stopped_at_lem r f k l) (inl e) = absurd (omega (arith, f.0))
      go (stopped_at_lem r f k l) (inr e) = absurd (omega (arith, f.1))

  pub check_replies : (src : List ℕ) (b : ℕ) → Number (check_over unit src b).reply
  check_replies src b = go (check_told src b).reason
    where
      go : Reason unit b (check_told src b).rest (check_over unit src b) → Number (check_over unit src b).reply
      go (agreed r k q) = inl r
      go (stopped_at_lem r f k l) = inr (inl f)
      go (unbooked r k q) = inr (inr (inl r))
      go (passed_all r k l) = inr (inr (inr r))

  -- never 1: it reads only where a byte is; never 10: it brings its own room; never 14: a frame of no data is sound
  pub check_never : (src : List ℕ) (b : ℕ)
      → ((check_over unit src b).reply ≡ no_byte → ⊥) × ((check_over unit src b).reply ≡ short_room → ⊥) × ((check_over unit src b).reply ≡ no_data → ⊥)
  check_never src b = never (check_over unit src b).reply (check_replies src b)
