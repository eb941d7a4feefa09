-- The walk step by step: its ends, its stops, one unit passed; the booking by its tests.
-- Assumes nothing.
use mathlib.Core.Path.{◌≡◌, refl, sym, ap, ap₂, ◌∙◌, subst}
use mathlib.Core.Bool.{Bool, true, false, cond}
use mathlib.Core.List.{List, [], ◌∷◌}
use Prim.Native.Nat.{ℕ, zero, suc, ◌+◌, ◌-◌, ◌*◌, ◌≤◌, ◌<◌}
use native.Mathlib.Nat.{zero-add, add-zero, add_assoc}
use native.Mathlib.Omega.{arith}
use lib.Dec.{eqb, ltb}
use lib.ListN.{length, get_or, drop}
use borrow.Author.Tests.{eq-eqb, ne_eqb, ltb-true, ltb-false}
use Rattle.ground.proofs.Laws.Cases.{by_bool}
use Rattle.ground.specs.Replies.{done, not_as_booked, too_many}
use Rattle.bits.specs.Bits.{bits_of}
use Rattle.bits.specs.Codings.{Answer, got, no}
use Rattle.bits.specs.declared.Refusal.TheVariants.{Outside, Missing, Past}
use Rattle.prefix.specs.Sizes.{Size, no_body, not_given, sized, table_a2, length_bytes, mode_bytes}
use Rattle.prefix.proofs.Laws.Sizes.{a2_between}
use Rattle.prefix.specs.Prefix.{prefix_of, prefix_byte, field_f, field_l, said}
use Rattle.prefix.proofs.Laws.Prefix.{read_some, prefix_data}
use Rattle.prefix.specs.declared.Prefix.{Prefix}
use Rattle.prefix.specs.declared.Prefix.TheVariants.{Data, NoData, NoByte, Marked, Reserved}
use Rattle.frame.specs.Layout.{Frame, frame}
use Rattle.frame.specs.Answers.{Outcome, refused, empty, sound, outcome, read_body, body_of, started}
use Rattle.frame.proofs.Laws.Reads.{read_started, data_cut, data_whole}
use Rattle.recording.specs.declared.answer.Check.{Check}
use Rattle.recording.specs.Walk.{stored_at, made_check, stopped, ahead, Step, stops, passes, onward, next_step, walk_over, booked}

pub made_same : {x y k j n m : ℕ} → x ≡ y → k ≡ j → n ≡ m → made_check x k n ≡ made_check y j m
made_same e f g = rw (e, f, g)

-- ---- frames in front

pub ahead_none : (w : Check) → ahead 0 0 w ≡ w
ahead_none w = ap₂ (made_check w.reply) (zero-add w.count) (zero-add w.place)

pub ahead_ahead : (j m k n : ℕ) (w : Check) → ahead j m (ahead k n w) ≡ ahead (j + k) (m + n) w
ahead_ahead j m k n w =
    ap₂ (made_check w.reply) (sym (add_assoc j k w.count)) (sym (add_assoc m n w.place))

pub ahead_stopped : (k n x : ℕ) → ahead k n (stopped x) ≡ made_check x k n
ahead_stopped k n x = ap₂ (made_check x) (add-zero k) (add-zero n)

-- ---- the booking

module _ (b : ℕ) (w : Check) where
  pub booked_done : w.reply ≡ done → w.count ≡ b → booked b w ≡ w
  unfolding booked
  booked_done e q = rw (eq-eqb w.reply done e, eq-eqb w.count b q)

  pub booked_missed : w.reply ≡ done → (w.count ≡ b → ⊥) → booked b w ≡ made_check not_as_booked w.count w.place
  unfolding booked
  booked_missed e q = rw (eq-eqb w.reply done e, ne_eqb w.count b q)

  pub booked_other : (w.reply ≡ done → ⊥) → booked b w ≡ w
  unfolding booked
  booked_other e = rw (ne_eqb w.reply done e)

-- ---- the frame at the start

pub stored_started : (s : List ℕ) → stored_at s ≡ started (prefix_of s) s
unfolding stored_at
stored_started s = read_started s 800 320 (omega arith) (omega arith) (prefix_of s) refl

-- where there is a byte, a frame is refused with 2 to 7, and a sound one has its bytes
abbrev pub Fits : List ℕ → Outcome → Type 0
Fits s (refused x) = (2 ≤ x) × (x ≤ 7)
Fits s empty = 0 < length s
Fits s (sound mode x) = (mode < 20) × (mode_bytes mode < length s)

some_byte : (marked : Bool) (z : Size) (l : ℕ) → cond marked Marked (said z l) ≡ NoByte → ⊥
some_byte true z l e = let q : ◌≡◌ {A = ℕ} 0 1 = cc in omega arith
some_byte false no_body l e = let q : ◌≡◌ {A = ℕ} 0 1 = cc in omega arith
some_byte false not_given l e = let q : ◌≡◌ {A = ℕ} 0 1 = cc in omega arith
some_byte false (sized n) l e = let q : ◌≡◌ {A = ℕ} 0 1 = cc in omega arith

outcome_fits : (s : List ℕ) (m : ℕ) (a : Answer Frame) → m < 20 → mode_bytes m < length s → Fits s (outcome m a)
outcome_fits s m (got x r) h l = (h, l)
outcome_fits s m (no Outside) h l = (omega arith, omega arith)
outcome_fits s m (no Missing) h l = (omega arith, omega arith)
outcome_fits s m (no Past) h l = (omega arith, omega arith)

body_fits : (s : List ℕ) (m : ℕ) (body : List ℕ) → m < 20 → mode_bytes m < length s → Fits s (read_body m body)
unfolding read_body
body_fits s m body h l = outcome_fits s m ((frame (length body * 8)).read (bits_of body)) h l

started_fits : (s : List ℕ) (p : Prefix) → 0 < length s → prefix_of s ≡ p → Fits s (started p s)
unfolding prefix_byte
started_fits s NoByte h q =
    let b = get_or s 0 0 in
    absurd (some_byte (eqb (field_f b) 1) (table_a2 (field_l b)) (field_l b) (sym (read_some s h) ∙ q))
started_fits s Marked h q = (omega arith, omega arith)
started_fits s Reserved h q = (omega arith, omega arith)
started_fits s NoData h q = h
started_fits s (Data f) h q =
    let d = prefix_data s f q in
    let m = f.0 - 8 in
    let n = mode_bytes m in
    let e : n ≡ length_bytes f.0 = sym (a2_between f.0 d.0 d.1).0 in
    by_bool (ltb n (length s))
    (λ t.
    let l = ltb-true n (length s) t in
    subst (Fits s) (sym (data_whole s f n e l)) (body_fits s m (body_of n s) (omega (arith, d.1)) l))
    (λ t. subst (Fits s) (sym (data_cut s f n e (ltb-false n (length s) t))) (omega arith, omega arith))

pub stored_fits : (s : List ℕ) → 0 < length s → Fits s (stored_at s)
stored_fits s h = subst (Fits s) (sym (stored_started s)) (started_fits s (prefix_of s) h refl)

-- ---- what stands at the start

module _ (unit : List ℕ → Step) where
  pub next_end : (n : ℕ) (s : List ℕ) → length s ≡ 0 → next_step unit n s ≡ stops done
  unfolding next_step
  next_end n [] h = refl
  next_end n (b ∷ s) h = absurd (omega arith)

  pub next_full : (s : List ℕ) → 0 < length s → next_step unit 0 s ≡ stops too_many
  unfolding next_step
  next_full [] h = absurd (omega arith)
  next_full (b ∷ s) h = refl

  pub next_unit : (n : ℕ) (s : List ℕ) → 0 < length s → next_step unit (suc n) s ≡ unit s
  unfolding next_step
  next_unit n [] h = absurd (omega arith)
  next_unit n (b ∷ s) h = refl

  -- only a unit that is allowed passes
  pub next_passes : (n : ℕ) (s : List ℕ) (k : ℕ) → next_step unit n s ≡ passes k → (1 ≤ n) × (unit s ≡ passes k)
  unfolding next_step
  next_passes n [] k e = absurd (let z : ◌≡◌ {A = ℕ} 0 1 = cc in omega arith)
  next_passes zero (b ∷ s) k e = absurd (let z : ◌≡◌ {A = ℕ} 0 1 = cc in omega arith)
  next_passes (suc n) (b ∷ s) k e = (omega arith, e)

  -- ---- the walk by its steps

  pub walk_stop : (n : ℕ) (s : List ℕ) (x : ℕ) → next_step unit n s ≡ stops x → walk_over unit n s ≡ stopped x
  unfolding walk_over onward
  walk_stop zero s x e = ap (λ (o : Step). onward o (λ k. stopped too_many)) e
  walk_stop (suc n) s x e = ap (λ (o : Step). onward o (λ k. walk_over unit n (drop k s))) e

  on : (n : ℕ) (s : List ℕ) (k : ℕ) → next_step unit (suc n) s ≡ passes k → walk_over unit (suc n) s ≡ ahead 1 k (walk_over unit n (drop k s))
  unfolding walk_over onward
  on n s k e = ap (λ (o : Step). onward o (λ j. walk_over unit n (drop j s))) e

  pub walk_pass : (n : ℕ) (s : List ℕ) (k : ℕ) → next_step unit n s ≡ passes k → walk_over unit n s ≡ ahead 1 k (walk_over unit (n - 1) (drop k s))
  walk_pass zero s k e = absurd (omega (arith, (next_passes 0 s k e).0))
  walk_pass (suc n) s k e = let m : n ≡ suc n - 1 = omega arith in on n s k e ∙ ap (λ (i : ℕ). ahead 1 k (walk_over unit i (drop k s))) m

  pub walk_end : (n : ℕ) (s : List ℕ) → length s ≡ 0 → walk_over unit n s ≡ stopped done
  walk_end n s h = walk_stop n s done (next_end n s h)

  pub walk_full : (s : List ℕ) → 0 < length s → walk_over unit 0 s ≡ stopped too_many
  walk_full s h = walk_stop 0 s too_many (next_full s h)

  pub walk_stops : (n : ℕ) (s : List ℕ) → 0 < length s → (x : ℕ) → unit s ≡ stops x → walk_over unit (suc n) s ≡ stopped x
  walk_stops n s h x e = walk_stop (suc n) s x (next_unit n s h ∙ e)

  pub walk_passes : (n : ℕ) (s : List ℕ) → 0 < length s → (k : ℕ) → unit s ≡ passes k → walk_over unit (suc n) s ≡ ahead 1 k (walk_over unit n (drop k s))
  walk_passes n s h k e = on n s k (next_unit n s h ∙ e)

-- two units that agree everywhere stand alike, and are walked alike
module _ (u v : List ℕ → Step) (e : (s : List ℕ) → u s ≡ v s) where
  pub next_same : (n : ℕ) (s : List ℕ) → next_step u n s ≡ next_step v n s
  unfolding next_step
  next_same n [] = refl
  next_same zero (b ∷ s) = refl
  next_same (suc n) (b ∷ s) = e (b ∷ s)

  pub walk_same : (n : ℕ) (s : List ℕ) → walk_over u n s ≡ walk_over v n s
  unfolding walk_over onward
  walk_same zero s = ap (λ (o : Step). onward o (λ k. stopped too_many)) (next_same 0 s)
  walk_same (suc n) s =
      ap (λ (o : Step). onward o (λ k. walk_over u n (drop k s))) (next_same (suc n) s) ∙ go (next_step v (suc n) s) (λ t. walk_same n t)
    where
      go : (o : Step) → ((t : List ℕ) → walk_over u n t ≡ walk_over v n t)
          → onward o (λ k. walk_over u n (drop k s)) ≡ onward o (λ k. walk_over v n (drop k s))
      go (stops x) h = refl
      go (passes k) h = ap (ahead 1 k) (h (drop k s))
