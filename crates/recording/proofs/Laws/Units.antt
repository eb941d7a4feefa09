-- What makes a unit lawful, and what a walk over lawful units says: the units in front of its place, and why it stops there.
-- Assumes nothing.
use mathlib.Core.Path.{◌≡◌, refl, sym, ap, ap₂, ◌∙◌, subst}
use mathlib.Core.List.{List, [], ◌∷◌, ◌++◌, append_assoc}
use Prim.Native.Nat.{ℕ, zero, suc, ◌+◌, ◌-◌, ◌≤◌, ◌<◌}
use native.Mathlib.Omega.{arith}
use lib.ListN.{length, take, drop, length-append, take-append-drop}
use lib.Seq.{drop_at, length-take-le}
use Rattle.ground.specs.Replies.{done, too_many}
use Rattle.recording.specs.Walk.{Step, stops, passes, stopped, ahead, walk_over}
use Rattle.recording.proofs.Laws.Walk.{ahead_none, ahead_ahead, ahead_stopped, walk_end, walk_full, walk_stops, walk_passes}
use Rattle.recording.specs.declared.answer.Check.{Check}
use Rattle.recording.specs.Units.{Units, none, more}

-- the unit passes with exactly the bytes of a sound one, whatever follows; where there is a byte it stops with 2 to 7 alone
pub record LawfulUnit (unit : List ℕ → Step) (Whole : List ℕ → Type 0) : Type 0 where
  pub some : (f : List ℕ) → Whole f → 0 < length f
  pub front : (f rest : List ℕ) → Whole f → unit (f ++ rest) ≡ passes (length f)
  pub told : (s : List ℕ) (k : ℕ) → unit s ≡ passes k → Whole (take k s) × (k ≤ length s)
  pub number : (s : List ℕ) (x : ℕ) → 0 < length s → unit s ≡ stops x → (2 ≤ x) × (x ≤ 7)

-- ---- what an answer of the walk tells

-- why it stopped: no byte left; a byte left and no unit allowed; a unit refused
pub data Stop (unit : List ℕ → Step) (n : ℕ) (rest : List ℕ) (w : Check) : Type 0 where
  ended : w.reply ≡ done → rest ≡ [] → Stop unit n rest w
  passed : w.reply ≡ too_many → w.count ≡ n → 0 < length rest → Stop unit n rest w
  met : 0 < length rest → w.count < n → unit rest ≡ stops w.reply → Stop unit n rest w

pub record WalkSays (unit : List ℕ → Step) (Whole : List ℕ → Type 0) (n : ℕ) (src : List ℕ) (w : Check) : Type 0 where
  pub front : List ℕ
  pub rest : List ℕ
  pub whole : src ≡ front ++ rest
  pub units : Units Whole w.count front
  pub place : length front ≡ w.place
  pub few : w.count ≤ n
  pub stop : Stop unit n rest w

module _ {unit : List ℕ → Step} {Whole : List ℕ → Type 0} (L : LawfulUnit unit Whole) where
  one_unit : (n : ℕ) (f rest : List ℕ) → Whole f → walk_over unit (suc n) (f ++ rest) ≡ ahead 1 (length f) (walk_over unit n rest)
  one_unit n f rest w =
      walk_passes unit n (f ++ rest) (omega (arith, length-append f rest, L.some f w)) (length f) (L.front f rest w)
      ∙ ap (λ (s : List ℕ). ahead 1 (length f) (walk_over unit n s)) (drop_at f rest (length f) refl)

  -- units in front of a rest are counted and passed
  pub walk_units : {k : ℕ} {s : List ℕ} (n : ℕ) (rest : List ℕ) → Units Whole k s → k ≤ n
      → walk_over unit n (s ++ rest) ≡ ahead k (length s) (walk_over unit (n - k) rest)
  walk_units n rest none h = let e : n ≡ n - 0 = omega arith in ap (λ (k : ℕ). walk_over unit k rest) e ∙ sym (ahead_none (walk_over unit (n - 0) rest))
  walk_units zero rest (more {k} {f} {s} a fs) h = absurd (omega arith)
  walk_units (suc n) rest (more {k} {f} {s} a fs) h =
      let e : suc n - (1 + k) ≡ n - k = omega arith in
      ap (walk_over unit (suc n)) (append_assoc f s rest) ∙ one_unit n f (s ++ rest) a
      ∙ ap (ahead 1 (length f)) (walk_units n rest fs (omega arith))
      ∙ ahead_ahead 1 (length f) k (length s) (walk_over unit (n - k) rest)
      ∙ ap₂ (λ (j i : ℕ). ahead (1 + k) j (walk_over unit i rest)) (sym (length-append f s)) (sym e)

  at_start : (n : ℕ) (src : List ℕ) (x : ℕ) → Stop unit n src (stopped x) → WalkSays unit Whole n src (stopped x)
  at_start n src x s = record { front = []; rest = src; whole = refl; units = none; place = refl; few = omega arith; stop = s }

  later : (n : ℕ) (rest : List ℕ) (k : ℕ) (w : Check) → Stop unit n rest w → Stop unit (suc n) rest (ahead 1 k w)
  later n rest k w (ended e q) = ended e q
  later n rest k w (passed e q h) = passed e (omega arith) h
  later n rest k w (met h l e) = met h (omega arith) e

  behind : (n : ℕ) (src : List ℕ) (k : ℕ) (w : Check) → Whole (take k src) → k ≤ length src → WalkSays unit Whole n (drop k src) w
      → WalkSays unit Whole (suc n) src (ahead 1 k w)
  behind n src k w a l t =
      record {
        front = take k src ++ t.front;
        rest = t.rest;
        whole = sym (take-append-drop k src) ∙ ap (λ (d : List ℕ). take k src ++ d) t.whole ∙ sym (append_assoc (take k src) t.front t.rest);
        units = more a t.units;
        place = omega (arith, length-append (take k src) t.front, t.place, length-take-le k src l);
        few = omega (arith, t.few);
        stop = later n t.rest k w t.stop;
      }

  told_at : (n : ℕ) (src : List ℕ) → 0 < length src → (o : Step) → unit src ≡ o
      → ((s : List ℕ) → WalkSays unit Whole n s (walk_over unit n s)) → WalkSays unit Whole (suc n) src (walk_over unit (suc n) src)
  told_at n src h (stops x) e t =
      subst (WalkSays unit Whole (suc n) src) (sym (walk_stops unit n src h x e)) (at_start (suc n) src x (met h (omega arith) e))
  told_at n src h (passes k) e t =
      let b = L.told src k e in
      subst (WalkSays unit Whole (suc n) src) (sym (walk_passes unit n src h k e))
      (behind n src k (walk_over unit n (drop k src)) b.0 b.1 (t (drop k src)))

  -- whatever the walk answers, its count of sound units is in front of its place, and there it stopped for the reason that its number says
  pub walk_says : (n : ℕ) (src : List ℕ) → WalkSays unit Whole n src (walk_over unit n src)
  walk_says zero [] = subst (WalkSays unit Whole 0 []) (sym (walk_end unit 0 [] refl)) (at_start 0 [] done (ended refl refl))
  walk_says (suc n) [] = subst (WalkSays unit Whole (suc n) []) (sym (walk_end unit (suc n) [] refl)) (at_start (suc n) [] done (ended refl refl))
  walk_says zero (b ∷ s) =
      subst (WalkSays unit Whole 0 (b ∷ s)) (sym (walk_full unit (b ∷ s) (omega arith))) (at_start 0 (b ∷ s) too_many (passed refl refl (omega arith)))
  walk_says (suc n) (b ∷ s) = told_at n (b ∷ s) (omega arith) (unit (b ∷ s)) refl (λ t. walk_says n t)

  -- the same bytes are never both j and k units
  pub one_count : {j k : ℕ} {s : List ℕ} → Units Whole j s → Units Whole k s → j ≡ k
  one_count {j} {k} {s} a b = sym (counted a (omega arith)) ∙ counted b (omega arith)
    where
      counted : {i : ℕ} → Units Whole i s → i ≤ j + k → (walk_over unit (j + k) (s ++ [])).count ≡ i
      counted {i} f h =
          ap (λ (c : Check). c.count) (walk_units (j + k) [] f h ∙ ap (ahead i (length s)) (walk_end unit (j + k - i) [] refl)
          ∙ ahead_stopped i (length s) done)
