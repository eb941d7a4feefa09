-- A frame that was read from a lent part of the source, as a unit of the walk.
-- Assumes nothing.
use mathlib.Core.Path.{◌≡◌, refl, sym, ap, ◌∙◌}
use mathlib.Core.List.{List, [], ◌∷◌}
use Prim.Native.Nat.{ℕ, ◌-◌, ◌≤◌}
use native.Mathlib.Omega.{arith}
use lib.ListN.{length, take, drop, length-drop}
use lib.Seq.{take_all}
use Rattle.ground.specs.Replies.{no_byte}
use Rattle.prefix.specs.Prefix.{prefix_of}
use Rattle.prefix.proofs.Laws.Prefix.{read_none}
use Rattle.prefix.specs.declared.Prefix.{Prefix}
use Rattle.frame.specs.Answers.{Outcome, refused, empty, sound, started, reading_of}
use Rattle.frame.specs.declared.Reading.{Reading}
use Rattle.recording.specs.Walk.{stops, passes, step_of, frame_step, stored_at}
use Rattle.recording.proofs.Laws.Walk.{stored_started, Fits, stored_fits}

-- the part of the source that is lent
pub lent : (s : List ℕ) (at : ℕ) → take (length s - at) (drop at s) ≡ drop at s
lent s at = take_all (length s - at) (drop at s) (omega (arith, length-drop at s))

fits_low : (s : List ℕ) (x : ℕ) (o : Outcome) → Fits s o → o ≡ refused x → (1 ≤ x) × (x ≤ 7)
fits_low s x (refused y) f e = let q : y ≡ x = cc in (omega (arith, f.0), omega (arith, f.1))
fits_low s x empty f e = absurd (let z : ◌≡◌ {A = ℕ} 0 1 = cc in omega arith)
fits_low s x (sound m y) f e = absurd (let z : ◌≡◌ {A = ℕ} 0 1 = cc in omega arith)

-- 1 to 7 for a frame that is refused, 1 where there is no byte
pub refused_low : (s : List ℕ) (x : ℕ) → stored_at s ≡ refused x → (1 ≤ x) × (x ≤ 7)
refused_low [] x e =
    let q : ◌≡◌ {A = Outcome} (refused no_byte) (refused x) = sym (stored_started [] ∙ ap (λ (p : Prefix). started p []) (read_none [] refl)) ∙ e in
    let n : no_byte ≡ x = cc in (omega arith, omega arith)
refused_low (b ∷ s) x e = fits_low (b ∷ s) x (stored_at (b ∷ s)) (stored_fits (b ∷ s) (omega arith)) e

-- a reading of the frame at the start, as a unit: a number from 1 to 7 stops, any other passes
module _ (s : List ℕ) {r : Reading} (e : r ≡ reading_of (started (prefix_of s) s)) where
  read_again : r ≡ reading_of (stored_at s)
  read_again = e ∙ ap reading_of (sym (stored_started s))

  stops_by : (o : Outcome) → r ≡ reading_of o → 1 ≤ r.reply → r.reply ≤ 7 → step_of o ≡ stops r.reply
  stops_by (refused x) q l h = ap (λ (z : Reading). stops z.reply) (sym q)
  stops_by empty q l h = absurd (omega (arith, ap (λ (z : Reading). z.reply) q))
  stops_by (sound mode x) q l h = absurd (omega (arith, ap (λ (z : Reading). z.reply) q))

  pub reading_stops : {x : ℕ} → r.reply ≡ x → 1 ≤ x → x ≤ 7 → stops x ≡ frame_step s
  reading_stops q l h = sym (stops_by (stored_at s) read_again (omega arith) (omega arith) ∙ ap stops q)

  passes_by : (o : Outcome) → stored_at s ≡ o → r ≡ reading_of o → (1 ≤ r.reply → r.reply ≤ 7 → ⊥) → step_of o ≡ passes r.next
  passes_by (refused x) t q n =
      let l = refused_low s x t in absurd (n (omega (arith, ap (λ (z : Reading). z.reply) q, l.0)) (omega (arith, ap (λ (z : Reading). z.reply) q, l.1)))
  passes_by empty t q n = ap (λ (z : Reading). passes z.next) (sym q)
  passes_by (sound mode x) t q n = ap (λ (z : Reading). passes z.next) (sym q)

  pub reading_passes : (1 ≤ r.reply → r.reply ≤ 7 → ⊥) → passes r.next ≡ frame_step s
  reading_passes n = sym (passes_by (stored_at s) refl read_again n)
