-- Texts laid one after the other are laid at once; the loop that lays a text byte by byte.
-- Assumes nothing.
use mathlib.Core.Path.{◌≡◌, refl, sym, ap, ap₂, ◌∙◌}
use mathlib.Core.List.{List, [], ◌∷◌, ◌++◌}
use Prim.Native.Nat.{ℕ, suc, ◌+◌, ◌≤◌, ◌<◌}
use native.Mathlib.Nat.{add-zero, suc-add, add-suc}
use native.Mathlib.Numerals.{add-one}
use native.Mathlib.Omega.{arith}
use lib.ListN.{length, get_or, set, take, drop, length-append}
use lib.Seq.{sets, sets-eq, length-sets, set_comm, take-suc, length-take-le, take_all}
use Rattle.ground.specs.Laying.{laid_text, TextLaid}

pub length_laid : (s : List ℕ) (at : ℕ) (t : List ℕ) → length (laid_text s at t) ≡ length s
unfolding laid_text
length_laid s at t = length-sets s at t

pub laid_append : (s : List ℕ) (at : ℕ) (t u : List ℕ) → laid_text (laid_text s at t) (at + length t) u ≡ laid_text s at (t ++ u)
unfolding laid_text
laid_append s at [] u = ap (λ (k : ℕ). sets s k u) (add-zero at)
laid_append s at (x ∷ t) u =
    ap (λ (k : ℕ). sets (sets (set s at x) (suc at) t) k u) (add-suc at (length t) ∙ sym (suc-add at (length t)))
    ∙ laid_append (set s at x) (suc at) t u

-- a byte stored behind a text that is still to be laid
laid_set : (s : List ℕ) (at p d : ℕ) (t : List ℕ) → at + length t ≤ p → laid_text (set s p d) at t ≡ set (laid_text s at t) p d
unfolding laid_text
laid_set s at p d [] h = refl
laid_set s at p d (x ∷ t) h =
    ap (λ (l : List ℕ). sets l (suc at) t) (set_comm s p at d x (λ e. omega arith)) ∙ laid_set (set s at x) (suc at) p d t (omega arith)

pub laid_last : (s : List ℕ) (at d : ℕ) (t : List ℕ) → laid_text (set s (at + length t) d) at t ≡ laid_text s at (t ++ (d ∷ []))
unfolding laid_text
laid_last s at d t = laid_set s at (at + length t) d t (omega arith) ∙ laid_append s at t (d ∷ [])

-- at the front
pub laid_front : (s t : List ℕ) → length t ≤ length s → laid_text s 0 t ≡ t ++ drop (length t) s
unfolding laid_text
laid_front s t h = let e : 0 + length t ≡ length t = omega arith in sets-eq t s 0 (omega arith) ∙ ap (λ (k : ℕ). t ++ drop k s) e

pub laid_none : (s : List ℕ) (next : ℕ) → next ≡ 0 → TextLaid s 0 [] s next
unfolding laid_text
laid_none s next e = record { after = e; bytes = refl }

module _ {s t s' : List ℕ} {at next : ℕ} (l : TextLaid s at t s' next) where
  pub laid_long : length s' ≡ length s
  laid_long = ap length l.bytes ∙ length_laid s at t

  -- another text behind it
  pub then : {u s'' : List ℕ} {end : ℕ} → TextLaid s' next u s'' end → TextLaid s at (t ++ u) s'' end
  then {u} m =
      record {
        after = omega (arith, m.after, l.after, length-append t u);
        bytes = m.bytes ∙ ap₂ (λ (x : List ℕ) (k : ℕ). laid_text x k u) l.bytes l.after ∙ laid_append s at t u;
      }

-- ---- a text put byte after byte

pub record Putting (s : List ℕ) (at : ℕ) (t s' : List ℕ) (i : ℕ) : Type 0 where
  pub upto : i ≤ length t
  pub long : length s' ≡ length s
  pub same : s' ≡ laid_text s at (take i t)

pub put_start : (s : List ℕ) (at : ℕ) (t : List ℕ) → Putting s at t s 0
unfolding laid_text
put_start s at t = record { upto = omega arith; long = refl; same = refl }

pub put_turn : (s : List ℕ) (at : ℕ) (t s' : List ℕ) (i : ℕ) → i < length t → Putting s at t s' i → Putting s at t (set s' (at + i) (get_or t i 0)) (i + 1)
unfolding laid_text
put_turn s at t s' i h p =
    let e : at + length (take i t) ≡ at + i = omega (arith, length-take-le i t (omega arith)) in
    let q : set s' (at + i) (get_or t i 0) ≡ laid_text s at (take (i + 1) t) =
    ap₂ (λ (l : List ℕ) (k : ℕ). set l k (get_or t i 0)) p.same (sym e)
    ∙ laid_append s at (take i t) (get_or t i 0 ∷ [])
    ∙ ap (laid_text s at) (sym (take-suc t i 0 h) ∙ ap (λ (k : ℕ). take k t) (sym (add-one i))) in
    record { upto = omega arith; long = ap length q ∙ length_laid s at (take (i + 1) t); same = q }

pub put_end : (s : List ℕ) (at : ℕ) (t s' : List ℕ) (i : ℕ) → length t ≤ i → Putting s at t s' i → TextLaid s at t s' (at + i)
put_end s at t s' i h p =
    let e : i ≡ length t = omega (arith, p.upto) in
    record { after = ap (λ (k : ℕ). at + k) e; bytes = p.same ∙ ap (laid_text s at) (take_all i t h) }
