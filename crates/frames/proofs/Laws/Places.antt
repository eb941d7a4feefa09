-- The laws of places: every place lies inside, and places behind places add up.
-- Assumes nothing.
use mathlib.Core.Path.{◌≡◌, refl, sym, ap, ap₂, ◌∙◌}
use mathlib.Core.List.{List}
use Prim.Native.Nat.{ℕ, zero, suc, ◌+◌, ◌-◌, ◌≤◌, ◌<◌, min}
use native.Mathlib.Nat.{add-zero, add-suc}
use native.Mathlib.Numerals.{add-one}
use native.Mathlib.Omega.{arith}
use lib.ListN.{length, take, drop, length-drop}
use Rattle.prefix.specs.Prefix.{prefix_of}
use Rattle.recording.proofs.Laws.Reads.{lent}
use Rattle.frames.specs.Places.{said_bytes, size_at, place_from}

pub size_inside : (s : List ℕ) → size_at s ≤ length s
unfolding size_at
size_inside s = omega arith

-- as many as are said: where they are there
pub size_said : (s : List ℕ) (n : ℕ) → n ≡ said_bytes (prefix_of s) → n ≤ length s → n ≡ size_at s
unfolding size_at
size_said s n e h = omega arith

-- at a place in the source, and past its end
module _ (s : List ℕ) (at : ℕ) where
  pub size_there : {r : List ℕ} {n m : ℕ} → r ≡ take (length s - at) (drop at s) → n ≡ said_bytes (prefix_of r) → m ≡ min n (length r) → m ≡ size_at (drop at s)
  unfolding size_at
  size_there {r} {n} {m} e q l =
      let d : r ≡ drop at s = e ∙ lent s at in
      l ∙ ap (λ (k : ℕ). min k (length r)) q ∙ ap size_at d

  pub size_past : length s < at → 0 ≡ size_at (drop at s)
  size_past h = omega (arith, size_inside (drop at s), length-drop at s)

pub place_none : (s : List ℕ) (at : ℕ) → at ≡ place_from s at 0
unfolding place_from
place_none s at = refl

pub place_more : (s : List ℕ) (at n : ℕ) → place_from s at (n + 1) ≡ place_from s at n + size_at (drop (place_from s at n) s)
unfolding place_from
place_more s at n = ap (place_from s at) (add-one n)

pub place_turn : (s : List ℕ) (at n : ℕ) {p k : ℕ} → p ≡ place_from s at n → k ≡ size_at (drop p s) → p + k ≡ place_from s at (n + 1)
place_turn s at n {p} {k} e q = ap₂ (λ (i j : ℕ). i + j) e (q ∙ ap (λ (i : ℕ). size_at (drop i s)) e) ∙ sym (place_more s at n)

pub place_inside : (s : List ℕ) (at n : ℕ) → at ≤ length s → place_from s at n ≤ length s
unfolding place_from
place_inside s at zero h = h
place_inside s at (suc n) h =
    omega (arith, place_inside s at n h, size_inside (drop (place_from s at n) s), length-drop (place_from s at n) s)

pub place_add : (s : List ℕ) (at m n : ℕ) → place_from s at (m + n) ≡ place_from s (place_from s at m) n
unfolding place_from
place_add s at m zero = ap (place_from s at) (add-zero m)
place_add s at m (suc n) = ap (place_from s at) (add-suc m n) ∙ ap (λ (p : ℕ). p + size_at (drop p s)) (place_add s at m n)
