-- The states of the loops that go through 44 indices one by one.
-- Assumes nothing.
use mathlib.Core.Path.{◌≡◌, refl, sym, ap, ap₂, ◌∙◌}
use mathlib.Core.Bool.{true, false, ◌&&◌}
use mathlib.Core.List.{List, [], ◌∷◌, ◌++◌, append_assoc, append-nil}
use Prim.Native.Nat.{ℕ, suc, ◌+◌, ◌-◌, ◌≤◌, ◌<◌}
use native.Mathlib.Omega.{arith}
use native.Mathlib.Numerals.{add-one}
use lib.Dec.{leb}
use lib.ListN.{length, get_or, take, drop, set, length-set, drop_of_length-le, take-append-drop}
use lib.Seq.{drop-cons, take-suc-set}
use borrow.Author.Tests.{lt-leb, le-leb, leb-true}
use Rattle.ground.proofs.Laws.Cases.{by_bool}
use Rattle.std.specs.declared.option.Option.TheVariants.{Some, None}
use Rattle.bits.specs.Codecs.{Verdict, fine, bad}
use Rattle.bits.specs.declared.Refusal.TheVariants.{Outside}
use Rattle.ground.proofs.Laws.ListsByRule.{filled}
use Rattle.norms.specs.Steps.{indices, numbers, guarded, close, steps_close}
use Rattle.norms.specs.Inner.{indices_of}
use Rattle.norms.proofs.Laws.Steps.{number_at, numbers_table}

-- ---- indices from numbers: the first i stand in out, and the last of them is x

abbrev pub onto : List ℕ → Verdict (List ℕ) → Verdict (List ℕ)
onto us (fine vs) = fine (us ++ vs)
onto us (bad k) = bad k

onto_nil : (a : Verdict (List ℕ)) → a ≡ onto [] a
onto_nil (fine vs) = refl
onto_nil (bad k) = refl

onto_one : (us : List ℕ) (y : ℕ) (a : Verdict (List ℕ)) → onto us (guarded true true y a) ≡ onto (us ++ (y ∷ [])) a
onto_one us y (fine vs) = ap fine (sym (append_assoc us (y ∷ []) vs))
onto_one us y (bad k) = refl

pub record Stepping (ws out : List ℕ) (x i : ℕ) : Type 0 where
  pub upto : i ≤ 44
  pub long : length out ≡ 44
  pub small : x ≤ 39
  pub said : indices 15 ws ≡ onto (take i out) (indices x (drop i ws))

module _ {ws : List ℕ} where
  module _ {out : List ℕ} {x i : ℕ} (I : Stepping ws out x i) (l : length ws ≡ 44) where
    module _ (h : i < 44) {z : ℕ} (e : z ≡ get_or ws i 0) where
      one : indices x (drop i ws) ≡ guarded (leb 15 (x + z)) (leb (x + z) 54) (x + z - 15) (indices (x + z - 15) (drop (suc i) ws))
      unfolding indices
      one =
          ap (indices x) (drop-cons ws i 0 (omega arith))
          ∙ ap (λ (w : ℕ). guarded (leb 15 (x + w)) (leb (x + w) 54) (x + w - 15) (indices (x + w - 15) (drop (suc i) ws))) (sym e)

      pub step_out : (15 ≤ x + z → 54 < x + z) → None ≡ indices_of (indices 15 ws)
      step_out o =
          let y = x + z in
          let q : guarded (leb 15 y) (leb y 54) (y - 15) (indices (y - 15) (drop (suc i) ws)) ≡ bad Outside =
          by_bool (leb 15 y) (λ t. rw (t, lt-leb y 54 (o (leb-true 15 y t)))) (λ t. rw t) in
          sym (ap indices_of (I.said ∙ ap (onto (take i out)) (one ∙ q)))

      pub step_turn : 15 ≤ x + z → x + z ≤ 54 → Stepping ws (set out i (x + z - 15)) (x + z - 15) (i + 1)
      step_turn a b =
          let y = x + z in
          let o : i < length out = omega (arith, I.long) in
          let front : take i out ++ ((y - 15) ∷ []) ≡ take (i + 1) (set out i (y - 15)) =
          sym (take-suc-set out i (y - 15) o) ∙ ap (λ (k : ℕ). take k (set out i (y - 15))) (sym (add-one i)) in
          let q : guarded (leb 15 y) (leb y 54) (y - 15) (indices (y - 15) (drop (suc i) ws))
          ≡ guarded true true (y - 15) (indices (y - 15) (drop (suc i) ws)) =
          rw (le-leb 15 y a, le-leb y 54 b) in
          record {
            upto = omega arith;
            long = length-set out i (y - 15) ∙ I.long;
            small = omega arith;
            said =
                I.said ∙ ap (onto (take i out)) (one ∙ q) ∙ onto_one (take i out) (y - 15) (indices (y - 15) (drop (suc i) ws))
                ∙ ap₂ (λ (u : List ℕ) (k : ℕ). onto u (indices (y - 15) (drop k ws))) front (sym (add-one i));
          }

    pub step_end : 44 ≤ i → Some out ≡ indices_of (indices 15 ws)
    unfolding indices
    step_end h =
        let t : take i out ≡ out =
        sym (append-nil (take i out)) ∙ ap (λ (z : List ℕ). take i out ++ z) (sym (drop_of_length-le out {i = i} (omega (arith, I.long))))
        ∙ take-append-drop i out in
        sym
        (ap indices_of
        (I.said ∙ ap (λ (z : List ℕ). onto (take i out) (indices x z)) (drop_of_length-le ws {i = i} (omega arith))
        ∙ ap fine (append-nil (take i out) ∙ t)))

-- ---- numbers from indices: the first i stand in out, and x is the index before place i

pub record Numbering (ss out : List ℕ) (x i : ℕ) : Type 0 where
  pub upto : i ≤ 44
  pub long : length out ≡ 44
  pub last : x ≡ get_or (15 ∷ ss) i 0
  pub said : (k : ℕ) → k < i → get_or out k 0 ≡ number_at ss k

module _ {ss : List ℕ} where
  module _ {out : List ℕ} {x i : ℕ} (I : Numbering ss out x i) where
    pub number_end : length ss ≡ 44 → 44 ≤ i → out ≡ numbers 15 ss
    number_end l h = filled (number_at ss) 44 0 out I.long (λ k b. I.said k (omega arith)) ∙ sym (numbers_table ss l)

-- ---- the test of the differences: those before place i are close

pub record Closing (ss : List ℕ) (i : ℕ) : Type 0 where
  pub upto : i ≤ 43
  pub said : steps_close ss ≡ close (get_or ss i 0) (drop (i + 1) ss)

pub close_start : (ss : List ℕ) → Closing ss 0
unfolding steps_close
close_start ss = record { upto = omega arith; said = refl }

module _ (ss : List ℕ) (i x y : ℕ) (I : Closing ss i) (l : length ss ≡ 44) (h : i < 43) (ex : x ≡ get_or ss i 0) (ey : y ≡ get_or ss (i + 1) 0) where
  pair : steps_close ss ≡ ((leb x (y + 15) && leb y (x + 16)) && close y (drop (suc (i + 1)) ss))
  unfolding close
  pair =
      I.said ∙ ap (close (get_or ss i 0)) (drop-cons ss (i + 1) 0 (omega arith))
      ∙ ap₂ (λ (a b : ℕ). (leb a (b + 15) && leb b (a + 16)) && close b (drop (suc (i + 1)) ss)) (sym ex) (sym ey)

  pub close_down : y + 15 < x → steps_close ss ≡ false
  close_down b = pair ∙ rw (lt-leb x (y + 15) b)

  pub close_up : x ≤ y + 15 → x + 16 < y → steps_close ss ≡ false
  close_up a b = pair ∙ rw (le-leb x (y + 15) a, lt-leb y (x + 16) b)

  pub close_turn : x ≤ y + 15 → y ≤ x + 16 → Closing ss (i + 1)
  close_turn a b =
      record {
        upto = omega arith;
        said = pair ∙ (rw (le-leb x (y + 15) a, le-leb y (x + 16) b)) ∙ ap₂ (λ (u k : ℕ). close u (drop k ss)) ey (sym (add-one (i + 1)));
      }

pub close_end : (ss : List ℕ) (i : ℕ) → Closing ss i → length ss ≡ 44 → 43 ≤ i → steps_close ss ≡ true
unfolding close
close_end ss i I l h = I.said ∙ ap (close (get_or ss i 0)) (drop_of_length-le ss {i = i + 1} (omega arith))
