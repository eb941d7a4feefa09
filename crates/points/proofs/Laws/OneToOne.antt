-- At rates 2 to 9 indices and points match one to one, once over the rate; every other rate is refused.
-- Assumes nothing.
use mathlib.Core.Path.{◌≡◌, sym, ap, ◌∙◌}
use mathlib.Core.Bool.{true, false}
use mathlib.Core.Logic.{◌⊎◌, inl, inr, ⊎_elim}
use mathlib.Core.List.{List}
use Prim.Native.Nat.{ℕ, ◌^◌, ◌<◌, ◌≤◌}
use native.Mathlib.Omega.{arith}
use borrow.Author.Tests.{lt-ltb, ltb-true, le-leb, leb-true}
use lib.Dec.{ltb, leb}
use lib.ListN.{length, get_or}
use lib.IntN.{ℤ}
use lib.Pow.{pow_pos}
use Rattle.ground.proofs.Laws.Cases.{by_bool}
use Rattle.ground.specs.Replies.{done, out_of_range}
use Rattle.lattice.specs.Lattice.{point, back}
use Rattle.points.specs.Answers.{below, agree, owns, point_of, index_of, no_point, no_index}
use Rattle.points.proofs.Laws.Points.{all_yes, all_at, agree_refl, agree_same}
use Rattle.lattice.proofs.Laws.Inverse.{back_point, back_index, point_long}
use Rattle.points.specs.declared.Index.{Index}
use Rattle.points.specs.OneToOne.{Names, OneToOne}

owned : (rate : ℕ) → 2 ≤ rate → rate ≤ 9 → owns rate ≡ true
owned rate l h = simp (le-leb 2 rate l, le-leb rate 9 h)

module _ (rate : ℕ) (low : 2 ≤ rate) (high : rate ≤ 9) where
  apart : (k l : List ℕ) (v : List ℤ) → Names rate k v → Names rate l v → k ≡ l
  apart k l v p q = sym (back_point _ k p.index) ∙ ap (back (2 ^ rate)) (p.its_point ∙ sym q.its_point) ∙ back_point _ l q.index

  there : (k : List ℕ) (v : List ℤ) → Names rate k v → point_of rate k ≡ record { reply = done; at = v }
  unfolding point_of below
  there k v p =
      simp (owned rate low high, all_yes (λ (j : ℕ). ltb (get_or k j 0) (2 ^ rate)) 8 (λ j q. lt-ltb _ _ (p.index.small j q)))
      (ap (λ (w : List ℤ). record { reply = done; at = w }) p.its_point)

  again : (k : List ℕ) (v : List ℤ) → Names rate k v → index_of rate v ≡ record { reply = done; at = k }
  unfolding index_of
  again k v p =
      let e : back (2 ^ rate) v ≡ k = ap (back (2 ^ rate)) (sym p.its_point) ∙ back_point _ k p.index in
      let t : agree (point (2 ^ rate) k) v 8 ≡ true = rw p.its_point (agree_refl v 8) in
      simp (owned rate low high, e, t)

  -- every answer is one of the two
  cases : (v : List ℤ) → length v ≡ 8 → Names rate (index_of rate v).at v ⊎ (index_of rate v ≡ no_index)
  unfolding index_of
  cases v l =
      let r = 2 ^ rate in
      by_bool (agree (point r (back r v)) v 8)
      (λ e. inl (simp (owned rate low high, e)
      (record { index = back_index r v (pow_pos rate); its_point = agree_same (point r (back r v)) v (point_long r (back r v)) l e })))
      (λ e. inr (simp (owned rate low high, e)))

  accepted : (v : List ℤ) → length v ≡ 8 → (index_of rate v).reply ≡ done → Names rate (index_of rate v).at v
  accepted v l e =
      ⊎_elim (λ n. n) (λ q. let z : ◌≡◌ {A = ℕ} out_of_range done = ap (λ (a : Index). a.reply) (sym q) ∙ e in absurd (omega arith)) (cases v l)

  refused : (v : List ℤ) → length v ≡ 8 → ((k : List ℕ) → Names rate k v → ⊥) → index_of rate v ≡ no_index
  refused v l h = ⊎_elim (λ n. absurd (h _ n)) (λ q. q) (cases v l)

  too_large : (k : List ℕ) (i : ℕ) → i < 8 → 2 ^ rate ≤ get_or k i 0 → point_of rate k ≡ no_point
  unfolding point_of below
  too_large k i l h =
      let r = 2 ^ rate in
      by_bool (below r k 8)
      (λ e. absurd (omega (arith, ltb-true (get_or k i 0) r (all_at (λ (j : ℕ). ltb (get_or k j 0) r) 8 e i l))))
      (λ e. simp (owned rate low high, e))

pub one_to_one : (rate : ℕ) → 2 ≤ rate → rate ≤ 9 → OneToOne rate
one_to_one rate l h =
    record {
      apart = apart rate l h;
      there = there rate l h;
      again = again rate l h;
      accepted = accepted rate l h;
      refused = refused rate l h;
      too_large = too_large rate l h;
    }

-- a rate outside 2 to 9 is refused by both calls
pub foreign : (rate : ℕ) → (2 ≤ rate → rate ≤ 9 → ⊥) → (k : List ℕ) (v : List ℤ) → (point_of rate k ≡ no_point) × (index_of rate v ≡ no_index)
unfolding point_of index_of
foreign rate h k v =
    let e : owns rate ≡ false =
    by_bool (leb 2 rate) (λ a. by_bool (leb rate 9) (λ b. absurd (h (leb-true 2 rate a) (leb-true rate 9 b))) (λ b. simp (a, b))) (λ a. simp a) in
    (simp e, simp e)
