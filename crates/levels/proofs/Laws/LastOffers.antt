-- The end of the contest: only the bands that fit are served, and where none fits it is over.
-- Assumes nothing.
use mathlib.Core.Bool.{cond, true}
use mathlib.Core.List.{List, [], ◌∷◌}
use mathlib.Core.Logic.{◌⊎◌, inl, inr, ⊎_elim}
use mathlib.Core.Path.{◌∙◌, ◌≡◌, ap, refl, subst⁻¹, sym}
use Prim.Native.Nat.{◌-◌, ◌<◌, ◌≤◌, suc, zero, ℕ}
use native.Mathlib.Omega.{arith}
use borrow.Author.Tests.{eqb-false, eqb-true, le-leb, leb-false, leb-true, lt-leb}
use lib.Dec.{eqb, leb}
use lib.ListN.{length-set, set}
use lib.Seq.{get_or-set_other, get_or-set_same}
use Rattle.ground.proofs.Laws.Cases.{by_bool}
use Rattle.ground.specs.ListsByRule.{table}
use Rattle.ground.proofs.Laws.ListsByRule.{get_d_table, length_from}
use Rattle.contest.specs.RaisedContest.{Band, Game, Readys, ahead, at, contest, dropped, first, fits, granted, nobody, round}
use Rattle.contest.proofs.Laws.Ends.{pot_round, pot_start}
use Rattle.contest.proofs.Laws.Rounds.{Able, able_round, ahead_at, at_other, at_served, contest_on, contest_over, dropped_ready, first_le, granted_ready}
use Rattle.contest.proofs.Laws.Rounds.{served_left}
use Rattle.contest.proofs.Laws.SharesFairly.{sound_table}
use Rattle.levels.specs.Inner.{spot}
use Rattle.levels.proofs.Laws.OfferOrder.{leads, spot_in, spot_out}
use Rattle.levels.proofs.Laws.UnfitBands.{Less, WithoutUnfit, ahead_is, spot_dropped, thin}

-- the bands whose length no longer fits are out
unfoldable pub kept : Game → ℕ → Band
kept g p = cond (leb (at g.bands p).size g.left) (at g.bands p) (dropped (at g.bands p))

unfoldable pub without_unfit : Game → Game
without_unfit g = record { bands = table 44 (kept g); left = g.left }

-- where the next offer of the band p stands, if it fits the bits left
unfoldable pub offer : Game → ℕ → ℕ
offer g p = cond (leb (at g.bands p).size g.left) (spot p (at g.bands p)) 0

-- the band q is served
unfoldable pub serve : ℕ → Game → Game
serve q g = record { bands = set g.bands q (granted (at g.bands q)); left = g.left - (at g.bands q).size }

-- a band that fits is kept, any other is sent off
module _ (g : Game) (p : ℕ) where
  kept_fit : (at g.bands p).size ≤ g.left → kept g p ≡ at g.bands p
  unfolding kept
  kept_fit h = rw (le-leb _ _ h)

  kept_short : g.left < (at g.bands p).size → kept g p ≡ dropped (at g.bands p)
  unfolding kept
  kept_short h = rw (lt-leb _ _ h)

  pub offer_fit : (at g.bands p).size ≤ g.left → offer g p ≡ spot p (at g.bands p)
  unfolding offer
  offer_fit h = rw (le-leb _ _ h)

  pub offer_short : g.left < (at g.bands p).size → offer g p ≡ 0
  unfolding offer
  offer_short h = rw (lt-leb _ _ h)

  pub by_fits : {X : Type 0} → ((at g.bands p).size ≤ g.left → X) → (g.left < (at g.bands p).size → X) → X
  by_fits y n = by_bool (leb (at g.bands p).size g.left) (λ t. y (leb-true _ _ t)) (λ t. n (leb-false _ _ t))

  kept_less : Less g.left (at g.bands p) (kept g p)
  kept_less = by_fits (λ h. inl (kept_fit h)) (λ h. inr (kept_short h, h))

  kept_spot : spot p (kept g p) ≡ offer g p
  kept_spot = by_fits (λ h. rw (kept_fit h, offer_fit h)) (λ h. rw (kept_short h, offer_short h) (spot_dropped p _))

  kept_ready : Readys (at g.bands p) → Readys (kept g p)
  kept_ready r = by_fits (λ h. subst⁻¹ Readys (kept_fit h) r) (λ h. subst⁻¹ Readys (kept_short h) (dropped_ready _))

  pub kept_rate : (kept g p).rate ≡ (at g.bands p).rate
  unfolding dropped
  kept_rate = by_fits (λ h. rw (kept_fit h)) (λ h. rw (kept_short h))

pub thinned_left : (g : Game) → (without_unfit g).left ≡ g.left
unfolding without_unfit
thinned_left g = refl

pub thinned_at : (g : Game) (p : ℕ) → p ≤ 43 → at (without_unfit g).bands p ≡ kept g p
unfolding without_unfit
thinned_at g p h = get_d_table (kept g) 44 nobody p (omega arith)

thinned_able : (g : Game) → Able g → Able (without_unfit g)
unfolding without_unfit
thinned_able g a = record { all = length_from (kept g) 44 0; sound = sound_table (kept g) (λ p h. kept_ready g p (a.sound p)) }

thinned_thin : (g : Game) → WithoutUnfit g (without_unfit g)
thinned_thin g = record { same = sym (thinned_left g); each = λ p h. rw (thinned_at g p h) (kept_less g p) }

pub thinned_alike : (g : Game) → Able g → contest 396 g ≡ contest 396 (without_unfit g)
thinned_alike g a =
    let b = thinned_able g a in
    thin 396 396 g (without_unfit g) a b (pot_start g a.all) (pot_start (without_unfit g) b.all) (thinned_thin g)

thinned_spot : (g : Game) (p : ℕ) → p ≤ 43 → spot p (at (without_unfit g).bands p) ≡ offer g p
thinned_spot g p h = rw (thinned_at g p h) (kept_spot g p)

-- none fits: it is over
pub ended : (g : Game) → Able g → ((p : ℕ) → p ≤ 43 → offer g p ≡ 0) → contest 396 g ≡ without_unfit g
ended g a z =
    thinned_alike g a
    ∙ contest_over 396 (without_unfit g)
    (by_bool (ahead (without_unfit g)).competes
    (λ t.
    let e = thinned_spot g (first (without_unfit g)) (first_le (without_unfit g)) in
    let e' : spot (first (without_unfit g)) (ahead (without_unfit g)) ≡ offer g (first (without_unfit g)) = rw (ahead_at (without_unfit g)) at e in
    absurd (omega (arith, spot_in (first (without_unfit g)) (ahead (without_unfit g)) t, z (first (without_unfit g)) (first_le (without_unfit g)))))
    (λ t. t))

-- after a store a band is the one stored or the one that was there
at_set : (l : List Band) (p : ℕ) (v : Band) (i : ℕ) → (at (set l p v) i ≡ v) ⊎ (at (set l p v) i ≡ at l i)
at_set [] p v i = inr refl
at_set (x ∷ l) zero v zero = inl refl
at_set (x ∷ l) zero v (suc i) = inr refl
at_set (x ∷ l) (suc p) v zero = inr refl
at_set (x ∷ l) (suc p) v (suc i) = at_set l p v i

sound_set : (l : List Band) (p : ℕ) (v : Band) → ((i : ℕ) → Readys (at l i)) → Readys v → (i : ℕ) → Readys (at (set l p v) i)
sound_set l p v s r i = ⊎_elim (λ e. subst⁻¹ Readys e r) (λ e. subst⁻¹ Readys e (s i)) (at_set l p v i)

-- the highest offer that fits is granted
module _ (g : Game) (a : Able g) (q : ℕ) (b : q ≤ 43) (pos : 0 < offer g q) (high : (p : ℕ) → p ≤ 43 → offer g p ≤ offer g q) where
  pub offer_fits : (at g.bands q).size ≤ g.left
  offer_fits = by_fits g q (λ f. f) (λ s. absurd (omega (arith, offer_short g q s)))

  pub offer_in : (at g.bands q).competes ≡ true
  offer_in =
      by_bool (at g.bands q).competes (λ t. t) (λ t. absurd (omega (arith, offer_fit g q offer_fits, spot_out q (at g.bands q) t)))

  at_q : at (without_unfit g).bands q ≡ at g.bands q
  at_q = thinned_at g q b ∙ kept_fit g q offer_fits

  first_q : first (without_unfit g) ≡ q
  first_q =
      leads (without_unfit g) q b (ap (λ (b : Band). b.competes) at_q ∙ offer_in)
      (λ i k. rw (thinned_spot g i k, thinned_spot g q b) (high i k))

  ahead_q : ahead (without_unfit g) ≡ at g.bands q
  ahead_q = ahead_is (without_unfit g) q first_q ∙ at_q

  fits_q : fits (without_unfit g) ≡ true
  unfolding fits
  fits_q = rw (ahead_q, thinned_left g) (le-leb _ _ offer_fits)

  serve_able : Able (serve q g)
  unfolding serve
  serve_able =
      record {
        all = simp length-set a.all;
        sound = sound_set g.bands q (granted (at g.bands q)) a.sound (granted_ready (at g.bands q) (a.sound q offer_in));
      }

  serve_thin : WithoutUnfit (serve q g) (round (without_unfit g))
  unfolding serve
  serve_thin =
      record {
        same = omega (arith, served_left (without_unfit g) fits_q, thinned_left g, ap (λ (b : Band). b.size) ahead_q);
        each = λ p k. by_bool (eqb p q)
            (λ t. let e : p ≡ q = eqb-true _ _ t in
            inl (at_served (without_unfit g) p (thinned_able g a).all (e ∙ sym first_q) fits_q ∙ ap granted ahead_q
            ∙ sym (rw e (get_or-set_same g.bands q (granted (at g.bands q)) nobody (omega (arith, a.all))))))
            (λ t. let n : p ≡ q → ⊥ = eqb-false _ _ t in
            rw (get_or-set_other g.bands q p (granted (at g.bands q)) nobody n, at_other (without_unfit g) p (λ z. n (z ∙ first_q)), thinned_at g p k)
            (⊎_elim (λ e. inl e) (λ e. inr (e.0, omega (arith, e.1))) (kept_less g p)));
      }

  pub granted_on : contest 396 g ≡ contest 396 (serve q g)
  granted_on =
      let t : (ahead (without_unfit g)).competes ≡ true = ap (λ (b : Band). b.competes) ahead_q ∙ offer_in in
      let f = thinned_able g a in
      let r = able_round (without_unfit g) f t in
      thinned_alike g a
      ∙ contest_on 395 (without_unfit g) t
      ∙ sym (thin 396 395 (serve q g) (round (without_unfit g)) serve_able r (pot_start (serve q g) serve_able.all)
      (omega (arith, pot_round (without_unfit g) f t, pot_start (without_unfit g) f.all)) serve_thin)
