-- A band whose length does not fit may be sent off at once: the contest ends alike.
-- Assumes nothing.
use mathlib.Core.Bool.{false, true}
use mathlib.Core.Logic.{◌⊎◌, inl, inr, ⊎_elim}
use mathlib.Core.Path.{◌∙◌, ◌≡◌, ap, refl, sym}
use Prim.Native.Nat.{◌<◌, ◌≤◌, suc, zero, ℕ}
use native.Mathlib.Nat.{le_refl}
use native.Mathlib.Omega.{arith}
use borrow.Author.Tests.{eqb-false, eqb-true, lt-leb}
use lib.Dec.{eqb}
use lib.ListN.{length}
use lib.Seq.{ext_get_or}
use Rattle.ground.proofs.Laws.Cases.{by_bool}
use Rattle.contest.specs.RaisedContest.{Band, Game, ahead, at, contest, dropped, first, fits, granted, nobody, round}
use Rattle.contest.proofs.Laws.Ends.{pot, pot_round}
use Rattle.contest.proofs.Laws.Rounds.{Able, able_round, ahead_at, at_other, at_refused, at_served, contest_on, contest_over, first_le, no_one, round_refused}
use Rattle.contest.proofs.Laws.Rounds.{served_left}
use Rattle.levels.specs.Inner.{spot}
use Rattle.levels.proofs.Laws.OfferOrder.{leads, spot_out, top_spot}

-- two bands, two games with equal parts are equal
pub band_ext : (b c : Band) → b.size ≡ c.size → b.score ≡ c.score → b.rate ≡ c.rate → b.competes ≡ c.competes → b ≡ c
band_ext b c p q r s =
    let e : ◌≡◌ {A = Band} (record { size = b.size; score = b.score; rate = b.rate; competes = b.competes })
    (record { size = c.size; score = c.score; rate = c.rate; competes = c.competes }) = cc in
    e

pub game_ext : (g h : Game) → length g.bands ≡ 44 → length h.bands ≡ 44 → ((p : ℕ) → p ≤ 43 → at g.bands p ≡ at h.bands p) → g.left ≡ h.left
    → g ≡ h
game_ext g h a b e l =
    let k : g.bands ≡ h.bands = ext_get_or nobody g.bands h.bands (a ∙ sym b) (λ i c. e i (omega arith)) in
    let r : ◌≡◌ {A = Game} (record { bands = g.bands; left = g.left }) (record { bands = h.bands; left = h.left }) = cc in
    r

pub dropped_out : (b : Band) → b.competes ≡ false → dropped b ≡ b
unfolding dropped
dropped_out b t = band_ext (record { size = b.size; score = b.score; rate = b.rate; competes = false }) b refl refl refl (sym t)

pub spot_dropped : (p : ℕ) (b : Band) → spot p (dropped b) ≡ 0
unfolding dropped
spot_dropped p b = spot_out p (record { size = b.size; score = b.score; rate = b.rate; competes = false }) refl

-- the band b became c
abbrev pub Less : ℕ → Band → Band → Type 0
Less left b c = (c ≡ b) ⊎ ((c ≡ dropped b) × (left < b.size))

pub record WithoutUnfit (g h : Game) : Type 0 where
  pub same : g.left ≡ h.left
  pub each : (p : ℕ) → p ≤ 43 → Less g.left (at g.bands p) (at h.bands p)

out_all : (g : Game) → (ahead g).competes ≡ false → (p : ℕ) → p ≤ 43 → (at g.bands p).competes ≡ false
out_all g t p h = by_bool (at g.bands p).competes (λ u. absurd (no_one g t p h u)) (λ u. u)

thin_over : (g h : Game) → Able g → Able h → WithoutUnfit g h → (ahead g).competes ≡ false → g ≡ h
thin_over g h a b w t =
    game_ext g h a.all b.all
    (λ p k. ⊎_elim (λ e. sym e) (λ e. sym (e.0 ∙ dropped_out _ (out_all g t p k))) (w.each p k))
    w.same

less_spot : (left p : ℕ) (b c : Band) → Less left b c → spot p c ≤ spot p b
less_spot left p b c w = ⊎_elim (λ e. rw e (le_refl _)) (λ e. rw (e.0, spot_dropped p b) (omega arith)) w

-- the leader, if it is still in, leads
same_first : (g h : Game) → WithoutUnfit g h → (ahead g).competes ≡ true → at h.bands (first g) ≡ ahead g → first h ≡ first g
same_first g h w t e =
    leads h (first g) (first_le g) (ap (λ (b : Band). b.competes) e ∙ t)
    (λ i k. rw e (omega (arith, less_spot g.left i (at g.bands i) (at h.bands i) (w.each i k), top_spot g i k)))

less_left : (l m : ℕ) (b c : Band) → m ≤ l → Less l b c → Less m b c
less_left l m b c k w = ⊎_elim (λ e. inl e) (λ e. inr (e.0, omega (arith, e.1))) w

same_fits : (g h : Game) → g.left ≡ h.left → ahead h ≡ ahead g → fits h ≡ fits g
unfolding fits
same_fits g h l e = rw (e, l)

left_refused : (g : Game) → fits g ≡ false → (round g).left ≡ g.left
left_refused g u = ap (λ (k : Game). k.left) (round_refused g u)

-- both games play the same round
thin_both : (g h : Game) → Able g → Able h → WithoutUnfit g h → first h ≡ first g → ahead h ≡ ahead g → WithoutUnfit (round g) (round h)
thin_both g h a b w f e =
    by_bool (fits g)
    (λ u.
    let v : fits h ≡ true = same_fits g h w.same e ∙ u in
    record {
      same = omega (arith, served_left g u, served_left h v, w.same, ap (λ (b : Band). b.size) e);
      each = λ p k. by_bool (eqb p (first g))
          (λ q. let q' : p ≡ first g = eqb-true _ _ q in inl (at_served h p b.all (q' ∙ sym f) v ∙ ap granted e ∙ sym (at_served g p a.all q' u)))
          (λ q. rw (at_other g p (eqb-false _ _ q), at_other h p (λ z. eqb-false _ _ q (z ∙ f)))
          (less_left g.left (round g).left _ _ (omega (arith, served_left g u)) (w.each p k)));
    })
    (λ u.
    let v : fits h ≡ false = same_fits g h w.same e ∙ u in
    record {
      same = left_refused g u ∙ w.same ∙ sym (left_refused h v);
      each = λ p k. by_bool (eqb p (first g))
          (λ q. let q' : p ≡ first g = eqb-true _ _ q in inl (at_refused h p b.all (q' ∙ sym f) v ∙ ap dropped e ∙ sym (at_refused g p a.all q' u)))
          (λ q. rw (at_other g p (eqb-false _ _ q), at_other h p (λ z. eqb-false _ _ q (z ∙ f)))
          (less_left g.left (round g).left _ _ (omega (arith, left_refused g u)) (w.each p k)));
    })

-- the leader was sent off already
thin_one : (g h : Game) → Able g → WithoutUnfit g h → at h.bands (first g) ≡ dropped (ahead g) → fits g ≡ false → WithoutUnfit (round g) h
thin_one g h a w e u =
    record {
      same = left_refused g u ∙ w.same;
      each = λ p k. by_bool (eqb p (first g))
          (λ q. let q' : p ≡ first g = eqb-true _ _ q in inl (ap (at h.bands) q' ∙ e ∙ sym (at_refused g p a.all q' u)))
          (λ q. rw (at_other g p (eqb-false _ _ q)) (less_left g.left (round g).left _ _ (omega (arith, left_refused g u)) (w.each p k)));
    }

short_fits : (g : Game) → g.left < (ahead g).size → fits g ≡ false
unfolding fits
short_fits g h = lt-leb _ _ h

pub ahead_is : (h : Game) (p : ℕ) → first h ≡ p → ahead h ≡ at h.bands p
ahead_is h p e = sym (ahead_at h) ∙ ap (at h.bands) e

-- the other game has a round to play as well
both : (m : ℕ) (x h : Game) → Able h → pot h ≤ m → (ahead h).competes ≡ true → ((m : ℕ) → pot (round h) ≤ m → x ≡ contest m (round h)) → x ≡ contest m h
both zero x h b k u v = absurd (omega (arith, pot_round h b u))
both (suc m) x h b k u v = v m (omega (arith, pot_round h b u)) ∙ sym (contest_on m h u)

over : (n m : ℕ) (g h : Game) → Able g → Able h → WithoutUnfit g h → (ahead g).competes ≡ false → contest n g ≡ contest m h
over n m g h a b w t = let e = thin_over g h a b w t in contest_over n g t ∙ e ∙ sym (contest_over m h (rw e at t))

pub thin : (n m : ℕ) (g h : Game) → Able g → Able h → pot g ≤ n → pot h ≤ m → WithoutUnfit g h → contest n g ≡ contest m h
thin zero m g h a b j k w =
    by_bool (ahead g).competes (λ t. absurd (omega (arith, pot_round g a t))) (λ t. over zero m g h a b w t)
thin (suc n) m g h a b j k w =
    by_bool (ahead g).competes
    (λ t.
    let j' : pot (round g) ≤ n = omega (arith, pot_round g a t) in
    contest_on n g t
    ∙ ⊎_elim
    (λ e.
    let e' : at h.bands (first g) ≡ ahead g = e ∙ ahead_at g in
    let f = same_first g h w t e' in
    let i : ahead h ≡ ahead g = ahead_is h (first g) f ∙ e' in
    let u : (ahead h).competes ≡ true = ap (λ (b : Band). b.competes) i ∙ t in
    both m (contest n (round g)) h b k u (λ m k'. thin n m (round g) (round h) (able_round g a t) (able_round h b u) j' k' (thin_both g h a b w f i)))
    (λ e.
    let q : at h.bands (first g) ≡ dropped (ahead g) = e.0 ∙ ap dropped (ahead_at g) in
    thin n m (round g) h (able_round g a t) b j' k
    (thin_one g h a w q (short_fits g (rw (ahead_at g) at e.1))))
    (w.each (first g) (first_le g)))
    (λ t. over (suc n) m g h a b w t)
