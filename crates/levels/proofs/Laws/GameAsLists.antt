-- The lists of the code stand for a game: its rates, its bids and its bills are those of the game.
-- Assumes nothing.
use mathlib.Core.Bool.{◌&&◌, cond, true}
use mathlib.Core.List.{List}
use mathlib.Core.Path.{◌∙◌, ◌≡◌, ap, refl, sym}
use Prim.Native.Nat.{◌*◌, ◌+◌, ◌-◌, ◌/◌, ◌<◌, ◌≤◌, ℕ, min}
use native.Mathlib.Nat.{zero-add}
use native.Mathlib.Omega.{arith}
use borrow.Author.Tests.{eqb-false, eqb-true, le-ltb, lt-ltb, ltb-false, ltb-true}
use lib.Dec.{eqb, leb, ltb}
use lib.ListN.{length, length-set, set}
use lib.Seq.{get_or-set_other, get_or-set_same}
use Rattle.ground.proofs.Laws.Cases.{and_true}
use Rattle.ground.proofs.Laws.Cases.{by_bool}
use Rattle.ground.specs.ListsByRule.{table}
use Rattle.ground.proofs.Laws.ListsByRule.{get_d_table, length_from}
use Rattle.ground.specs.Sums.{nth}
use Rattle.ground.proofs.Laws.Sums.{sum_same}
use Rattle.contest.specs.Bands.{length_of}
use Rattle.contest.specs.RaisedContest.{Band, Game, Readys, at, contest, granted, key, nobody}
use Rattle.contest.proofs.Laws.Ends.{pot_start}
use Rattle.contest.proofs.Laws.Rounds.{Able}
use Rattle.contest.proofs.Laws.SharesFairly.{sound_table}
use Rattle.levels.specs.Inner.{bid, bid_at, bill, climb, part, AtStart, spot, state, stepped, Leading}
use Rattle.levels.proofs.Laws.LastOffers.{ended, granted_on, offer, offer_in, serve, without_unfit}
use Rattle.levels.proofs.Laws.GrantedLevel.{cost, costs, count, jump, jumped}
use Rattle.levels.proofs.Laws.UnfitBands.{band_ext, game_ext}

-- ---- one band that starts at rate 0
stepped_ready : (n : ℕ) (b : Band) → b.rate ≡ 0 → Readys b → Readys (stepped n b)
unfolding stepped
stepped_ready n b z r t =
    let u = and_true b.competes (ltb (b.rate + n) 9) t in
    let w = r u.0 in
    let k : b.rate + n < 9 = ltb-true _ _ u.1 in
    let m : 32 * (9 - b.rate) ≤ b.score = w.room in
    let m' : 288 ≤ b.score = rw z at m in
    record { below = k; room = omega arith }

stepped_in : (n : ℕ) (b : Band) → (stepped n b).competes ≡ true → b.competes ≡ true
unfolding stepped
stepped_in n b t = (and_true b.competes (ltb (b.rate + n) 9) t).0

stepped_size : (n : ℕ) (b : Band) → (stepped n b).size ≡ b.size
unfolding stepped
stepped_size n b = refl

pub stepped_rate : (n : ℕ) (b : Band) → b.rate ≡ 0 → (stepped n b).rate ≡ n
unfolding stepped
stepped_rate n b z = rw z (zero-add n)

granted_stepped : (n : ℕ) (b : Band) → b.competes ≡ true → granted (stepped n b) ≡ stepped (n + 1) b
unfolding stepped granted
granted_stepped n b t =
    band_ext
    (record { size = b.size; score = b.score - 32 * n - 32; rate = b.rate + n + 1; competes = ltb (b.rate + n + 1) 9 })
    (record { size = b.size; score = b.score - 32 * (n + 1); rate = b.rate + (n + 1); competes = b.competes && ltb (b.rate + (n + 1)) 9 })
    refl (omega arith) (omega arith)
    (rw t (ap (λ x. ltb x 9) (let e : b.rate + n + 1 ≡ b.rate + (n + 1) = omega arith in e)))

spot_stepped : (p n : ℕ) (b : Band) → b.rate ≡ 0 → Readys b → n < 9 → spot p (stepped n b) ≡ spot p b - 2048 * n
unfolding spot stepped
spot_stepped p n b z r h =
    rw (z, zero-add n, lt-ltb _ _ h)
    (by_bool b.competes
    (λ t. let m : 32 * (9 - b.rate) ≤ b.score = (r t).room in let m' : 288 ≤ b.score = rw z at m in rw t (omega arith))
    (λ t. rw t (omega arith)))

spot_nine : (p n : ℕ) (b : Band) → b.rate ≡ 0 → 9 ≤ n → spot p (stepped n b) ≡ 0
unfolding spot stepped
spot_nine p n b z h = rw (z, zero-add n, le-ltb _ _ h) (by_bool b.competes (λ t. rw t) (λ t. rw t))

count_climb : (level p key : ℕ) (b : Band) → b.rate ≡ 0 → key ≡ spot p b → count level p b ≡ climb key level
unfolding count
count_climb level p key b z e = ap (λ r. min (9 - r) ((spot p b - level) / 2048)) z ∙ ap (λ k. climb k level) (sym e)

-- ---- the game
module _ (g : Game) (keys : List ℕ) (l : AtStart g keys) where
  pub state_at : (rates : List ℕ) (left p : ℕ) → p < 44 → at (state g rates left).bands p ≡ stepped (nth rates p) (at g.bands p)
  unfolding state
  state_at rates left p h = get_d_table (λ p. stepped (nth rates p) (at g.bands p)) 44 nobody p h

  pub state_left : (rates : List ℕ) (left : ℕ) → (state g rates left).left ≡ left
  unfolding state
  state_left rates left = refl

  pub state_able : (rates : List ℕ) (left : ℕ) → Able (state g rates left)
  unfolding state
  state_able rates left =
      record {
        all = length_from _ 44 0;
        sound = sound_table (λ p. stepped (nth rates p) (at g.bands p))
            (λ p h. stepped_ready (nth rates p) (at g.bands p) (l.unserved p h) (l.sound p));
      }

  pub state_size : (rates : List ℕ) (left p : ℕ) → p < 44 → (at (state g rates left).bands p).size ≡ length_of p
  state_size rates left p h =
      ap (λ (b : Band). b.size) (state_at rates left p h) ∙ stepped_size (nth rates p) (at g.bands p) ∙ sym (l.sized p h)

  state_spot : (rates : List ℕ) (left p : ℕ) → p < 44
      → spot p (at (state g rates left).bands p) ≡ cond (ltb (nth rates p) 9) (nth keys p - 2048 * nth rates p) 0
  state_spot rates left p h =
      ap (spot p) (state_at rates left p h)
      ∙ by_bool (ltb (nth rates p) 9) {X = spot p (stepped (nth rates p) (at g.bands p)) ≡ cond (ltb (nth rates p) 9) (nth keys p - 2048 * nth rates p) 0}
      (λ t. rw (t, l.keyed p h) (spot_stepped p (nth rates p) (at g.bands p) (l.unserved p h) (l.sound p) (ltb-true _ _ t)))
      (λ t. rw t (spot_nine p (nth rates p) (at g.bands p) (l.unserved p h) (ltb-false _ _ t)))

  pub state_offer : (rates : List ℕ) (left p : ℕ) → p < 44 → offer (state g rates left) p ≡ bid_at keys rates left p
  unfolding offer bid state
  state_offer rates left p h =
      ap (λ s. cond (leb s left) (spot p (at (state g rates left).bands p)) 0) (state_size rates left p h)
      ∙ ap (λ x. cond (leb (length_of p) left) x 0) (state_spot rates left p h)

  module _ (rates : List ℕ) (left q : ℕ) (w : length rates ≡ 44) (b : Leading keys rates left q) where
    pos_offer : 0 < offer (state g rates left) q
    pos_offer = rw (state_offer rates left q b.inside) b.bids

    high_offer : (p : ℕ) → p ≤ 43 → offer (state g rates left) p ≤ offer (state g rates left) q
    high_offer p h = let h' : p < 44 = omega arith in rw (state_offer rates left p h', state_offer rates left q b.inside) (b.high p h')

    q_43 : q ≤ 43
    q_43 = omega (arith, b.inside)

    q_in : (at g.bands q).competes ≡ true
    q_in =
        stepped_in (nth rates q) (at g.bands q)
        (rw (state_at rates left q b.inside) at (offer_in (state g rates left) (state_able rates left) q q_43 pos_offer high_offer))

    serve_state : serve q (state g rates left) ≡ state g (set rates q (nth rates q + 1)) (left - length_of q)
    unfolding serve
    serve_state =
        game_ext (serve q (state g rates left)) (state g (set rates q (nth rates q + 1)) (left - length_of q))
        (simp length-set (state_able rates left).all) (state_able (set rates q (nth rates q + 1)) (left - length_of q)).all
        (λ p h. let h' : p < 44 = omega arith in same p h')
        (omega (arith, state_left rates left, state_left (set rates q (nth rates q + 1)) (left - length_of q), state_size rates left q b.inside))
      where
        same : (p : ℕ) → p < 44
            → at (set (state g rates left).bands q (granted (at (state g rates left).bands q))) p ≡ at
            (state g (set rates q (nth rates q + 1)) (left - length_of q)).bands p
        same p h =
            rw (state_at (set rates q (nth rates q + 1)) (left - length_of q) p h)
            (by_bool (eqb p q)
            (λ t. let e : p ≡ q = eqb-true _ _ t in
            rw (
              e,
              get_or-set_same rates q (nth rates q + 1) 0 (omega (arith, b.inside, w)),
              get_or-set_same (state g rates left).bands q (granted (at (state g rates left).bands q)) nobody
                  (omega (arith, b.inside, (state_able rates left).all)),
              state_at rates left q b.inside,
            )
            (granted_stepped (nth rates q) (at g.bands q) q_in))
            (λ t. let n : p ≡ q → ⊥ = eqb-false _ _ t in
            rw (
              get_or-set_other rates q p (nth rates q + 1) 0 n,
              get_or-set_other (state g rates left).bands q p (granted (at (state g rates left).bands q)) nobody n,
            )
            (state_at rates left p h)))

    state_step : contest 396 (state g rates left) ≡ contest 396 (state g (set rates q (nth rates q + 1)) (left - length_of q))
    state_step = granted_on (state g rates left) (state_able rates left) q q_43 pos_offer high_offer ∙ ap (contest 396) serve_state

    pub state_serve : (size : ℕ) → size ≡ length_of q → contest 396 (state g rates left) ≡ contest 396 (state g (set rates q (nth rates q + 1)) (left - size))
    state_serve size e = state_step ∙ ap (λ (n : ℕ). contest 396 (state g (set rates q (nth rates q + 1)) (left - n))) (sym e)

  pub state_end : (rates : List ℕ) (left : ℕ) → ((p : ℕ) → p < 44 → bid_at keys rates left p ≡ 0)
      → contest 396 (state g rates left) ≡ without_unfit (state g rates left)
  state_end rates left z =
      ended (state g rates left) (state_able rates left)
      (λ p h. let h' : p < 44 = omega arith in state_offer rates left p h' ∙ z p h')

  bill_costs : (level : ℕ) → costs level g.bands ≡ bill keys level 44
  unfolding costs bill cost
  bill_costs level =
      sum_same (cost level g.bands) (part keys level) 44
      (λ p h. rw (count_climb level p (nth keys p) (at g.bands p) (l.unserved p h) (l.keyed p h), l.sized p h))

  jumped_all : (level : ℕ) → length (jumped level g).bands ≡ 44
  unfolding jumped
  jumped_all level = length_from _ 44 0

  jumped_at : (level p : ℕ) → p < 44 → at (jumped level g).bands p ≡ stepped (count level p (at g.bands p)) (at g.bands p)
  unfolding jumped
  jumped_at level p h = get_d_table (λ p. stepped (count level p (at g.bands p)) (at g.bands p)) 44 nobody p h

  jumped_left : (level : ℕ) → (jumped level g).left ≡ (state g (table 44 (λ p. climb (nth keys p) level)) (g.left - bill keys level 44)).left
  unfolding jumped state
  jumped_left level = rw (bill_costs level)

  pub state_jump : (level : ℕ) → bill keys level 44 ≤ g.left
      → contest 396 g ≡ contest 396 (state g (table 44 (λ p. climb (nth keys p) level)) (g.left - bill keys level 44))
  state_jump level h =
      jump 396 level g (record { all = l.all; sound = l.sound }) (pot_start g l.all) (rw (bill_costs level) h)
      ∙ ap (contest 396)
      (game_ext (jumped level g) (state g (table 44 (λ p. climb (nth keys p) level)) (g.left - bill keys level 44))
      (jumped_all level) (state_able (table 44 (λ p. climb (nth keys p) level)) (g.left - bill keys level 44)).all
      (λ p h. let h' : p < 44 = omega arith in
      jumped_at level p h'
      ∙ ap (λ n. stepped n (at g.bands p)) (count_climb level p (nth keys p) (at g.bands p) (l.unserved p h') (l.keyed p h')
      ∙ sym (get_d_table (λ p. climb (nth keys p) level) 44 0 p h'))
      ∙ sym (state_at (table 44 (λ p. climb (nth keys p) level)) (g.left - bill keys level 44) p h'))
      (jumped_left level))
