-- From the raised scores to the contest's end: what the calls promise, put together.
-- Assumes nothing.
use mathlib.Core.Path.{◌≡◌, sym, ap, ◌∙◌}
use mathlib.Core.Bool.{Bool, true, false, cond}
use mathlib.Core.List.{List}
use Prim.Native.Nat.{ℕ, ◌%◌, ◌+◌, ◌-◌, ◌*◌, ◌≤◌, ◌<◌}
use native.Mathlib.Omega.{arith}
use Rattle.ground.specs.ListsByRule.{table}
use Rattle.ground.proofs.Laws.ListsByRule.{get_d_table, filled}
use Rattle.ground.specs.Sums.{nth}
use Rattle.contest.specs.Bands.{length_of, competing}
use Rattle.contest.specs.RaisedContest.{Band, Game, at, contest, begin, fresh}
use Rattle.contest.proofs.Laws.SharesFairly.{start_at, able_start}
use Rattle.levels.specs.declared.Ends.{Ends}
use Rattle.levels.specs.Inner.{spot, state, AtStart, climb, bill, Finished, Keyed, key_of, keys_of}
use Rattle.levels.specs.Levels.{Room, end_of, settled}
use Rattle.levels.proofs.Laws.LastOffers.{without_unfit, thinned_at, thinned_left, kept_rate}
use Rattle.levels.proofs.Laws.GameAsLists.{state_at, state_left, state_end, state_jump, stepped_rate}

-- ---- the start
key_low_bits : (wide : Bool) (p height : ℕ) → p < 44 → 0 < key_of wide p height → key_of wide p height % 64 ≡ 63 - p
unfolding key_of
key_low_bits wide p height h = go (competing wide p)
  where
    go : (b : Bool) → 0 < cond b (64 * height + (63 - p) + 2048) 0 → cond b (64 * height + (63 - p) + 2048) 0 % 64 ≡ 63 - p
    go true k = omega arith
    go false k = absurd (omega arith)

module _ (wide : Bool) (p height : ℕ) where
  pub key_yes : competing wide p ≡ true → 64 * height + (63 - p) + 2048 ≡ key_of wide p height
  unfolding key_of
  key_yes t = rw t

  pub key_no : competing wide p ≡ false → 0 ≡ key_of wide p height
  unfolding key_of
  key_no t = rw t

module _ (wide : Bool) (heights : List ℕ) where
  key_at : (p : ℕ) → p < 44 → nth (keys_of wide heights) p ≡ key_of wide p (nth heights p)
  unfolding keys_of
  key_at p h = get_d_table (λ p. key_of wide p (nth heights p)) 44 0 p h

  module _ {keys : List ℕ} (e : keys ≡ keys_of wide heights) where
    pub keys_keyed : Keyed keys
    keys_keyed p h = rw (e, key_at p h) (key_low_bits wide p (nth heights p) h)

  begin_flat : (budget : ℕ) → Room heights → AtStart (begin length_of (nth heights) (competing wide) budget) (keys_of wide heights)
  unfolding fresh spot key_of
  begin_flat budget r =
      let a = able_start length_of (nth heights) (competing wide) budget (λ p h. (r p h).0) in
      let s = start_at length_of (nth heights) (competing wide) budget in
      record {
        all = a.all;
        sound = a.sound;
        unserved = λ p h. ap (λ (b : Band). b.rate) (s p h);
        keyed = λ p h. key_at p h ∙ sym (ap (spot p) (s p h));
        sized = λ p h. sym (ap (λ (b : Band). b.size) (s p h));
      }

-- ---- what the code reached is the contest's end
module _ (g : Game) (keys : List ℕ) (l : AtStart g keys) (level : ℕ) (pays : bill keys level 44 ≤ g.left) (rates : List ℕ) (left : ℕ)
    (f : Finished keys (table 44 (λ p. climb (nth keys p) level)) (g.left - bill keys level 44) rates left) where
  end : contest 396 g ≡ without_unfit (state g rates left)
  end = state_jump g keys l level pays ∙ f.alike g l ∙ state_end g keys l rates left f.none

  end_rate : (p : ℕ) → p < 44 → nth rates p ≡ (at (contest 396 g).bands p).rate
  end_rate p h =
      sym (ap (λ (k : Game). (at k.bands p).rate) end
      ∙ ap (λ (b : Band). b.rate) (thinned_at (state g rates left) p (omega arith))
      ∙ kept_rate (state g rates left) p
      ∙ ap (λ (b : Band). b.rate) (state_at g keys l rates left p h)
      ∙ stepped_rate (nth rates p) (at g.bands p) (l.unserved p h))

  end_left : left ≡ (contest 396 g).left
  end_left = sym (ap (λ (k : Game). k.left) end ∙ thinned_left (state g rates left) ∙ state_left g keys l rates left)

  whole : ◌≡◌ {A = Ends} (record { rates = rates; left = left })
      (record { rates = table 44 (λ p. (at (contest 396 g).bands p).rate); left = (contest 396 g).left })
  whole =
      let a : rates ≡ table 44 (λ p. (at (contest 396 g).bands p).rate) = filled (λ p. (at (contest 396 g).bands p).rate) 44 0 rates f.whole end_rate in
      let b = end_left in
      cc

pub reached : (wide : Bool) (heights : List ℕ) (budget : ℕ) (keys : List ℕ) (level cost : ℕ) (start : List ℕ) (e : Ends)
    → Room heights → keys ≡ keys_of wide heights → bill keys level 44 ≤ budget → cost ≡ bill keys level 44 → start ≡ table 44 (λ p. climb (nth keys p) level)
    → Finished keys start (budget - cost) e.rates e.left → e ≡ settled wide heights budget
unfolding settled end_of begin
reached wide heights budget keys level cost start e r ek pays ec es f =
    let l : AtStart (begin length_of (nth heights) (competing wide) budget) keys = rw ek (begin_flat wide heights budget r) in
    let f' : Finished keys (table 44 (λ p. climb (nth keys p) level)) (budget - bill keys level 44) e.rates e.left = rw (es, ec) at f in
    whole (begin length_of (nth heights) (competing wide) budget) keys l level pays e.rates e.left f'
