-- The laws of the rates that callers use, and the code's answer put together. All come from the contest's.
-- Assumes nothing.
use mathlib.Core.Path.{◌≡◌, sym, ap, ◌∙◌}
use mathlib.Core.Bool.{Bool, true, false, and-false}
use mathlib.Core.List.{List}
use mathlib.Core.Logic.{◌⊎◌, ⊎_elim}
use Prim.Native.Nat.{ℕ, ◌+◌, ◌-◌, ◌*◌, ◌≤◌, ◌<◌}
use native.Mathlib.Omega.{arith}
use borrow.Author.Tests.{le-leb, lt-leb}
use lib.IntN.{pos}
use lib.ListN.{length, replicate}
use Rattle.ground.specs.ListsByRule.{table}
use Rattle.ground.proofs.Laws.ListsByRule.{get_d_table, length_from, filled}
use Rattle.ground.specs.Replies.{done, out_of_range}
use Rattle.ground.specs.Sums.{nth, sum_to}
use Rattle.weights.specs.Weights.{nth_z, score, weights_of, scores_of}
use Rattle.ground.specs.Indices.{in_range}
use Rattle.ground.proofs.Laws.Indices.{range_at}
use Rattle.weights.proofs.Laws.RaisedNumbers.{score_is}
use Rattle.contest.specs.Bands.{length_of, competing}
use Rattle.contest.specs.Fairness.{Fair}
use Rattle.contest.proofs.Laws.RaisedContest.{Heights}
use Rattle.contest.specs.Rounds.{at, played, rounds_by_rates, rates}
use Rattle.contest.proofs.Laws.CountedRounds.{rounds_sum}
use Rattle.contest.proofs.Laws.SharesFairly.{rate_is, left_is, shared}
use Rattle.levels.specs.declared.Ends.{Ends}
use Rattle.levels.specs.Levels.{Room, settled}
use Rattle.levels.specs.Levels as levels
use Rattle.allotment.specs.declared.Shares.{Shares}
use Rattle.allotment.specs.Allotment.{end_of, rates_of, left_of, rounds_of, shares_of}

-- ---- the answer, by the tests
module _ (transient wide : Bool) (norms : List ℕ) (budget : ℕ) where
  pub shares_yes : in_range norms 44 ≡ true → budget ≤ 2560
      → ◌≡◌ {A = Shares}
      (record {
        reply = done;
        rates = rates_of transient wide norms budget;
        left = left_of transient wide norms budget;
        rounds = rounds_of transient wide norms budget;
      })
      (shares_of transient wide norms budget)
  unfolding shares_of
  shares_yes t h = rw (t, le-leb budget 2560 h)

  pub shares_norm : in_range norms 44 ≡ false
      → ◌≡◌ {A = Shares} (record { reply = out_of_range; rates = replicate 44 0; left = 0; rounds = 0 }) (shares_of transient wide norms budget)
  unfolding shares_of
  shares_norm t = rw t

  pub shares_budget : 2560 < budget → ◌≡◌ {A = Shares} (record { reply = out_of_range; rates = replicate 44 0; left = 0; rounds = 0 }) (shares_of transient wide norms budget)
  unfolding shares_of
  shares_budget h = rw (lt-leb budget 2560 h, and-false (in_range norms 44))

  -- refused for a budget over 2,560 or an index over 39
  pub shares_no : {passes : Bool} {reply : ℕ} → passes ≡ in_range norms 44 → ((passes ≡ true) × (2560 < budget)) ⊎ (passes ≡ false) → reply ≡ out_of_range
      → ◌≡◌ {A = Shares} (record { reply = reply; rates = replicate 44 0; left = 0; rounds = 0 }) (shares_of transient wide norms budget)
  shares_no e w r = rw r (⊎_elim (λ h. shares_budget h.1) (λ h. shares_norm (sym e ∙ h)) w)

  pub rates_length : length (rates_of transient wide norms budget) ≡ 44
  unfolding rates_of rates
  rates_length = length_from (λ p. (at (end_of transient wide norms budget).bands p).rate) 44 0

-- ---- weights are at most 64, so the scores are raised by 368 into naturals with room for nine steps
pub raised_at : List ℕ → List ℕ → ℕ → ℕ
raised_at norms ws p = 912 - 16 * nth norms p + nth ws p

module _ (transient : Bool) (norms : List ℕ) (low : (p : ℕ) → p < 44 → nth norms p ≤ 39) where
  pub heights : Heights (nth_z (scores_of transient norms)) (raised_at norms (weights_of transient norms))
  unfolding scores_of raised_at
  heights =
      record {
        raised = λ p h. rw (get_d_table (λ p. score (nth norms p) (nth (weights_of transient norms) p)) 44 (pos 0) p h)
            (score_is (nth norms p) (nth (weights_of transient norms) p) (low p h));
        room = λ p h. omega (arith, low p h);
      }

  pub fair : (wide : Bool) (budget : ℕ)
      → Fair length_of (nth_z (scores_of transient norms)) (competing wide) budget (nth (rates_of transient wide norms budget)) (left_of transient wide norms budget)
  unfolding rates_of left_of end_of
  fair wide budget = shared length_of (nth_z (scores_of transient norms)) (competing wide) budget (raised_at norms (weights_of transient norms)) heights

-- ---- the laws that callers use, for indices from 0 to 39
module _ (transient wide : Bool) (norms : List ℕ) (budget : ℕ) (low : (p : ℕ) → p < 44 → nth norms p ≤ 39) where
  pub rate_nine : (p : ℕ) → p < 44 → nth (rates_of transient wide norms budget) p ≤ 9
  rate_nine = (fair transient norms low wide budget).nine

  pub rate_idle : (p : ℕ) → p < 44 → competing wide p ≡ false → nth (rates_of transient wide norms budget) p ≡ 0
  rate_idle = (fair transient norms low wide budget).idle

  pub rates_sum : sum_to (λ p. nth (rates_of transient wide norms budget) p * length_of p) 44 + left_of transient wide norms budget ≡ budget
  rates_sum = (fair transient norms low wide budget).sum

-- ---- what the code reaches
pub heights_room : (norms ws hs : List ℕ) → hs ≡ table 44 (λ p. 912 - 16 * nth norms p + nth ws p) → ((k : ℕ) → nth ws k ≤ 64) → in_range norms 44 ≡ true
    → Room hs
heights_room norms ws hs e b t p h =
    rw (e, get_d_table (λ p. 912 - 16 * nth norms p + nth ws p) 44 0 p h) (omega (arith, range_at norms 44 t p h), omega (arith, range_at norms 44 t p h, b p))

module _ (transient wide : Bool) (norms : List ℕ) (budget : ℕ) (ws hs : List ℕ) (t : in_range norms 44 ≡ true) (ew : ws ≡ weights_of transient norms)
    (eh : hs ≡ table 44 (λ p. 912 - 16 * nth norms p + nth ws p)) where
  raised : Heights (nth_z (scores_of transient norms)) (nth hs)
  unfolding raised_at
  raised =
      let h = heights transient norms (range_at norms 44 t) in
      let same : (p : ℕ) → p < 44 → nth hs p ≡ 912 - 16 * nth norms p + nth (weights_of transient norms) p =
      λ p b. rw (eh, get_d_table (λ p. 912 - 16 * nth norms p + nth ws p) 44 0 p b, ew) in
      record { raised = λ p b. rw (same p b) (h.raised p b); room = λ p b. rw (same p b) (h.room p b) }

  pub joined : (e : Ends) (n : ℕ) → e ≡ settled wide hs budget → n ≡ rounds_by_rates (competing wide) (nth e.rates) → budget ≤ 2560
      → ◌≡◌ {A = Shares} (record { reply = done; rates = e.rates; left = e.left; rounds = n }) (shares_of transient wide norms budget)
  unfolding settled levels.end_of rates_of left_of rounds_of end_of
  joined e n q k b =
      let r : e.rates ≡ rates_of transient wide norms budget =
      ap (λ (x : Ends). x.rates) q
      ∙ sym (filled _ 44 0 (rates (played length_of (nth_z (scores_of transient norms)) (competing wide) budget)) (rates_length transient wide norms budget)
      (rate_is length_of (nth_z (scores_of transient norms)) (competing wide) budget (nth hs) raised)) in
      let l : e.left ≡ left_of transient wide norms budget =
      ap (λ (x : Ends). x.left) q ∙ sym (left_is length_of (nth_z (scores_of transient norms)) (competing wide) budget (nth hs) raised) in
      let m : n ≡ rounds_of transient wide norms budget =
      k ∙ ap (λ (x : List ℕ). rounds_by_rates (competing wide) (nth x)) r ∙ sym (rounds_sum length_of (nth_z (scores_of transient norms)) (competing wide) budget (nth hs) raised) in
      (let same : ◌≡◌ {A = Shares} (record { reply = done; rates = e.rates; left = e.left; rounds = n })
      (record {
        reply = done;
        rates = rates_of transient wide norms budget;
        left = left_of transient wide norms budget;
        rounds = rounds_of transient wide norms budget;
      }) = cc in same)
      ∙ shares_yes transient wide norms budget t b
