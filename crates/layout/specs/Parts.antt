-- How the bits of a record's frame part (01, Allotment, Coefficient codes): the budget, the 44 rates, the bits of the codes and those left for the tail.
-- Assumes nothing.
use Rattle.std.specs.Prelude.{Bool, cond, not, List, [], ◌∷◌, ◌++◌, map, ℕ, ◌-◌, ◌*◌, ltb, eqb, length, replicate, take}
use Rattle.std.specs.declared.result.Result.{Result}
use Rattle.std.specs.declared.result.Result.TheVariants.{Ok, Err}
use Rattle.ground.specs.Numbered.{number}
use Rattle.ground.specs.declared.replies.Reply.{Reply}
use Rattle.ground.specs.Refusals.{Cause, ◌gives◌, first}
use Rattle.ground.specs.Replies.{done, past_budget, out_of_range, short_room, wide_code}
use Rattle.bits.specs.Codecs.{write_all}
use Rattle.words.specs.Tables.{coding}
use Rattle.prefix.specs.Sizes.{mode_bytes}
use Rattle.norms.specs.Answers.{norm_causes}
use Rattle.allotment.specs.Allotment.{shares_of}
use Rattle.kinds.specs.Kinds.{kinds}
use Rattle.kinds.specs.Budget.{all_compete}
use Rattle.frame.specs.Layout.{budget_of, kinds_of}
use Rattle.frame.specs.declared.Record.{Record}
use Rattle.layout.specs.Fits.{fits}
use Rattle.layout.specs.declared.Plan.{Plan}
use Rattle.layout.specs.declared.Parts.{Parts}

-- ---- what a record's flags and norms say of its frame

abbrev pub flag_bits : Record → List Bool
flag_bits r = r.transient ∷ r.flag_l ∷ r.flag_n ∷ r.flag_c ∷ []

abbrev pub total : Record → ℕ
total r = mode_bytes r.mode * 8

abbrev pub budget_for : Record → ℕ
budget_for r = budget_of (total r) (flag_bits r) r.norms

abbrev pub rates_for : Record → List ℕ
rates_for r = (shares_of r.transient (all_compete (total r) r.flag_l) r.norms (budget_for r)).rates

abbrev pub kinds_for : Record → List ℕ
kinds_for r = kinds_of (total r) (flag_bits r) r.norms

unfoldable pub plan_of : Record → Plan
plan_of r = record { budget = budget_for r; rates = rates_for r; kinds = kinds_for r }

-- ---- the causes, as 01 lists them

-- 8: mode over 19
abbrev pub mode_cause : Record → Cause
mode_cause r = ltb 19 r.mode gives out_of_range

-- 10: under 800 numbers
abbrev pub numbers_cause : ℕ → Cause
numbers_cause codes = ltb codes 800 gives short_room

-- before the codes: the mode, the numbers, the norms' 8 and 9
unfoldable pub start_causes : Record → ℕ → List Cause
start_causes r codes = mode_cause r ∷ numbers_cause codes ∷ norm_causes r.transient r.norms

-- the bits of the codes
abbrev pub codes_long : List ℕ → List ℕ → ℕ
codes_long kinds vs = length (write_all (map coding kinds) vs)

-- 12: a code too wide for its rate or an unused place nonzero
abbrev pub width_cause : List ℕ → List ℕ → Cause
width_cause kinds vs = not (fits (map coding kinds) vs) gives wide_code

-- then 7: codes go past Ψ
unfoldable pub code_causes : ℕ → List ℕ → List ℕ → List Cause
code_causes budget kinds vs = width_cause kinds vs ∷ ltb budget (codes_long kinds vs) gives past_budget ∷ []

-- as the FlagC choice, 8, 10, 8, 9, 12; then 7. Noise and tail are not looked at
unfoldable pub layout_causes : Record → List ℕ → List Cause
layout_causes r cs = start_causes r (length cs) ++ code_causes (budget_for r) (kinds_for r) (take 800 cs)

-- ---- the answer

abbrev pub no_parts : ℕ → Parts
no_parts reply = record { reply = reply; budget = 0; rates = replicate 44 0; code_bits = 0; tail_bits = 0 }

-- a refusal comes alone
abbrev pub parts_of : Result Parts Reply → Parts
parts_of (Ok p) = p
parts_of (Err r) = no_parts (number r)

-- what the codes leave of Ψ is the tail
abbrev pub parts_with : ℕ → List ℕ → ℕ → Parts
parts_with budget rates n = record { reply = done; budget = budget; rates = rates; code_bits = n; tail_bits = budget - n }

abbrev pub parts_by : ℕ → ℕ → List ℕ → ℕ → Parts
parts_by reply budget rates n = cond (eqb reply 0) (parts_with budget rates n) (no_parts reply)

unfoldable pub parts_in : ℕ → List ℕ → List ℕ → List ℕ → Parts
parts_in budget rates kinds vs = parts_by (first (code_causes budget kinds vs)) budget rates (codes_long kinds vs)

unfoldable pub layout_of : Record → List ℕ → Parts
layout_of r cs = parts_by (first (layout_causes r cs)) (budget_for r) (rates_for r) (codes_long (kinds_for r) (take 800 cs))
