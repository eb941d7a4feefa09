-- The FlagC choice (01, Coefficient codes): 1 exactly when words cost less than fixed codes over bands at rates 2–5.
-- Assumes nothing.
use Rattle.std.specs.Prelude.{Bool, false, cond, ◌&&◌, List, [], ◌∷◌, ◌++◌, ℕ, ◌+◌, ltb, leb, length, get_or, take}
use Rattle.ground.specs.Refusals.{Cause, first}
use Rattle.ground.specs.Sums.{sum_to}
use Rattle.bits.specs.Codings.{word_of}
use Rattle.words.specs.Tables.{coding, code_words}
use Rattle.norms.specs.Answers.{Choice, chosen}
use Rattle.allotment.specs.Allotment.{shares_of}
use Rattle.kinds.specs.Kinds.{band_of}
use Rattle.kinds.specs.Budget.{all_compete}
use Rattle.frame.specs.declared.Record.{Record}
use Rattle.layout.specs.Parts.{total, budget_for, kinds_for, start_causes, width_cause}

-- rates 2–5
unfoldable pub wordy : ℕ → Bool
wordy rate = leb 2 rate && leb rate 5

-- what a number costs there: as a word of Table 20, and as a fixed code
unfoldable pub as_word : ℕ → ℕ → ℕ
as_word rate v = cond (wordy rate) (length (word_of (coding (rate + code_words)) v)) 0

unfoldable pub as_fixed : ℕ → ℕ
as_fixed rate = cond (wordy rate) rate 0

-- the record's own FlagC does not count
abbrev pub plain : Record → Record
plain r =
    record {
      mode = r.mode;
      transient = r.transient;
      flag_l = r.flag_l;
      flag_n = r.flag_n;
      flag_c = false;
      norms = r.norms;
      noise = r.noise;
      tail_bits = r.tail_bits;
    }

-- the rate of each of the 800 places
unfoldable pub rate_at : Record → ℕ → ℕ
rate_at r i = get_or (shares_of r.transient (all_compete (total r) r.flag_l) r.norms (budget_for (plain r))).rates (band_of i) 0

unfoldable pub words_cost : Record → List ℕ → ℕ
words_cost r cs = sum_to (λ i. as_word (rate_at r i) (get_or cs i 0)) 800

unfoldable pub fixed_cost : Record → ℕ
fixed_cost r = sum_to (λ i. as_fixed (rate_at r i)) 800

-- as the layout starts: 8 for the mode, 10 for under 800 numbers, the norms' 8 and 9; then 12
unfoldable pub choice_causes : Record → List ℕ → List Cause
choice_causes r cs = start_causes r (length cs) ++ width_cause (kinds_for (plain r)) (take 800 cs) ∷ []

abbrev pub choice_reply : Record → List ℕ → ℕ
choice_reply r cs = first (choice_causes r cs)

unfoldable pub choice_of : Record → List ℕ → Choice
choice_of r cs = chosen (choice_reply r cs) (ltb (words_cost r cs) (fixed_cost r))
