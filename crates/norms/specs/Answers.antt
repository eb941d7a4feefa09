-- What the calls on norms answer.
-- Assumes nothing.
use Rattle.std.specs.Prelude.{Bool, false, cond, not, List, [], ◌∷◌, map, ℕ, ◌+◌, ◌-◌, ltb, eqb, length, get_or, drop, replicate}
use Rattle.std.specs.declared.result.Result.{Result}
use Rattle.std.specs.declared.result.Result.TheVariants.{Ok, Err}
use Rattle.ground.specs.Indices.{in_range}
use Rattle.ground.specs.Refusals.{Cause, ◌gives◌, first}
use Rattle.ground.specs.Replies.{done, out_of_range, far_apart}
use Rattle.ground.specs.Numbered.{number}
use Rattle.ground.specs.declared.replies.Reply.{Reply}
use Rattle.ground.specs.declared.replies.Reply.TheVariants.{NormOutside, NoWord, PastBudget}
use Rattle.bits.specs.Codings.{Answer, got, no}
use Rattle.bits.specs.declared.Refusal.{Refusal}
use Rattle.bits.specs.declared.Refusal.TheVariants.{Outside, Missing, Past}
use Rattle.bits.specs.Codecs.{write_all}
use Rattle.words.specs.Tables.{coding, norm_words}
use Rattle.order.specs.SentOrder.{sent}
use Rattle.norms.specs.Steps.{steps_close}
use Rattle.norms.specs.Part.{numbers_of}
use Rattle.norms.specs.declared.NormPart.{NormPart}

-- 01's reply for a refusal
abbrev pub reply_for : Refusal → Reply
reply_for Outside = NormOutside
reply_for Missing = NoWord
reply_for Past = PastBudget

-- a reading that began at `at` with `left` bits to read
abbrev pub part_of : ℕ → ℕ → Answer (List ℕ) → Result NormPart Reply
part_of at left (got norms r) = Ok (record { next = at + (left - length r); norms = norms })
part_of at left (no x) = Err (reply_for x)

-- 8: an index over 39 or a first one over 31; 9: a difference outside −15 to 16
unfoldable pub norm_causes : Bool → List ℕ → List Cause
norm_causes transient norms =
    not (in_range norms 44) gives out_of_range
    ∷ ltb 31 (get_or norms 0 0) gives out_of_range
    ∷ not (steps_close (sent transient norms)) gives far_apart
    ∷ []

abbrev pub norm_reply : Bool → List ℕ → ℕ
norm_reply transient norms = first (norm_causes transient norms)

-- the bits of the 43 words of Table 16, without the first index
unfoldable pub word_total : Bool → List ℕ → ℕ
word_total transient norms = length (write_all (map coding (replicate 43 norm_words)) (drop 1 (numbers_of transient norms)))

-- what a choice of a flag answers: a refusal comes with no flag
pub record Choice : Type 0 where
  pub reply : ℕ
  pub flag : Bool

abbrev pub answered : Result Bool Reply → Choice
answered (Ok flag) = record { reply = done; flag = flag }
answered (Err r) = record { reply = number r; flag = false }

abbrev pub chosen : ℕ → Bool → Choice
chosen reply flag = cond (eqb reply 0) (record { reply = done; flag = flag }) (record { reply = reply; flag = false })

-- FlagN is chosen 1 exactly when the 43 words total under 215 bits
unfoldable pub choice_of : Bool → List ℕ → Choice
choice_of transient norms = chosen (norm_reply transient norms) (ltb (word_total transient norms) 215)
