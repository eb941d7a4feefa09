-- The reply for a refusal is told by its number.
-- Assumes nothing.
use mathlib.Core.Path.{◌≡◌, refl, sym, ap, ◌∙◌}
use Rattle.std.specs.Prelude.{IsErrAnd}
use Rattle.std.specs.declared.result.Result.{Result}
use Rattle.std.specs.declared.result.Result.TheVariants.{Ok, Err}
use Rattle.ground.specs.Numbered.{number}
use Rattle.ground.specs.declared.replies.Reply.{Reply}
use Rattle.ground.proofs.Laws.Numbered.{same_number}
use Rattle.bits.specs.Codings.{reply_of as refusal_number}
use Rattle.bits.specs.declared.Refusal.{Refusal}
use Rattle.bits.specs.declared.Refusal.TheVariants.{Outside, Missing, Past}
use Rattle.norms.specs.Answers.{reply_for}

pub number_for : (x : Refusal) → number (reply_for x) ≡ refusal_number x
number_for Outside = refl
number_for Missing = refl
number_for Past = refl

pub reply_is : (x : Refusal) (r : Reply) → number r ≡ refusal_number x → r ≡ reply_for x
reply_is x r e = same_number r (reply_for x) (e ∙ sym (number_for x))

-- what a refusal is turned into on its way out
pub passed_on : {A : Type 0} (x : Refusal) (r : Result A Reply) → IsErrAnd r (λ y. number y ≡ refusal_number x) → r ≡ Err (reply_for x)
passed_on x (Ok v) e = absurd e
passed_on x (Err y) e = ap Err (reply_is x y e)
