-- `norms::read_norms` meets its contract: a run of words, then the indices, then band order. Assumes nothing.
use mathlib.Core.Path.{◌≡◌, sym, ◌∙◌}
use Rattle.std.proofs.Common.{arith}
use Rattle.std.proofs.lemmas.Grind.{common_steps}
use Rattle.std.specs.declared.result.Result.TheVariants.{Err}
use Rattle.ground.specs.declared.replies.Reply.TheVariants.{NormOutside}
use Rattle.std.specs.declared.option.Option.TheVariants.{Some, None}
use Rattle.norms.specs.Steps.{indices}
use Rattle.norms.specs.Inner.{indices_of}
use borrow.Author.Rules.{rules}
use Rattle.norms.proofs.Laws.Replies.{passed_on}
use Rattle.norms.proofs.Laws.Reads.{kinds_short, read_refused, read_outside, read_sound}
use Rattle.norms.proofs.read_norms.Goals as goal

pub read_short_words-requires : goal.read_short_words-requires
read_short_words-requires c =
    (search rules, search kinds_short)

pub returns-in_err-next : goal.returns-in_err-next
returns-in_err-next c =
    let d = c.in_err-next.ensures.0 in
    passed_on _ _ c.from_residual.ensures.1 ∙ read_refused _ _ _ _ _ _ c.norm_kinds-kinds.ensures _ d

pub returns-in_err-ss : goal.returns-in_err-ss
returns-in_err-ss c =
    let q : c.from_residual-in_err-ss.result ≡ Err NormOutside = grind (arith, common_steps) in
    let n : None ≡ indices_of (indices 15 c.read_short_words.new.out) = sym c.in_err-ss.ensures.ok_part ∙ c.indices_of.ensures in
    let d = c.in_ok-next.ensures.0 in
    let f = c.in_ok-next.ensures.1 in
    rw q (search (rules, read_outside))

pub returns : goal.returns
returns c =
    let g : Some c.in_ok-ss.ss ≡ indices_of (indices 15 c.read_short_words.new.out) = sym c.in_ok-ss.ensures.ok_part ∙ c.indices_of.ensures in
    let d = c.in_ok-next.ensures.0 in
    let f = c.in_ok-next.ensures.1 in
    search (rules, read_sound)
