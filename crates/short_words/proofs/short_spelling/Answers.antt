-- `short_words::short_spelling` meets its contract: the number itself, or a norm word. Assumes nothing.
use native.Mathlib.Omega.{arith}
use Rattle.short_words.proofs.Laws.Kinds.{short_norm, short_bits}
use Rattle.words.proofs.Laws.WritingTable.{written_fixed, written_norm}
use borrow.Author.Rules.{rules}
use Rattle.short_words.proofs.short_spelling.Goals as goal

pub returns-then-kind-lt-FIRST_WORDS : goal.returns-then-kind-lt-FIRST_WORDS
returns-then-kind-lt-FIRST_WORDS c =
    (search written_fixed, omega (arith, short_bits {kind = c.args.kind} c.requires (search)), search rules)

pub returns : goal.returns
returns c =
    (search (written_norm, short_norm), omega arith, omega arith)
