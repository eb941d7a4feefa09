-- `words::writing_entry` meets its contract: the entry that is read is the word as a number. Assumes nothing.
use borrow.Author.Rules.{rules}
use native.Mathlib.Omega.{arith}
use mathlib.Core.Path.{refl}
use Rattle.bits.specs.Bits.{word, val}
use Rattle.words.specs.declared.tables.TheConstants.{WRITING}
use Rattle.words.specs.Inner.{packed}
use Rattle.words.specs.Tables.{words, column_of, table20}
use Rattle.words.proofs.Laws.WritingTable.{rule, part, all_words, writing_inside, writing_entry_is}
use Rattle.words.proofs.writing_entry.Goals as goal

pub overflow_add-size_of : goal.overflow_add-size_of
overflow_add-size_of c =
    omega (arith, writing_inside c.requires c.size_of.ensures)

pub offset_bounds-size_of : goal.offset_bounds-size_of
offset_bounds-size_of c =
    omega (arith, writing_inside c.requires c.size_of.ensures)

pub bounds-size_of : goal.bounds-size_of
bounds-size_of c =
    omega (arith, writing_inside c.requires c.size_of.ensures)

pub returns : goal.returns
unfolding all_words rule part packed words column_of table20 word val
returns c =
    (writing_entry_is c.requires c.size_of.ensures WRITING c.from.ensures tt refl, search rules)
