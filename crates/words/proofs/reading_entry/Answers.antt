-- `words::reading_entry` meets its contract: the look-up passes the test of each entry. Assumes nothing.
use Rattle.bits.specs.Bits.{word}
use Rattle.norm_words.specs.Table16.{table16}
use Rattle.words.specs.declared.tables.TheConstants.{READING}
use Rattle.words.specs.Inner.{right, begins}
use Rattle.words.specs.Tables.{words, refused, lacking, column_of, table20}
use Rattle.words.proofs.Laws.ReadingTable.{reading_entry_is}
use borrow.Author.Rules.{rules}
use Rattle.words.proofs.reading_entry.Goals as goal

pub returns : goal.returns
unfolding right begins words refused lacking column_of table16 table20 word
returns c =
    (reading_entry_is READING c.from.ensures tt c.requires, search rules)
