-- `short_words::read_pair` meets its contract: the first word in eight bits, and the second in the eight behind it. Assumes nothing.
use native.Mathlib.Omega.{arith}
use Rattle.bits.proofs.Laws.Views.{read_lt}
use Rattle.short_words.proofs.Laws.ReadPairs.{pair_whole, pair_cut}
use Rattle.short_words.proofs.read_pair.Goals as goal

pub short_word-a-requires : goal.short_word-a-requires
short_word-a-requires c =
    (omega (arith, read_lt c.args.s.now c.args.at 16 c.read_bits-k.ensures), c.requires.0)

pub returns-then-saturating_sub-bits : goal.returns-then-saturating_sub-bits
returns-then-saturating_sub-bits c =
    pair_cut c.args.s.now c.args.at c.args.end c.args.first c.args.second c.read_bits-k.ensures c.short_word-a.ensures
    c.short_word-b.ensures (omega arith)

pub returns : goal.returns
returns c =
    pair_whole c.args.s.now c.args.at c.args.end c.args.first c.args.second c.read_bits-k.ensures c.short_word-a.ensures
    c.short_word-b.ensures (omega arith)
