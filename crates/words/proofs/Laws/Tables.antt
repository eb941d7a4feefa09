-- The codings by kind, and that each obeys both laws: no word of a column begins another.
-- Assumes nothing.
use mathlib.Core.Path.{◌≡◌}
use mathlib.Core.List.{List, [], ◌∷◌, ◌++◌, map}
use Prim.Native.Nat.{ℕ, zero, suc, ◌-◌, ◌≤◌, ◌<◌}
use lib.Dec.{T, ltb}
use lib.ListN.{length}
use borrow.Author.Tests.{lt-ltb, le-ltb, ltb-true, ltb-false}
use Rattle.ground.proofs.Laws.Cases.{by_bool}
use Rattle.bits.specs.Bits.{word}
use Rattle.bits.specs.Codings.{fixed}
use Rattle.bits.proofs.Laws.Codings.{prefix_free, apart, apart_all, Good}
use Rattle.bits.proofs.Laws.Codecs.{GoodAll}
use Rattle.norm_words.proofs.Laws.Shape.{free16, long16}
use Rattle.words.specs.Tables.{words, refused, lacking, column_of, table20, column, coding}

pub coding_fixed : (kind : ℕ) → kind < 16 → coding kind ≡ fixed kind
unfolding coding
coding_fixed kind h = rw (lt-ltb kind 16 h)

pub coding_column : (kind : ℕ) → 16 ≤ kind → coding kind ≡ column (kind - 16)
unfolding coding
coding_column kind h = rw (le-ltb kind 16 h)

-- no word of a column begins another, the lacking word among them
pub free_words : (c : ℕ) → T (prefix_free (words c ++ refused c))
unfolding words refused lacking column_of table20 prefix_free apart apart_all word
free_words zero = tt
free_words (suc zero) = tt
free_words (suc (suc zero)) = tt
free_words (suc (suc (suc zero))) = tt
free_words (suc (suc (suc (suc n)))) = free16

-- each kind's coding obeys both laws
pub good_coding : (kind : ℕ) → Good (coding kind)
good_coding kind =
    by_bool (ltb kind 16)
    (λ e. let h = ltb-true kind 16 e in rw (coding_fixed kind h) tt)
    (λ e. let h = ltb-false kind 16 e in rw (coding_column kind h) (free_words (kind - 16)))

pub all_good : (kinds : List ℕ) → GoodAll (map coding kinds)
all_good [] = tt
all_good (k ∷ kinds) = (good_coding k, all_good kinds)

-- Table 16 has 32 words
pub size16 : length (words 4) ≡ 32
unfolding words
size16 = long16
