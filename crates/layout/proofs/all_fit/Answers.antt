-- `layout::all_fit` meets its contract: the chain passes exactly where each number fits its kind. Assumes nothing.
use borrow.Author.Rules.{rules}
use borrow.Author.Tests.{tests}
use Rattle.std.proofs.lemmas.Iterator.{cases_from_all, YieldsList-from_zip, YieldsList-from_slice}
use Rattle.layout.proofs.Laws.Fits.{Fits, Fails, fits_told}
use Rattle.layout.proofs.all_fit.Goals as goal

pub returns : goal.returns
returns c =
    fits_told _ _ _ c.requires
    (cases_from_all c.all.new.self _ _ Fits Fails c.all.ensures.ran
    (YieldsList-from_zip (YieldsList-from_slice c.args.kinds.now (cc)) (YieldsList-from_slice c.args.numbers.now (cc)))
    (λ x q k. search (rules, tests))
    (λ x q k. search (rules, tests)))
