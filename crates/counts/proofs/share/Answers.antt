use borrow.Author.Tests.{eq-eqb, ne_eqb}
use Rattle.klaim.specs.Listing.{share}
use Rattle.counts.proofs.share.Goals as goal

pub returns-then-p-eq0 : goal.returns-then-p-eq0
unfolding share
returns-then-p-eq0 c = rw (eq-eqb _ _ c.if-p-eq0.true)

pub returns : goal.returns
unfolding share
returns c = rw (ne_eqb _ _ c.if-p-eq0.false) c.nearest.ensures
