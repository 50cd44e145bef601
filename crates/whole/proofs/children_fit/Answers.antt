use mathlib.Core.Path.{sym, ◌∙◌}
use Rattle.whole.proofs.Order.{test_none, test_one, test_both, test_not}
use Rattle.whole.proofs.children_fit.Goals as goal

pub returns-in-Zero : goal.returns-in-Zero
returns-in-Zero c = test_none _ c.in-Zero.is

pub returns-in-One : goal.returns-in-One
returns-in-One c = test_one _ c.in-One.is c.child_fits.ensures

pub returns-then-child_fits : goal.returns-then-child_fits
returns-then-child_fits c = test_both _ c.in-Two.is (sym c.child_fits-in-Two.ensures ∙ c.if-child_fits.true) c.child_fits-then-child_fits.ensures

pub returns-else-child_fits : goal.returns-else-child_fits
returns-else-child_fits c = c.if-child_fits.false ∙ test_not _ c.in-Two.is (sym c.child_fits-in-Two.ensures ∙ c.if-child_fits.false)
