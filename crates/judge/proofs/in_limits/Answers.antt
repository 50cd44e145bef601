use mathlib.Core.Path.{refl, sym, ◌∙◌}
use Rattle.klaim.specs.Reader.{in_limits}
use Rattle.forms.specs.Forms.{row_data, size_data, box_data, root_data, bound_data}
use Rattle.sets.specs.Lists.{all, ◌&◌, imp}
use Rattle.sets.proofs.Lists.{and_true}
use borrow.Author.Tests.{lt-ltb, le-ltb, le-leb, lt-leb}
use Rattle.judge.proofs.Rows.{pair_limits, tuple_limits}
use Rattle.judge.proofs.in_limits.Goals as goal

pub returns-then-n-ge1 : goal.returns-then-n-ge1
unfolding row_data in_limits imp all ◌&◌ size_data
returns-then-n-ge1 c = rw (c.in-N.is, le-leb 1 c.in-N.n c.if-n-ge1.true) (sym (and_true _))

pub returns-else-n-ge1 : goal.returns-else-n-ge1
unfolding row_data in_limits imp all ◌&◌ size_data
returns-else-n-ge1 c = rw (c.in-N.is, lt-leb 1 c.in-N.n c.if-n-ge1.false) refl

pub returns-then-sandbox-lt-NUMBERS : goal.returns-then-sandbox-lt-NUMBERS
unfolding row_data in_limits imp all ◌&◌ box_data
returns-then-sandbox-lt-NUMBERS c = rw (c.in-D.is, lt-ltb _ _ c.if-sandbox-lt-NUMBERS.true) (c.low_toward.ensures ∙ sym (and_true _))

pub returns-else-sandbox-lt-NUMBERS : goal.returns-else-sandbox-lt-NUMBERS
unfolding row_data in_limits imp all ◌&◌ box_data
returns-else-sandbox-lt-NUMBERS c = rw (c.in-D.is, le-ltb _ _ c.if-sandbox-lt-NUMBERS.false) refl

pub returns-then-root-lt-NUMBERS : goal.returns-then-root-lt-NUMBERS
unfolding row_data in_limits imp all ◌&◌ root_data
returns-then-root-lt-NUMBERS c = rw (c.in-L.is, lt-ltb c.in-L.root.site 32 c.if-root-lt-NUMBERS.true) (sym (and_true _))

pub returns-else-root-lt-NUMBERS : goal.returns-else-root-lt-NUMBERS
unfolding row_data in_limits imp all ◌&◌ root_data
returns-else-root-lt-NUMBERS c = rw (c.in-L.is, le-ltb c.in-L.root.site 32 c.if-root-lt-NUMBERS.false) refl

pub returns-in-Q : goal.returns-in-Q
unfolding row_data
returns-in-Q c = rw c.in-Q.is c.low_process.ensures

pub returns-then-bound-lt-NUMBERS : goal.returns-then-bound-lt-NUMBERS
unfolding row_data in_limits imp all ◌&◌ bound_data
returns-then-bound-lt-NUMBERS c = rw (c.in-B.is, lt-ltb c.in-B.bound.variable 32 c.if-bound-lt-NUMBERS.true) (sym (and_true _) ∙ sym (and_true _))

pub returns-else-bound-lt-NUMBERS : goal.returns-else-bound-lt-NUMBERS
unfolding row_data in_limits imp all ◌&◌ bound_data
returns-else-bound-lt-NUMBERS c = rw (c.in-B.is, le-ltb c.in-B.bound.variable 32 c.if-bound-lt-NUMBERS.false) refl

pub returns-in-T : goal.returns-in-T
returns-in-T c = c.low_tuple.ensures ∙ tuple_limits _ _ c.in-T.is

pub returns-in-R : goal.returns-in-R
returns-in-R c = c.low_pair.ensures ∙ pair_limits _ _ c.in-R.is
