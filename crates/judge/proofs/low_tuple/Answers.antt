use mathlib.Core.Path.{refl, ap, ◌∙◌}
use borrow.Author.Tests.{lt-ltb, le-ltb}
use Rattle.sets.specs.Lists.{all}
use Rattle.forms.specs.Forms.{sites_of}
use Rattle.judge.proofs.Tests.{both_yes, both_no}
use Rattle.judge.proofs.Lines.{sites_named}
use Rattle.judge.proofs.low_tuple.Goals as goal

pub returns-then-tuple-n : goal.returns-then-tuple-n
unfolding all sites_of
returns-then-tuple-n c = both_yes (lt-ltb _ _ c.if-tuple-n.true) refl (c.low_sites_of.ensures ∙ ap (all _) (sites_named _))

pub returns-else-tuple-n : goal.returns-else-tuple-n
unfolding all sites_of
returns-else-tuple-n c = both_no _ (le-ltb _ _ c.if-tuple-n.false) refl
