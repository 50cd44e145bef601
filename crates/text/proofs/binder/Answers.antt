use mathlib.Core.Path.{sym, ◌∙◌}
use Rattle.text.specs.Fields.{bind}
use Rattle.text.proofs.Fields.{bound_hit, bound_miss, bound_none, viewed}
use Rattle.text.proofs.binder.Goals as goal

pub returns-in-len1-up : goal.returns-in-len1-up
returns-in-len1-up c = viewed bind c.variable.result ∙ rw c.variable.ensures (sym (bound_hit _ c.in-len1-up.len_at_least c.if-first-eq33.true))

pub returns-in_default : goal.returns-in_default
returns-in_default c = bound_none _ c.in_default.len_below

pub returns-in_default-2 : goal.returns-in_default-2
returns-in_default-2 c = bound_miss _ c.if-first-eq33.false
