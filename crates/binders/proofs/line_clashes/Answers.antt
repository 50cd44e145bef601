use mathlib.Core.Path.{sym, ap, ◌∙◌}
use mathlib.Core.Bool.{not}
use Rattle.klaim.specs.Process.{template}
use Rattle.lines.specs.Lines.{line_view, acts_of}
use Rattle.binders.proofs.Binders.{clash_fields, clash_none}
use Rattle.binders.proofs.line_clashes.Goals as goal

pub returns-in-In : goal.returns-in-In
unfolding template line_view acts_of
returns-in-In c = rw c.in-In.is (ap not c.apart.ensures ∙ sym (clash_fields _))

pub returns-in-Read : goal.returns-in-Read
unfolding template line_view acts_of
returns-in-Read c = rw c.in-Read.is (ap not c.apart-in-Read.ensures ∙ sym (clash_fields _))

pub returns-in_default : goal.returns-in_default
returns-in_default c = clash_none _ c.in_default.not-In c.in_default.not-Read
