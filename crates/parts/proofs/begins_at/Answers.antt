use mathlib.Core.Path.{sym}
use Rattle.parts.proofs.Parts.{begins_first, begins_later}
use Rattle.parts.proofs.begins_at.Goals as goal

pub returns-then-i-eq0 : goal.returns-then-i-eq0
returns-then-i-eq0 c = rw c.if-i-eq0.true (sym (begins_first c.args.input.now))

pub returns : goal.returns
returns c = sym (begins_later c.args.input.now c.args.i c.if-i-eq0.false)
