use mathlib.Core.Path.{sym, ◌∙◌}
use Rattle.sets.specs.Bits.{meet}
use Rattle.flow.proofs.Boxes.{at_own, at_other}
use Rattle.tables.specs.View.{net_view}
use Rattle.flow.proofs.box_at.Goals as goal

pub returns-then-t-l : goal.returns-then-t-l
unfolding meet
returns-then-t-l c = rw (c.sandbox.ensures, c.sandbox_self.ensures) (sym (at_own (net_view c.args.net.now) c.args.k c.args.l c.args.t c.if-t-l.true))

pub returns : goal.returns
returns c = c.sandbox-2.ensures ∙ sym (at_other (net_view c.args.net.now) c.args.k c.args.l c.args.t c.if-t-l.false)
