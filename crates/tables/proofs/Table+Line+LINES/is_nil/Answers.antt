use mathlib.Core.Path.{sym, ap, ◌∙◌}
use native.Mathlib.Omega.{arith}
use Rattle.klaim.specs.State.{is_nil}
use Rattle.tables.specs.View.{action_line}
use Rattle.tables.proofs.LineTable.{nil_past, is_nil_at, not_nil}
use Rattle.tables.proofs.Table+Line+LINES.is_nil.Goals as goal

pub returns-then-self-from : goal.returns-then-self-from
returns-then-self-from c = nil_past c.args.self.now c.args.q (omega arith)

pub returns-in-Nil : goal.returns-in-Nil
unfolding is_nil action_line
returns-in-Nil c = ap (λ a. is_nil (action_line a)) (sym c.in-Nil.is) ∙ is_nil_at c.args.self.now c.args.q (omega arith) c.action.ensures

pub returns-in_default : goal.returns-in_default
returns-in_default c = not_nil c.action.result c.in_default.not-Nil ∙ is_nil_at c.args.self.now c.args.q (omega arith) c.action.ensures
