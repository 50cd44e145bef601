use mathlib.Core.Path.{sym, ap₂, ◌∙◌}
use mathlib.Core.Bool.{Bool}
use Rattle.sets.specs.Lists.{either}
use Rattle.tables.specs.View.{net_view}
use Rattle.threads.specs.View.{thread_view}
use Rattle.std.specs.Prelude.{Option}
use Rattle.plan.specs.declared.Use.{Use}
use Rattle.step.specs.Stepped.{may}
use Rattle.step.proofs.may.Goals as goal

pub returns-then-guarded : goal.returns-then-guarded
unfolding either
returns-then-guarded c = c.permitted.ensures ∙ sym (ap₂ (λ (g : Bool) (u : Option Use). may g (net_view c.args.net.now) (thread_view c.args.th) u) c.if-guarded.true c.in-Some.is)

pub returns-else-guarded : goal.returns-else-guarded
unfolding either
returns-else-guarded c = sym (ap₂ (λ (g : Bool) (u : Option Use). may g (net_view c.args.net.now) (thread_view c.args.th) u) c.if-guarded.false c.in-Some.is)
