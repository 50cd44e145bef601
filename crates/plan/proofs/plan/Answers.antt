use mathlib.Core.Path.{refl}
use Rattle.klaim.specs.Engine.{plan}
use Rattle.tables.specs.View.{action_line}
use Rattle.state.specs.View.{state_view}
use Rattle.plan.proofs.Fitted.{plan_at}
use Rattle.plan.proofs.plan.Goals as goal

pub returns-in-Nil-clause-value : goal.returns-in-Nil-clause-value
unfolding plan action_line
returns-in-Nil-clause-value c = λ s k. plan_at c.requires c.action.ensures c.in-Nil.is k c.args.m c.args.r (refl)

pub returns-in-Par-clause-value : goal.returns-in-Par-clause-value
unfolding plan action_line
returns-in-Par-clause-value c = λ s k. plan_at c.requires c.action.ensures c.in-Par.is k c.args.m c.args.r (c.plan_par.ensures.value (state_view c.args.state.now) k c.args.m c.args.r)

pub returns-in-Par-clause-possible : goal.returns-in-Par-clause-possible
returns-in-Par-clause-possible c = c.plan_par.ensures.possible c.args.m c.args.state.now.tuples.count

pub returns-in-Rep-clause-value : goal.returns-in-Rep-clause-value
unfolding plan action_line
returns-in-Rep-clause-value c = λ s k. plan_at c.requires c.action.ensures c.in-Rep.is k c.args.m c.args.r (c.plan_rep.ensures.value (state_view c.args.state.now) k c.args.m c.args.r)

pub returns-in-Rep-clause-possible : goal.returns-in-Rep-clause-possible
returns-in-Rep-clause-possible c = c.plan_rep.ensures.possible c.args.m c.args.state.now.tuples.count

pub returns-in-Out-clause-value : goal.returns-in-Out-clause-value
unfolding plan action_line
returns-in-Out-clause-value c = λ s k. plan_at c.requires c.action.ensures c.in-Out.is k c.args.m c.args.r (c.plan_out.ensures.value (state_view c.args.state.now) k c.args.m c.args.r)

pub returns-in-Out-clause-possible : goal.returns-in-Out-clause-possible
returns-in-Out-clause-possible c = c.plan_out.ensures.possible c.args.m c.args.state.now.tuples.count

pub returns-in-In-clause-value : goal.returns-in-In-clause-value
unfolding plan action_line
returns-in-In-clause-value c = λ s k. plan_at c.requires c.action.ensures c.in-In.is k c.args.m c.args.r (c.plan_get.ensures.value k)

pub returns-in-Read-clause-value : goal.returns-in-Read-clause-value
unfolding plan action_line
returns-in-Read-clause-value c = λ s k. plan_at c.requires c.action.ensures c.in-Read.is k c.args.m c.args.r (c.plan_get-in-Read.ensures.value k)

pub returns-in-Eval-clause-value : goal.returns-in-Eval-clause-value
unfolding plan action_line
returns-in-Eval-clause-value c = λ s k. plan_at c.requires c.action.ensures c.in-Eval.is k c.args.m c.args.r (c.plan_eval.ensures.value k c.args.m c.args.r)

pub returns-in-Eval-clause-possible : goal.returns-in-Eval-clause-possible
returns-in-Eval-clause-possible c = c.plan_eval.ensures.possible c.args.m c.args.state.now.tuples.count

pub returns-in-Accept-clause-value : goal.returns-in-Accept-clause-value
unfolding plan action_line
returns-in-Accept-clause-value c = λ s k. plan_at c.requires c.action.ensures c.in-Accept.is k c.args.m c.args.r (c.plan_accept.ensures.value s k c.args.m)
