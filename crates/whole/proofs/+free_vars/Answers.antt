use mathlib.Core.Logic.{inl, inr}
use mathlib.Core.Path.{ap, ap₂, ◌∙◌}
use native.Mathlib.Omega.{arith}
use Rattle.sets.specs.Bits.{join, in_bit, read_bit}
use Rattle.klaim.specs.Process.{free, node}
use Rattle.tables.specs.View.{action_line}
use Rattle.tables.proofs.LineTable.{next, next_of_get, next_of_same}
use Rattle.whole.proofs.Free.{none_free, par_free, out_free, get_free, eval_free, free_at}
use Rattle.whole.proofs.+free_vars.Goals as goal

pub free_vars-requires : goal.free_vars-requires
free_vars-requires t c =
    let k = next c.requires c.action.ensures c.in-Par.is in
    (omega (arith, k.0.greater, c.decreases), k.0.form)

pub free_vars-requires-in-Par : goal.free_vars-requires-in-Par
free_vars-requires-in-Par t c =
    let k = next c.requires c.action.ensures c.in-Par.is in
    (omega (arith, k.1.greater, c.decreases), k.1.form)

pub free_vars-requires-in-Out : goal.free_vars-requires-in-Out
free_vars-requires-in-Out t c =
    let k = next c.requires c.action.ensures c.in-Out.is in
    (omega (arith, k.0.greater, c.decreases), k.0.form)

pub free_vars-requires-in-Eval : goal.free_vars-requires-in-Eval
free_vars-requires-in-Eval t c =
    let k = next c.requires c.action.ensures c.in-Eval.is in
    (omega (arith, k.2.greater, c.decreases), k.2.form)

pub free_vars-requires-in-Eval-2 : goal.free_vars-requires-in-Eval-2
free_vars-requires-in-Eval-2 t c =
    let k = next c.requires c.action.ensures c.in-Eval.is in
    (omega (arith, k.0.greater, c.decreases), k.0.form)

pub free_vars-requires-in-In : goal.free_vars-requires-in-In
free_vars-requires-in-In t c =
    let k = next_of_get c.requires c.action.ensures c.in-In.is in
    (omega (arith, k.0.greater, c.decreases), k.0.form)

pub free_vars-requires-in-Rep : goal.free_vars-requires-in-Rep
free_vars-requires-in-Rep t c =
    let k = next_of_same c.requires c.action.ensures c.in-Rep.is in
    (omega (arith, k.greater, c.decreases), k.form)

pub returns-in-Nil : goal.returns-in-Nil
unfolding free node action_line
returns-in-Nil t c = none_free ∙ free_at c.requires c.action.ensures c.in-Nil.is

pub returns-in-Par : goal.returns-in-Par
unfolding join node action_line
returns-in-Par t c = ap₂ join c.free_vars.ensures c.free_vars-in-Par.ensures ∙ par_free _ _ ∙ free_at c.requires c.action.ensures c.in-Par.is

pub returns-in-Out : goal.returns-in-Out
unfolding node action_line
returns-in-Out t c = c.out_vars.ensures ∙ ap (join _) c.free_vars-in-Out.ensures ∙ out_free _ _ _ _ ∙ free_at c.requires c.action.ensures c.in-Out.is

pub returns-in-Eval : goal.returns-in-Eval
unfolding join node action_line
returns-in-Eval t c = ap₂ join c.variable.ensures (ap₂ join c.free_vars-in-Eval.ensures c.free_vars-in-Eval-2.ensures) ∙ eval_free c.args.q _ _ c.in-Eval.sandbox _ ∙ free_at c.requires c.action.ensures c.in-Eval.is

pub returns-in-In : goal.returns-in-In
unfolding node action_line
returns-in-In t c =
    rw c.free_vars-in-In.ensures at c.get_vars.ensures ∙ elim c.in-In.is [
      | inl e ↦ get_free c.args.q _ _ in_bit _ ∙ free_at c.requires c.action.ensures e
      | inr e ↦ get_free c.args.q _ _ read_bit _ ∙ free_at c.requires c.action.ensures e
    ]

pub returns-in-Rep : goal.returns-in-Rep
unfolding free node action_line
returns-in-Rep t c =
    c.free_vars-in-Rep.ensures ∙ elim c.in-Rep.is [
      | inl e ↦ free_at c.requires c.action.ensures e
      | inr e ↦ free_at c.requires c.action.ensures e.1
    ]
