use mathlib.Core.Path.{refl, sym, ◌∙◌}
use mathlib.Core.List.{[]}
use lib.Dec.{ltb}
use Rattle.sets.specs.Lists.{all, concat, ◌⧺◌}
use Rattle.sets.proofs.Lists.{and_true}
use Rattle.klaim.specs.declared.Slot.TheVariants.{Value}
use Rattle.klaim.specs.Limits.{var_limit}
use Rattle.klaim.specs.Process.{slots_of, used_in, bound_in}
use Rattle.text.specs.declared.Target.{Target}
use Rattle.text.specs.Fields.{loc, slot}
use Rattle.klaim.specs.Fields.{items}
use Rattle.lines.specs.Lines.{line_view, acts_of}
use Rattle.judge.proofs.Tests.{both_yes, both_no}
use Rattle.judge.proofs.Lines.{no_slots, out_slots, get_slots, variables_behind}
use Rattle.judge.proofs.low_variables.Goals as goal

pub returns-then-low_variable : goal.returns-then-low_variable
unfolding bound_in
returns-then-low_variable c = rw (c.in-Out.is, out_slots c.in-Out.put, variables_behind (λ u. ltb u var_limit) (λ (t : Target). Value (loc t)) c.in-Out.put.target (items c.in-Out.put.fields) (λ (t : Target). used_in (Value (loc t)) ⧺ []) (λ t. refl)) (both_yes c.if-low_variable.true c.low_variable.ensures c.low_variables_of.ensures)

pub returns-else-low_variable : goal.returns-else-low_variable
unfolding bound_in
returns-else-low_variable c = rw (c.in-Out.is, out_slots c.in-Out.put, variables_behind (λ u. ltb u var_limit) (λ (t : Target). Value (loc t)) c.in-Out.put.target (items c.in-Out.put.fields) (λ (t : Target). used_in (Value (loc t)) ⧺ []) (λ t. refl)) (both_no _ c.if-low_variable.false c.low_variable.ensures)

pub returns-in-Eval : goal.returns-in-Eval
unfolding line_view acts_of slots_of concat all
returns-in-Eval c = rw (c.in-Eval.is, variables_behind (λ u. ltb u var_limit) (slot) c.in-Eval.target ([]) (λ f. used_in (slot f) ⧺ bound_in (slot f)) (λ f. refl)) (c.low_variable-in-Eval.ensures ∙ sym (and_true _))

pub returns-in_default : goal.returns-in_default
unfolding all concat ◌⧺◌
returns-in_default c = rw (no_slots c.args.line.now c.in_default.not-Out c.in_default.not-In c.in_default.not-Read c.in_default.not-Eval) refl

pub returns-then-low_variable-2 : goal.returns-then-low_variable-2
returns-then-low_variable-2 c = rw (get_slots c.args.line.now c.in-In.get c.in-In.is, variables_behind (λ u. ltb u var_limit) (slot) c.in-In.get.target (items c.in-In.get.fields) (λ f. used_in (slot f) ⧺ bound_in (slot f)) (λ f. refl)) (both_yes c.if-low_variable-2.true c.low_variable-in-In.ensures c.low_variables_of-then-low_variable-2.ensures)

pub returns-else-low_variable-2 : goal.returns-else-low_variable-2
returns-else-low_variable-2 c = rw (get_slots c.args.line.now c.in-In.get c.in-In.is, variables_behind (λ u. ltb u var_limit) (slot) c.in-In.get.target (items c.in-In.get.fields) (λ f. used_in (slot f) ⧺ bound_in (slot f)) (λ f. refl)) (both_no _ c.if-low_variable-2.false c.low_variable-in-In.ensures)
