use mathlib.Core.Path.{◌≡◌, refl, ◌∙◌}
use lib.Dec.{ltb}
use Rattle.sets.specs.Lists.{◌&◌}
use Rattle.klaim.specs.Limits.{line_limit}
use Rattle.judge.proofs.Tests.{both_yes, both_no}
use Rattle.judge.proofs.Rows.{boxes_low, variables_low, names_low, process_limits}
use Rattle.judge.proofs.low_process.Goals.{then-low_box, else-low_box, then-low_variables, else-low_variables, then-low_line, else-low_line}
use Rattle.judge.proofs.low_process.Goals as goal

pub returns-then-process-lt-LINES : goal.returns-then-process-lt-LINES
returns-then-process-lt-LINES c =
    let p = c.args.process.now in
    let a : c.if-low_box.value ≡ (boxes_low p & variables_low p) = elim c.if-low_box.branch [ then-low_box w ↦ w.value-is ∙ both_yes w.if-low_box.true c.low_box.ensures w.low_variables.ensures | else-low_box w ↦ w.value-is ∙ both_no _ w.if-low_box.false c.low_box.ensures ] in
    let b : c.if-low_variables.value ≡ ((boxes_low p & variables_low p) & names_low p) = elim c.if-low_variables.branch [ then-low_variables w ↦ w.value-is ∙ both_yes w.if-low_variables.true a w.low_line.ensures | else-low_variables w ↦ w.value-is ∙ both_no _ w.if-low_variables.false a ] in
    let d : c.if-low_line.value ≡ (((boxes_low p & variables_low p) & names_low p) & ltb p.number line_limit) = elim c.if-low_line.branch [ then-low_line w ↦ w.value-is ∙ both_yes w.if-low_line.true b refl | else-low_line w ↦ w.value-is ∙ both_no _ w.if-low_line.false b ] in
    both_yes c.if-process-lt-LINES.true d c.low_children.ensures ∙ process_limits p

pub returns-else-process-lt-LINES : goal.returns-else-process-lt-LINES
returns-else-process-lt-LINES c =
    let p = c.args.process.now in
    let a : c.if-low_box.value ≡ (boxes_low p & variables_low p) = elim c.if-low_box.branch [ then-low_box w ↦ w.value-is ∙ both_yes w.if-low_box.true c.low_box.ensures w.low_variables.ensures | else-low_box w ↦ w.value-is ∙ both_no _ w.if-low_box.false c.low_box.ensures ] in
    let b : c.if-low_variables.value ≡ ((boxes_low p & variables_low p) & names_low p) = elim c.if-low_variables.branch [ then-low_variables w ↦ w.value-is ∙ both_yes w.if-low_variables.true a w.low_line.ensures | else-low_variables w ↦ w.value-is ∙ both_no _ w.if-low_variables.false a ] in
    let d : c.if-low_line.value ≡ (((boxes_low p & variables_low p) & names_low p) & ltb p.number line_limit) = elim c.if-low_line.branch [ then-low_line w ↦ w.value-is ∙ both_yes w.if-low_line.true b refl | else-low_line w ↦ w.value-is ∙ both_no _ w.if-low_line.false b ] in
    both_no _ c.if-process-lt-LINES.false d ∙ process_limits p
