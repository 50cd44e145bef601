use mathlib.Core.Path.{subst, ◌∙◌}
use Rattle.sets.specs.Bits.{join}
use Rattle.sets.proofs.Lists.{All-in, in_get_or}
use Rattle.klaim.specs.Process.{used_in, bound_in}
use Rattle.tables.specs.Low.{LowSlot}
use Rattle.whole.proofs.Free.{no_fields, field_adds, field_none, value_bound, binder_used, binder_bound, wildcard_used, wildcard_bound}
use Rattle.whole.proofs.in_fields.Goals as goal
use Rattle.whole.proofs.in_fields.Goals.{in-Value, in-Bind, in-Wildcard}

pub loop-field-init : goal.loop-field-init
loop-field-init c = (no_fields used_in, no_fields bound_in)

pub variable-requires : goal.variable-requires
variable-requires c = subst LowSlot c.in-Value.is (All-in c.requires (in_get_or _ c.args.fields.now c.loop-field.field-index c.loop-field-test.true))

pub single-requires : goal.single-requires
single-requires c = subst LowSlot c.in-Bind.is (All-in c.requires (in_get_or _ c.args.fields.now c.loop-field.field-index c.loop-field-test.true))

pub loop-field-preserved : goal.loop-field-preserved
unfolding join
loop-field-preserved c =
    let xs = c.args.fields.now in
    let at = c.loop-field in
    let h = c.loop-field-test.true in
    elim c.match-field.branch [
      | in-Value w ↦ rw (w.sets-is, at.invariant.0, at.invariant.1) (field_adds used_in xs at.field-index h _ w.in-Value.is w.variable.ensures, field_none bound_in xs at.field-index h _ w.in-Value.is (value_bound w.in-Value.x))
      | in-Bind w ↦ rw (w.sets-is, at.invariant.0, at.invariant.1) (field_none used_in xs at.field-index h _ w.in-Bind.is (binder_used w.in-Bind.u), field_adds bound_in xs at.field-index h _ w.in-Bind.is (w.single.ensures ∙ binder_bound w.in-Bind.u))
      | in-Wildcard w ↦ rw (w.sets-is, at.invariant.0, at.invariant.1) (field_none used_in xs at.field-index h _ w.in-Wildcard.is wildcard_used, field_none bound_in xs at.field-index h _ w.in-Wildcard.is wildcard_bound)
    ]
