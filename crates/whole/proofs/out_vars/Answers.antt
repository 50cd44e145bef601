use mathlib.Core.Path.{sym, ap, ap₂, subst, ◌∙◌}
use mathlib.Core.List.{List}
use Prim.Native.Nat.{ℕ}
use Rattle.sets.specs.Lists.{All, concat}
use Rattle.sets.specs.Bits.{join}
use Rattle.klaim.specs.Fields.{items}
use Rattle.klaim.specs.declared.Slot.{Slot}
use Rattle.klaim.specs.declared.Slot.TheVariants.{Value}
use Rattle.klaim.specs.Process.{used_in}
use Rattle.tables.specs.Low.{LowSlot}
use Rattle.whole.specs.Free.{mask_of}
use Rattle.whole.proofs.Free.{with_target, slots_low}
use Rattle.whole.proofs.out_vars.Goals as goal

pub in_fields-requires : goal.in_fields-requires
in_fields-requires c =
    let e = c.as_slice.ensures.value ∙ c.map-slots.ensures Value (λ x y q. q) in
    subst (All LowSlot) (sym e) (slots_low (items c.args.fields) c.requires.1)

pub returns : goal.returns
unfolding join
returns c =
    let e = c.as_slice.ensures.value ∙ c.map-slots.ensures Value (λ x y q. q) in
    ap (λ (n : ℕ). join n c.args.rest) (ap₂ join c.variable.ensures (c.in_fields.ensures.used ∙ ap (λ (ss : List Slot). mask_of (concat used_in ss)) e) ∙ sym (with_target c.args.target _))
