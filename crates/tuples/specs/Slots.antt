-- One field of a template.
-- Assumes nothing.
use Rattle.std.proofs.Math.Option.{some}
use Rattle.std.specs.Prelude.{ℕ, set}
use Rattle.klaim.specs.declared.Slot.{Slot}
use Rattle.klaim.specs.declared.Slot.TheVariants.{Value, Bind, Wildcard}
use Rattle.klaim.specs.State.{Bindings}

-- what `bind_all` does with one field and one site
unfoldable pub bind_slot : Slot → ℕ → Bindings → Bindings
bind_slot (Value x) v e = e
bind_slot (Bind u) v e = set e u.0 (some v)
bind_slot Wildcard v e = e
