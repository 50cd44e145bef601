use mathlib.Core.Path.{ap, ◌∙◌}
use Prim.Native.Nat.{ℕ}
use lib.Dec.{eqb}
use Rattle.whole.proofs.Free.{mask_empty}
use Rattle.whole.proofs.closed.Goals as goal

pub returns : goal.returns
returns c = ap (λ (m : ℕ). eqb m 0) c.free_vars.ensures ∙ mask_empty _
