use mathlib.Core.Path.{◌≡◌, ap}
use Prim.Native.Nat.{ℕ, ◌%◌}
use native.Mathlib.Omega.{arith}
use Rattle.sets.proofs.Tables.{filled_none, filled_more, filled_all}
use Rattle.klaim.specs.Limits.{boxes_size}
use Rattle.text.specs.Fields.{unsaid}
use Rattle.nets.specs.Defaults.{cleared}
use Rattle.nets.proofs.clear_unsaid.Goals as goal

pub loop-i-init : goal.loop-i-init
loop-i-init c = filled_none 0 _ _

pub loop-i-preserved : goal.loop-i-preserved
loop-i-preserved c =
    let R = c.loop-i.invariant in
    filled_more R (omega arith) (ap (λ (b : ℕ). b % unsaid) (R.rest _ (omega arith)))

pub returns : goal.returns
unfolding cleared
returns c =
    let R = c.loop-i.invariant in
    let e : c.loop-i.i ≡ boxes_size = omega arith in
    filled_all (rw e at R) c.told-boxes
