use mathlib.Core.Path.{◌≡◌}
use native.Mathlib.Omega.{arith}
use Rattle.klaim.specs.Limits.{box_limit}
use Rattle.nets.proofs.Defaults.{owned_none, owned_more, owned_all}
use Rattle.nets.proofs.put_own.Goals as goal

pub loop-k-init : goal.loop-k-init
loop-k-init c = owned_none _

pub loop-k-preserved : goal.loop-k-preserved
loop-k-preserved c = let R = c.loop-k.invariant in owned_more R (omega arith) c.own_rights.ensures

pub returns : goal.returns
returns c =
    let R = c.loop-k.invariant in
    let e : c.loop-k.k ≡ box_limit = omega arith in
    owned_all (rw e at R) c.told-boxes
