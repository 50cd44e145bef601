use mathlib.Core.Path.{◌≡◌}
use Prim.Native.Nat.{suc, ◌+◌}
use native.Mathlib.Omega.{arith}
use Rattle.tables.specs.View.{roots_of, root_at}
use Rattle.whole.proofs.Counts.{none_named, roots_none, roots_more}
use Rattle.whole.proofs.named_roots.Goals as goal

pub loop-i-init : goal.loop-i-init
loop-i-init c = roots_none c.args.roots.now none_named

pub loop-i-preserved : goal.loop-i-preserved
unfolding root_at
loop-i-preserved c =
    let at = c.loop-i in
    let rs = c.args.roots.now in
    let e : suc at.i ≡ at.i + 1 = omega arith in
    roots_more rs at.i (at.i + 1) e (c.named.ensures _ at.invariant)

pub returns : goal.returns
unfolding roots_of
returns c =
    let e : c.loop-i.i ≡ c.args.roots.now.count = omega arith in
    rw e at c.loop-i.invariant
