use mathlib.Core.Path.{◌≡◌}
use Prim.Native.Nat.{suc, ◌+◌}
use native.Mathlib.Omega.{arith}
use Rattle.tables.specs.View.{lines_of}
use Rattle.whole.proofs.Counts.{lines_none, lines_more}
use Rattle.whole.proofs.named_lines.Goals as goal

pub loop-q-init : goal.loop-q-init
loop-q-init c = λ xs C. lines_none xs c.args.lines.now C

pub loop-q-preserved : goal.loop-q-preserved
loop-q-preserved c =
    let at = c.loop-q in
    let bs = c.args.lines.now in
    let e : suc at.q ≡ at.q + 1 = omega arith in
    λ xs C. lines_more xs bs at.q (at.q + 1) _ e c.children_at.ensures (c.named_children.ensures _ (at.invariant xs C))

pub returns : goal.returns
unfolding lines_of
returns c =
    let e : c.loop-q.q ≡ c.args.lines.now.count = omega arith in
    rw e at c.loop-q.invariant
