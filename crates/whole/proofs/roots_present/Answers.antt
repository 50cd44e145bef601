use mathlib.Core.Path.{◌≡◌, sym, ◌∙◌}
use Prim.Native.Nat.{suc, ◌+◌}
use native.Mathlib.Omega.{arith}
use lib.Dec.{ltb}
use borrow.Author.Tests.{lt-ltb, le-ltb}
use Rattle.klaim.specs.Net.{Root}
use Rattle.tables.specs.View.{root_at}
use Rattle.whole.proofs.Order.{present_all}
use Rattle.sets.proofs.Shared.{all_yes, all_no, all_end}
use Rattle.whole.proofs.roots_present.Goals as goal

pub loop-i-preserved : goal.loop-i-preserved
unfolding root_at
loop-i-preserved c =
    let at = c.loop-i in
    let ar = c.args in
    let e : suc at.i ≡ at.i + 1 = omega arith in
    at.invariant ∙ all_yes (λ (x : Root). ltb x.line ar.n) ar.roots.now.count (root_at ar.roots.now) at.i (at.i + 1) (omega arith) e (lt-ltb _ ar.n (omega (arith, c.from.ensures)))

pub returns-then-n-from : goal.returns-then-n-from
unfolding root_at
returns-then-n-from c =
    let at = c.loop-i in
    let ar = c.args in
    sym (present_all ar.n ar.roots.now ∙ at.invariant ∙ all_no (λ (x : Root). ltb x.line ar.n) ar.roots.now.count (root_at ar.roots.now) at.i (omega arith) (le-ltb _ ar.n (omega (arith, c.from.ensures))))

pub returns : goal.returns
unfolding root_at
returns c =
    let at = c.loop-i in
    let ar = c.args in
    sym (present_all ar.n ar.roots.now ∙ at.invariant ∙ all_end (λ (x : Root). ltb x.line ar.n) ar.roots.now.count (root_at ar.roots.now) at.i (omega arith))
