use mathlib.Core.Path.{◌≡◌, ap, subst}
use borrow.Author.Rules.{rules}
use Prim.Native.Nat.{ℕ, ◌+◌, ◌*◌, ◌/◌, ◌%◌, ◌<◌}
use native.Mathlib.Omega.{arith}
use lib.ListN.{length}
use Rattle.tables.specs.View.{tuple_view}
use Rattle.matching.proofs.Index.{entered_none, entered_more, bit_one}
use Rattle.matching.proofs.RowIndex.enter.Goals as goal

pub loop-c-init : goal.loop-c-init
loop-c-init c = (bit_one (c.args.i % 64) (omega arith), entered_none _ _ _)

pub loop-c-preserved : goal.loop-c-preserved
loop-c-preserved c =
    let at = c.loop-c in
    let row = tuple_view c.args.row.now in
    let long : length c.args.self.now.sets ≡ 768 = search rules in
    let key = c.key.ensures in
    let low = subst (λ (x : ℕ). x < 32) key.0 key.1 in
    let cell = ap (λ (x : ℕ). 128 * at.c + 4 * x + c.args.i / 64) key.0 in
    (at.invariant.0, entered_more row c.args.i at.c _ _ c.args.self.now.sets at.self.sets c.requires cell low (omega arith) at.invariant.0 long at.invariant.1)
