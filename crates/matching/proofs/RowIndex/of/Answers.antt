use mathlib.Core.Path.{◌≡◌, refl, subst}
use mathlib.Core.List.{List}
use Prim.Native.Nat.{ℕ, ◌+◌}
use native.Mathlib.Omega.{arith}
use Rattle.matching.specs.Index.{Entered, IndexedTo}
use Rattle.matching.proofs.Laws.{rows_long, row_read}
use Rattle.matching.proofs.Index.{indexed_none, indexed_more}
use Rattle.matching.proofs.RowIndex.of.Goals as goal

pub loop-i-init : goal.loop-i-init
loop-i-init c = indexed_none c.args.rows.now

pub loop-i-preserved : goal.loop-i-preserved
loop-i-preserved c =
    let t = c.args.rows.now in
    let i = c.loop-i.i in
    let row = row_read t c.as_slice-row-items.ensures i _ c.loop-i-test.true in
    let entered = subst (λ (row : List ℕ). Entered row i 6 c.loop-i.index.sets c.enter.new.self.sets) row c.enter.ensures in
    indexed_more t c.loop-i.index.sets _ i (i + 1) refl c.loop-i.invariant entered

pub returns : goal.returns
returns c =
    let t = c.args.rows.now in
    let e : c.loop-i.i ≡ t.count = omega (arith, rows_long t c.as_slice-row-items.ensures) in
    subst (λ (n : ℕ). IndexedTo t n c.loop-i.index.sets) e c.loop-i.invariant
