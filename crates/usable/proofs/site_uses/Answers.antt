use mathlib.Core.Path.{◌≡◌, sym, ap, ◌∙◌}
use Prim.Native.Nat.{ℕ}
use native.Mathlib.Omega.{arith}
use Rattle.sets.specs.Lists.{table, table_from}
use Rattle.sets.specs.Bits.{joins}
use Rattle.sets.proofs.Tables.{same_table}
use Rattle.sets.proofs.Joins.{joins_last}
use Rattle.klaim.specs.Net.{Root}
use Rattle.tables.specs.View.{root_at, roots_of, net_view, estimate_view}
use Rattle.flow.proofs.Laws.{join_tables}
use Rattle.report.proofs.Whole.{roots_long, root_read, root_fits}
use Rattle.usable.proofs.site_uses.Invariants.{part}
use Rattle.usable.proofs.site_uses.Goals as goal

pub loop-root-init : goal.loop-root-init
unfolding joins table table_from
loop-root-init c = c.empty-joined.ensures

pub root_uses-requires : goal.root_uses-requires
root_uses-requires c =
    let k = root_fits c.args.net.now.roots c.as_slice-root-items.ensures c.requires.0 c.loop-root.root-index c.loop-root-test.true in
    (k.1, c.requires.1)

pub loop-root-preserved : goal.loop-root-preserved
loop-root-preserved c =
    let at = c.loop-root in
    let rs = c.args.net.now.roots in
    let N = net_view c.args.net.now in
    let E = estimate_view c.args.estimate.now in
    let root = root_read rs c.as_slice-root-items.ensures at.root-index c.loop-root-test.true in
    let here = c.root_uses.ensures ∙ ap (λ (r : Root). table 32 (λ t. part N E c.args.s t r)) root in
    c.join-joined.ensures
    ∙ join_tables _ _ at.invariant here
    ∙ same_table 32 _ _ 0 (λ t h. sym (joins_last (part N E c.args.s t) (root_at rs) at.root-index))

pub returns : goal.returns
unfolding roots_of
returns c =
    let rs = c.args.net.now.roots in
    let N = net_view c.args.net.now in
    let E = estimate_view c.args.estimate.now in
    let e : c.loop-root.root-index ≡ rs.count = omega (arith, roots_long rs c.as_slice-root-items.ensures) in
    c.loop-root.invariant ∙ ap (λ (k : ℕ). table 32 (λ t. joins (part N E c.args.s t) (table k (root_at rs)))) e
