use mathlib.Core.Path.{◌≡◌, ◌∙◌}
use native.Mathlib.Omega.{arith}
use Rattle.tables.specs.View.{roots_of, net_view, estimate_view}
use Rattle.report.proofs.Whole.{roots_long, root_read, root_fits, far_none, far_more, far_all}
use Rattle.report.proofs.report.Goals as goal

pub loop-root-init : goal.loop-root-init
loop-root-init c = far_none (net_view c.args.net.now) (estimate_view c.args.estimate.now) c.args.net.now.roots c.put_holds.ensures

pub add_root-requires : goal.add_root-requires
add_root-requires c =
    let k = root_fits c.args.net.now.roots c.as_slice-root-items.ensures c.requires c.loop-root.root-index c.loop-root-test.true in
    record { site_bound = k.0; in_form = k.1 }

pub single-places-requires : goal.single-places-requires
single-places-requires c = (root_fits c.args.net.now.roots c.as_slice-root-items.ensures c.requires c.loop-root.root-index c.loop-root-test.true).0

pub add_evals-requires : goal.add_evals-requires
add_evals-requires c = (root_fits c.args.net.now.roots c.as_slice-root-items.ensures c.requires c.loop-root.root-index c.loop-root-test.true).1

pub loop-root-preserved : goal.loop-root-preserved
loop-root-preserved c =
    let rs = c.args.net.now.roots in
    let i = c.loop-root.root-index in
    let root = root_read rs c.as_slice-root-items.ensures i c.loop-root-test.true in
    far_more (net_view c.args.net.now) (estimate_view c.args.estimate.now) rs i _ root c.single-places.ensures c.loop-root.invariant c.add_root.ensures c.add_evals.ensures

pub returns : goal.returns
unfolding roots_of
returns c =
    let N = c.args.net.now in
    let e : c.loop-root.root-index ≡ N.roots.count = omega (arith, roots_long N.roots c.as_slice-root-items.ensures) in
    c.loop-root.invariant ∙ rw e (far_all (net_view N) (estimate_view c.args.estimate.now))
