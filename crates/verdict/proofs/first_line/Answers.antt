use mathlib.Core.Path.{◌≡◌, refl, ap, ap₂, ◌∙◌}
use mathlib.Core.List.{List}
use Prim.Native.Nat.{ℕ, ◌^◌}
use native.Mathlib.Omega.{arith}
use lib.ListN.{get_or}
use Rattle.sets.specs.Lists.{concat, table, table_from}
use Rattle.klaim.specs.Process.{tree}
use Rattle.klaim.specs.Net.{Root}
use Rattle.klaim.specs.Analysis.{broken, least, place_set, process}
use Rattle.tables.specs.View.{no_root, root_at, roots_of, net_view, estimate_view}
use Rattle.broken.specs.Lesser.{lesser_of}
use Rattle.report.proofs.Whole.{roots_long, root_read, root_fits}
use Rattle.verdict.proofs.Laws.{least_more}
use Rattle.verdict.proofs.first_line.Goals as goal

pub loop-root-init : goal.loop-root-init
unfolding least concat table table_from
loop-root-init c = λ z. refl

pub single-places-requires : goal.single-places-requires
single-places-requires c = (root_fits c.args.net.now.roots c.as_slice-root-items.ensures c.requires c.loop-root.root-index c.loop-root-test.true).0

pub first_broken-here-requires : goal.first_broken-here-requires
first_broken-here-requires c = (root_fits c.args.net.now.roots c.as_slice-root-items.ensures c.requires c.loop-root.root-index c.loop-root-test.true).1

pub loop-root-preserved : goal.loop-root-preserved
unfolding place_set
loop-root-preserved c =
    let at = c.loop-root in
    let rs = c.args.net.now.roots in
    let N = net_view c.args.net.now in
    let E = estimate_view c.args.estimate.now in
    let F : Root → List ℕ = λ x. broken N E (2 ^ x.site) (tree N.lines x.line) in
    let q = (get_or c.as_slice-root-items.result.now at.root-index no_root).line in
    λ z.
    let here = c.first_broken-here.ensures z ∙ ap (λ (P : ℕ). least (broken N E P (tree N.lines q))) c.single-places.ensures in
    let root = root_read rs c.as_slice-root-items.ensures at.root-index c.loop-root-test.true in
    c.lesser-first.ensures ∙ ap₂ lesser_of (at.invariant z) here ∙ least_more F at.root-index (root_at rs) root

pub returns : goal.returns
unfolding roots_of
returns c =
    let rs = c.args.net.now.roots in
    let N = net_view c.args.net.now in
    let E = estimate_view c.args.estimate.now in
    let e : c.loop-root.root-index ≡ rs.count = omega (arith, roots_long rs c.as_slice-root-items.ensures) in
    λ z. c.loop-root.invariant z ∙ ap (λ (k : ℕ). least (concat (λ x. broken N E (place_set x.site) (process N x)) (table k (root_at rs)))) e
