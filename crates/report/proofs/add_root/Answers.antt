use Rattle.tables.specs.View.{root_view, net_view, estimate_view}
use Rattle.report.proofs.Whole.{add_root_row}
use Rattle.report.proofs.add_root.Goals as goal

pub returns : goal.returns
returns c =
    let s = c.args in
    add_root_row (net_view s.net.now) (estimate_view s.estimate.now) s.bytes.now (root_view s.root) c.single-places.ensures c.use_map-uses.ensures c.less_home.ensures c.add_uses.ensures
