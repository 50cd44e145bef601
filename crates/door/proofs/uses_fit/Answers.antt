use Rattle.klaim.specs.Process.{tree}
use Rattle.tables.specs.View.{lines_of, net_view, estimate_view}
use Rattle.door.proofs.Laws.{uses_tests}
use Rattle.door.proofs.uses_fit.Goals as goal

pub returns : goal.returns
returns c = uses_tests (net_view c.args.net.now) (estimate_view c.args.estimate.now) c.args.d c.args.l (tree (lines_of c.args.lines.now) c.args.q) c.single-places.ensures c.use_map-uses.ensures c.uses_within.ensures
