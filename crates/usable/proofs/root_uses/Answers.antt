use mathlib.Core.Path.{◌∙◌}
use Rattle.tables.specs.View.{root_view, net_view, estimate_view}
use Rattle.usable.proofs.Laws.{root_here, root_away}
use Rattle.usable.proofs.root_uses.Goals as goal

pub returns-then-root-s : goal.returns-then-root-s
returns-then-root-s c =
    let ar = c.args in
    c.use_map.ensures ∙ root_here (net_view ar.net.now) (estimate_view ar.estimate.now) (root_view ar.root) ar.s c.single-places.ensures c.if-root-s.true

pub returns : goal.returns
returns c =
    let ar = c.args in
    c.empty.ensures ∙ root_away (net_view ar.net.now) (estimate_view ar.estimate.now) (root_view ar.root) ar.s c.if-root-s.false
