use mathlib.Core.Path.{◌∙◌}
use Rattle.tables.specs.View.{net_view, estimate_view}
use Rattle.report.proofs.Nowhere.{sent_none, sent_some}
use Rattle.report.proofs.body_within.Goals as goal

pub returns-then-set-eq0 : goal.returns-then-set-eq0
returns-then-set-eq0 c = sent_none (net_view c.args.net.now) (estimate_view c.args.estimate.now) _ _ _ c.if-set-eq0.true

pub returns : goal.returns
returns c = c.is_empty.ensures ∙ sent_some (net_view c.args.net.now) (estimate_view c.args.estimate.now) _ _ c.args.set c.ranges.set.fits c.if-set-eq0.false (c.use_map-uses.ensures) (c.less_sure.ensures)
