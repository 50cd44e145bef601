use mathlib.Core.Path.{ap, ◌∙◌}
use Rattle.tables.specs.View.{net_view, estimate_view}
use Rattle.rules.specs.Own.{own_rule}
use Rattle.rules.proofs.own_rule.Goals as goal

pub action_rule-requires : goal.action_rule-requires
action_rule-requires c = c.action.ensures.low

pub returns : goal.returns
returns c = λ w. c.action_rule.ensures w ∙ ap (own_rule (net_view c.args.net.now) (estimate_view c.args.estimate.now) c.args.places) c.action.ensures.line
