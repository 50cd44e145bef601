use mathlib.Core.Path.{◌∙◌}
use Rattle.counts.proofs.Bounds.{home_every}
use Rattle.tables.specs.View.{net_view}
use Rattle.counts.proofs.home_count.Goals as goal

pub returns : goal.returns
returns c = c.used_count.ensures ∙ home_every (net_view c.args.net.now) c.args.s
