use mathlib.Core.Path.{◌∙◌}
use Rattle.tables.specs.View.{world_of}
use Rattle.usable.proofs.Laws.{usable_table}
use Rattle.usable.proofs.usable_at.Goals as goal

pub returns : goal.returns
returns c = c.with_holds.ensures ∙ usable_table (world_of c.args.net.now c.args.estimate.now) c.args.s c.site_uses-uses.ensures
