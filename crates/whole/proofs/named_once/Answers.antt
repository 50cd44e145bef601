use mathlib.Core.Path.{◌∙◌}
use Rattle.whole.proofs.Counts.{once_by}
use Rattle.whole.proofs.named_once.Goals as goal

pub returns : goal.returns
returns c = c.all_one.ensures ∙ once_by c.args.lines.now _ (c.named_lines.ensures _ c.named_roots-counts.ensures)
