use mathlib.Core.Path.{sym, ◌∙◌}
use Rattle.counts.proofs.Size.{size_bits}
use Rattle.counts.proofs.size_of.Goals as goal

pub returns : goal.returns
returns c = c.from.ensures ∙ sym (size_bits c.args.rights)
