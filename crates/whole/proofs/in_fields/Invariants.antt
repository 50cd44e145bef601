use mathlib.Core.Path.{◌≡◌}
use lib.ListN.{take}
use Rattle.sets.specs.Lists.{concat}
use Rattle.klaim.specs.Process.{used_in, bound_in}
use Rattle.whole.specs.Free.{mask_of}
use Rattle.whole.proofs.in_fields.Given as goal

abbrev pub invariant-loop-field : goal.invariant-loop-field
invariant-loop-field l = (l.sets.used ≡ mask_of (concat used_in (take l.field-index l.fields))) × (l.sets.bound ≡ mask_of (concat bound_in (take l.field-index l.fields)))
