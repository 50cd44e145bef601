use mathlib.Core.Path.{ap, ◌∙◌}
use mathlib.Core.List.{List}
use Prim.Native.Nat.{ℕ}
use lib.ListN.{get_or}
use Rattle.sets.specs.Lists.{sum, below}
use Rattle.sets.specs.Bits.{meet, size}
use Rattle.klaim.specs.Net.{home}
use Rattle.tables.specs.View.{net_view, world_of}
use Rattle.counts.proofs.Bounds.{used_table}
use Rattle.usable.proofs.used_at.Goals as goal

pub returns : goal.returns
returns c =
    let s = c.args.s in
    c.used_count.ensures ∙ ap (λ (u : List ℕ). sum (λ t. size (meet (home (net_view c.args.net.now) s t) (get_or u t 0))) (below 32)) c.usable_at.ensures ∙ used_table (world_of c.args.net.now c.args.estimate.now) s
