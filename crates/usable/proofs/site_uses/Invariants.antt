use mathlib.Core.Path.{◌≡◌}
use Prim.Native.Nat.{ℕ}
use lib.Dec.{eqb}
use Rattle.sets.specs.Lists.{table}
use Rattle.sets.specs.Bits.{grant, joins}
use Rattle.klaim.specs.Net.{Root, Net, Estimate}
use Rattle.klaim.specs.Analysis.{place_set, process}
use Rattle.klaim.specs.Report.{uses}
use Rattle.tables.specs.View.{root_at, net_view, estimate_view}
use Rattle.usable.proofs.site_uses.Given as goal

-- what a root at site s uses on t
abbrev pub part : Net → Estimate → ℕ → ℕ → Root → ℕ
part N E s t x = grant (eqb x.site s) (uses N E (place_set s) (process N x) t)

abbrev pub invariant-loop-root : goal.invariant-loop-root
invariant-loop-root l =
    l.joined.rights ≡ table 32 (λ t. joins (part (net_view l.net) (estimate_view l.estimate) l.s t) (table l.root-index (root_at l.net.roots)))
