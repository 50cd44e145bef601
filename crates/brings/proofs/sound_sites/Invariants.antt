use Rattle.klaim.specs.Process.{tree}
use Rattle.tables.specs.View.{lines_of, net_view, estimate_view}
use Rattle.door.specs.Parts.{sound}
use Rattle.brings.proofs.Laws.{Sites}
use Rattle.brings.proofs.sound_sites.Given as goal

abbrev pub invariant-loop-l : goal.invariant-loop-l
invariant-loop-l l = Sites (λ s. sound (net_view l.net) (estimate_view l.estimate) s (tree (lines_of l.lines) l.q)) l.l l.sites
