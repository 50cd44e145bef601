use mathlib.Core.Path.{◌≡◌}
use Rattle.sets.specs.Lists.{concat, table}
use Rattle.sets.specs.Options.{option_of}
use Rattle.klaim.specs.Analysis.{broken, least, place_set, process}
use Rattle.tables.specs.View.{root_at, net_view, estimate_view}
use Rattle.rules.specs.Masks.{IndexOf}
use Rattle.verdict.proofs.first_line.Given as goal

abbrev pub invariant-loop-root : goal.invariant-loop-root
invariant-loop-root l =
    let N = net_view l.net in
    let E = estimate_view l.estimate in
    IndexOf E l.index.sets → option_of (λ q. q) l.first ≡ least (concat (λ x. broken N E (place_set x.site) (process N x)) (table l.root-index (root_at l.net.roots)))
