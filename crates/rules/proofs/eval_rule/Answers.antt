use borrow.Author.Rules.{rules}
use mathlib.Core.Path.{◌∙◌}
use lib.ListN.{get_or}
use Rattle.sets.specs.Lists.{imp, all, below}
use Rattle.sets.specs.Bits.{mem, within}
use Rattle.sets.proofs.Ranges.{all_below}
use Rattle.klaim.specs.Net.{holds}
use Rattle.tables.specs.View.{net_view, estimate_view}
use Rattle.rules.proofs.Laws.{all_sites, eval_rule_at}
use Rattle.rules.proofs.eval_rule.Goals as goal

pub returns : goal.returns
returns c =
    let E = estimate_view c.args.estimate.now in
    let need = c.of_box-need.result.rights in
    λ P g e. all_below (λ l. imp (mem l c.args.set) (all (λ t. within (get_or need t 0) (holds E l t)) (below 32))) 32 _ _ _ c.all.ensures.ran (λ x b q k. search rules)
    ∙ all_sites (λ l. all (λ t. within (get_or need t 0) (holds E l t)) (below 32)) c.args.set
    ∙ eval_rule_at (net_view c.args.net.now) E P g c.args.k c.args.set need c.of_box-need.ensures e
