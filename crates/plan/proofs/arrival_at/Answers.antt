use mathlib.Core.Path.{◌∙◌}
use Rattle.std.proofs.Common.{rules, tests}
use Rattle.std.proofs.lemmas.Iterator.{YieldsList-from_slice, IsFirst-from_position}
use Rattle.tables.specs.Entries.{entries}
use Rattle.plan.proofs.Laws.{Named, Other, placed}
use Rattle.plan.proofs.arrival_at.Goals as goal

pub returns : goal.returns
returns c =
    let t = c.args.arrivals.now in
    let r = c.args.r in
    let road = YieldsList-from_slice (entries t) (c.iter.ensures.rest ∙ c.as_slice.ensures) in
    placed t r c.position.result
    (IsFirst-from_position c.position.new.self _ c.position.result (Named r) (Other r) c.position.ensures.ran road (λ x q k. search (rules, tests)) (λ x q k. search (rules, tests)))
