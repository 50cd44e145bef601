use mathlib.Core.Path.{refl, ap₂, ◌∙◌}
use Rattle.klaim.specs.Analysis.{verdict_of, verdict, broken_tuple, broken_line}
use Rattle.tables.specs.View.{estimate_view}
use Rattle.rules.specs.Masks.{IndexOf}
use Rattle.verdict.proofs.judge.Goals as goal

pub returns : goal.returns
unfolding verdict broken_tuple broken_line
returns c =
    let E = c.args.estimate.now in
    let w : IndexOf (estimate_view E) c.of-index.result.sets = record { rows = E.stand; stand = refl; sized = c.requires.sized; made = c.of-index.ensures } in
    c.decide.ensures ∙ ap₂ verdict_of (c.first_missing-tuple.ensures _ w) (c.first_line-line.ensures w)
