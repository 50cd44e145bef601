use mathlib.Core.Path.{sym, ap, ◌∙◌}
use mathlib.Core.Bool.{Bool}
use lib.Dec.{ltb}
use Rattle.std.proofs.Common.{rules, tests}
use Rattle.std.proofs.lemmas.Iterator.{YieldsList-from_slice}
use Rattle.std.proofs.lemmas.Iterator.Search.{all_from_yields_List}
use Rattle.sets.specs.Lists.{all}
use Rattle.judge.proofs.Tests.{all_list, all_concat}
use Rattle.judge.proofs.low_sites_of.Goals as goal

pub returns : goal.returns
returns g c =
    let p : g.row.T.Denot → Bool = λ f. all (λ s. ltb s c.args.n) (g.T.Numbered.sites f) in
    all_from_yields_List p _ _ _ c.all.ensures.ran (YieldsList-from_slice c.as_slice.result.now cc) (λ x b q k. search (rules, tests))
    ∙ all_list p c.as_slice.result.now
    ∙ ap (all p) c.as_slice.ensures.value
    ∙ sym (all_concat (λ s. ltb s c.args.n) g.T.Numbered.sites _)
