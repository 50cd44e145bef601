use borrow.Author.Rules.{rules}
use mathlib.Core.Path.{ap, ◌∙◌}
use Prim.Native.Nat.{◌+◌}
use native.Mathlib.Omega.{arith}
use lib.ListN.{length, take}
use Rattle.sets.proofs.Lists.{All-turn}
use Rattle.klaim.specs.Fields.{items}
use Rattle.klaim.specs.Analysis.{reach}
use Rattle.tables.specs.View.{estimate_view}
use Rattle.rules.proofs.Sets.{out_law}
use Rattle.rules.proofs.out_rule.Goals as goal

pub sets_of-sets-requires : goal.sets_of-sets-requires
sets_of-sets-requires c = (omega arith, All-turn (λ x l. search rules) c.requires.1)

pub returns : goal.returns
returns c =
    let E = estimate_view c.args.estimate.now in
    let P = c.args.places in
    let long = ap (λ xs. take (length xs + 1) c.sets_of-sets.result) c.as_slice.ensures.value in
    λ w.
    c.every_choice.ensures w.rows w.made w.sized.low w.sized.alone
    ∙ out_law E P c.args.target (items c.args.fields.now) _ _ w.stand c.reach-first.ensures (long ∙ c.sets_of-sets.ensures (reach E P) (λ x y e. search rules))
