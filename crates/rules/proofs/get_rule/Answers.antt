use borrow.Author.Rules.{rules}
use mathlib.Core.Path.{ap, ◌∙◌}
use mathlib.Core.List.{List}
use Prim.Native.Nat.{ℕ, ◌+◌}
use native.Mathlib.Omega.{arith}
use lib.ListN.{length, take}
use Rattle.sets.proofs.Lists.{All-turn}
use Rattle.klaim.specs.Fields.{items}
use Rattle.tables.specs.View.{estimate_view}
use Rattle.rules.specs.Masks.{wanted, allowed}
use Rattle.rules.proofs.Sets.{get_law}
use Rattle.rules.proofs.get_rule.Goals as goal

pub sets_of-want-requires : goal.sets_of-want-requires
sets_of-want-requires c = (omega arith, All-turn (λ x l. search rules) c.requires.1)

pub sets_of-allow-requires : goal.sets_of-allow-requires
sets_of-allow-requires c = (omega arith, All-turn (λ x l. search rules) c.requires.1)

pub returns : goal.returns
returns c =
    let E = estimate_view c.args.estimate.now in
    let P = c.args.places in
    let long = λ (ms : List ℕ). ap (λ xs. take (length xs + 1) ms) c.as_slice.ensures.value in
    λ w.
    let want = long _ ∙ c.sets_of-want.ensures (wanted E P) (λ x y e. search rules) in
    let allow = long _ ∙ c.sets_of-allow.ensures (allowed E) (λ x y e. search rules) in
    c.every_bound.ensures w.rows w.made w.sized.low
    ∙ get_law E P c.args.target (items c.args.fields.now) _ _ _ w.stand w.sized.low c.reach-first.ensures want allow
