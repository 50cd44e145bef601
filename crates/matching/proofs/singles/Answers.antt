use borrow.Author.Rules.{rules}
use mathlib.Core.Path.{sym, ap, ◌∙◌}
use mathlib.Core.List.{◌∷◌, map}
use Prim.Native.Nat.{◌^◌}
use native.Mathlib.Omega.{arith}
use native.Mathlib.Numerals.{add-one}
use lib.Dec.{ltb}
use lib.ListN.{length, take}
use Rattle.sets.specs.Lists.{all}
use Rattle.sets.proofs.Lists.{all_All, and_r, ltb_lt}
use Rattle.klaim.specs.Fields.{items}
use Rattle.klaim.specs.Invariant.{all_below}
use Rattle.tables.specs.View.{tuple_view}
use Rattle.matching.proofs.Index.{row_low}
use Rattle.matching.proofs.singles.Goals as goal

pub single-requires : goal.single-requires
single-requires c = row_low (tuple_view c.args.tuple.now) 0 c.requires (omega arith)

pub sets_of-requires : goal.sets_of-requires
unfolding all_below all
sets_of-requires c = (omega arith, all_All (λ v. ltb v 32) (λ v t. let l = ltb_lt v 32 t in search rules) (and_r _ _ c.requires))

pub returns : goal.returns
returns c =
    let fs = items c.args.tuple.now.fields in
    ap (λ n. take n c.sets_of.result) (sym (add-one (length fs)))
    ∙ c.sets_of.ensures (λ v. 2 ^ v) (λ x y e. search rules)
    ∙ ap (λ v. v ∷ map (λ v. 2 ^ v) fs) c.single.ensures
