use mathlib.Core.Path.{◌≡◌, refl, ap, subst, ◌∙◌}
use mathlib.Core.List.{List, ◌∷◌, map}
use Prim.Native.Nat.{ℕ, ◌+◌, ◌<◌}
use lib.ListN.{length, get_or, take, length-set}
use lib.Seq.{take_all}
use native.Mathlib.Omega.{arith}
use Rattle.klaim.specs.Fields.{items}
use Rattle.matching.proofs.Laws.{all_nth, sets_more}
use Rattle.matching.proofs.sets_of.Goals as goal

pub loop-j-init : goal.loop-j-init
loop-j-init g c = (refl, λ f h. refl)

pub set-requires : goal.set-requires
set-requires g c =
    let e = c.as_slice-x-items.ensures.value in
    let read = c.x-item.is ∙ ap (λ (xs : List g.row.T.Denot). get_or xs c.loop-j.j c.x-item.result) e in
    all_nth c.requires c.loop-j.j (omega (arith, ap length e, c.loop-j-test.true)) read

pub loop-j-preserved : goal.loop-j-preserved
loop-j-preserved g c =
    let slice = c.as_slice-x-items.ensures in
    let at = c.loop-j in
    let read = c.x-item.is ∙ ap (λ (xs : List g.row.T.Denot). get_or xs at.j c.x-item.result) slice.value in
    let xs = items c.args.fields.now in
    let few : at.j < 4 = omega (arith, slice.few, c.loop-j-test.true) in
    let here : at.j < length xs = omega (arith, ap length slice.value, c.loop-j-test.true) in
    (length-set _ _ _ ∙ at.invariant.0, λ f h. sets_more f c.args.first xs at.sets at.j _ at.invariant.0 few here read (at.invariant.1 f h) (h _ _ c.set.ensures))

pub returns : goal.returns
returns g c =
    let xs = items c.args.fields.now in
    let end : c.loop-j.j ≡ length xs = omega (arith, ap length c.as_slice-x-items.ensures.value) in
    λ f h.
    subst (λ (n : ℕ). take (n + 1) c.loop-j.sets ≡ c.args.first ∷ map f (take n xs)) end (c.loop-j.invariant.1 f h)
    ∙ ap (λ l. c.args.first ∷ map f l) (take_all (length xs) xs (omega arith))
