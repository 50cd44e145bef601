use mathlib.Core.Path.{◌≡◌, ap, ◌∙◌}
use mathlib.Core.List.{map}
use borrow.Author.Rules.{rules}
use Prim.Native.Nat.{ℕ, min}
use native.Mathlib.Omega.{arith}
use lib.ListN.{length, take, drop}
use Rattle.sets.specs.Lists.{product}
use Rattle.sets.specs.Bits.{sites}
use Rattle.matching.proofs.Laws.{product_end, product_down}
use Rattle.matching.proofs.choices.Goals as goal

pub loop-j-init : goal.loop-j-init
loop-j-init c = let five : length c.args.reaches ≡ 5 = search rules in product_end _ _ c.requires five

pub times-p-requires : goal.times-p-requires
times-p-requires c = (c.count_sites.ensures.1, omega (arith, c.loop-j.invariant))

pub loop-j-preserved : goal.loop-j-preserved
loop-j-preserved c =
    let five : length c.args.reaches ≡ 5 = search rules in
    rw (c.times-p.ensures, c.count_sites.ensures.0, c.loop-j.invariant) (product_down c.args.reaches c.args.m c.loop-j.j c.requires five (omega arith) (omega arith))

pub returns : goal.returns
returns c =
    let ar = c.args in
    let e : c.loop-j.j ≡ 0 = omega arith in
    c.loop-j.invariant ∙ ap (λ (j : ℕ). min (product (drop j (map sites (take ar.m ar.reaches)))) 257) e
