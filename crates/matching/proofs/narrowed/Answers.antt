use mathlib.Core.Path.{◌≡◌, sym, ap, ◌∙◌}
use mathlib.Core.Bool.{Bool}
use Prim.Native.Nat.{ℕ, ◌+◌, ◌-◌}
use native.Mathlib.Omega.{arith}
use lib.ListN.{length, get_or, drop}
use Rattle.sets.specs.Lists.{◌&◌, fits}
use Rattle.sets.specs.Bits.{mem}
use Rattle.sets.proofs.Lists.{and_l}
use Rattle.tables.specs.View.{row_at}
use Rattle.matching.specs.Index.{in_column, in_rows}
use Rattle.matching.proofs.Laws.{Sets}
use Rattle.matching.proofs.Index.{key_low, narrow_end, narrow_down}
use borrow.Author.Rules.{rules}
use Rattle.matching.proofs.narrowed.Goals as goal

pub loop-j-init : goal.loop-j-init
loop-j-init c =
    let five : length c.args.reaches ≡ 5 = search rules in
    λ rows I L F i h. narrow_end c.args.reaches rows c.args.m i five c.requires L (in_rows c.args.had.words i) (F i h)

pub loop-j-preserved : goal.loop-j-preserved
loop-j-preserved c =
    let at = c.loop-j in
    let five : length c.args.reaches ≡ 5 = search rules in
    λ rows I L F i h.
    let had = in_rows c.args.had.words i in
    let e = at.invariant rows I L F i h in
    c.kept-r.ensures rows I i h (key_low (row_at rows i) (at.j - 1)) (λ t. (F i h (and_l had _ (sym e ∙ t))).0)
    ∙ ap (λ (b : Bool). b & mem (in_column (row_at rows i) (at.j - 1 + 1)) (get_or c.args.reaches (at.j - 1) 0)) e
    ∙ narrow_down c.args.reaches rows c.args.m i five c.requires L at.j (omega arith) (omega arith) had (F i h)

pub returns : goal.returns
returns c =
    let at = c.loop-j in
    let sets = Sets c.args.reaches c.args.m in
    let e : at.j ≡ 0 = omega arith in
    λ rows I L F i h.
    at.invariant rows I L F i h ∙ ap (λ (k : ℕ). in_rows c.args.had.words i & fits (drop k sets) (drop k (row_at rows i))) e
