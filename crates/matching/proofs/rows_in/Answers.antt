use borrow.Author.Rules.{rules}
use mathlib.Core.Path.{ap₂, ◌∙◌}
use Prim.Native.Nat.{◌<◌}
use native.Mathlib.Omega.{arith}
use Rattle.sets.specs.Lists.{either}
use Rattle.tables.specs.View.{row_at}
use Rattle.matching.specs.Index.{in_column}
use Rattle.matching.proofs.Index.{no_rows, turn_none, turn, turn_end, next_low, rest_less, rest_within}
use Rattle.matching.proofs.rows_in.Goals as goal

pub loop-rest-init : goal.loop-rest-init
loop-rest-init c =
    let low : c.args.set < 4294967296 = search rules in
    (low, λ u t. t, λ rows I i h. no_rows i ∙ turn_none rows.count (in_column (row_at rows i) c.args.c) i c.args.set)

pub overflow_cast-v : goal.overflow_cast-v
overflow_cast-v c =
    let at = c.loop-rest in
    let low = next_low c.args.set at.rest c.loop-rest-test.true at.invariant.0 at.invariant.1 in search rules

pub rows_with-requires : goal.rows_with-requires
rows_with-requires c =
    let at = c.loop-rest in
    (c.requires, next_low c.args.set at.rest c.loop-rest-test.true at.invariant.0 at.invariant.1)

pub loop-rest-smaller : goal.loop-rest-smaller
loop-rest-smaller c =
    let at = c.loop-rest in
    rest_less c.args.set at.rest c.loop-rest-test.true at.invariant.0 at.invariant.1

pub loop-rest-preserved : goal.loop-rest-preserved
loop-rest-preserved c =
    let at = c.loop-rest in
    let some = c.loop-rest-test.true in
    let least = next_low c.args.set at.rest some at.invariant.0 at.invariant.1 in
    let less = rest_less c.args.set at.rest some at.invariant.0 at.invariant.1 in (
      omega (arith, less, at.invariant.0),
      rest_within c.args.set at.rest some at.invariant.0 at.invariant.1,
      λ rows I i h.
          c.in_either-r.ensures i h
          ∙ ap₂ either (at.invariant.2 rows I i h) (c.rows_with.ensures i h ∙ I c.args.c _ i c.requires least h)
          ∙ turn c.args.set at.rest some at.invariant.0 at.invariant.1 rows.count (in_column (row_at rows i) c.args.c) i,
    )

pub returns : goal.returns
returns c =
    let at = c.loop-rest in
    λ rows I i h. at.invariant.2 rows I i h ∙ turn_end c.args.set at.rest c.loop-rest-test.false rows.count (in_column (row_at rows i) c.args.c) i
