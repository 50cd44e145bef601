use Rattle.sets.specs.Lists.{fits}
use mathlib.Core.Path.{◌∙◌}
use Prim.Native.Nat.{◌≤◌}
use native.Mathlib.Omega.{arith}
use lib.ListN.{length}
use Rattle.sets.proofs.Tables.{length_table}
use Rattle.tables.specs.View.{row_at, tuples_of}
use Rattle.matching.proofs.Laws.{Sets, count_rule}
use Rattle.matching.proofs.Index.{many_rule, rows_count}
use Rattle.matching.proofs.every_choice.Goals as goal

pub returns-then-need-ge-MANY : goal.returns-then-need-ge-MANY
unfolding tuples_of
returns-then-need-ge-MANY c =
    λ rows I L d.
    let few : length (tuples_of rows) ≤ 256 = omega (arith, length_table rows.count (row_at rows), rows.few) in
    many_rule c.args.reaches c.args.m (tuples_of rows) _ d few c.choices-need.ensures c.if-need-ge-MANY.true

pub returns : goal.returns
unfolding tuples_of
returns c =
    let sets = Sets c.args.reaches c.args.m in
    let had = c.chosen in
    let counted = c.count_rows-have.ensures in
    λ rows I L d.
    let have = counted.0 ∙ rows_count had.result.words rows.count (fits sets) (row_at rows) rows.few (had.ensures rows I L) in
    count_rule c.args.reaches c.args.m (tuples_of rows) _ _ d have counted.1 c.choices-need.ensures
