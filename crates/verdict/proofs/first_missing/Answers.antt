use mathlib.Core.Path.{◌≡◌, sym, ap, ◌∙◌}
use mathlib.Core.Bool.{true}
use native.Mathlib.Omega.{arith}
use borrow.Author.Count.{below_more}
use Rattle.sets.proofs.Tables.{table_all}
use Rattle.klaim.specs.Invariant.{all_below}
use Rattle.klaim.specs.Analysis.{stands}
use Rattle.tables.specs.View.{row_at, tuples_of}
use Rattle.matching.proofs.Laws.{rows_long, row_read}
use Rattle.verdict.proofs.Laws.{table_at, table_none, row_stands}
use Rattle.verdict.proofs.first_missing.Goals as goal

pub has_row-requires : goal.has_row-requires
unfolding tuples_of
has_row-requires c =
    let ts = c.args.tuples.now in
    let i = c.loop-i.i in
    let e = c.as_slice-tuple-items.ensures in
    ap (all_below 32) (row_read ts e i _ c.loop-i-test.true) ∙ table_all (all_below 32) ts.count (row_at ts) c.requires i (omega (arith, rows_long ts e))

pub loop-i-preserved : goal.loop-i-preserved
loop-i-preserved c =
    let ts = c.args.tuples.now in
    let i = c.loop-i.i in
    let row = row_read ts c.as_slice-tuple-items.ensures i _ c.loop-i-test.true in
    λ E w.
    below_more (λ k. stands E (row_at ts k) ≡ true) i (c.loop-i.invariant E w)
    (ap (stands E) (sym row) ∙ sym (row_stands w _ (c.has_row.ensures w.rows w.made w.sized.low)) ∙ c.if-not-has_row.false)

pub returns-then-not-has_row : goal.returns-then-not-has_row
unfolding tuples_of
returns-then-not-has_row c =
    let ts = c.args.tuples.now in
    let i = c.loop-i.i in
    let e = c.as_slice-tuple-items.ensures in
    let row = row_read ts e i _ c.loop-i-test.true in
    λ E w.
    table_at (stands E) ts.count (row_at ts) i (c.loop-i.invariant E w) (omega (arith, rows_long ts e))
    (ap (stands E) (sym row) ∙ sym (row_stands w _ (c.has_row.ensures w.rows w.made w.sized.low)) ∙ c.if-not-has_row.true)

pub returns : goal.returns
unfolding tuples_of
returns c =
    let ts = c.args.tuples.now in
    λ E w. table_none (stands E) ts.count (row_at ts) c.loop-i.i (c.loop-i.invariant E w) (omega (arith, rows_long ts c.as_slice-tuple-items.ensures))
