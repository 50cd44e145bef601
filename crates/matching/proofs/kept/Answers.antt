use mathlib.Core.Path.{ap, ◌∙◌}
use mathlib.Core.Bool.{Bool, not}
use Prim.Native.Nat.{◌<◌}
use Rattle.sets.specs.Lists.{◌&◌}
use Rattle.tables.specs.View.{row_at}
use Rattle.matching.specs.Index.{in_column, in_rows}
use Rattle.matching.proofs.Index.{kept_all, kept_some, kept_rest}
use borrow.Author.Rules.{rules}
use Rattle.matching.proofs.kept.Goals as goal

pub returns-then-set-eq-ANY : goal.returns-then-set-eq-ANY
returns-then-set-eq-ANY c = λ rows I i h k f. kept_all (in_rows c.args.had.words i) (in_column (row_at rows i) c.args.c) c.args.set k c.if-set-eq-ANY.true

pub returns-then-set-le-HALF : goal.returns-then-set-le-HALF
returns-then-set-le-HALF c =
    λ rows I i h k f.
    c.in_both.ensures i h
    ∙ ap (λ (b : Bool). in_rows c.args.had.words i & b) (c.rows_in.ensures rows I i h)
    ∙ kept_some (in_rows c.args.had.words i) i rows.count (in_column (row_at rows i) c.args.c) c.args.set f

pub returns : goal.returns
returns c =
    let low : c.args.set < 4294967296 = search rules in
    λ rows I i h k f.
    c.in_first.ensures i h
    ∙ ap (λ (b : Bool). in_rows c.args.had.words i & not b) (c.rows_in-2.ensures rows I i h)
    ∙ kept_rest (in_rows c.args.had.words i) i rows.count (in_column (row_at rows i) c.args.c) c.args.set k low f
