use mathlib.Core.Path.{◌≡◌, sym, ◌∙◌}
use Prim.Native.Nat.{ℕ, ◌<◌}
use lib.Dec.{ltb}
use lib.ListN.{length}
use Rattle.sets.specs.Lists.{◌&◌, fits}
use Rattle.sets.proofs.Lists.{and_l, and_r, ltb_lt}
use Rattle.tables.specs.View.{row_at, tuples_of}
use Rattle.matching.specs.Index.{in_rows, Long}
use Rattle.matching.proofs.Laws.{Sets, sets_long_lem, fits_long}
use Rattle.matching.proofs.Index.{rows_all}
use borrow.Author.Rules.{rules}
use Rattle.matching.proofs.every_bound.Goals as goal

pub returns : goal.returns
unfolding tuples_of
returns c =
    let want = Sets c.args.want c.args.m in
    let allow = Sets c.args.allow c.args.m in
    let x = c.chosen-wanted.result.words in
    let y = c.narrowed-both.result.words in
    let five : length c.args.want ≡ 5 = search rules in
    λ rows I L.
    let wanted : (i : ℕ) → i < 256 → in_rows x i ≡ (ltb i rows.count & fits want (row_at rows i)) = c.chosen-wanted.ensures rows I L in
    let long : Long rows c.args.m x = λ i l t.
    let q = sym (wanted i l) ∙ t in
    (ltb_lt i rows.count (and_l _ _ q), fits_long want (row_at rows i) (and_r _ _ q) ∙ sets_long_lem c.args.want c.args.m c.requires five) in
    let both = c.narrowed-both.ensures rows I L long in
    rows_all x y rows.count (fits want) (fits allow) (row_at rows) rows.few wanted both c.same_rows.ensures.0 c.same_rows.ensures.1
