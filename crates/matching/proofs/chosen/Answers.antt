use mathlib.Core.Path.{◌≡◌, sym, ap, ◌∙◌}
use mathlib.Core.Bool.{Bool}
use Prim.Native.Nat.{ℕ, ◌<◌}
use native.Mathlib.Omega.{arith}
use lib.Dec.{eqb, ltb}
use lib.ListN.{length}
use Rattle.sets.specs.Lists.{◌&◌, fits}
use Rattle.sets.proofs.Lists.{and_l, and_r, eqb_eq, ltb_lt}
use Rattle.tables.specs.View.{row_at}
use Rattle.matching.specs.Index.{in_column, in_rows}
use Rattle.matching.proofs.Laws.{Sets, sets_long_lem}
use Rattle.matching.proofs.Index.{chosen_is}
use borrow.Author.Rules.{rules}
use Rattle.matching.proofs.chosen.Goals as goal

pub returns : goal.returns
unfolding in_column
returns c =
    let m = c.args.m in
    let sets = Sets c.args.reaches m in
    let five : length c.args.reaches ≡ 5 = search rules in
    λ rows I L i h.
    let had : (k : ℕ) → k < 256 → in_rows c.rows_with-had.result.words k ≡ (ltb k rows.count & eqb (length (row_at rows k)) m) =
    λ k l. c.rows_with-had.ensures k l ∙ I 0 m k (omega arith) (omega (arith, c.requires)) l in
    c.narrowed.ensures rows I L (λ k l t. let q = sym (had k l) ∙ t in (ltb_lt k rows.count (and_l _ _ q), eqb_eq (and_r _ _ q))) i h
    ∙ ap (λ (b : Bool). b & fits sets (row_at rows i)) (had i h)
    ∙ chosen_is sets (row_at rows i) m (sets_long_lem c.args.reaches m c.requires five) (ltb i rows.count)
