use mathlib.Core.Path.{◌≡◌, ap, ◌∙◌}
use mathlib.Core.List.{List, map}
use Prim.Native.Nat.{ℕ, ◌<◌}
use mathlib.Core.Bool.{not}
use lib.Dec.{eqb, ltb}
use lib.ListN.{take}
use Rattle.sets.specs.Lists.{◌&◌, same, fits, below}
use Rattle.sets.specs.Bits.{sites}
use Rattle.sets.proofs.Lists.{ltb_lt}
use Rattle.sets.proofs.Tables.{table_all}
use Rattle.klaim.specs.Invariant.{all_below}
use Rattle.tables.specs.View.{tuple_view, row_at, tuples_of}
use Rattle.matching.specs.Index.{in_rows}
use Rattle.matching.proofs.Index.{singles_fit, rows_any, any_kept}
use Rattle.matching.proofs.has_row.Goals as goal

pub returns : goal.returns
unfolding tuples_of
returns c =
    let t = tuple_view c.args.tuple.now in
    let had = c.chosen-within in
    λ rows I L.
    let ok : (k : ℕ) → k < 256 → in_rows had.result.words k ≡ (ltb k rows.count & same t (row_at rows k)) = λ k l.
    had.ensures rows I L k l
    ∙ ap (λ (m : ℕ). ltb k rows.count & fits (map sites (take m c.singles.result)) (row_at rows k)) c.len.ensures.value
    ∙ ap (λ (ms : List ℕ). ltb k rows.count & fits (map sites ms) (row_at rows k)) c.singles.ensures
    ∙ singles_fit (ltb k rows.count) t (row_at rows k) (λ b. table_all (all_below 32) rows.count (row_at rows) L k (ltb_lt k rows.count b)) in
    ap (λ (n : ℕ). not (eqb n 0)) c.count_rows.ensures.0
    ∙ any_kept (in_rows had.result.words) (below 256)
    ∙ rows_any had.result.words rows.count (same t) (row_at rows) rows.few ok
