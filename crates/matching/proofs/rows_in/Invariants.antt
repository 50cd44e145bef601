use mathlib.Core.Path.{◌≡◌}
use mathlib.Core.Bool.{true, not}
use Prim.Native.Nat.{ℕ, ◌<◌}
use lib.Dec.{ltb}
use Rattle.sets.specs.Lists.{◌&◌}
use Rattle.sets.specs.Bits.{mem}
use Rattle.tables.specs.View.{Tuples, row_at}
use Rattle.matching.specs.Index.{in_column, in_rows, Indexed}
use Rattle.matching.proofs.rows_in.Given as goal

abbrev pub invariant-loop-rest : goal.invariant-loop-rest
invariant-loop-rest l =
    (l.rest < 4294967296)
    × ((u : ℕ) → mem u l.rest ≡ true → mem u l.set ≡ true)
    × ((rows : Tuples) → Indexed rows l.index.sets → (i : ℕ) → i < 256
    → in_rows l.r.words i ≡ (ltb i rows.count & (mem (in_column (row_at rows i) l.c) l.set & not (mem (in_column (row_at rows i) l.c) l.rest))))

abbrev pub decreases-loop-rest : goal.decreases-loop-rest
decreases-loop-rest l = l.rest
