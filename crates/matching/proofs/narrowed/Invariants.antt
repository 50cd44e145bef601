use mathlib.Core.Path.{◌≡◌}
use Prim.Native.Nat.{ℕ, ◌<◌}
use lib.ListN.{drop}
use Rattle.sets.specs.Lists.{◌&◌, fits}
use Rattle.tables.specs.View.{Tuples, row_at}
use Rattle.matching.specs.Index.{in_rows, Indexed, Low, Long}
use Rattle.matching.proofs.Laws.{Sets}
use Rattle.matching.proofs.narrowed.Given as goal

abbrev pub invariant-loop-j : goal.invariant-loop-j
invariant-loop-j l =
    (rows : Tuples) → Indexed rows l.index.sets → Low rows → Long rows l.m l.initial.r.words → (i : ℕ) → i < 256
    → in_rows l.r.words i ≡ (in_rows l.initial.r.words i & fits (drop l.j (Sets l.reaches l.m)) (drop l.j (row_at rows i)))
