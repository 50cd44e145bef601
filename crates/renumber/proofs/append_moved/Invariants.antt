use mathlib.Core.Path.{◌≡◌}
use mathlib.Core.List.{◌++◌, map}
use Prim.Native.Nat.{◌+◌}
use Rattle.sets.specs.Lists.{table}
use Rattle.klaim.specs.Process.{move}
use Rattle.tables.specs.View.{line_of, lines_of}
use Rattle.renumber.proofs.append_moved.Given as goal

abbrev pub invariant-loop-q : goal.invariant-loop-q
invariant-loop-q l = (l.lines.count ≡ l.n + l.q) × (lines_of l.lines ≡ lines_of l.initial.lines ++ map (move l.n) (table l.q (line_of l.arrival)))
