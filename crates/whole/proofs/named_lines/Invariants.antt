use mathlib.Core.List.{List}
use Prim.Native.Nat.{ℕ}
use Rattle.sets.specs.Lists.{concat, table, ◌⧺◌}
use Rattle.klaim.specs.Process.{children}
use Rattle.tables.specs.View.{line_of}
use Rattle.whole.specs.Counted.{Counted}
use Rattle.whole.proofs.named_lines.Given as goal

abbrev pub invariant-loop-q : goal.invariant-loop-q
invariant-loop-q l = (xs : List ℕ) → Counted xs l.initial.counts → Counted (xs ⧺ concat children (table l.q (line_of l.lines))) l.counts
