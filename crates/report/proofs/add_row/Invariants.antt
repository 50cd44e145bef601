use mathlib.Core.Path.{◌≡◌}
use mathlib.Core.Bool.{true}
use Prim.Native.Nat.{◌+◌, ◌*◌}
use lib.ListN.{length}
use Rattle.sets.specs.Bits.{mem}
use Rattle.sets.proofs.Tables.{Filled}
use Rattle.report.proofs.Rows.{row_bytes}
use Rattle.report.proofs.add_row.Given as goal

abbrev pub invariant-loop-object : goal.invariant-loop-object
invariant-loop-object l = (length l.initial.bytes ≡ 1024) × (l.at ≡ 32 * l.subject) × (mem l.subject l.set ≡ true) × Filled 0 (row_bytes l.at l.m.rights l.initial.bytes) l.initial.bytes l.bytes (l.at + l.object)
