use Prim.Native.Nat.{◌*◌}
use Rattle.sets.proofs.Tables.{Filled}
use Rattle.report.proofs.Rows.{uses_bytes}
use Rattle.report.proofs.add_uses.Given as goal

abbrev pub invariant-loop-subject : goal.invariant-loop-subject
invariant-loop-subject l = Filled 0 (uses_bytes l.set l.m.rights l.initial.bytes) l.initial.bytes l.bytes (32 * l.subject)
