use Prim.Native.Nat.{◌/◌, ◌%◌}
use Rattle.sets.proofs.Tables.{Filled}
use Rattle.klaim.specs.Report.{hold_adds}
use Rattle.tables.specs.View.{net_view, estimate_view}
use Rattle.report.proofs.put_holds.Given as goal

abbrev pub invariant-loop-i : goal.invariant-loop-i
invariant-loop-i l = Filled 0 (λ k. hold_adds (net_view l.net) (estimate_view l.estimate) (k / 32) (k % 32)) l.initial.bytes l.bytes l.i
