use Rattle.std.proofs.Common.{◌≤◌, ◌+◌, ◌*◌}
use Rattle.dump.proofs.put_roots.Given as goal

abbrev pub invariant-loop-arrival : goal.invariant-loop-arrival
invariant-loop-arrival g l = (l.initial.row.end ≤ l.row.end) × (l.row.end ≤ l.initial.row.end + 11 * l.arrival-index)
