use Rattle.std.proofs.Common.{◌≤◌, ◌+◌, ◌*◌}
use Rattle.dump.proofs.put_bindings.Given as goal

abbrev pub invariant-loop-u : goal.invariant-loop-u
invariant-loop-u g l = (l.initial.row.end ≤ l.row.end) × (l.row.end ≤ l.initial.row.end + 24 * l.u)
