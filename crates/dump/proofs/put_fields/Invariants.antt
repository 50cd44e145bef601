use Rattle.std.proofs.Common.{◌≤◌, ◌+◌, ◌*◌}
use Rattle.dump.proofs.put_fields.Given as goal

abbrev pub invariant-loop-site : goal.invariant-loop-site
invariant-loop-site g l = (l.initial.row.end ≤ l.row.end) × (l.row.end ≤ l.initial.row.end + 12 * l.site-index)
