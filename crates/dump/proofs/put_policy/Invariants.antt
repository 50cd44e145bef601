use Rattle.std.proofs.Common.{◌≡◌, ◌+◌, ◌*◌}
use Rattle.dump.proofs.put_policy.Given as goal

abbrev pub invariant-loop-rights : goal.invariant-loop-rights
invariant-loop-rights g l = l.row.end ≡ l.initial.row.end + 2 * l.rights-index
