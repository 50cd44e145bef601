use Rattle.std.proofs.Common.{◌≡◌, length}
use Rattle.script_rows.proofs.Incoming.dot_alone.Given as goal

abbrev pub invariant-loop : goal.invariant-loop
invariant-loop g l = length l.self.buf.now ≡ length l.initial.self.buf.now
