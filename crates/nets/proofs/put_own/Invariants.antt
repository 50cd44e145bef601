use Rattle.nets.proofs.Defaults.{Owned}
use Rattle.nets.proofs.put_own.Given as goal

abbrev pub invariant-loop-k : goal.invariant-loop-k
invariant-loop-k l = Owned l.initial.boxes l.boxes l.k
