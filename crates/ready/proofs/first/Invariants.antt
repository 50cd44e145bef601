use Rattle.std.proofs.Common.{◌≡◌}
use Rattle.klaim.specs.Analysis.{least}
use Rattle.klaim.specs.Engine.{runnable, ready}
use Rattle.sets.specs.Lists.{keep}
use Rattle.state.specs.View.{state_view}
use Rattle.ready.proofs.Runnable.{From}
use Rattle.ready.proofs.first.Given as goal

abbrev pub invariant-loop-k : goal.invariant-loop-k
invariant-loop-k l = ready (state_view l.state) ≡ least (keep (runnable (state_view l.state)) (From l.state.threads.count l.k))
