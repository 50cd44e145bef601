use mathlib.Core.Path.{ap₂}
use Prim.Native.Nat.{ℕ, ◌+◌}
use lib.Dec.{leb}
use Rattle.state.specs.View.{state_view}
use Rattle.ready.specs.Runs.{room}
use Rattle.ready.proofs.has_room.Goals as goal

pub returns : goal.returns
unfolding room state_view
returns c = ap₂ (λ (x y : ℕ). leb (c.args.state.now.threads.count + x + y) 65) c.stands-stay.ensures.1 c.stands-come.ensures.1
