-- `use_map` meets its contract: at each action the use map is what the definition says of the line's process. 256 less the line number falls.
-- Assumes nothing.
use Prim.Native.Nat.{◌-◌}
use Rattle.flow.proofs.+use_map.Given as goal

abbrev pub decreases-use_map : goal.decreases-use_map
decreases-use_map l = 256 - l.q
