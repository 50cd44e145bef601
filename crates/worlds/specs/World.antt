-- What the reading of a net and an estimate gives.
-- Assumes nothing.
use Rattle.klaim.specs.Reader as Reader
use Rattle.tables.specs.View.{net_view, estimate_view}
use Rattle.worlds.specs.declared.World.{World}

-- the net and the estimate that were read
unfoldable pub world_view : World → Reader.World
world_view w = record { net = net_view w.net; estimate = estimate_view w.estimate }
