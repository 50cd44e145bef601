use mathlib.Core.Path.{refl}
use Rattle.arrivals.proofs.Whole.{nothing_held}
use Rattle.arrivals.proofs.reading.ArrivalReader.new.Goals as goal

pub returns : goal.returns
returns c = nothing_held c.args.n c.args.present _ refl c.empty.ensures.count c.start.ensures
