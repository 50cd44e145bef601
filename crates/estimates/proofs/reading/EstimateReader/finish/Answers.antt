use Rattle.estimates.proofs.Held.{estimate_is}
use Rattle.estimates.proofs.reading.EstimateReader.finish.Goals as goal

pub returns : goal.returns
returns c = λ t rows H. estimate_is H
