use Rattle.klaim.specs.Reader.{site_count}
use Rattle.estimates.proofs.EstimateReaderReader.size.Goals as goal

pub returns : goal.returns
unfolding site_count
returns c = λ t above H. rw H.text H.counts.size_is
