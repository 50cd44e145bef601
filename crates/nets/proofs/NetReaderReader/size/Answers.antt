use mathlib.Core.Path.{sym}
use Rattle.klaim.specs.Reader.{site_count}
use Rattle.nets.proofs.NetReaderReader.size.Goals as goal

pub returns : goal.returns
unfolding site_count
returns c = λ t above H. rw H.text (sym H.counts.size_is)
