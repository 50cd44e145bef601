use mathlib.Core.Path.{sym}
use Rattle.arrivals.proofs.Rows.{not_repeated}
use Rattle.arrivals.proofs.ArrivalReaderReader.is_seen.Goals as goal

pub returns : goal.returns
returns c = λ t above H. sym (not_repeated above _ c.requires.placed)
