use mathlib.Core.Path.{◌∙◌}
use Rattle.arrivals.proofs.Rows.{placed_law}
use Rattle.arrivals.proofs.ArrivalReaderReader.is_placed.Goals as goal

pub returns-clause-meant : goal.returns-clause-meant
returns-clause-meant c = λ t above H r e. c.is_own.ensures ∙ placed_law H r e
