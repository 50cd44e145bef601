use mathlib.Core.Path.{◌∙◌}
use Rattle.scan.proofs.Tallies.{and_both}
use Rattle.estimates.specs.Rows.{placed_of}
use Rattle.estimates.proofs.Rows.{placed_law}
use Rattle.estimates.proofs.EstimateReaderReader.is_placed.Goals as goal

pub returns-clause-told : goal.returns-clause-told
unfolding placed_of
returns-clause-told c = rw (c.is_own.ensures, c.in_order.ensures) (and_both _ _)

pub returns-clause-meant : goal.returns-clause-meant
returns-clause-meant c = λ t above H r e. returns-clause-told c ∙ placed_law H r e
