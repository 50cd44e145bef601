use mathlib.Core.Path.{◌∙◌}
use Rattle.scan.proofs.Tallies.{and_both}
use Rattle.estimates.specs.Rows.{full_of}
use Rattle.estimates.proofs.Rows.{full_law}
use Rattle.estimates.proofs.EstimateReaderReader.is_full.Goals as goal

pub returns-clause-told : goal.returns-clause-told
unfolding full_of
returns-clause-told c = rw c.is_tuples.ensures (and_both _ _)

pub returns-clause-meant : goal.returns-clause-meant
returns-clause-meant c = λ t above H. returns-clause-told c ∙ full_law H _
