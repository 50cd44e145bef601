use Rattle.std.proofs.Common.{refl}
use Rattle.answers.specs.Made.{made}
use Rattle.answers.proofs.Row.new.Goals as goal

pub returns-clause-empty : goal.returns-clause-empty
unfolding made
returns-clause-empty g c = refl
