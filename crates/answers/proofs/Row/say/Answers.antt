use Rattle.answers.specs.Made.{made}
use Rattle.answers.proofs.Row.say.Goals as goal

pub returns : goal.returns
unfolding made
returns g c = c.say_first.ensures
