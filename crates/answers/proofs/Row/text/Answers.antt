use Rattle.answers.specs.Made.{made}
use Rattle.answers.proofs.Printed.{wrote_on}
use Rattle.answers.proofs.Row.text.Goals as goal

pub returns : goal.returns
unfolding made
returns g c = record { made_is = wrote_on c.put_text-self.ensures; ends = c.put_text-self.ensures.ends }
