use Rattle.answers.specs.Made.{made}
use Rattle.answers.proofs.Printed.{wrote_on}
use Rattle.answers.proofs.Row.count.Goals as goal

pub returns-clause-adds : goal.returns-clause-adds
unfolding made
returns-clause-adds g c = record { made_is = wrote_on c.put_count-self.ensures.wrote; ends = c.put_count-self.ensures.wrote.ends }
