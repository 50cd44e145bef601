use Rattle.scan.proofs.Progress.{no_form}
use Rattle.scan.proofs.take.Goals as goal

pub returns-in_default : goal.returns-in_default
returns-in_default g c = λ t above H. rw (c.in_default.is, c.early.ensures) (no_form t above)
