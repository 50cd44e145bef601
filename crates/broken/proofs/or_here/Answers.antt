use Rattle.broken.proofs.or_here.Goals as goal

pub returns : goal.returns
returns c = rw c.if-ok.false c.lesser.ensures
