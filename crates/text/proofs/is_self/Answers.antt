use Rattle.klaim.specs.Rows.{is_self, text}
use Rattle.text.proofs.is_self.Goals as goal

pub returns : goal.returns
unfolding is_self text
returns c = cc
