use Rattle.klaim.specs.Rows.{is_wildcard, text}
use Rattle.text.proofs.is_wildcard.Goals as goal

pub returns : goal.returns
unfolding is_wildcard text
returns c = cc
