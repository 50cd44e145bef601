use Rattle.klaim.specs.Rows.{site_field}
use Rattle.text.proofs.site.Goals as goal

pub returns : goal.returns
unfolding site_field
returns c = cc
