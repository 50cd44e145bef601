use native.Mathlib.Omega.{arith}
use Rattle.sets.specs.Lists.{◌⧺◌}
use Rattle.writer.proofs.Wrote.{wrote_then}
use Rattle.rows.proofs.site_field.Goals as goal

pub put_byte-next-requires : goal.put_byte-next-requires
put_byte-next-requires c = omega arith

pub put_site-requires : goal.put_site-requires
put_site-requires c = omega arith

pub returns : goal.returns
unfolding ◌⧺◌
returns c = wrote_then c.put_byte-next.ensures c.put_site.ensures
