use native.Mathlib.Omega.{arith}
use Rattle.sets.specs.Lists.{◌⧺◌}
use Rattle.klaim.specs.Listing.{site_name}
use Rattle.writer.proofs.Wrote.{wrote_then}
use Rattle.writer.proofs.put_site.Goals as goal

pub put_byte-next-requires : goal.put_byte-next-requires
unfolding site_name
put_byte-next-requires c = omega arith

pub put_number-requires : goal.put_number-requires
unfolding site_name
put_number-requires c = rw c.from.ensures (omega arith)

pub returns : goal.returns
unfolding site_name ◌⧺◌
returns c = wrote_then c.put_byte-next.ensures (rw c.from.ensures at c.put_number.ensures)
