use native.Mathlib.Omega.{arith}
use Rattle.sets.specs.Lists.{◌⧺◌}
use Rattle.writer.proofs.Wrote.{wrote_then}
use Rattle.rows.proofs.number_field.Goals as goal

pub put_byte-next-requires : goal.put_byte-next-requires
put_byte-next-requires c = omega arith

pub put_number-requires : goal.put_number-requires
put_number-requires c = omega arith

pub returns : goal.returns
unfolding ◌⧺◌
returns c = wrote_then c.put_byte-next.ensures c.put_number.ensures
