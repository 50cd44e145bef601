use native.Mathlib.Omega.{arith}
use Rattle.sets.specs.Lists.{◌⧺◌}
use Rattle.writer.proofs.Wrote.{wrote_then}
use Rattle.rows.proofs.rights_field.Goals as goal

pub put_byte-next-requires : goal.put_byte-next-requires
put_byte-next-requires c = omega arith

pub put_letters_from-requires : goal.put_letters_from-requires
put_letters_from-requires c = (c.requires.0, omega arith)

pub returns : goal.returns
unfolding ◌⧺◌
returns c = wrote_then c.put_byte-next.ensures c.put_letters_from.ensures
