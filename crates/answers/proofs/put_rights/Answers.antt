use native.Mathlib.Omega.{arith}
use Rattle.klaim.proofs.Letters.{letters_short}
use Rattle.answers.proofs.put_rights.Goals as goal

pub put_letters-requires : goal.put_letters-requires
put_letters-requires c = omega (arith, letters_short c.args.rights)

pub returns-clause-place : goal.returns-clause-place
returns-clause-place c = omega (arith, letters_short c.args.rights, c.put_letters.ensures)
