use native.Mathlib.Omega.{arith}
use Rattle.klaim.specs.Rows.{newline}
use Rattle.text.proofs.Pieces.{end_le}
use Rattle.frames.proofs.row_end.Goals as goal

pub returns : goal.returns
returns c = omega (arith, c.row_end.ensures, end_le newline c.args.input.now c.args.at c.requires)
