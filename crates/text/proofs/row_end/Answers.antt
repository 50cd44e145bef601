use native.Mathlib.Omega.{arith}
use Rattle.klaim.specs.Rows.{newline}
use Rattle.text.proofs.Pieces.{piece_hit, piece_miss, piece_end}
use Rattle.text.proofs.row_end.Goals as goal

pub returns-then-s-i-eq-NEWLINE : goal.returns-then-s-i-eq-NEWLINE
returns-then-s-i-eq-NEWLINE c = omega (arith, piece_hit newline c.args.s.now c.loop-i.i c.loop-i-test.true c.if-s-i-eq-NEWLINE.true)

pub loop-i-preserved : goal.loop-i-preserved
loop-i-preserved c = (omega arith, omega (arith, piece_miss newline c.args.s.now c.loop-i.i c.loop-i-test.true c.if-s-i-eq-NEWLINE.false))

pub returns : goal.returns
returns c = omega (arith, piece_end newline c.args.s.now c.loop-i.i c.loop-i-test.false)
