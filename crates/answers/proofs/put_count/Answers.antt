use native.Mathlib.Omega.{arith}
use Rattle.klaim.proofs.Numeral.{numeral_short}
use Rattle.answers.proofs.put_count.Goals as goal

pub put_number-requires : goal.put_number-requires
put_number-requires c =
    let n = c.narrow in
    omega (arith, numeral_short 9 n.result (omega (arith, n.ensures.bound)))

pub returns-clause-place : goal.returns-clause-place
returns-clause-place c =
    let n = c.narrow in
    omega (arith, numeral_short 9 n.result (omega (arith, n.ensures.bound)), c.put_number.ensures)
