use native.Mathlib.Omega.{arith}
use Rattle.text.proofs.Fields.{digit_some, digit_low, digit_high}
use Rattle.text.proofs.digit.Goals as goal

pub returns-in-48-to-57-clause-value : goal.returns-in-48-to-57-clause-value
returns-in-48-to-57-clause-value c = digit_some c.args.b (omega arith) (omega arith) c.from.ensures

pub returns-in_default-clause-value : goal.returns-in_default-clause-value
returns-in_default-clause-value c = digit_low c.args.b (omega arith)

pub returns-in_default-2-clause-value : goal.returns-in_default-2-clause-value
returns-in_default-2-clause-value c = digit_high c.args.b (omega arith)
