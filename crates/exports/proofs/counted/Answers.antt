use Rattle.std.proofs.Common.{arith}
use Rattle.exports.proofs.counted.Goals as goal

pub overflow_cast-lines : goal.overflow_cast-lines
overflow_cast-lines c = omega (arith, c.args.state.now.lines.few)

pub overflow_mul-result : goal.overflow_mul-result
overflow_mul-result c = omega (arith, c.args.state.now.lines.few)
