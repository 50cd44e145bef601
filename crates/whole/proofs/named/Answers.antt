use native.Mathlib.Omega.{arith}
use Rattle.whole.proofs.Counts.{named_more}
use Rattle.whole.proofs.named.Goals as goal

pub returns : goal.returns
returns c = λ xs C. rw c.from-at.ensures (named_more c.args.q (omega arith) (rw c.from-at.ensures at c.one_more.ensures) C)
