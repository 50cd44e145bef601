use borrow.Author.Rules.{rules}
use native.Mathlib.Omega.{arith}
use Rattle.parts.proofs.Parts.{before_most, behind_none, behind_some}
use Rattle.parts.proofs.behind.Goals as goal

pub overflow_sub-input : goal.overflow_sub-input
overflow_sub-input c = omega (arith, before_most c.args.input.now)

pub returns-then-input-n-lt2 : goal.returns-then-input-n-lt2
returns-then-input-n-lt2 c = (search rules, behind_none _ c.args.n c.requires c.if-input-n-lt2.true)

pub returns : goal.returns
returns c = (omega arith, behind_some _ c.args.n c.requires)
