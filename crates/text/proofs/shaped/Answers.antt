use native.Mathlib.Omega.{arith}
use mathlib.Core.Path.{refl}
use borrow.Author.Tests.{eq-eqb, ne_eqb}
use Rattle.sets.proofs.Lists.{and_true, and_false}
use Rattle.text.proofs.Fields.{shape_none, shape_one, shape_more}
use Rattle.text.proofs.shaped.Goals as goal

pub returns-in-empty : goal.returns-in-empty
returns-in-empty c = shape_none _ (omega arith)

pub returns-in-len1 : goal.returns-in-len1
returns-in-len1 c = shape_one _ (omega arith)

pub returns-then-first-ne48 : goal.returns-then-first-ne48
returns-then-first-ne48 c = rw (← shape_more c.args.f.now c.in-len1-up.len_at_least, ne_eqb _ _ c.if-first-ne48.true, and_true) refl

pub returns-else-first-ne48 : goal.returns-else-first-ne48
returns-else-first-ne48 c = rw (← shape_more c.args.f.now c.in-len1-up.len_at_least, eq-eqb _ _ c.if-first-ne48.false, and_false) refl
