use mathlib.Core.Path.{◌≡◌}
use borrow.Author.Rules.{rules}
use native.Mathlib.Omega.{arith}
use Rattle.sets.proofs.Tables.{filled_none, filled_all}
use Rattle.report.proofs.Rows.{uses_more}
use Rattle.report.proofs.add_uses.Goals as goal

pub loop-subject-init : goal.loop-subject-init
loop-subject-init c = filled_none 0 _ _

pub loop-subject-preserved : goal.loop-subject-preserved
loop-subject-preserved c = uses_more c.loop-subject.invariant c.add_row.ensures

pub returns : goal.returns
returns c =
    let e : c.loop-subject.subject ≡ 32 = omega arith in
    filled_all (rw e at c.loop-subject.invariant) (search rules)
