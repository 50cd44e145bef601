use mathlib.Core.Path.{sym}
use native.Mathlib.Omega.{arith}
use Rattle.text.proofs.Sums.{rights_none, summing_more, summing_done, all_hits}
use Rattle.text.proofs.rights.Goals as goal

pub returns-then-is_empty-clause-result_value : goal.returns-then-is_empty-clause-result_value
returns-then-is_empty-clause-result_value c = rights_none _ (sym c.if-is_empty.ensures)

pub returns-then-o-i-clause-result_value : goal.returns-then-o-i-clause-result_value
returns-then-o-i-clause-result_value c = sym (summing_more (all_hits _ _ _ _ _ _ c.hit-o.ensures.0 c.hit-i.ensures.0 c.hit-r.ensures.0 c.hit-e.ensures.0 c.hit-a.ensures.0) c.if-o-i.true)

pub returns-clause-result_value : goal.returns-clause-result_value
returns-clause-result_value c = summing_done _ (sym c.if-is_empty.ensures) (all_hits _ _ _ _ _ _ c.hit-o.ensures.0 c.hit-i.ensures.0 c.hit-r.ensures.0 c.hit-e.ensures.0 c.hit-a.ensures.0) (omega arith)
