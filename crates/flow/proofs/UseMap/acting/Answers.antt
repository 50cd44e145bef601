use mathlib.Core.Path.{◌∙◌}
use Rattle.sets.specs.Bits.{mem, grant}
use Rattle.klaim.specs.Analysis.{reach}
use Rattle.tables.specs.View.{estimate_view}
use Rattle.flow.proofs.Laws.{join_right}
use Rattle.flow.proofs.UseMap.acting.Goals as goal

pub returns : goal.returns
returns c =
    let s = c.args in
    c.join.ensures ∙ join_right s.self.rights (λ n. grant (mem n (reach (estimate_view s.estimate.now) s.places s.target)) s.right) (rw c.reach-set.ensures at c.over.ensures)
