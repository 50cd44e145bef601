use Rattle.sets.specs.Bits.{join}
use Rattle.brings.proofs.Laws.{one_more, no_more}
use Rattle.brings.proofs.with_site.Goals as goal

pub returns-then-here : goal.returns-then-here
unfolding join
returns-then-here c =
    let ar = c.args in
    λ s. rw c.single.ensures (one_more ar.sites ar.l s c.if-here.true)

pub returns-else-here : goal.returns-else-here
returns-else-here c = let ar = c.args in λ s. no_more ar.sites ar.l s c.if-here.false
