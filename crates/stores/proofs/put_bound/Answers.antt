use Rattle.sets.specs.Bits.{join}
use Rattle.stores.proofs.Stores.{bound_put}
use Rattle.stores.proofs.put_bound.Goals as goal

pub returns : goal.returns
unfolding join
returns c = bound_put c.args.bound.now c.args.t.now _ _ c.from.ensures c.requires.variable_low c.single.ensures
