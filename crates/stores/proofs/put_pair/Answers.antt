use Rattle.sets.specs.Bits.{join}
use Rattle.stores.proofs.Stores.{pair_put}
use Rattle.stores.proofs.put_pair.Goals as goal

pub returns : goal.returns
unfolding join
returns c = λ g. pair_put c.args.pair.now g c.args.t.now _ (c.pair_place.ensures.place g) c.pair_place.ensures.within
