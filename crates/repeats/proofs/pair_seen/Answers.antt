use Rattle.repeats.proofs.Repeats.{pair_seen}
use Rattle.repeats.proofs.pair_seen.Goals as goal

pub returns : goal.returns
returns c = λ g above P K e. pair_seen c.args.pair.now c.requires.from_low c.requires.to_low g P _ (c.pair_place.ensures.place g) _ K e
