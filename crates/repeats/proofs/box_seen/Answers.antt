use Rattle.judge.proofs.Limits.{sandbox_low}
use Rattle.repeats.proofs.Repeats.{box_seen}
use Rattle.repeats.proofs.box_seen.Goals as goal

pub box_place-requires : goal.box_place-requires
box_place-requires c = let l = sandbox_low c.args.sandbox.now c.requires in record { number_low = l.0; toward_low = l.1 }

pub returns : goal.returns
returns c = λ above K e. box_seen c.args.sandbox.now c.requires _ c.box_place.ensures.place _ K e
