use mathlib.Core.Path.{refl}
use Rattle.forms.specs.Forms.{tuple_data}
use Rattle.repeats.proofs.Keys.{keys_own}
use Rattle.repeats.proofs.keep_key.Goals as goal

pub returns-clause-keys : goal.returns-clause-keys
unfolding tuple_data
returns-clause-keys c = λ g above K. keys_own (tuple_data g c.args.tuple.now) c.requires.room c.push.ensures.items c.push.ensures.count c.key.ensures refl K
