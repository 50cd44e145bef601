use Rattle.stores.proofs.Stores.{box_put}
use Rattle.stores.proofs.put_box.Goals as goal

pub returns : goal.returns
returns c = box_put c.args.sandbox.now c.args.t.now _ c.box_place.ensures.place
