use Rattle.parts.proofs.Parts.{front_long}
use Rattle.scripts.proofs.begin_behind.Goals as goal

pub slice_bounds-start-end : goal.slice_bounds-start-end
slice_bounds-start-end c = front_long _ c.args.rest.now c.before-n.ensures
