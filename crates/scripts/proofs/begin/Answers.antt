use Rattle.parts.proofs.Parts.{front_long}
use Rattle.scripts.proofs.begin.Goals as goal

pub slice_bounds-begin_behind-end : goal.slice_bounds-begin_behind-end
slice_bounds-begin_behind-end c = front_long _ c.args.head.now c.before-n.ensures
