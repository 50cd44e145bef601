use Rattle.std.proofs.lemmas.Result.{err_from_is_err_and}
use Rattle.klaim.specs.Reader.{and_then, read_both}
use Rattle.worlds.specs.World.{world_view}
use Rattle.worlds.proofs.read_both.Goals as goal

pub returns-in_err-net : goal.returns-in_err-net
unfolding read_both and_then
returns-in_err-net c =
    let p = err_from_is_err_and c.from_residual.result c.from_residual.ensures.1 in
    rw (p.1, p.2, ← c.in_err-net.ensures)

pub returns-in_err-estimate : goal.returns-in_err-estimate
unfolding read_both and_then
returns-in_err-estimate c =
    let p = err_from_is_err_and c.from_residual-in_err-estimate.result c.from_residual-in_err-estimate.ensures.1 in
    rw (p.1, p.2, ← c.in_ok-net.ensures, ← c.in_err-estimate.ensures)

pub returns : goal.returns
unfolding read_both and_then world_view
returns c = rw (← c.in_ok-net.ensures, ← c.in_ok-estimate.ensures)
