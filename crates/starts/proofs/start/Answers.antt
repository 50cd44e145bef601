use Rattle.std.proofs.lemmas.Result.{err_from_is_err_and}
use Rattle.starts.proofs.Laws.{roots_in, started, not_started}
use Rattle.starts.proofs.start.Goals as goal

pub returns-in_err-world : goal.returns-in_err-world
returns-in_err-world c =
    let p = err_from_is_err_and c.from_residual.result c.from_residual.ensures.1 in
    rw (p.1, p.2) (not_started c.args.net.now c.args.estimate.now _ c.in_err-world.ensures)

pub begin-requires : goal.begin-requires
begin-requires c = roots_in c.in_ok-world.world c.args.net.now c.args.estimate.now c.in_ok-world.ensures

pub returns : goal.returns
returns c = started c.in_ok-world.world c.args.net.now c.args.estimate.now c.in_ok-world.ensures c.begin.result c.begin.ensures.value c.begin.ensures.fits c.begin.ensures.told
