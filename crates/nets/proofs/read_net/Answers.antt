use mathlib.Core.Path.{refl}
use Rattle.nets.proofs.Held.{nothing_held}
use Rattle.std.proofs.lemmas.Result.{err_from_is_err_and}
use Rattle.klaim.specs.Reader.{a_net, and_then, read_net}
use Rattle.nets.proofs.read_net.Goals as goal

pub returns-in_err-read : goal.returns-in_err-read
unfolding read_net and_then
returns-in_err-read c =
    let p = err_from_is_err_and c.from_residual.result c.from_residual.ensures.1 in
    rw (p.1, p.2, c.in_err-read.ensures a_net (nothing_held _ refl refl c.empty.ensures.count c.empty-3.ensures.count c.empty-4.ensures.count c.start.ensures))

pub returns : goal.returns
unfolding read_net and_then
returns c =
    let R = c.in_ok-read.ensures a_net (nothing_held _ refl refl c.empty.ensures.count c.empty-3.ensures.count c.empty-4.ensures.count c.start.ensures) in
    rw R.1 (c.finish.ensures R.0 R.2)
