use mathlib.Core.Path.{refl, ap}
use Rattle.estimates.proofs.Held.{nothing_held}
use Rattle.std.proofs.lemmas.Result.{err_from_is_err_and}
use Rattle.klaim.specs.Reader.{gives, an_estimate, and_then, read_estimate}
use Rattle.estimates.proofs.read_estimate.Goals as goal

pub returns-in_err-read : goal.returns-in_err-read
unfolding read_estimate and_then
returns-in_err-read c =
    let p = err_from_is_err_and c.from_residual.result c.from_residual.ensures.1 in
    rw (p.1, p.2, c.in_err-read.ensures (an_estimate c.args.n) (nothing_held c.args.n _ refl refl c.empty.ensures.count c.start.ensures))

pub returns : goal.returns
unfolding read_estimate and_then
returns c =
    let R = c.in_ok-read.ensures (an_estimate c.args.n) (nothing_held c.args.n _ refl refl c.empty.ensures.count c.start.ensures) in
    rw R.1 (ap gives (c.finish.ensures (an_estimate c.args.n) R.0 R.2))
