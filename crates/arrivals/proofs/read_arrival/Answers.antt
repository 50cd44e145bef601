use native.Mathlib.Omega.{arith}
use Rattle.std.proofs.lemmas.Result.{err_from_is_err_and}
use Rattle.klaim.specs.Reader.{an_arrival}
use Rattle.arrivals.proofs.Present.{behind_refused, behind_read}
use Rattle.arrivals.proofs.read_arrival.Goals as goal

pub returns-in_err-read : goal.returns-in_err-read
returns-in_err-read c =
    let p = err_from_is_err_and c.from_residual.result c.from_residual.ensures.1 in
    rw (p.1, p.2) (behind_refused c.args.n c.args.d c.min.result (omega arith) c.args.s.now (c.in_err-read.ensures (an_arrival c.args.n c.min.result) c.new-reader.ensures))

pub returns : goal.returns
returns c =
    let t = an_arrival c.args.n c.min.result in
    let R = c.in_ok-read.ensures t c.new-reader.ensures in
    behind_read c.args.n c.args.d c.min.result (omega arith) c.args.s.now R.1 (c.finish.ensures t R.0 R.2)
