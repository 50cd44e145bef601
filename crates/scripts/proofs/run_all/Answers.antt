use Rattle.std.proofs.Common.{arith}
use Rattle.script_rows.specs.Window.{HasFailed}
use Rattle.scripts.proofs.run_all.Goals as goal

-- the loop ends with the input, or with its count
pub returns : goal.returns
returns g c =
    let going : ¬ HasFailed c.loop-test.incoming.window = λ failed.
    let branch = c.loop-test.branch in
    let still = c.loop.invariant.1 in
    let why = failed.1 in
    grind (arith, branch, still, why) in
    record { failed = λ why found. absurd (going (why, found)) }
