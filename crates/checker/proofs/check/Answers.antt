use mathlib.Core.Path.{ap, ◌∙◌}
use Rattle.std.proofs.lemmas.Result.{err_from_is_err_and}
use Rattle.klaim.specs.Check.{Checked}
use Rattle.checker.proofs.Laws.{sound, too_short, not_read, was_read}
use Rattle.checker.proofs.check.Goals as goal

pub returns-then-buffer-lt-REPORT : goal.returns-then-buffer-lt-REPORT
returns-then-buffer-lt-REPORT c = let p = too_short c.args.net.now c.args.estimate.now c.args.buffer.now c.if-buffer-lt-REPORT.true in rw c.from.ensures (record { answer = p.0; buffer = p.1 })

pub returns-in_err-world : goal.returns-in_err-world
returns-in_err-world c =
    let p = err_from_is_err_and c.from_residual.result c.from_residual.ensures.1 in
    let r = not_read c.args.net.now c.args.estimate.now c.args.buffer.now c.if-buffer-lt-REPORT.false c.in_err-world.ensures in
    record { answer = rw (p.1, p.2) r.0; buffer = r.1 }

pub check_read-requires-clause-well_formed : goal.check_read-requires-clause-well_formed
check_read-requires-clause-well_formed c = sound _ _ _ c.in_ok-world.ensures

pub returns : goal.returns
returns c =
    let e = was_read c.args.net.now c.args.estimate.now c.args.buffer.now c.if-buffer-lt-REPORT.false c.in_ok-world.ensures in
    record { answer = c.check_read.ensures.verdict ∙ ap (λ (r : Checked). r.answer) e; buffer = c.check_read.ensures.buffer_after ∙ ap (λ (r : Checked). r.buffer) e }
