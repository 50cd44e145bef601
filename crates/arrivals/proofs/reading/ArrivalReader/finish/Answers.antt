use mathlib.Core.Path.{sym, ap, ◌∙◌}
use Rattle.std.proofs.lemmas.Result.{err_from_is_err_and}
use Rattle.tables.specs.View.{lines_of}
use Rattle.scan.specs.Reasons.{Judging}
use Rattle.whole.specs.Reasons.{whole_answer}
use Rattle.arrivals.proofs.Whole.{root_zero, arrival_is}
use Rattle.arrivals.proofs.reading.ArrivalReader.finish.Goals as goal

pub returns-in_err-whole : goal.returns-in_err-whole
returns-in_err-whole c = λ t rows H.
    let p = err_from_is_err_and c.from_residual.result c.from_residual.ensures.1 in
    let r = c.args.self.now in
    rw (p.1, p.2) (ap (λ (j : Judging). whole_answer j (lines_of r.lines)) (sym c.in_err-whole.was ∙ c.whole.ensures) ∙ arrival_is _ H (root_zero c.empty-root.result c.push.new.self c.empty-root.ensures.count c.push.ensures.items c.push.ensures.count))

pub returns : goal.returns
returns c = λ t rows H.
    let r = c.args.self.now in
    ap (λ (j : Judging). whole_answer j (lines_of r.lines)) (sym c.in_ok-whole.was ∙ c.whole.ensures)
    ∙ arrival_is _ H (root_zero c.empty-root.result c.push.new.self c.empty-root.ensures.count c.push.ensures.items c.push.ensures.count)
