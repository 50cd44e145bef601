use mathlib.Core.Path.{sym, ap, ◌∙◌}
use Rattle.std.proofs.lemmas.Result.{err_from_is_err_and}
use Rattle.tables.specs.View.{net_view}
use Rattle.scan.proofs.Tallies.{no_last}
use Rattle.scan.specs.Reasons.{Judging}
use Rattle.whole.specs.Reasons.{whole_answer}
use Rattle.nets.proofs.Finish.{read_off, empty_net, net_is}
use Rattle.nets.proofs.reading.NetReader.finish.Goals as goal

pub returns-then-is_none : goal.returns-then-is_none
returns-then-is_none c = λ rows H. empty_net rows (H.counts.first ∙ sym (no_last _ _ c.is_none.ensures) ∙ c.if-is_none.true)

pub returns-in_err-whole : goal.returns-in_err-whole
returns-in_err-whole c = λ rows H.
    let p = err_from_is_err_and c.from_residual.result c.from_residual.ensures.1 in
    rw (p.1, p.2) (ap (λ (j : Judging). whole_answer j (net_view (read_off c.args.self.now))) (sym c.in_err-whole.was ∙ c.whole.ensures) ∙ net_is H (H.counts.first ∙ sym (no_last _ _ c.is_none.ensures) ∙ c.if-is_none.false))

pub returns : goal.returns
returns c = λ rows H. rw c.fill_unsaid.ensures (ap (λ (j : Judging). whole_answer j (net_view (read_off c.args.self.now))) (sym c.in_ok-whole.was ∙ c.whole.ensures) ∙ net_is H (H.counts.first ∙ sym (no_last _ _ c.is_none.ensures) ∙ c.if-is_none.false))
