use mathlib.Core.Path.{◌∙◌}
use native.Mathlib.Omega.{arith}
use Rattle.tables.specs.View.{net_view, estimate_view}
use Rattle.report.proofs.Laws.{below_at}
use Rattle.report.proofs.Nowhere.{nothing_nil, nothing_both, nothing_next, nothing_sends, and_take, and_stop}
use Rattle.report.proofs.+adds_nothing.Goals as goal

pub adds_nothing-requires : goal.adds_nothing-requires
adds_nothing-requires t c =
    let d = c.action.ensures in
    let h = c.evals_of.ensures in
    let e = c.in-Both.is in
    let k = below_at c.requires d h e in
    (omega (arith, k.0.greater, c.decreases), k.0.form)

pub adds_nothing-requires-then-adds_nothing : goal.adds_nothing-requires-then-adds_nothing
adds_nothing-requires-then-adds_nothing t c =
    let d = c.action.ensures in
    let h = c.evals_of.ensures in
    let e = c.in-Both.is in
    let k = below_at c.requires d h e in
    (omega (arith, k.1.greater, c.decreases), k.1.form)

pub adds_nothing-requires-in-Next : goal.adds_nothing-requires-in-Next
adds_nothing-requires-in-Next t c =
    let d = c.action.ensures in
    let h = c.evals_of.ensures in
    let e = c.in-Next.is in
    let k = below_at c.requires d h e in
    (omega (arith, k.0.greater, c.decreases), k.0.form)

pub reach-set-requires : goal.reach-set-requires
reach-set-requires t c =
    let d = c.action.ensures in
    let h = c.evals_of.ensures in
    let e = c.in-Sends.is in
    let k = below_at c.requires d h e in
    k.1

pub body_within-requires : goal.body_within-requires
body_within-requires t c =
    let d = c.action.ensures in
    let h = c.evals_of.ensures in
    let e = c.in-Sends.is in
    let k = below_at c.requires d h e in
    record { in_form = k.2.form; k_bound = k.3 }

pub adds_nothing-requires-then-body_within : goal.adds_nothing-requires-then-body_within
adds_nothing-requires-then-body_within t c =
    let d = c.action.ensures in
    let h = c.evals_of.ensures in
    let e = c.in-Sends.is in
    let k = below_at c.requires d h e in
    (omega (arith, k.2.greater, c.decreases), k.2.form)

pub adds_nothing-requires-then-adds_nothing-2 : goal.adds_nothing-requires-then-adds_nothing-2
adds_nothing-requires-then-adds_nothing-2 t c =
    let d = c.action.ensures in
    let h = c.evals_of.ensures in
    let e = c.in-Sends.is in
    let k = below_at c.requires d h e in
    (omega (arith, k.0.greater, c.decreases), k.0.form)

pub returns-in-Nothing : goal.returns-in-Nothing
returns-in-Nothing t c =
    let d = c.action.ensures in
    let h = c.evals_of.ensures in
    let e = c.in-Nothing.is in
    nothing_nil (net_view c.args.net.now) (estimate_view c.args.estimate.now) c.args.places c.requires d h e

pub returns-then-adds_nothing : goal.returns-then-adds_nothing
returns-then-adds_nothing t c =
    let d = c.action.ensures in
    let h = c.evals_of.ensures in
    let e = c.in-Both.is in
    and_take (c.adds_nothing.ensures) c.if-adds_nothing.true (c.adds_nothing-then-adds_nothing.ensures) ∙ nothing_both (net_view c.args.net.now) (estimate_view c.args.estimate.now) c.args.places c.requires d h e

pub returns-else-adds_nothing : goal.returns-else-adds_nothing
returns-else-adds_nothing t c =
    let d = c.action.ensures in
    let h = c.evals_of.ensures in
    let e = c.in-Both.is in
    and_stop _ (c.adds_nothing.ensures) c.if-adds_nothing.false ∙ nothing_both (net_view c.args.net.now) (estimate_view c.args.estimate.now) c.args.places c.requires d h e

pub returns-in-Next : goal.returns-in-Next
returns-in-Next t c =
    let d = c.action.ensures in
    let h = c.evals_of.ensures in
    let e = c.in-Next.is in
    c.adds_nothing-in-Next.ensures ∙ nothing_next (net_view c.args.net.now) (estimate_view c.args.estimate.now) c.args.places c.requires d h e

pub returns-then-adds_nothing-2 : goal.returns-then-adds_nothing-2
returns-then-adds_nothing-2 t c =
    let d = c.action.ensures in
    let h = c.evals_of.ensures in
    let e = c.in-Sends.is in
    and_take (c.body_within.ensures) c.if-body_within.true (and_take (c.adds_nothing-then-body_within.ensures) c.if-adds_nothing-2.true (c.adds_nothing-then-adds_nothing-2.ensures)) ∙ nothing_sends (net_view c.args.net.now) (estimate_view c.args.estimate.now) c.args.places c.requires d h e (c.reach-set.ensures)

pub returns-else-adds_nothing-2 : goal.returns-else-adds_nothing-2
returns-else-adds_nothing-2 t c =
    let d = c.action.ensures in
    let h = c.evals_of.ensures in
    let e = c.in-Sends.is in
    and_take (c.body_within.ensures) c.if-body_within.true (and_stop _ (c.adds_nothing-then-body_within.ensures) c.if-adds_nothing-2.false) ∙ nothing_sends (net_view c.args.net.now) (estimate_view c.args.estimate.now) c.args.places c.requires d h e (c.reach-set.ensures)

pub returns-else-body_within : goal.returns-else-body_within
returns-else-body_within t c =
    let d = c.action.ensures in
    let h = c.evals_of.ensures in
    let e = c.in-Sends.is in
    and_stop _ (c.body_within.ensures) c.if-body_within.false ∙ nothing_sends (net_view c.args.net.now) (estimate_view c.args.estimate.now) c.args.places c.requires d h e (c.reach-set.ensures)
