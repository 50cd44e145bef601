use mathlib.Core.Path.{◌∙◌}
use borrow.Author.Rules.{rules}
use native.Mathlib.Omega.{arith}
use Rattle.tables.specs.View.{net_view, estimate_view}
use Rattle.report.proofs.Laws.{add_none, add_two, below_at, adds_by, report_at_lem, add_sends}
use Rattle.report.proofs.+add_evals.Goals as goal

pub add_evals-requires : goal.add_evals-requires
add_evals-requires t c =
    let d = c.action.ensures in
    let h = c.evals_of.ensures in
    let e = c.in-Both.is in
    let k = below_at c.requires d h e in
    (omega (arith, k.0.greater, c.decreases), k.0.form)

pub add_evals-requires-in-Both : goal.add_evals-requires-in-Both
add_evals-requires-in-Both t c =
    let d = c.action.ensures in
    let h = c.evals_of.ensures in
    let e = c.in-Both.is in
    let k = below_at c.requires d h e in
    (omega (arith, k.1.greater, c.decreases), k.1.form)

pub add_evals-requires-in-Next : goal.add_evals-requires-in-Next
add_evals-requires-in-Next t c =
    let d = c.action.ensures in
    let h = c.evals_of.ensures in
    let e = c.in-Next.is in
    let k = below_at c.requires d h e in
    (omega (arith, k.0.greater, c.decreases), k.0.form)

pub reach-set-requires : goal.reach-set-requires
reach-set-requires t c =
    let d = c.action.ensures in
    let h = c.evals_of.ensures in
    let e = c.in-Sends.is in
    (below_at c.requires d h e).1

pub use_map-uses-requires : goal.use_map-uses-requires
use_map-uses-requires t c =
    let d = c.action.ensures in
    let h = c.evals_of.ensures in
    let e = c.in-Sends.is in
    (below_at c.requires d h e).2.form

pub less_sure-requires : goal.less_sure-requires
less_sure-requires t c =
    let d = c.action.ensures in
    let h = c.evals_of.ensures in
    let e = c.in-Sends.is in
    (below_at c.requires d h e).3

pub add_evals-requires-in-Sends : goal.add_evals-requires-in-Sends
add_evals-requires-in-Sends t c =
    let d = c.action.ensures in
    let h = c.evals_of.ensures in
    let e = c.in-Sends.is in
    let k = below_at c.requires d h e in
    (omega (arith, k.2.greater, c.decreases), k.2.form)

pub add_evals-requires-in-Sends-2 : goal.add_evals-requires-in-Sends-2
add_evals-requires-in-Sends-2 t c =
    let d = c.action.ensures in
    let h = c.evals_of.ensures in
    let e = c.in-Sends.is in
    let k = below_at c.requires d h e in
    (omega (arith, k.0.greater, c.decreases), k.0.form)

pub returns-in-Nothing : goal.returns-in-Nothing
unfolding adds_by
returns-in-Nothing t c =
    let d = c.action.ensures in
    let h = c.evals_of.ensures in
    let e = c.in-Nothing.is in
    add_none c.args.bytes.now (search rules) ∙ report_at_lem c.requires d h e (net_view c.args.net.now) (estimate_view c.args.estimate.now) c.args.places c.args.bytes.now

pub returns-in-Both : goal.returns-in-Both
unfolding adds_by
returns-in-Both t c =
    let d = c.action.ensures in
    let h = c.evals_of.ensures in
    let e = c.in-Both.is in
    c.add_evals-in-Both.ensures ∙ add_two c.args.bytes.now _ _ (c.add_evals.ensures) ∙ report_at_lem c.requires d h e (net_view c.args.net.now) (estimate_view c.args.estimate.now) c.args.places c.args.bytes.now

pub returns-in-Next : goal.returns-in-Next
unfolding adds_by
returns-in-Next t c =
    let d = c.action.ensures in
    let h = c.evals_of.ensures in
    let e = c.in-Next.is in
    c.add_evals-in-Next.ensures ∙ report_at_lem c.requires d h e (net_view c.args.net.now) (estimate_view c.args.estimate.now) c.args.places c.args.bytes.now

pub returns-in-Sends : goal.returns-in-Sends
returns-in-Sends t c =
    let d = c.action.ensures in
    let h = c.evals_of.ensures in
    let e = c.in-Sends.is in
    add_sends (net_view c.args.net.now) (estimate_view c.args.estimate.now) c.args.places _ _ _ _ _ c.args.bytes.now (c.reach-set.ensures) (c.use_map-uses.ensures) (c.less_sure.ensures) c.add_uses.ensures (c.add_evals-in-Sends.ensures) (c.add_evals-in-Sends-2.ensures) ∙ report_at_lem c.requires d h e (net_view c.args.net.now) (estimate_view c.args.estimate.now) c.args.places c.args.bytes.now
