use mathlib.Core.Path.{refl, sym, ap, ap₂, ◌∙◌}
use Prim.Native.Nat.{ℕ}
use native.Mathlib.Omega.{arith}
use Rattle.klaim.specs.Process.{tree}
use Rattle.klaim.specs.Analysis.{broken, least}
use Rattle.tables.specs.View.{action_line, lines_of, net_view, estimate_view}
use Rattle.tables.proofs.LineTable.{next}
use Rattle.tables.specs.declared.Action.{Action}
use Rattle.broken.specs.Lesser.{lesser_of}
use Rattle.rules.specs.Own.{own_rule}
use Rattle.broken.proofs.Laws.{least_both, behind, free_at, found_at, after}
use Rattle.broken.proofs.+first_broken.Goals as goal

pub first_broken-a-requires : goal.first_broken-a-requires
first_broken-a-requires t c = let k = next c.requires c.action.ensures c.in-Par.is in (omega (arith, k.0.greater, c.decreases), k.0.form)

pub first_broken-b-requires : goal.first_broken-b-requires
first_broken-b-requires t c = let k = next c.requires c.action.ensures c.in-Par.is in (omega (arith, k.1.greater, c.decreases), k.1.form)

pub first_broken-b-requires-in-Eval : goal.first_broken-b-requires-in-Eval
first_broken-b-requires-in-Eval t c = let k = next c.requires c.action.ensures c.in-Eval.is in (omega (arith, k.2.greater, c.decreases), k.2.form)

pub first_broken-a-requires-in-Eval : goal.first_broken-a-requires-in-Eval
first_broken-a-requires-in-Eval t c = let k = next c.requires c.action.ensures c.in-Eval.is in (omega (arith, k.0.greater, c.decreases), k.0.form)

pub first_broken-rest-requires : goal.first_broken-rest-requires
first_broken-rest-requires t c =
    let k = (after (net_view c.args.net.now) (estimate_view c.args.estimate.now) c.args.places c.requires c.action.ensures c.in-Rep.is).0 in
    (omega (arith, k.greater, c.decreases), k.form)

pub returns-in-Nil : goal.returns-in-Nil
unfolding own_rule action_line least
returns-in-Nil t c =
    λ z. free_at (net_view c.args.net.now) (estimate_view c.args.estimate.now) c.args.places c.requires c.action.ensures c.in-Nil.is refl refl

pub returns-in-Par : goal.returns-in-Par
unfolding own_rule action_line
returns-in-Par t c =
    λ z.
    free_at (net_view c.args.net.now) (estimate_view c.args.estimate.now) c.args.places c.requires c.action.ensures c.in-Par.is refl
    (c.lesser.ensures ∙ ap₂ lesser_of (c.first_broken-a.ensures z) (c.first_broken-b.ensures z) ∙ sym (least_both _ _))

pub returns-in-Eval : goal.returns-in-Eval
returns-in-Eval t c =
    let N = net_view c.args.net.now in
    let E = estimate_view c.args.estimate.now in
    let P = c.args.places in
    let T = tree (lines_of c.args.lines.now) in
    λ z.
    let inside = c.first_broken-b-in-Eval.ensures z ∙ ap (λ (P : ℕ). least (broken N E P (T c.in-Eval.body))) c.reach-set.ensures in
    let both = c.lesser-in-Eval.ensures ∙ ap₂ lesser_of inside (c.first_broken-a-in-Eval.ensures z) ∙ sym (least_both _ _) in
    found_at N E P c.requires c.action.ensures c.or_here.ensures (c.own_rule-ok.ensures z)
    (both ∙ sym (ap (λ (x : Action). least (behind N E P T x)) c.in-Eval.is))

pub returns-in-Rep : goal.returns-in-Rep
returns-in-Rep t c =
    let N = net_view c.args.net.now in
    let E = estimate_view c.args.estimate.now in
    let d = c.action.ensures in
    let k = after N E c.args.places c.requires d c.in-Rep.is in
    λ z. found_at N E c.args.places c.requires d c.or_here-in-Rep.ensures (c.own_rule-ok.ensures z) (c.first_broken-rest.ensures z ∙ ap least k.1)
