use mathlib.Core.Path.{sym, ◌∙◌}
use borrow.Author.Rules.{rules}
use Rattle.flow.proofs.Boxes.{over_none, over_one, over_more}
use Rattle.tables.specs.View.{net_view}
use Rattle.flow.proofs.box_over.Goals as goal

pub returns-then-places-eq0 : goal.returns-then-places-eq0
returns-then-places-eq0 c = over_none (net_view c.args.net.now) _ _ _ c.if-places-eq0.true

pub returns-then-places-single : goal.returns-then-places-single
returns-then-places-single c =
    let a = c.args in
    c.box_at.ensures ∙ over_one (net_view a.net.now) a.k a.places a.t (search rules) (c.if-places-single.true ∙ c.single.ensures)

pub returns : goal.returns
returns c =
    let a = c.args in
    c.sandbox.ensures ∙ over_more (net_view a.net.now) a.k a.places a.t (search rules) c.if-places-eq0.false (λ q. c.if-places-single.false (q ∙ sym c.single.ensures))
