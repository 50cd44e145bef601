use mathlib.Core.Path.{sym, ap, ◌∙◌}
use Prim.Native.Nat.{ℕ}
use lib.Bits.{bit_and}
use Rattle.sets.specs.Bits.{every_right, meet}
use borrow.Author.Rules.{rules}
use Rattle.flow.proofs.Boxes.{sure_none, sure_own, sure_other}
use Rattle.tables.specs.View.{net_view}
use Rattle.flow.proofs.box_sure.Goals as goal

pub returns-then-set-eq0 : goal.returns-then-set-eq0
returns-then-set-eq0 c = sure_none (net_view c.args.net.now) _ _ _ c.if-set-eq0.true

pub returns-then-has_site : goal.returns-then-has_site
unfolding meet
returns-then-has_site c =
    let a = c.args in
    ap (λ (x : ℕ). bit_and x every_right) c.box_at.ensures ∙ sure_own (net_view a.net.now) a.k a.set a.t (search rules) (sym c.has_site.ensures ∙ c.if-has_site.true)

pub returns : goal.returns
unfolding meet
returns c =
    let a = c.args in
    ap (λ (x : ℕ). bit_and x every_right) c.sandbox.ensures ∙ sure_other (net_view a.net.now) a.k a.set a.t (search rules) c.if-set-eq0.false (sym c.has_site.ensures ∙ c.if-has_site.false)
