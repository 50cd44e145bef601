use mathlib.Core.Path.{refl, sym, ◌∙◌}
use mathlib.Core.List.{[]}
use lib.Dec.{ltb}
use Rattle.sets.specs.Lists.{all, concat, ◌⧺◌}
use Rattle.sets.proofs.Lists.{and_true}
use Rattle.klaim.specs.declared.Slot.TheVariants.{Value}
use Rattle.klaim.specs.Process.{slots_of, bound_in}
use Rattle.text.specs.declared.Target.{Target}
use Rattle.text.specs.Fields.{loc, slot}
use Rattle.klaim.specs.Fields.{items}
use Rattle.lines.specs.Lines.{line_view, acts_of}
use Rattle.judge.proofs.Tests.{both_yes, both_no}
use Rattle.judge.proofs.Lines.{no_slots, out_slots, get_slots, sites_behind}
use Rattle.judge.proofs.low_line.Goals as goal

pub returns-then-low_site : goal.returns-then-low_site
unfolding bound_in
returns-then-low_site c = rw (c.in-Out.is, out_slots c.in-Out.put, sites_behind (λ s. ltb s c.args.n) (λ (t : Target). Value (loc t)) c.in-Out.put.target (items c.in-Out.put.fields)) (both_yes c.if-low_site.true c.low_site.ensures c.low_sites_of.ensures)

pub returns-else-low_site : goal.returns-else-low_site
unfolding bound_in
returns-else-low_site c = rw (c.in-Out.is, out_slots c.in-Out.put, sites_behind (λ s. ltb s c.args.n) (λ (t : Target). Value (loc t)) c.in-Out.put.target (items c.in-Out.put.fields)) (both_no _ c.if-low_site.false c.low_site.ensures)

pub returns-in-Eval : goal.returns-in-Eval
unfolding line_view acts_of slots_of concat all
returns-in-Eval c = rw (c.in-Eval.is, sites_behind (λ s. ltb s c.args.n) (slot) c.in-Eval.target ([])) (c.low_site-in-Eval.ensures ∙ sym (and_true _))

pub returns-in_default : goal.returns-in_default
unfolding all concat ◌⧺◌
returns-in_default c = rw (no_slots c.args.line.now c.in_default.not-Out c.in_default.not-In c.in_default.not-Read c.in_default.not-Eval) refl

pub returns-then-low_site-2 : goal.returns-then-low_site-2
returns-then-low_site-2 c = rw (get_slots c.args.line.now c.in-In.get c.in-In.is, sites_behind (λ s. ltb s c.args.n) (slot) c.in-In.get.target (items c.in-In.get.fields)) (both_yes c.if-low_site-2.true c.low_site-in-In.ensures c.low_sites_of-then-low_site-2.ensures)

pub returns-else-low_site-2 : goal.returns-else-low_site-2
returns-else-low_site-2 c = rw (get_slots c.args.line.now c.in-In.get c.in-In.is, sites_behind (λ s. ltb s c.args.n) (slot) c.in-In.get.target (items c.in-In.get.fields)) (both_no _ c.if-low_site-2.false c.low_site-in-In.ensures)
