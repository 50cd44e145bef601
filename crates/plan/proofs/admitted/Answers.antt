use Rattle.state.specs.View.{state_view}
use Rattle.plan.proofs.Fitted.{root_form, arrival_sound, arrival_unsound}
use Rattle.plan.proofs.admitted.Goals as goal

pub uses_fit-requires : goal.uses_fit-requires
uses_fit-requires c = (root_form c.requires.0 c.args.i c.requires.1, c.requires.3, c.requires.2)

pub returns-then-has_site : goal.returns-then-has_site
unfolding state_view
returns-then-has_site c = λ s. arrival_sound c.args.state.now c.args.l c.args.d s c.args.i c.requires.1 c.has_site.ensures c.if-has_site.true c.uses_fit.ensures

pub returns : goal.returns
unfolding state_view
returns c = λ s. arrival_unsound c.args.state.now c.args.l c.args.d s c.args.i c.requires.1 c.has_site.ensures c.if-has_site.false
