use mathlib.Core.Path.{refl, ap, ◌∙◌}
use mathlib.Core.List.{List, ◌++◌}
use native.Mathlib.Omega.{arith}
use Rattle.std.specs.Prelude.{Ok}
use Rattle.klaim.specs.Reader.{gives}
use Rattle.klaim.specs.Engine.{Event, after}
use Rattle.klaim.specs.State as Spec
use Rattle.state.specs.View.{state_view}
use Rattle.plan.specs.Move.{added_after}
use Rattle.step.proofs.Laws.{threads_long, moved_state}
use Rattle.step.proofs.perform.Goals as goal

pub add-requires : goal.add-requires
unfolding state_view
add-requires c = omega (arith, c.settle.ensures.count, threads_long c.args.state.now c.args.k c.args.m c.args.v c.requires.1.present, c.requires.1.threads_few)

pub change_tuples-requires : goal.change_tuples-requires
unfolding state_view after
change_tuples-requires c = (c.requires.1.change, c.requires.1.tuples_few)

pub returns-clause-performed : goal.returns-clause-performed
unfolding state_view
returns-clause-performed c =
    let st = c.args.state.now in
    let v = c.args.v in
    let threads = c.add.ensures.list ∙ ap (λ (xs : List Spec.Thread). xs ++ added_after (state_view st).lines v.added) c.settle.ensures.list in
    record {
      kept = refl;
      state = moved_state st c.args.k c.args.m v c.change_tuples.new.tuples c.add.new.threads (Ok c.event.result) threads c.change_tuples.ensures.list;
      answer = ap (λ (e : Event). gives e) c.event.ensures;
    }
