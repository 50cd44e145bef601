use mathlib.Core.Path.{sym, ◌∙◌}
use Rattle.sets.specs.Lists.{◌&◌}
use Rattle.whole.proofs.in_turn.Goals as goal
use Rattle.whole.proofs.in_turn.Goals.{then-turn, else-turn}

pub returns-then-in_order : goal.returns-then-in_order
unfolding ◌&◌
returns-then-in_order c =
    elim c.if-turn.branch [
      | then-turn w ↦ rw (w.if-turn.true, sym w.in_order.ensures ∙ sym w.value-is ∙ c.if-in_order.true) c.roots_present.ensures
      | else-turn w ↦ cc
    ]

pub returns-else-in_order : goal.returns-else-in_order
unfolding ◌&◌
returns-else-in_order c =
    elim c.if-turn.branch [
      | then-turn w ↦ rw (w.if-turn.true, sym w.in_order.ensures ∙ sym w.value-is ∙ c.if-in_order.false) c.if-in_order.false
      | else-turn w ↦ rw w.if-turn.false c.if-in_order.false
    ]
