use mathlib.Core.Path.{sym, ◌∙◌}
use mathlib.Core.Bool.{true, false}
use Rattle.sets.proofs.Lists.{and_l, and_r}
use Rattle.sets.proofs.Tables.{length_table}
use Rattle.tables.specs.View.{lines_of}
use Rattle.whole.proofs.Reasons.{whole_turn, whole_once, whole_closed}
use Rattle.whole.proofs.whole.Goals as goal

pub returns-then-not-in_turn : goal.returns-then-not-in_turn
unfolding lines_of
returns-then-not-in_turn c = whole_turn _ _ _ _ (length_table _ _) (sym c.in_turn.ensures ∙ c.if-not-in_turn.true)

pub returns-then-not-named_once : goal.returns-then-not-named_once
unfolding lines_of
returns-then-not-named_once c = whole_once _ _ _ _ (length_table _ _) (sym c.in_turn.ensures ∙ c.if-not-in_turn.false) (sym c.named_once.ensures ∙ c.if-not-named_once.true)

pub roots_closed-requires : goal.roots_closed-requires
roots_closed-requires c =
    let t = and_r _ _ (sym c.in_turn.ensures ∙ c.if-not-in_turn.false) in
    record { in_order = and_l _ _ t; present = and_r _ _ t }

pub returns-then-not-roots_closed : goal.returns-then-not-roots_closed
unfolding lines_of
returns-then-not-roots_closed c = whole_closed _ _ _ _ (length_table _ _) (sym c.in_turn.ensures ∙ c.if-not-in_turn.false) (sym c.named_once.ensures ∙ c.if-not-named_once.false) false (sym c.roots_closed.ensures ∙ c.if-not-roots_closed.true)

pub returns : goal.returns
unfolding lines_of
returns c = whole_closed _ _ _ _ (length_table _ _) (sym c.in_turn.ensures ∙ c.if-not-in_turn.false) (sym c.named_once.ensures ∙ c.if-not-named_once.false) true (sym c.roots_closed.ensures ∙ c.if-not-roots_closed.false)
