use mathlib.Core.Path.{sym, ◌∙◌}
use Rattle.rules.proofs.Laws.{held_yes, held_no}
use Rattle.rules.proofs.held.Goals as goal

pub returns-then-has_site : goal.returns-then-has_site
returns-then-has_site c = c.row_holds.ensures ∙ held_yes _ _ (sym c.has_site.ensures ∙ c.if-has_site.true)

pub returns : goal.returns
returns c = held_no _ _ (sym c.has_site.ensures ∙ c.if-has_site.false)
