use mathlib.Core.Path.{sym, ◌∙◌}
use Rattle.text.proofs.Fields.{letter_hit, letter_miss, letter_none}
use Rattle.text.proofs.lettered.Goals as goal

pub returns-in-len1-up : goal.returns-in-len1-up
returns-in-len1-up c = c.number.ensures ∙ sym (letter_hit _ _ c.in-len1-up.len_at_least c.if-first-letter.true)

pub returns-in_default : goal.returns-in_default
returns-in_default c = letter_none _ _ c.in_default.len_below

pub returns-in_default-2 : goal.returns-in_default-2
returns-in_default-2 c = letter_miss _ _ c.if-first-letter.false
