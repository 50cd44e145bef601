use mathlib.Core.Path.{sym, subst, ◌∙◌}
use Rattle.entries.proofs.Names.{LineLow, line_low, line_same, action_low}
use Rattle.lines.specs.Lines.{line_view}
use Rattle.entries.proofs.line.Goals as goal

pub invariant_of-result : goal.invariant_of-result
invariant_of-result c =
    let p = c.args.process.now in
    let L = line_low p c.requires in
    record { low = action_low c.action.result (subst LineLow (sym (c.action.ensures ∙ line_same (line_view p.line) L)) L) }

pub returns : goal.returns
returns c = c.action.ensures ∙ line_same _ (line_low c.args.process.now c.requires)
