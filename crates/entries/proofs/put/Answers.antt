use mathlib.Core.Path.{refl, ◌∙◌}
use Rattle.text.specs.Fields.{loc}
use Rattle.klaim.specs.Fields.{items}
use Rattle.lines.specs.Lines.{acts_of}
use Rattle.tables.specs.View.{action_line}
use Rattle.entries.specs.Entries.{cut_loc}
use Rattle.entries.proofs.Names.{twice}
use Rattle.entries.proofs.put.Goals as goal

pub returns : goal.returns
unfolding acts_of action_line
returns c =
    let m = c.map.ensures (λ x. cut_loc (loc x)) (λ x y p. p) ∙ twice loc cut_loc (items c.args.acts.now.fields) in
    rw (c.byte.ensures, c.loc.ensures, m) refl
