use mathlib.Core.Path.{refl, ◌∙◌}
use Rattle.text.specs.Fields.{loc, slot}
use Rattle.klaim.specs.Fields.{items}
use Rattle.lines.specs.Lines.{line_view, acts_of}
use Rattle.tables.specs.View.{action_line}
use Rattle.entries.specs.Entries.{cut_loc, cut_slot}
use Rattle.entries.proofs.Names.{twice}
use Rattle.entries.proofs.action.Goals as goal

pub returns-in-In : goal.returns-in-In
unfolding line_view action_line acts_of
returns-in-In c =
    let m = c.map.ensures (λ x. cut_slot (slot x)) (λ x y p. p) ∙ twice slot cut_slot (items c.in-In.get.fields) in
    rw (c.in-In.is, c.byte-in-In.ensures, c.loc.ensures, m) refl

pub returns-in-Read : goal.returns-in-Read
unfolding line_view action_line acts_of
returns-in-Read c =
    let m = c.map-in-Read.ensures (λ x. cut_slot (slot x)) (λ x y p. p) ∙ twice slot cut_slot (items c.in-Read.get.fields) in
    rw (c.in-Read.is, c.byte-in-Read.ensures, c.loc-in-Read.ensures, m) refl
