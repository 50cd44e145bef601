use mathlib.Core.Path.{◌≡◌, refl, ◌∙◌}
use mathlib.Core.Bool.{Bool, true, false, ◌&&◌, beq}
use lib.Dec.{eqb, leb}
use Rattle.sets.specs.Lists.{◌&◌, imp}
use Rattle.forms.specs.Forms.{group_number}
use Rattle.scan.specs.Tallies.{last_number}
use Rattle.scan.proofs.Tallies.{no_last}
use Rattle.nets.specs.Rows.{placed_of}
use Rattle.nets.proofs.Rows.{placed_law}
use Rattle.nets.proofs.NetReaderReader.is_placed.Goals as goal

by_tests : (first n own behind : Bool) → (beq first n && own && behind) ≡ (imp first n & imp n first) & own & behind
unfolding imp ◌&◌
by_tests true true true b = refl
by_tests true true false b = refl
by_tests true false o b = refl
by_tests false true o b = refl
by_tests false false true b = refl
by_tests false false false b = refl

pub returns-clause-told : goal.returns-clause-told
unfolding placed_of
returns-clause-told c =
    rw (no_last _ _ c.is_none.ensures, c.is_head.ensures, c.is_own.ensures, c.in_order.ensures)
    (by_tests (eqb (last_number c.args.self.now.tally.last) 0) (eqb (group_number c.args.group) 1) (leb (group_number c.args.group) 6) (leb (last_number c.args.self.now.tally.last) (group_number c.args.group)))

pub returns-clause-meant : goal.returns-clause-meant
returns-clause-meant c = λ t above H r e. returns-clause-told c ∙ placed_law H r e
