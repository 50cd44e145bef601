use native.Mathlib.Omega.{arith}
use mathlib.Core.List.{[], ◌∷◌}
use Rattle.sets.specs.Lists.{◌⧺◌}
use Rattle.klaim.specs.Rows.{text}
use Rattle.klaim.specs.Listing.{numeral, row, tail}
use Rattle.writer.proofs.Wrote.{wrote_then}
use Rattle.rows.proofs.Rows.{length_row}
use Rattle.rows.proofs.put_refused.Goals as goal

pub put_text-a-requires : goal.put_text-a-requires
unfolding text
put_text-a-requires c = omega (arith, length_row "refused" ((numeral c.args.number ∷ numeral c.args.line ∷ [])))

pub number_field-b-requires : goal.number_field-b-requires
unfolding text
number_field-b-requires c = omega (arith, length_row "refused" ((numeral c.args.number ∷ numeral c.args.line ∷ [])))

pub number_field-c-requires : goal.number_field-c-requires
unfolding text
number_field-c-requires c = omega (arith, length_row "refused" ((numeral c.args.number ∷ numeral c.args.line ∷ [])))

pub put_byte-requires : goal.put_byte-requires
unfolding text
put_byte-requires c = omega (arith, length_row "refused" ((numeral c.args.number ∷ numeral c.args.line ∷ [])))

pub returns : goal.returns
unfolding row tail text ◌⧺◌
returns c = wrote_then c.put_text-a.ensures (wrote_then c.number_field-b.ensures (wrote_then c.number_field-c.ensures c.put_byte.ensures))
