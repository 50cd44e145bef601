use native.Mathlib.Omega.{arith}
use mathlib.Core.List.{[], ◌∷◌}
use Rattle.sets.specs.Lists.{◌⧺◌}
use Rattle.klaim.specs.Rows.{text}
use Rattle.klaim.specs.Listing.{site_name, numeral, row, tail}
use Rattle.writer.proofs.Wrote.{wrote_then}
use Rattle.rows.proofs.Rows.{length_row}
use Rattle.rows.proofs.put_u.Goals as goal

pub put_byte-a-requires : goal.put_byte-a-requires
unfolding text
put_byte-a-requires c = omega (arith, length_row "U" ((site_name c.args.site ∷ numeral c.args.held ∷ numeral c.args.used ∷ numeral c.args.share ∷ [])))

pub site_field-b-requires : goal.site_field-b-requires
unfolding text
site_field-b-requires c = omega (arith, length_row "U" ((site_name c.args.site ∷ numeral c.args.held ∷ numeral c.args.used ∷ numeral c.args.share ∷ [])))

pub number_field-c-requires : goal.number_field-c-requires
unfolding text
number_field-c-requires c = omega (arith, length_row "U" ((site_name c.args.site ∷ numeral c.args.held ∷ numeral c.args.used ∷ numeral c.args.share ∷ [])))

pub number_field-d-requires : goal.number_field-d-requires
unfolding text
number_field-d-requires c = omega (arith, length_row "U" ((site_name c.args.site ∷ numeral c.args.held ∷ numeral c.args.used ∷ numeral c.args.share ∷ [])))

pub number_field-e-requires : goal.number_field-e-requires
unfolding text
number_field-e-requires c = omega (arith, length_row "U" ((site_name c.args.site ∷ numeral c.args.held ∷ numeral c.args.used ∷ numeral c.args.share ∷ [])))

pub put_byte-requires : goal.put_byte-requires
unfolding text
put_byte-requires c = omega (arith, length_row "U" ((site_name c.args.site ∷ numeral c.args.held ∷ numeral c.args.used ∷ numeral c.args.share ∷ [])))

pub returns : goal.returns
unfolding row tail text ◌⧺◌
returns c = wrote_then c.put_byte-a.ensures (wrote_then c.site_field-b.ensures (wrote_then c.number_field-c.ensures (wrote_then c.number_field-d.ensures (wrote_then c.number_field-e.ensures c.put_byte.ensures))))
