use native.Mathlib.Omega.{arith}
use mathlib.Core.List.{[], ◌∷◌}
use Rattle.sets.specs.Lists.{◌⧺◌}
use Rattle.klaim.specs.Rows.{text}
use Rattle.klaim.specs.Listing.{site_name, letters, row, tail}
use Rattle.writer.proofs.Wrote.{wrote_then}
use Rattle.rows.proofs.Rows.{length_row}
use Rattle.rows.proofs.put_v.Goals as goal

pub put_byte-a-requires : goal.put_byte-a-requires
unfolding text
put_byte-a-requires c = omega (arith, length_row "V" ((site_name c.args.subject ∷ site_name c.args.object ∷ letters c.args.rights ∷ [])))

pub site_field-b-requires : goal.site_field-b-requires
unfolding text
site_field-b-requires c = omega (arith, length_row "V" ((site_name c.args.subject ∷ site_name c.args.object ∷ letters c.args.rights ∷ [])))

pub site_field-c-requires : goal.site_field-c-requires
unfolding text
site_field-c-requires c = omega (arith, length_row "V" ((site_name c.args.subject ∷ site_name c.args.object ∷ letters c.args.rights ∷ [])))

pub rights_field-d-requires : goal.rights_field-d-requires
unfolding text
rights_field-d-requires c = (c.requires.table_value, omega (arith, length_row "V" ((site_name c.args.subject ∷ site_name c.args.object ∷ letters c.args.rights ∷ []))))

pub put_byte-requires : goal.put_byte-requires
unfolding text
put_byte-requires c = omega (arith, length_row "V" ((site_name c.args.subject ∷ site_name c.args.object ∷ letters c.args.rights ∷ [])))

pub returns : goal.returns
unfolding row tail text ◌⧺◌
returns c = wrote_then c.put_byte-a.ensures (wrote_then c.site_field-b.ensures (wrote_then c.site_field-c.ensures (wrote_then c.rights_field-d.ensures c.put_byte.ensures)))
