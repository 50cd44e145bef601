use borrow.Author.Rules.{rules}
use mathlib.Core.Path.{sym}
use Prim.Native.Nat.{◌/◌, ◌%◌}
use native.Mathlib.Omega.{arith}
use Rattle.writer.proofs.Wrote.{wrote_none, wrote_as}
use Rattle.rows.proofs.Rows.{v_short}
use Rattle.listing.proofs.Lines.{entry_none, entry_some}
use Rattle.listing.proofs.put_entry.Goals as goal

pub returns-then-rights-eq0 : goal.returns-then-rights-eq0
returns-then-rights-eq0 c = wrote_as (sym (entry_none _ _ c.if-rights-eq0.true)) (wrote_none _ _ (search rules))

pub put_v-requires : goal.put_v-requires
put_v-requires c = record { table_value = c.requires.0; rights_in_bounds = omega (arith, v_short (c.args.i / 32) (c.args.i % 32) c.args.rights (omega arith) (omega arith)) }

pub returns : goal.returns
returns c = wrote_as (sym (entry_some _ _ c.if-rights-eq0.false)) c.put_v.ensures
