use native.Mathlib.Omega.{arith}
use Rattle.writer.proofs.Wrote.{wrote_long, wrote_as}
use Rattle.rows.proofs.Rows.{refused_list}
use Rattle.listing.proofs.Reading.{refused_fits, fits_in}
use Rattle.listing.proofs.put_refusal.Goals as goal

pub overflow_cast-refusal : goal.overflow_cast-refusal
overflow_cast-refusal c = omega (arith, c.requires.0)

pub put_refused-requires : goal.put_refused-requires
put_refused-requires c = rw c.from.ensures (omega (arith, refused_fits c.number.result c.args.refusal.row (omega (arith, c.number.type_inv)) c.requires.0, c.requires.1))

pub shape_of-out : goal.shape_of-out
shape_of-out c = wrote_long c.put_refused.ensures

pub returns : goal.returns
returns c =
    let w = rw c.from.ensures at c.put_refused.ensures in
    record {
      wrote = wrote_as (refused_list _ _) (rw c.number.ensures at w);
      upper_bound = fits_in w (refused_fits _ _ (omega (arith, c.number.type_inv)) c.requires.0);
    }
