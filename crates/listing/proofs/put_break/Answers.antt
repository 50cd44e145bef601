use native.Mathlib.Omega.{arith}
use Rattle.writer.proofs.Wrote.{wrote_long}
use Rattle.listing.proofs.Reading.{broken_fits, fits_in}
use Rattle.listing.proofs.put_break.Goals as goal

pub put_broken-requires : goal.put_broken-requires
put_broken-requires c = rw c.from.ensures (omega (arith, broken_fits c.args.kind c.args.number (omega (arith, c.ranges)), c.requires))

pub shape_of-out : goal.shape_of-out
shape_of-out c = wrote_long c.put_broken.ensures

pub returns : goal.returns
returns c =
    let w = rw c.from.ensures at c.put_broken.ensures in
    record { wrote = w; upper_bound = fits_in w (broken_fits _ _ (omega (arith, c.ranges))) }
