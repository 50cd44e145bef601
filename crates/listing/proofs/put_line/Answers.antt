use mathlib.Core.Path.{ap}
use mathlib.Core.List.{[], ◌∷◌}
use Prim.Native.Nat.{ℕ}
use native.Mathlib.Omega.{arith}
use Rattle.klaim.specs.Listing.{numeral, site_name, row}
use Rattle.writer.proofs.Wrote.{wrote_as}
use Rattle.listing.specs.Lines.{line_u}
use Rattle.listing.proofs.Lines.{line_short}
use Rattle.listing.proofs.put_line.Goals as goal

pub put_u-requires : goal.put_u-requires
unfolding line_u
put_u-requires c =
    let a = c.args in
    let h = line_short a.s a.p a.q (omega arith) (omega arith) (omega arith) in
    rw c.share-part.ensures (omega arith)

pub returns : goal.returns
unfolding line_u
returns c =
    let a = c.args in
    wrote_as (ap (λ (n : ℕ). row "U" (site_name a.s ∷ numeral a.p ∷ numeral a.q ∷ numeral n ∷ [])) c.share-part.ensures) c.put_u.ensures
