use mathlib.Core.Path.{ap}
use mathlib.Core.List.{[], ◌∷◌}
use Prim.Native.Nat.{ℕ, ◌≤◌}
use native.Mathlib.Omega.{arith}
use lib.ListN.{length}
use Rattle.klaim.specs.Listing.{numeral, row}
use Rattle.writer.proofs.Wrote.{wrote_then, wrote_as}
use Rattle.rows.proofs.Rows.{accepted_short}
use Rattle.counts.proofs.Bounds.{reported_most}
use Rattle.listing.specs.Lines.{accepted_list}
use Rattle.listing.proofs.put_listing.Goals as goal

pub put_accepted-a-requires : goal.put_accepted-a-requires
put_accepted-a-requires c = omega (arith, (let the_short : length (row "accepted" (numeral c.reported-count.result ∷ [])) ≤ 14 = accepted_short c.reported-count.result (omega (arith, reported_most c.args.report.now c.requires.0, c.reported-count.ensures)) in the_short))

pub put_rows_v-b-requires : goal.put_rows_v-b-requires
put_rows_v-b-requires c = (c.requires.0, omega (arith, (let the_short : length (row "accepted" (numeral c.reported-count.result ∷ [])) ≤ 14 = accepted_short c.reported-count.result (omega (arith, reported_most c.args.report.now c.requires.0, c.reported-count.ensures)) in the_short)))

pub put_rows_u-requires : goal.put_rows_u-requires
put_rows_u-requires c = (c.requires.1, c.requires.2, omega (arith, (let the_short : length (row "accepted" (numeral c.reported-count.result ∷ [])) ≤ 14 = accepted_short c.reported-count.result (omega (arith, reported_most c.args.report.now c.requires.0, c.reported-count.ensures)) in the_short), c.put_rows_v-b.ensures.0))

pub returns : goal.returns
unfolding accepted_list
returns c = record { wrote = wrote_then (wrote_as (ap (λ (n : ℕ). row "accepted" (numeral n ∷ [])) c.reported-count.ensures) c.put_accepted-a.ensures) (wrote_then c.put_rows_v-b.ensures.1 c.put_rows_u.ensures.1); upper_bound = omega (arith, (let the_short : length (row "accepted" (numeral c.reported-count.result ∷ [])) ≤ 14 = accepted_short c.reported-count.result (omega (arith, reported_most c.args.report.now c.requires.0, c.reported-count.ensures)) in the_short), c.put_accepted-a.ensures.ends, c.put_rows_v-b.ensures.0, c.put_rows_u.ensures.0, c.requires.2) }
