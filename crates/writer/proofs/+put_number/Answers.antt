use Prim.Native.Nat.{ℕ, ◌≤◌, ◌/◌}
use mathlib.Core.Path.{sym, ap, ◌∙◌}
use mathlib.Core.List.{[], ◌∷◌}
use native.Mathlib.Omega.{arith}
use Rattle.sets.specs.Lists.{◌⧺◌}
use Rattle.klaim.specs.Listing.{numeral}
use Rattle.writer.proofs.Wrote.{wrote_then, wrote_as}
use Rattle.klaim.proofs.Numeral.{numeral_last, length_last}
use Rattle.writer.proofs.+put_number.Goals as goal

pub put_number-next-requires : goal.put_number-next-requires
put_number-next-requires t c =
    let n = c.args.n in
    let h : 10 ≤ n = omega arith in
    (omega arith, omega (arith, length_last n h))

pub put_byte-requires : goal.put_byte-requires
put_byte-requires t c =
    let n = c.args.n in
    let h : 10 ≤ n = omega arith in
    omega (arith, length_last n h)

pub returns : goal.returns
returns t c =
    let n = c.args.n in
    let h : 10 ≤ n = omega arith in
    wrote_as (ap (λ (b : ℕ). numeral (n / 10) ⧺ (b ∷ [])) c.digit.ensures ∙ sym (numeral_last n h)) (wrote_then c.put_number-next.ensures c.put_byte.ensures)
