use borrow.Author.Rules.{rules}
use native.Mathlib.Omega.{arith}
use Prim.Native.Nat.{ℕ, ◌<◌, ◌^◌}
use lib.Count.{ones-le}
use lib.ListN.{get_or}
use Rattle.matching.proofs.Index.{rows_ones}
use Rattle.matching.proofs.count_rows.Goals as goal

pub returns : goal.returns
returns c =
    let r = c.args.rows.words in
    let low : (w : ℕ) → w < 4 → get_or r w 0 < 2 ^ 64 = λ w l. search (rules, c.well_formed) in
    (rows_ones r low, omega (arith, ones-le 64 (get_or r 0 0) (low 0 (omega arith)), ones-le 64 (get_or r 1 0) (low 1 (omega arith)), ones-le 64 (get_or r 2 0) (low 2 (omega arith)), ones-le 64 (get_or r 3 0) (low 3 (omega arith))))
