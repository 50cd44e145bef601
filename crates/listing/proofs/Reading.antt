-- The listing of a net and an estimate that were read.
-- Assumes nothing.
use mathlib.Core.Path.{◌≡◌, refl, sym, ap, ap₂, subst, ◌∙◌}
use mathlib.Core.Bool.{Bool, true, false}
use mathlib.Core.List.{List, [], ◌∷◌}
use Prim.Native.Nat.{ℕ, ◌+◌, ◌-◌, ◌<◌, ◌≤◌}
use native.Mathlib.Omega.{arith}
use lib.ListN.{length, take, drop, length-take, length-drop}
use lib.Seq.{take_all}
use borrow.Author.Tests.{lt-ltb, le-ltb}
use Rattle.sets.specs.Lists.{table}
use Rattle.klaim.specs.Limits.{input_limit}
use Rattle.klaim.specs.Analysis.{Verdict, accepted, verdict}
use Rattle.klaim.specs.Report.{report}
use Rattle.klaim.specs.Reader.{Answer, refused, gives, read_both}
use Rattle.klaim.specs.Listing.{numeral, row, home_count, used_count, list_verdict, list_read, before, net_part, estimate_part, listing}
use Rattle.writer.specs.Wrote.{Wrote}
use Rattle.rows.proofs.Rows.{length_row}
use Rattle.klaim.proofs.Numeral.{numeral_short}
use Rattle.klaim.specs.Rows.{text}
use Rattle.worlds.specs.declared.World.{World}
use Rattle.worlds.specs.World.{world_view}
use Rattle.worlds.proofs.Rows.{both_row}
use Rattle.checker.specs.Check.{WellFormed}
use Rattle.klaim.specs.Reader as Spec
use Rattle.sets.proofs.Tables.{length_table}
use Rattle.listing.specs.Lines.{accepted_list, Counts}
use Rattle.listing.proofs.Listing.{accepted_list_lem, counts_tables}

-- the rows of a refusal and of a broken rule are short
pub refused_fits : (n r : ℕ) → n < 1000 → r < 100000 → 0 + length (row "refused" (numeral n ∷ numeral r ∷ [])) ≤ 17006
unfolding text
refused_fits n r h k = omega (arith, length_row "refused" (numeral n ∷ numeral r ∷ []), numeral_short 2 n h, numeral_short 4 r k)

pub broken_fits : (k n : ℕ) → n < 100000 → 0 + length (row "broken" ((k ∷ []) ∷ numeral n ∷ [])) ≤ 17006
unfolding text
broken_fits k n h = omega (arith, length_row "broken" ((k ∷ []) ∷ numeral n ∷ []), numeral_short 4 n h)

pub size_world : (w : World) → (world_view w).net.size ≡ w.net.size
unfolding world_view
size_world w = refl

-- the listing of an accepted net, from its tables
pub accepted_world : (w : World) (r held used : List ℕ) → (world_view w).net.size ≤ 32 → r ≡ report (world_view w).net (world_view w).estimate → held ≡ table 32 (home_count (world_view w).net) → used ≡ table 32 (used_count (world_view w)) → accepted_list r held used w.net.size ≡ list_verdict (world_view w) accepted
accepted_world w r held used h a b c = ap (accepted_list r held used) (sym (size_world w)) ∙ rw (a, b, c) (accepted_list_lem (world_view w) h)

pub report_long : (w : World) {r : List ℕ} → r ≡ report (world_view w).net (world_view w).estimate → length r ≡ 1024
unfolding report
report_long w e = ap length e ∙ length_table 1024 _

pub counts_by : (w : World) {held used : List ℕ} → held ≡ table 32 (home_count (world_view w).net) → used ≡ table 32 (used_count (world_view w)) → Counts held used
counts_by w {held} {used} a b = subst (λ (h : List ℕ). Counts h used) (sym a) (subst (Counts (table 32 (home_count (world_view w).net))) (sym b) (counts_tables (world_view w)))

pub world_few : (w : World) → WellFormed w → (world_view w).net.size ≤ 32
world_few w S = S.net.sites_few

pub size_few : (w : World) → WellFormed w → w.net.size ≤ 32
size_few w S = omega (arith, world_few w S, size_world w)

-- what is listed of a verdict
pub list_verdict_lem : (w : World) (v : Verdict) → v ≡ verdict (world_view w).net (world_view w).estimate → list_verdict (world_view w) v ≡ list_read (gives (world_view w))
unfolding list_read
list_verdict_lem w v e = rw e

-- what is listed, by the input
module _ (input : List ℕ) where
  pub list_long : input_limit < length input → list_read (refused 2 0) ≡ listing input
  unfolding listing
  list_long h = sym (ap (λ (b : Bool). elim b [ true ↦ list_read (refused 2 0) | false ↦ list_read (read_both (net_part input) (estimate_part input)) ]) (lt-ltb input_limit (length input) h))

  pub list_parts : {a : Answer Spec.World} {net estimate : List ℕ} → length input ≤ input_limit → a ≡ read_both net estimate → net ≡ net_part input → estimate ≡ estimate_part input → list_read a ≡ listing input
  unfolding listing
  list_parts h e p q =
      ap list_read (e ∙ ap₂ read_both p q)
      ∙ sym (ap (λ (b : Bool). elim b [ true ↦ list_read (refused 2 0) | false ↦ list_read (read_both (net_part input) (estimate_part input)) ]) (le-ltb input_limit (length input) h))

  -- the row of a refusal
  pub row_low : (net estimate : List ℕ) (number row : ℕ) → length input ≤ input_limit → length net ≤ length input → length estimate ≤ length input → refused number row ≡ read_both net estimate → row < 100000
  row_low net estimate number row h a b e = omega (arith, both_row net estimate 65537 number row (omega arith) (omega arith) e)

-- the two parts of the input
module _ (input : List ℕ) where
  pub part_net : (n : ℕ) → n ≡ before true input → take n input ≡ net_part input
  unfolding net_part
  part_net n e = ap (λ (k : ℕ). take k input) e

  pub part_estimate : (from : ℕ) → drop from input ≡ estimate_part input → take (length input - from) (drop from input) ≡ estimate_part input
  part_estimate from e = take_all (length input - from) (drop from input) (omega (arith, length-drop from input)) ∙ e

pub take_short : (n : ℕ) (input : List ℕ) → length (take n input) ≤ length input
take_short n input = omega (arith, length-take n input)

pub behind_short : (from : ℕ) (input : List ℕ) → length (take (length input - from) (drop from input)) ≤ length input
behind_short from input = omega (arith, length-take (length input - from) (drop from input), length-drop from input)

-- what was written from the first byte on, where it fits
pub fits_in : {a b xs : List ℕ} {next : ℕ} → Wrote a b 0 xs next → 0 + length xs ≤ 17006 → next ≤ 17006
fits_in W h = omega (arith, W.ends)
