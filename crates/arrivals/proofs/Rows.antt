-- One row more in the table and the tally of an arrival, and the tests on the rows above.
-- Assumes nothing.
use mathlib.Core.Path.{◌≡◌, refl, sym, ap, ap₂, ◌∙◌}
use mathlib.Core.Bool.{Bool, true, false, false≢true}
use mathlib.Core.List.{List, [], ◌∷◌, ◌++◌}
use Prim.Native.Nat.{ℕ, ◌+◌, ◌<◌}
use native.Mathlib.Omega.{arith}
use lib.Dec.{eqb, leb}
use lib.ListN.{length, length-map}
use Rattle.sets.specs.Lists.{All, done, more, ◌&◌, either, all}
use Rattle.sets.proofs.Lists.{eqb_eq, nleb_lt, All-append, or_false, and_yes}
use Rattle.klaim.specs.Process.{Line}
use Rattle.klaim.specs.Rows.{Row, row_line, group_t, group_l, group_q, group_a}
use Rattle.klaim.specs.Reader.{Text, an_arrival, of_group, present, full, headed, own, in_order, repeated, lines_of}
use Rattle.klaim.proofs.Above.{map_own}
use Rattle.tables.specs.View as View
use Rattle.tables.specs.View.{Lines}
use Rattle.tables.proofs.LineTable.{lines_long}
use Rattle.arrivals.specs.declared.reading.ArrivalReader.{ArrivalReader}
use Rattle.lines.specs.Lines.{line_view}
use Rattle.forms.specs.declared.rows.Process.{Process}
use Rattle.forms.specs.declared.rows.Row.{Row as FormRow}
use Rattle.forms.specs.declared.rows.Row.TheVariants as Form
use Rattle.forms.specs.Forms.{size_data, pair_data, box_data, tuple_data, root_data, process_data, bound_data, row_data}
use Rattle.scan.specs.declared.Tally.{Tally}
use Rattle.scan.specs.Reasons.{fitting}
use Rattle.scan.specs.Tallies.{counted_of}
use Rattle.scan.proofs.Tallies.{and_under, none_full, counted_turn}
use Rattle.arrivals.specs.Rows.{ArrivalTally, ArrivalHolds, full_of}

-- as many lines stand in the table as Q rows stand above
line_count : (above : List Row) (lines : Lines) → View.lines_of lines ≡ lines_of above → length (of_group group_q above) ≡ lines.count
unfolding lines_of
line_count above lines e = sym (length-map (of_group group_q above) (λ r. r.process)) ∙ ap length (sym e) ∙ lines_long lines

-- the third of four tests
third : {a b c x y : Bool} → a ≡ false → b ≡ false → c ≡ false → x ≡ y → either a (either b (either x c)) ≡ y
unfolding either
third {a} {b} {c} {x} {y} p q r e = rw (p, q, r) (or_false x ∙ e)

-- a row of a foreign group has no row of its group above
module _ (n g : ℕ) (above : List Row) (r : ArrivalReader) (O : All (λ x. own (an_arrival n r.present) x.group ≡ true) above) where
  full_is : length (of_group group_q above) ≡ r.lines.count → full (an_arrival n r.present) g (length (of_group g above)) ≡ full_of g r
  unfolding full full_of own present
  full_is m =
      let d = r.present in
      third (none_full (an_arrival n d) g above O group_t 256 refl refl) (none_full (an_arrival n d) g above O group_l 64 refl refl) (none_full (an_arrival n d) g above O group_a 256 refl refl)
      (and_under (eqb g group_q) {x = leb 256 (d + length (of_group g above))} {y = leb 256 (d + r.lines.count)} (λ e. ap (λ (k : ℕ). leb 256 (d + k)) (ap (λ (x : ℕ). length (of_group x above)) (eqb_eq e) ∙ m)))

-- Q rows are in order
all_own : (n d k : ℕ) (above : List Row) → All (λ r. own (an_arrival n d) r.group ≡ true) above → k ≡ group_q → all (λ b. leb b.group k) above ≡ true
unfolding all ◌&◌ own
all_own n d k [] done e = refl
all_own n d k (r ∷ above) (more p ps) e = ap₂ ◌&◌ (ap₂ leb (eqb_eq p) e) (all_own n d k above ps e)

and_known : (a : Bool) {x : Bool} → (a ≡ true → x ≡ true) → a & x ≡ a
unfolding ◌&◌
and_known true h = h refl
and_known false h = refl

-- 2 and 3 of a row that stands below those that are held
module _ {t : Text} {above : List Row} {R : ArrivalReader} (H : ArrivalHolds t above R) where
  pub full_law : (g : ℕ) → full_of g R ≡ full t g (length (of_group g above))
  full_law g = rw H.text (sym (full_is H.n g above R H.counts.owned (line_count above R.lines H.counts.lines_is)))

  pub placed_law : {g : ℕ} (r : Row) → r.group ≡ g → eqb g group_q ≡ fitting t above r
  unfolding headed own in_order
  placed_law r e = rw (← e, H.text) (sym (and_yes _ refl ∙ and_known (eqb r.group group_q) (λ q. all_own H.n R.present r.group above H.counts.owned (eqb_eq q))))

pub not_repeated : (above : List Row) (r : Row) → eqb r.group group_q ≡ true → repeated above r ≡ false
unfolding repeated ◌&◌
not_repeated above r e = rw e

-- a row of another group is not let through
pub only_lines : (row : FormRow) → eqb (row_data row).group group_q ≡ true → ((p : Process) → row ≡ Form.Q p → ⊥) → ⊥
unfolding row_data size_data pair_data box_data tuple_data root_data bound_data
only_lines (Form.N x) e q = false≢true e
only_lines (Form.R x) e q = false≢true e
only_lines (Form.D x) e q = false≢true e
only_lines (Form.T x) e q = false≢true e
only_lines (Form.L x) e q = false≢true e
only_lines (Form.Q x) e q = q x refl
only_lines (Form.B x) e q = false≢true e
only_lines (Form.A x) e q = false≢true e
only_lines (Form.E x) e q = false≢true e

-- there is room for one line more
pub room : (g : ℕ) (r : ArrivalReader) → eqb g group_q ≡ true → full_of g r ≡ false → r.lines.count < 256
unfolding full_of ◌&◌
room g r e f = let l = nleb_lt 256 (r.present + r.lines.count) (rw e at f) in omega arith

pub tally_more : (n d : ℕ) (above : List Row) {lines new : Lines} (p : Process) (t : Tally) → ArrivalTally n d above t lines →
    View.lines_of new ≡ View.lines_of lines ++ (line_view p.line ∷ []) →
    ArrivalTally n d (above ++ (row_data (Form.Q p) ∷ [])) (counted_of (Form.Q p) lines.count t) new
unfolding own lines_of row_data process_data row_line
tally_more n d above {lines} {new} p t Y h = record {
  owned = All-append Y.owned (more refl done);
  lines_is = h ∙ ap (λ (xs : List Line). xs ++ (line_view p.line ∷ [])) Y.lines_is ∙ sym (line_own (process_data p) refl);
  turn = counted_turn above (Form.Q p) t Y.turn ∙ ap (λ (k : ℕ). (counted_of (Form.Q p) k t).turn) (sym (ap length Y.lines_is) ∙ lines_long lines);
  size_is = Y.size_is;
}
  where
    line_own : (r : Row) → eqb r.group group_q ≡ true → lines_of (above ++ (r ∷ [])) ≡ lines_of above ++ (r.process ∷ [])
    line_own r e = map_own (λ r. r.process) group_q above r e
