-- Laws of the whole report: what an L row adds, and the report of the roots so far.
-- Assumes nothing.
use mathlib.Core.Path.{◌≡◌, refl, sym, ap, ap₂, ◌∙◌}
use mathlib.Core.Bool.{Bool, true, false}
use mathlib.Core.List.{List}
use Prim.Native.Nat.{ℕ, ◌+◌, ◌/◌, ◌%◌, ◌^◌, ◌<◌}
use native.Mathlib.Omega.{arith}
use lib.Dec.{eqb}
use lib.ListN.{length, get_or, take}
use lib.Seq.{length-take-le, get_or-take}
use Rattle.sets.specs.Lists.{table, table_from}
use Rattle.sets.specs.Bits.{mem, join, grant, less, joins}
use Rattle.sets.proofs.Lists.{eqb_eq}
use Rattle.sets.proofs.Tables.{same_table}
use Rattle.klaim.specs.Process.{tree}
use Rattle.klaim.specs.Net.{Root, Net, Estimate, home}
use Rattle.klaim.specs.Analysis.{place_set, process}
use Rattle.klaim.specs.Report.{uses, adds, root_adds, hold_adds, report_at, report}
use Rattle.tables.specs.declared.Root.{Root as Entry}
use Rattle.tables.specs.View.{Lines, Roots, no_root, root_view, root_at, InForm}
use Rattle.sets.proofs.Shared.{mem_single}
use Rattle.flow.proofs.Laws.{at_table}
use Rattle.report.specs.Given.{Rooted}
use Rattle.sets.proofs.Joins.{join_assoc, join_comm, join_none, joins_last}

-- the roots as the loop reads them
module _ (t : Roots) {xs : List Entry} (e : xs ≡ take t.count t.items) where
  pub roots_long : length xs ≡ t.count
  roots_long = ap length e ∙ length-take-le t.count t.items (omega (arith, t.few, t.long))

  pub root_read : (i : ℕ) → i < length xs → root_view (get_or xs i no_root) ≡ root_at t i
  unfolding root_at
  root_read i h = ap (λ (ys : List Entry). root_view (get_or ys i no_root)) e ∙ ap root_view (get_or-take t.count t.items i no_root (omega (arith, roots_long)))

  pub root_fits : {ls : Lines} → Rooted ls t → (i : ℕ) → i < length xs → ((get_or xs i no_root).site < 32) × InForm ls (get_or xs i no_root).line
  root_fits {ls = ls} R i h =
      let at = root_read i h in
      let here : i < t.count = omega (arith, roots_long) in
      let present : (get_or xs i no_root).line < ls.count = omega (arith, ap (λ (r : Root). r.line) at, R.present i here) in
      (omega (arith, ap (λ (r : Root). r.site) at, R.placed i here), record { in_order = R.in_order; present = present })

module _ (N : Net) (E : Estimate) where
  own_home : (site s t x : ℕ) → grant (eqb site s) (less x (home N site t)) ≡ grant (eqb site s) (less x (home N s t))
  unfolding grant
  own_home site s t x = go (eqb site s) refl
    where
      go : (b : Bool) → eqb site s ≡ b → grant b (less x (home N site t)) ≡ grant b (less x (home N s t))
      go true e = ap (λ (y : ℕ). less x (home N y t)) (eqb_eq e)
      go false e = refl

  -- what an L row adds, from its use map less the home policy of its site
  pub add_root_row : (a : List ℕ) (root : Root) {m : ℕ} {us rs r : List ℕ} → m ≡ 2 ^ root.site → us ≡ table 32 (uses N E m (tree N.lines root.line)) → rs ≡ table 32 (λ t. less (get_or us t 0) (home N root.site t)) → r ≡ table 1024 (λ i. join (get_or a i 0) (grant (mem (i / 32) m) (get_or rs (i % 32) 0))) → r ≡ table 1024 (λ i. join (get_or a i 0) (root_adds N E root (i / 32) (i % 32)))
  unfolding root_adds place_set
  add_root_row a root {m} {us} {rs} e u h x = x ∙ same_table 1024 _ _ 0 (λ i l. ap (join (get_or a i 0)) (one (i / 32) (i % 32) (omega arith)))
    where
      used : (t : ℕ) → t < 32 → get_or us t 0 ≡ uses N E (2 ^ root.site) (tree N.lines root.line) t
      used t l = at_table 32 (uses N E m (tree N.lines root.line)) u t l ∙ ap (λ (y : ℕ). uses N E y (tree N.lines root.line) t) e

      left : (t : ℕ) → t < 32 → get_or rs t 0 ≡ less (uses N E (2 ^ root.site) (tree N.lines root.line) t) (home N root.site t)
      left t l = at_table 32 (λ t. less (get_or us t 0) (home N root.site t)) h t l ∙ ap (λ (y : ℕ). less y (home N root.site t)) (used t l)

      one : (s t : ℕ) → t < 32 → grant (mem s m) (get_or rs t 0) ≡ grant (eqb root.site s) (less (uses N E (2 ^ root.site) (tree N.lines root.line) t) (home N s t))
      one s t l = ap₂ grant (ap (mem s) e ∙ mem_single s root.site) (left t l) ∙ own_home root.site s t _

  -- the report with these roots alone
  unfoldable pub so_far : List Root → ℕ → ℕ → ℕ
  so_far rs s t = join (joins (λ r. root_adds N E r s t) rs) (join (joins (λ r. adds N E (place_set r.site) (process N r) s t) rs) (hold_adds N E s t))

  far_start : (rs : Roots) (s t : ℕ) → so_far (table 0 (root_at rs)) s t ≡ hold_adds N E s t
  unfolding so_far table table_from joins
  far_start rs s t = join_none _ ∙ join_none _

  pub far_none : (rs : Roots) {b : List ℕ} → b ≡ table 1024 (λ i. hold_adds N E (i / 32) (i % 32)) → b ≡ table 1024 (λ i. so_far (table 0 (root_at rs)) (i / 32) (i % 32))
  far_none rs e = e ∙ same_table 1024 _ _ 0 (λ i l. sym (far_start rs (i / 32) (i % 32)))

  shuffle : (a b h x y : ℕ) → join (join (join a (join b h)) x) y ≡ join (join a x) (join (join b y) h)
  shuffle a b h x y =
      join_assoc (join a (join b h)) x y
      ∙ join_assoc a (join b h) (join x y)
      ∙ ap (join a) (join_comm (join b h) (join x y) ∙ join_assoc x y (join b h) ∙ ap (join x) (sym (join_assoc y b h) ∙ ap (λ (z : ℕ). join z h) (join_comm y b)))
      ∙ sym (join_assoc a x (join (join b y) h))

  far_at : (rs : Roots) (i s t : ℕ) → join (join (so_far (table i (root_at rs)) s t) (root_adds N E (root_at rs i) s t)) (adds N E (place_set (root_at rs i).site) (process N (root_at rs i)) s t) ≡ so_far (table (i + 1) (root_at rs)) s t
  unfolding so_far
  far_at rs i s t = shuffle _ _ _ _ _ ∙ sym (ap₂ (λ (x y : ℕ). join x (join y (hold_adds N E s t))) (joins_last (λ r. root_adds N E r s t) (root_at rs) i) (joins_last (λ r. adds N E (place_set r.site) (process N r) s t) (root_at rs) i))

  -- one root more: its use map, then its eval lines
  module _ (rs : Roots) (i : ℕ) (root : Root) (u : root ≡ root_at rs i) where
    abbrev so_far_at : ℕ → ℕ → ℕ
    so_far_at j k = so_far (table j (root_at rs)) (k / 32) (k % 32)

    abbrev own : Root → ℕ → ℕ
    own r k = root_adds N E r (k / 32) (k % 32)

    abbrev sent : ℕ → Root → ℕ → ℕ
    sent P r k = adds N E P (tree N.lines r.line) (k / 32) (k % 32)

    pub far_more : {m : ℕ} {a b c : List ℕ} → m ≡ 2 ^ root.site
        → a ≡ table 1024 (so_far_at i)
        → b ≡ table 1024 (λ k. join (get_or a k 0) (own root k))
        → c ≡ table 1024 (λ k. join (get_or b k 0) (sent m root k))
        → c ≡ table 1024 (so_far_at (i + 1))
    unfolding place_set
    far_more {m} {a} {b} e x y z = z ∙ same_table 1024 _ _ 0 (λ k l. ap₂ join (second k l) (third k) ∙ far_at rs i (k / 32) (k % 32))
      where
        second : (k : ℕ) → k < 1024 → get_or b k 0 ≡ join (so_far_at i k) (own (root_at rs i) k)
        second k l = at_table 1024 _ y k l ∙ ap₂ join (at_table 1024 (so_far_at i) x k l) (ap (λ (r : Root). own r k) u)

        third : (k : ℕ) → sent m root k ≡ sent (2 ^ (root_at rs i).site) (root_at rs i) k
        third k = ap (λ (P : ℕ). sent P root k) e ∙ ap (λ (r : Root). sent (2 ^ r.site) r k) u

  pub far_all : table 1024 (λ k. so_far N.roots (k / 32) (k % 32)) ≡ report N E
  unfolding report report_at so_far
  far_all = refl
