-- A row repeats one above if its place in the table of its group is taken.
-- Assumes nothing.
use mathlib.Core.Path.{◌≡◌, refl, sym, ap, ap₂, subst, ◌∙◌}
use mathlib.Core.Logic.{◌⊎◌, inl, inr}
use mathlib.Core.Bool.{Bool, true, false, not, false≢true}
use mathlib.Core.List.{List, [], ◌∷◌, map}
use Prim.Native.Nat.{ℕ, ◌+◌, ◌*◌, ◌<◌, ◌^◌}
use native.Mathlib.Omega.{arith}
use lib.Dec.{eqb, ltb}
use lib.ListN.{get_or, length-replicate, get_or-replicate}
use Rattle.sets.specs.Lists.{All, ◌&◌, all, any, same}
use Rattle.sets.specs.Bits.{mem, grant, joins}
use Rattle.sets.proofs.Lists.{iff, or_case, and_l, eqb_eq, eq-eqb, In-All, All-in, All-turn, keep_out, and_true, and_yes}
use Rattle.sets.proofs.Tables.{get_or_table}
use Rattle.klaim.specs.Limits.{boxes_size}
use Rattle.klaim.specs.Rows.{Row, group_r, group_d, group_t, group_l, group_q, group_b, group_a, group_e}
use Rattle.klaim.specs.Net as Net
use Rattle.klaim.specs.Reader.{in_limits, of_group, key, repeated, nth, gather, pair_place, box_place, root_of}
use Rattle.klaim.proofs.Within.{within}
use Rattle.klaim.proofs.BoxRows.{place_low, places_keys}
use Rattle.klaim.proofs.Above.{taken, boxes_mark}
use Rattle.text.specs.Fields.{unsaid}
use Rattle.forms.specs.declared.rows.Pair.{Pair}
use Rattle.forms.specs.declared.rows.Sandbox.{Sandbox}
use Rattle.forms.specs.declared.rows.Tuple.{Tuple}
use Rattle.forms.specs.declared.rows.Root.{Root}
use Rattle.forms.specs.declared.rows.Bound.{Bound}
use Rattle.forms.specs.Forms.{pair_group, tuple_group, sites_of, pair_data, box_data, tuple_data, root_data, bound_data}
use Rattle.stores.specs.Sets.{pairs_of, boxes_of, bounds_of}
use Rattle.repeats.specs.Kept.{Kept, unsaid_boxes, root_same, tuple_key}
use Rattle.repeats.proofs.Marks.{any_keep, any_map, joins_some, joins_mem, two_same}
use Rattle.repeats.proofs.Keys.{key_same}
use Rattle.repeats.proofs.Rows.{PairRow, BoundRow, RootRow, pair_row, box_row, bound_row, root_row, tuple_row, kept_pair, kept_box, kept_bound, kept_root, kept_tuple}

-- the groups of rows
pair_own : (g : ℕ) (p : Pair) → (pair_data g p).group ≡ g
unfolding pair_data
pair_own g p = refl

box_own : (b : Sandbox) → (box_data b).group ≡ group_d
unfolding box_data
box_own b = refl

bound_own : (b : Bound) → (bound_data b).group ≡ group_b
unfolding bound_data
bound_own b = refl

pub tuple_own : (g : ℕ) (t : Tuple) → (tuple_data g t).group ≡ g
unfolding tuple_data
tuple_own g t = refl

root_own : (r : Root) → (root_data r).group ≡ group_l
unfolding root_data
root_own r = refl

tuple_keyed : (g : ℕ) (t : Tuple) → key (tuple_data g t) ≡ (tuple_data g t).group ∷ sites_of t
tuple_keyed g t = tuple_row g t ∙ ap (λ x. x ∷ sites_of t) (sym (tuple_own g t))

-- rows of two groups have two keys
key_split : (b r : Row) (g : ℕ) → r.group ≡ g → (p : Bool) → (b.group ≡ g → same (key b) (key r) ≡ p) → same (key b) (key r) ≡ (eqb b.group g & p)
unfolding key same
key_split b r g own p h = go (eqb b.group g) refl
  where
    go : (x : Bool) → eqb b.group g ≡ x → same (key b) (key r) ≡ (x & p)
    go true e = h (eqb_eq e) ∙ sym (and_yes p refl)
    go false e = iff (λ t. absurd (false≢true (sym e ∙ ap (eqb b.group) (sym own) ∙ and_l _ _ t))) (λ t. absurd (false≢true (and_l _ _ t)))

-- keys of rows of one group
keys_same : (b r : Row) (ks ls : List ℕ) → key b ≡ b.group ∷ ks → key r ≡ r.group ∷ ls → b.group ≡ r.group → same (key b) (key r) ≡ same ks ls
unfolding same ◌&◌
keys_same b r ks ls p q e = ap₂ same p q ∙ ap (λ (x : Bool). x & same ks ls) (ap (λ (x : ℕ). eqb x r.group) e ∙ eq-eqb r.group)

two_keys : (a b c d : ℕ) → same (a ∷ b ∷ []) (c ∷ d ∷ []) ≡ (eqb a c & eqb b d)
unfolding same
two_keys a b c d = ap (λ (x : Bool). eqb a c & x) (and_true (eqb b d))

-- the rows of a group, each kept
kept_of : (g : ℕ) {above : List Row} → All Kept above → All (λ b. Kept b × (b.group ≡ g)) (of_group g above)
unfolding of_group
kept_of g {above} K = In-All (of_group g above) (λ b i. let k = keep_out (λ r. eqb r.group g) above i in (All-in K k.0, eqb_eq k.1))

module _ (r : Row) (g : ℕ) (own : r.group ≡ g) (not-q : eqb g group_q ≡ false) where
  -- a row repeats one of its group
  repeat_any : (p : Row → Bool) → ((b : Row) → Kept b → b.group ≡ g → same (key b) (key r) ≡ p b) → {above : List Row} → All Kept above → repeated above r ≡ any p (of_group g above)
  unfolding repeated of_group ◌&◌
  repeat_any p agree {above} K =
      ap (λ (x : ℕ). not (eqb x group_q) & any (λ b. same (key b) (key r)) above) own
      ∙ ap (λ (x : Bool). not x & any (λ b. same (key b) (key r)) above) not-q
      ∙ any_keep (λ b. same (key b) (key r)) (λ b. eqb b.group g) p (λ b k. key_split b r g own (p b) (agree b k)) K

  -- a place that rights were put into
  place_seen : (place : Row → ℕ) → ((b : Row) → Kept b → b.group ≡ g → (same (key b) (key r) ≡ eqb (place b) (place r)) × (0 < b.rights)) → (n : ℕ) → place r < n → {above : List Row} → All Kept above → not (eqb (get_or (gather n place (λ b. b.rights) (of_group g above)) (place r) 0) 0) ≡ repeated above r
  unfolding gather
  place_seen place agree n low {above} K =
      ap (λ (x : ℕ). not (eqb x 0)) (get_or_table n (λ i. joins (λ b. grant (eqb (place b) i) b.rights) (of_group g above)) (place r) 0 low)
      ∙ joins_some (λ b. eqb (place b) (place r)) (λ b. b.rights) (All-turn (λ b k. (agree b k.0 k.1).1) (kept_of g K))
      ∙ sym (repeat_any (λ b. eqb (place b) (place r)) (λ b k q. (agree b k q).0) K)

  -- a place that a site was put into
  site_seen : (place site : Row → ℕ) → ((b : Row) → Kept b → b.group ≡ g → same (key b) (key r) ≡ (eqb (place b) (place r) & eqb (site b) (site r))) → (n : ℕ) → place r < n → {above : List Row} → All Kept above → mem (site r) (get_or (gather n place (λ b. 2 ^ site b) (of_group g above)) (place r) 0) ≡ repeated above r
  unfolding gather
  site_seen place site agree n low {above} K =
      ap (λ (x : ℕ). mem (site r) x) (get_or_table n (λ i. joins (λ b. grant (eqb (place b) i) (2 ^ site b)) (of_group g above)) (place r) 0 low)
      ∙ joins_mem (λ b. eqb (place b) (place r)) site (site r) (of_group g above)
      ∙ sym (repeat_any (λ b. eqb (place b) (place r) & eqb (site b) (site r)) agree K)

  -- a list of what the rows of the group say
  list_seen : {A : Type 0} (f : Row → A) (p : A → Bool) → ((b : Row) → Kept b → b.group ≡ g → same (key b) (key r) ≡ p (f b)) → (xs : List A) {above : List Row} → All Kept above → xs ≡ map f (of_group g above) → any p xs ≡ repeated above r
  list_seen f p agree xs {above} K e = ap (any p) e ∙ any_map p f (of_group g above) ∙ sym (repeat_any (λ b. p (f b)) agree K)

-- R and E rows
pair_no_q : (g : ℕ) → pair_group g ≡ true → eqb g group_q ≡ false
unfolding pair_group
pair_no_q g p = go (or_case (eqb g group_r) (eqb g group_e) p)
  where
    go : (eqb g group_r ≡ true) ⊎ (eqb g group_e ≡ true) → eqb g group_q ≡ false
    go (inl e) = let q : g ≡ group_r = eqb_eq e in rw q refl
    go (inr e) = let q : g ≡ group_e = eqb_eq e in rw q refl

pair_alike : {s t s' t' : ℕ} {b r : Row} → PairRow s t b → PairRow s' t' r → b.group ≡ r.group → same (key b) (key r) ≡ eqb (pair_place b) (pair_place r)
pair_alike {s} {t} {s'} {t'} {b} {r} B R e =
    keys_same b r (s ∷ t ∷ []) (s' ∷ t' ∷ []) B.keyed R.keyed e
    ∙ two_keys s t s' t'
    ∙ two_same (λ x y. 32 * x + y) s t s' t' (λ q. (omega (arith, B.t_low, R.t_low), omega (arith, B.t_low, R.t_low)))
    ∙ sym (ap₂ eqb B.placed R.placed)

pub pair_seen : (p : Pair) → p.from < 32 → p.to < 32 → (g : ℕ) → pair_group g ≡ true → (at : ℕ) → at ≡ pair_place (pair_data g p) →
    (t : List ℕ) {above : List Row} → All Kept above → t ≡ pairs_of g above → not (eqb (get_or t at 0) 0) ≡ repeated above (pair_data g p)
pair_seen p s u g P at a t {above} K e =
    let R = pair_row g p s u in
    let own = pair_own g p in
    let of : (b : Row) → Kept b → b.group ≡ g → pair_group b.group ≡ true = λ b k q. subst (λ (x : ℕ). pair_group x ≡ true) (sym q) P in
    ap₂ (λ (l : List ℕ) (i : ℕ). not (eqb (get_or l i 0) 0)) e a
    ∙ place_seen (pair_data g p) g own (pair_no_q g P) pair_place (λ b k q. (pair_alike (kept_pair k (of b k q)).1 R (q ∙ sym own), (kept_pair k (of b k q)).1.some)) 1024 (omega (arith, R.placed, R.s_low, R.t_low)) K

-- a place of the sandboxes' table that says rights
pub box_said : (i : ℕ) → i < boxes_size → {above : List Row} → All Kept above →
    ltb (get_or (boxes_of unsaid_boxes above) i 0) unsaid ≡ taken i (of_group group_d above)
box_said i h {above} K =
    boxes_mark i unsaid unsaid_boxes (of_group group_d above) (omega (arith, length-replicate {A = ℕ} boxes_size unsaid)) (omega (arith, get_or-replicate {A = ℕ} boxes_size i unsaid 0 h)) (All-turn (λ b k. (kept_box k.0 k.1).said) (kept_of group_d K))

-- B rows
bound_alike : {u s v t : ℕ} {b r : Row} → BoundRow u s b → BoundRow v t r → b.group ≡ r.group → same (key b) (key r) ≡ (eqb (nth b.vars 0) (nth r.vars 0) & eqb (nth b.sites 0) (nth r.sites 0))
bound_alike {u} {s} {v} {t} {b} {r} B R e =
    keys_same b r (u ∷ s ∷ []) (v ∷ t ∷ []) B.keyed R.keyed e
    ∙ two_keys u s v t
    ∙ sym (ap₂ ◌&◌ (ap₂ eqb B.var_is R.var_is) (ap₂ eqb B.site_is R.site_is))

pub box_seen : (x : Sandbox) → in_limits (box_data x) ≡ true → (at : ℕ) → at ≡ box_place (box_data x) → (t : List ℕ) {above : List Row} →
    All Kept above → t ≡ boxes_of unsaid_boxes above → ltb (get_or t at 0) unsaid ≡ repeated above (box_data x)
box_seen x L at a t {above} K e =
    let R = box_row x L in
    let own = box_own x in
    ap₂ (λ (l : List ℕ) (i : ℕ). ltb (get_or l i 0) unsaid) e a
    ∙ box_said (box_place (box_data x)) (place_low (box_data x) R.low R.shaped) K
    ∙ sym (repeat_any (box_data x) group_d own refl (λ b. eqb (box_place b) (box_place (box_data x))) (λ b k q. let B = kept_box k q in places_keys B.shaped R.shaped B.low R.low (q ∙ sym own)) K)

pub bound_seen : (x : Bound) → x.variable < 32 → x.site < 32 → (t : List ℕ) {above : List Row} → All Kept above → t ≡ bounds_of above →
    mem x.site (get_or t x.variable 0) ≡ repeated above (bound_data x)
bound_seen x u s t {above} K e =
    let R = bound_row x u s in
    let own = bound_own x in
    ap₂ (λ (s u : ℕ). mem s (get_or t u 0)) (sym R.site_is) (sym R.var_is)
    ∙ ap (λ (l : List ℕ). mem (nth (bound_data x).sites 0) (get_or l (nth (bound_data x).vars 0) 0)) e
    ∙ site_seen (bound_data x) group_b own refl (λ x. nth x.vars 0) (λ x. nth x.sites 0) (λ b k q. bound_alike (kept_bound k q).1 R (q ∙ sym own)) 32 (omega (arith, R.var_is, R.u_low)) K

-- T and A rows
tuple_no_q : (g : ℕ) → tuple_group g ≡ true → eqb g group_q ≡ false
unfolding tuple_group
tuple_no_q g p = go (or_case (eqb g group_t) (eqb g group_a) p)
  where
    go : (eqb g group_t ≡ true) ⊎ (eqb g group_a ≡ true) → eqb g group_q ≡ false
    go (inl e) = let q : g ≡ group_t = eqb_eq e in rw q refl
    go (inr e) = let q : g ≡ group_a = eqb_eq e in rw q refl

-- L rows
root_alike : {s q t p : ℕ} {b r : Row} → RootRow s q b → RootRow t p r → b.group ≡ r.group → same (key b) (key r) ≡ root_same t p (root_of b)
unfolding root_same
root_alike {s} {q} {t} {p} {b} {r} B R e =
    keys_same b r (s ∷ q ∷ []) (t ∷ p ∷ []) B.keyed R.keyed e
    ∙ two_keys s q t p
    ∙ ap (λ (x : Net.Root). eqb x.site t & eqb x.line p) (sym B.root_is)

pub tuple_seen : (x : Tuple) → all (λ s. ltb s 32) (sites_of x) ≡ true → (g : ℕ) → tuple_group g ≡ true → (k : ℕ) → k ≡ tuple_key (sites_of x) → (xs : List ℕ) {above : List Row} → All Kept above → xs ≡ map (λ x. tuple_key x.sites) (of_group g above) → any (λ x. eqb x k) xs ≡ repeated above (tuple_data g x)
tuple_seen x L g P k s xs {above} K e =
    let own = tuple_own g x in
    let of : (b : Row) → Kept b → b.group ≡ g → tuple_group b.group ≡ true = λ b k q. subst (λ (x : ℕ). tuple_group x ≡ true) (sym q) P in
    list_seen (tuple_data g x) g own (tuple_no_q g P) (λ x. tuple_key x.sites) (λ x. eqb x k)
    (λ b kept q. keys_same b (tuple_data g x) b.sites (sites_of x) (kept_tuple kept (of b kept q)) (tuple_keyed g x) (q ∙ sym own) ∙ key_same b.sites (sites_of x) (within b kept.low).sites_low L ∙ ap (eqb (tuple_key b.sites)) (sym s)) xs K e

pub root_seen : (x : Root) → x.site < 32 → x.line < 256 → (xs : List Net.Root) {above : List Row} → All Kept above → xs ≡ map root_of (of_group group_l above) → any (root_same x.site x.line) xs ≡ repeated above (root_data x)
root_seen x s q xs {above} K e = list_seen (root_data x) group_l (root_own x) refl root_of (root_same x.site x.line) (λ b k p. root_alike (kept_root k p).1 (root_row x s q) (p ∙ sym (root_own x))) xs K e
