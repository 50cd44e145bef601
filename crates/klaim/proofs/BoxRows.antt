-- D rows: two have one key exactly if they have one place in the sandboxes' table.
-- Assumes nothing.
use mathlib.Core.Path.{◌≡◌, refl, sym, ap, ap₂, subst, ◌∙◌}
use mathlib.Core.Bool.{true}
use mathlib.Core.List.{List, [], ◌∷◌}
use Prim.Native.Nat.{ℕ, ◌<◌, ◌≤◌}
use native.Mathlib.Omega.{arith}
use lib.Dec.{eqb, ltb}
use lib.ListN.{length, get_or, drop}
use Rattle.sets.specs.Lists.{all, same, ◌⧺◌}
use Rattle.sets.proofs.Lists.{eqb_eq, eqb_i, low_first, same_eq, same_refl, iff}
use Rattle.sets.proofs.Runs.{cat_none}
use Rattle.klaim.specs.Limits.{site_limit, box_limit, boxes_size, box_index, self_place}
use Rattle.klaim.specs.Rows.{Row}
use Rattle.klaim.specs.Reader.{in_limits, key, nth, box_place}
use Rattle.klaim.proofs.Within.{within}

-- a D row has a sandbox, at most one site, and rights
pub record BoxShaped (r : Row) : Type 0 where
  pub boxes_one : r.boxes ≡ nth r.boxes 0 ∷ []
  pub sites_few : length r.sites ≤ 1
  pub key_is : key r ≡ r.group ∷ (r.boxes ⧺ (r.sites ⧺ []))

-- no site, or one
to_most : (ts : List ℕ) → all (λ s. ltb s site_limit) ts ≡ true → get_or ts 0 self_place ≤ self_place
to_most [] l = omega arith
to_most (t ∷ ts) l = omega (arith, low_first site_limit t ts l)

to_same : (xs ys : List ℕ) → length xs ≤ 1 → length ys ≤ 1 → all (λ s. ltb s site_limit) xs ≡ true → all (λ s. ltb s site_limit) ys ≡ true → get_or xs 0 self_place ≡ get_or ys 0 self_place → xs ≡ ys
to_same [] [] m n l k e = refl
to_same [] (y ∷ ys) m n l k e = absurd (omega (arith, low_first site_limit y ys k))
to_same (x ∷ xs) [] m n l k e = absurd (omega (arith, low_first site_limit x xs l))
to_same (x ∷ []) (y ∷ []) m n l k e = ap (λ (z : ℕ). z ∷ []) e
to_same (x ∷ []) (y ∷ z ∷ zs) m n l k e = absurd (omega arith)
to_same (x ∷ z ∷ zs) (y ∷ ys) m n l k e = absurd (omega arith)

-- the sandbox and the t of a D row within limits, and its place
module _ (r : Row) (L : in_limits r ≡ true) where
  to_low : get_or r.sites 0 self_place ≤ self_place
  to_low = to_most r.sites (within r L).sites_low

  -- a place has one sandbox and one t
  pub place_of : (k t : ℕ) → t ≤ self_place → box_place r ≡ box_index k t → (nth r.boxes 0 ≡ k) × (get_or r.sites 0 self_place ≡ t)
  unfolding box_place
  place_of k t h e = (omega (arith, e, to_low, h), omega (arith, e, to_low, h))

  module _ (B : BoxShaped r) where
    box_low : nth r.boxes 0 < box_limit
    box_low = low_first box_limit (nth r.boxes 0) [] (subst (λ (ks : List ℕ). all (λ k. ltb k box_limit) ks ≡ true) B.boxes_one (within r L).boxes_low)

    pub place_low : box_place r < boxes_size
    unfolding box_place
    place_low = omega (arith, box_low, to_low)

-- the place, by the key
place_key : {r : Row} → BoxShaped r → box_place r ≡ box_index (nth (key r) 1) (get_or (drop 2 (key r)) 0 self_place)
unfolding box_place ◌⧺◌
place_key {r} B =
    sym (ap (λ (ks : List ℕ). box_index (nth ks 1) (get_or (drop 2 ks) 0 self_place))
    (B.key_is
    ∙ ap (λ (ks : List ℕ). r.group ∷ (ks ⧺ (r.sites ⧺ []))) B.boxes_one
    ∙ ap (λ (ss : List ℕ). r.group ∷ nth r.boxes 0 ∷ ss) (cat_none r.sites)))

module _ {b r : Row} (B : BoxShaped b) (R : BoxShaped r) (l : in_limits b ≡ true) (m : in_limits r ≡ true) (g : b.group ≡ r.group) where
  same_keys : box_place b ≡ box_place r → key b ≡ key r
  unfolding box_place
  same_keys e =
      let p = place_of b l (nth r.boxes 0) (get_or r.sites 0 self_place) (to_low r m) e in
      let boxes : b.boxes ≡ r.boxes = B.boxes_one ∙ ap (λ (k : ℕ). k ∷ []) p.0 ∙ sym R.boxes_one in
      let sites : b.sites ≡ r.sites = to_same b.sites r.sites B.sites_few R.sites_few (within b l).sites_low (within r m).sites_low p.1 in
      B.key_is ∙ ap₂ (λ (h : ℕ) (ks : List ℕ). h ∷ ks) g (ap₂ (λ (ks ss : List ℕ). ks ⧺ (ss ⧺ [])) boxes sites) ∙ sym R.key_is

  pub places_keys : same (key b) (key r) ≡ eqb (box_place b) (box_place r)
  places_keys =
      iff
      (λ t. eqb_i (place_key B ∙ ap (λ (ks : List ℕ). box_index (nth ks 1) (get_or (drop 2 ks) 0 self_place)) (same_eq (key b) (key r) t) ∙ sym (place_key R)))
      (λ t. subst (λ (ks : List ℕ). same ks (key r) ≡ true) (sym (same_keys (eqb_eq t))) (same_refl (key r)))
