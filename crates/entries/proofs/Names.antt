-- Numbers within their limits: none of such a line or tuple changes where it becomes a byte.
-- Assumes nothing.
use mathlib.Core.Path.{◌≡◌, refl, sym, ap, ◌∙◌}
use mathlib.Core.Bool.{Bool, true}
use mathlib.Core.List.{List, [], ◌∷◌, map}
use Prim.Native.Nat.{ℕ, ◌%◌, ◌<◌}
use native.Mathlib.Omega.{arith}
use lib.Dec.{ltb}
use Rattle.sets.specs.Lists.{All, done, more, all, concat}
use Rattle.sets.proofs.Lists.{and_l, and_r, and_i, low_first, low_rest}
use Rattle.klaim.specs.declared.Loc.{Loc}
use Rattle.klaim.specs.declared.Loc.TheVariants.{At, Here, Use}
use Rattle.klaim.specs.declared.Slot.{Slot}
use Rattle.klaim.specs.declared.Slot.TheVariants.{Value, Bind, Wildcard}
use Rattle.klaim.specs.Fields.{items}
use Rattle.klaim.specs.Process.{Line, Nil, Par, Rep, Out, In, Read, Eval, Accept, boxes_of, children, slots_of, sites_in, used_in, bound_in}
use Rattle.klaim.specs.Rows.{row_line}
use Rattle.klaim.specs.Reader.{in_limits}
use Rattle.klaim.proofs.Within.{within}
use Rattle.judge.proofs.Tests.{all_cat}
use Rattle.text.specs.declared.SiteName.{SiteName}
use Rattle.lines.specs.Lines.{line_view}
use Rattle.forms.specs.declared.rows.Process.{Process}
use Rattle.forms.specs.declared.rows.Tuple.{Tuple}
use Rattle.forms.specs.Forms.{process_data, sites_of}
use Rattle.tables.specs.declared.Action.{Action}
use Rattle.tables.specs.declared.Action.TheVariants as Actions
use Rattle.tables.specs.Low.{low_loc, low_slot, low_action}
use Rattle.tables.specs.View.{action_line}
use Rattle.entries.specs.Entries.{cut_loc, cut_slot, cut_line}

-- numbers of names within their limit
abbrev pub Low : List ℕ → Type 0
Low xs = all (λ n. ltb n 32) xs ≡ true

abbrev pub SlotLow : Slot → Type 0
SlotLow s = Low (sites_in s) × Low (used_in s) × Low (bound_in s)

-- a field, and a target as one
small : (n : ℕ) → n < 32 → n % 256 ≡ n
small n h = omega arith

cut : (s : Slot) → SlotLow s → cut_slot s ≡ s
unfolding sites_in used_in bound_in
cut (Value (At s)) h = rw (small s.0 (low_first 32 s.0 [] h.0)) refl
cut (Value Here) h = refl
cut (Value (Use u)) h = rw (small u.0 (low_first 32 u.0 [] h.1)) refl
cut (Bind u) h = rw (small u.0 (low_first 32 u.0 [] h.2)) refl
cut Wildcard h = refl

low : (s : Slot) → SlotLow s → low_slot s ≡ true
unfolding sites_in used_in bound_in all
low (Value (At s)) h = and_l _ _ h.0
low (Value Here) h = refl
low (Value (Use u)) h = and_l _ _ h.1
low (Bind u) h = and_l _ _ h.2
low Wildcard h = refl

cut_target : (x : Loc) → SlotLow (Value x) → cut_loc x ≡ x
unfolding sites_in used_in
cut_target (At s) h = rw (small s.0 (low_first 32 s.0 [] h.0)) refl
cut_target Here h = refl
cut_target (Use u) h = rw (small u.0 (low_first 32 u.0 [] h.1)) refl

-- all of them
cuts : {ss : List Slot} → All SlotLow ss → map cut_slot ss ≡ ss
cuts done = refl
cuts {ss = s ∷ ss} (more h hs) = rw (cut s h, cuts hs) refl

lows : {ss : List Slot} → All SlotLow ss → all low_slot ss ≡ true
unfolding all
lows done = refl
lows {ss = s ∷ ss} (more h hs) = and_i (low s h) (lows hs)

cut_targets : (xs : List Loc) → All SlotLow (map Value xs) → map cut_loc xs ≡ xs
cut_targets [] done = refl
cut_targets (x ∷ xs) (more h hs) = rw (cut_target x h, cut_targets xs hs) refl

low_targets : (xs : List Loc) → All SlotLow (map Value xs) → all low_loc xs ≡ true
unfolding all
low_targets [] done = refl
low_targets (x ∷ xs) (more h hs) = and_i (low (Value x) h) (low_targets xs hs)

slots_low : (ss : List Slot) → Low (concat sites_in ss) → Low (concat used_in ss) → Low (concat bound_in ss) → All SlotLow ss
unfolding concat
slots_low [] s u b = done
slots_low (x ∷ ss) s u b =
    let p = sym (all_cat _ (sites_in x) (concat sites_in ss)) ∙ s in
    let q = sym (all_cat _ (used_in x) (concat used_in ss)) ∙ u in
    let r = sym (all_cat _ (bound_in x) (concat bound_in ss)) ∙ b in
    more (and_l _ _ p, and_l _ _ q, and_l _ _ r) (slots_low ss (and_r _ _ p) (and_r _ _ q) (and_r _ _ r))

-- the numbers of a line within their limits
pub record LineLow (l : Line) : Type 0 where
  pub boxes : Low (boxes_of l)
  pub names : All SlotLow (slots_of l)
  pub lines : all (λ q. ltb q 256) (children l) ≡ true

pub line_low : (p : Process) → in_limits (process_data p) ≡ true → LineLow (line_view p.line)
unfolding process_data row_line
line_low p h =
    let l = line_view p.line in
    let W = within (process_data p) h in
    let v = sym (all_cat _ (concat used_in (slots_of l)) (concat bound_in (slots_of l))) ∙ W.vars_low in
    record { boxes = W.boxes_low; names = slots_low (slots_of l) W.sites_low (and_l _ _ v) (and_r _ _ v); lines = low_rest 256 p.number _ W.lines_low }

byte : (n : ℕ) → n < 256 → n % 256 ≡ n
byte n h = omega arith

one : (a : ℕ) (ns : List ℕ) → all (λ q. ltb q 256) (a ∷ ns) ≡ true → a % 256 ≡ a
one a ns h = byte a (low_first 256 a ns h)

two : (a b : ℕ) → all (λ q. ltb q 256) (a ∷ b ∷ []) ≡ true → b % 256 ≡ b
two a b h = one b [] (low_rest 256 a _ h)

box : (k : ℕ) → Low (k ∷ []) → k % 256 ≡ k
box k h = let l = low_first 32 k [] h in omega arith

head : {s : Slot} {ss : List Slot} → All SlotLow (s ∷ ss) → SlotLow s
head (more h hs) = h

tail : {s : Slot} {ss : List Slot} → All SlotLow (s ∷ ss) → All SlotLow ss
tail (more h hs) = hs

pub line_same : (l : Line) → LineLow l → cut_line l ≡ l
unfolding children slots_of boxes_of
line_same Nil L = refl
line_same (Par a b) L = rw (one a _ L.lines, two a b L.lines) refl
line_same (Rep a) L = rw (one a _ L.lines) refl
line_same (Out a g fs) L = rw (one a _ L.lines, cut_target g (head L.names), cut_targets fs (tail L.names)) refl
line_same (In a g fs) L = rw (one a _ L.lines, cut_target g (head L.names), cuts (tail L.names)) refl
line_same (Read a g fs) L = rw (one a _ L.lines, cut_target g (head L.names), cuts (tail L.names)) refl
line_same (Eval a g b k) L = rw (one a _ L.lines, cut_target g (head L.names), two a b L.lines, box k L.boxes) refl
line_same (Accept a k) L = rw (one a _ L.lines, box k L.boxes) refl

pub action_low : (x : Action) → LineLow (action_line x) → low_action x ≡ true
unfolding action_line slots_of boxes_of all
action_low Actions.Nil L = refl
action_low (Actions.Par a b) L = refl
action_low (Actions.Rep a) L = refl
action_low (Actions.Out a g fs) L = and_i (low (Value g) (head L.names)) (low_targets (items fs) (tail L.names))
action_low (Actions.In a g fs) L = and_i (low (Value g) (head L.names)) (lows (tail L.names))
action_low (Actions.Read a g fs) L = and_i (low (Value g) (head L.names)) (lows (tail L.names))
action_low (Actions.Eval a g b k) L = and_i (low (Value g) (head L.names)) (and_l _ _ L.boxes)
action_low (Actions.Accept a k) L = and_l _ _ L.boxes

-- what becomes of each, in one turn and in two
pub twice : {A B C : Type 0} (f : A → B) (g : B → C) (xs : List A) → map (λ x. g (f x)) xs ≡ map g (map f xs)
twice f g [] = refl
twice f g (x ∷ xs) = ap (λ ys. g (f x) ∷ ys) (twice f g xs)

-- codes of names that keep to p and q, read by g
module _ {A B C : Type 0} (g : C → B) (value : A → B) (code : A → C) (p q : A → Bool) (same : (m : A) → p m ≡ true → q m ≡ true → g (code m) ≡ value m) where
  pub map_same : (ms : List A) → all p ms ≡ true → all q ms ≡ true → map g (map code ms) ≡ map value ms
  unfolding all
  map_same [] a b = refl
  map_same (m ∷ ms) a b = rw (same m (and_l _ _ a) (and_l _ _ b), map_same ms (and_r _ _ a) (and_r _ _ b))

-- a tuple
pub tuple_same : (t : Tuple) → Low (sites_of t) → t.site % 256 ∷ map (λ (s : SiteName). s.0 % 256) (items t.fields) ≡ sites_of t
unfolding sites_of
tuple_same t h =
    let l = low_first 32 t.site _ h in
    let e : t.site % 256 ≡ t.site = omega arith in
    rw (e, sites (items t.fields) (low_rest 32 t.site _ h)) refl
  where
    sites : (ss : List SiteName) → Low (map (λ (s : SiteName). s.0) ss) → map (λ (s : SiteName). s.0 % 256) ss ≡ map (λ (s : SiteName). s.0) ss
    sites [] h = refl
    sites (s ∷ ss) h = rw (small s.0 (low_first 32 s.0 _ h), sites ss (low_rest 32 s.0 _ h)) refl
