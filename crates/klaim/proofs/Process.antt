-- The process of a line: its shape, and that it stays when lines are put behind.
-- Assumes nothing.
use mathlib.Core.Path.{◌≡◌, refl, sym, ap, ap₂, subst, ◌∙◌}
use mathlib.Core.Logic.{◌⊎◌, inl, inr}
use mathlib.Core.Bool.{true, not}
use mathlib.Core.List.{List, [], ◌∷◌, ◌++◌, map}
use Prim.Native.Nat.{ℕ, zero, suc, ◌+◌, ◌-◌, ◌≤◌, ◌<◌}
use native.Mathlib.Omega.{arith}
use native.Mathlib.Nat.{add-zero}
use lib.Dec.{ltb}
use lib.ListN.{length, get_or, take, drop, take-append-drop, get_or-append, length-append, length-map}
use lib.Seq.{length-take-le}
use Rattle.sets.specs.Lists.{Elem, first, later, ◌&◌, all, concat, among, ◌⧺◌}
use Rattle.sets.specs.Bits.{in_bit, read_bit}
use Rattle.sets.proofs.Lists.{in_none, in_left, in_right, in_keep, in_concat, among_in, split, and_l, and_r, and_i, all_at, all_turn, all_map, ltb_lt, lt-ltb}
use Rattle.klaim.specs.declared.Loc.{Loc}
use Rattle.klaim.specs.declared.Slot.{Slot}
use Rattle.klaim.specs.declared.Slot.TheVariants.{Value}
use Rattle.klaim.specs.Process.{Line, Nil, Par, Rep, Out, In, Read, Eval, Accept, line_at, children, slots_of, template, used_in, bound_in, Tree, nil_t, par_t, rep_t, out_t, get_t, eval_t, accept_t, node, trees, tree, ordered_from, ordered, without, free, move}

-- a process with its line numbers moved
unfoldable renumber : ℕ → Tree → Tree
renumber d nil_t = nil_t
renumber d (par_t a b) = par_t (renumber d a) (renumber d b)
renumber d (rep_t a) = rep_t (renumber d a)
renumber d (out_t q g fs a) = out_t (d + q) g fs (renumber d a)
renumber d (get_t q r g ss a) = get_t (d + q) r g ss (renumber d a)
renumber d (eval_t q g k b a) = eval_t (d + q) g k (renumber d b) (renumber d a)
renumber d (accept_t k a) = accept_t k (renumber d a)

node_ext : (f g : ℕ → Tree) (q : ℕ) (l : Line) → ((c : ℕ) → Elem c (children l) → f c ≡ g c) → node f q l ≡ node g q l
unfolding node children
node_ext f g q Nil h = refl
node_ext f g q (Par a b) h = ap₂ par_t (h a (first refl)) (h b (later (first refl)))
node_ext f g q (Rep a) h = ap rep_t (h a (first refl))
node_ext f g q (Out a x fs) h = ap (out_t q x fs) (h a (first refl))
node_ext f g q (In a x fs) h = ap (get_t q in_bit x fs) (h a (first refl))
node_ext f g q (Read a x fs) h = ap (get_t q read_bit x fs) (h a (first refl))
node_ext f g q (Eval a x b k) h = ap₂ (eval_t q x k) (h b (later (first refl))) (h a (first refl))
node_ext f g q (Accept a k) h = ap (accept_t k) (h a (first refl))

node_move : (d : ℕ) (f : ℕ → Tree) (q : ℕ) (l : Line) → node (λ c. renumber d (f c)) (d + q) l ≡ renumber d (node f q l)
unfolding renumber node
node_move d f q Nil = refl
node_move d f q (Par a b) = refl
node_move d f q (Rep a) = refl
node_move d f q (Out a x fs) = refl
node_move d f q (In a x fs) = refl
node_move d f q (Read a x fs) = refl
node_move d f q (Eval a x b k) = refl
node_move d f q (Accept a k) = refl

move_node : (d : ℕ) (f : ℕ → Tree) (q : ℕ) (l : Line) → node f q (move d l) ≡ node (λ c. f (d + c)) q l
unfolding node move
move_node d f q Nil = refl
move_node d f q (Par a b) = refl
move_node d f q (Rep a) = refl
move_node d f q (Out a x fs) = refl
move_node d f q (In a x fs) = refl
move_node d f q (Read a x fs) = refl
move_node d f q (Eval a x b k) = refl
move_node d f q (Accept a k) = refl

children_move : (d : ℕ) (l : Line) → children (move d l) ≡ map (λ c. d + c) (children l)
unfolding children move
children_move d Nil = refl
children_move d (Par a b) = refl
children_move d (Rep a) = refl
children_move d (Out a x fs) = refl
children_move d (In a x fs) = refl
children_move d (Read a x fs) = refl
children_move d (Eval a x b k) = refl
children_move d (Accept a k) = refl

-- each child is greater than its parent, and a line
module _ (b n : ℕ) (l : Line) (t : all (λ c. ltb b c & ltb c n) (children l) ≡ true) (c : ℕ) (h : Elem c (children l)) where
  child_low : b < c
  child_low = ltb_lt b c (and_l _ _ (all_at _ h t))

  child_high : c < n
  child_high = ltb_lt c n (and_r _ _ (all_at _ h t))

no_child : {c : ℕ} → Elem c (children Nil) → ⊥
unfolding children
no_child h = in_none h

above : (b n : ℕ) (ls : List Line) (i : ℕ) → ordered_from b n ls ≡ true → (c : ℕ) → Elem c (children (line_at ls i)) → b + i < c
unfolding ordered_from
above b n [] i t c h = absurd (no_child h)
above b n (l ∷ ls) zero t c h = omega (arith, child_low b n l (and_l _ _ t) c h)
above b n (l ∷ ls) (suc i) t c h = omega (arith, above (suc b) n ls i (and_r _ _ t) c h)

below : (b n : ℕ) (ls : List Line) (i : ℕ) → ordered_from b n ls ≡ true → (c : ℕ) → Elem c (children (line_at ls i)) → c < n
unfolding ordered_from
below b n [] i t c h = absurd (no_child h)
below b n (l ∷ ls) zero t c h = child_high b n l (and_l _ _ t) c h
below b n (l ∷ ls) (suc i) t c h = below (suc b) n ls i (and_r _ _ t) c h

-- a child has a greater number than its parent, and is a line
pub child_greater : (ls : List Line) (q : ℕ) → ordered ls ≡ true → (c : ℕ) → Elem c (children (line_at ls q)) → q < c
unfolding ordered
child_greater ls q t c h = omega (arith, above 0 (length ls) ls q t c h)

pub child_line : (ls : List Line) (q : ℕ) → ordered ls ≡ true → (c : ℕ) → Elem c (children (line_at ls q)) → c < length ls
unfolding ordered
child_line ls q t c h = below 0 (length ls) ls q t c h

behind : (x : Tree) (ts : List Tree) (b c : ℕ) → b < c → get_or ts (c - suc b) nil_t ≡ get_or (x ∷ ts) (c - b) nil_t
behind x ts b c h = sym (ap (λ (i : ℕ). get_or (x ∷ ts) i nil_t) step)
  where
    step : c - b ≡ suc (c - suc b)
    step = omega arith

shape : (b n : ℕ) (ls : List Line) (i : ℕ) → ordered_from b n ls ≡ true → get_or (trees b ls) i nil_t ≡ node (λ c. get_or (trees b ls) (c - b) nil_t) (b + i) (line_at ls i)
unfolding ordered_from trees node
shape b n [] i t = refl
shape b n (l ∷ ls) zero t =
    node_ext _ _ b l (λ c h. behind _ (trees (suc b) ls) b c (child_low b n l (and_l _ _ t) c h))
    ∙ ap (λ (q : ℕ). node (λ c. get_or (trees b (l ∷ ls)) (c - b) nil_t) q l) (omega arith)
shape b n (l ∷ ls) (suc i) t =
    shape (suc b) n ls i (and_r _ _ t)
    ∙ node_ext _ _ (suc b + i) (line_at ls i) (λ c h. behind _ (trees (suc b) ls) b c (omega (arith, above (suc b) n ls i (and_r _ _ t) c h)))
    ∙ ap (λ (q : ℕ). node (λ c. get_or (trees b (l ∷ ls)) (c - b) nil_t) q (line_at ls i)) (omega arith)

-- the process of a line is made of its children's
pub tree_node : (ls : List Line) (q : ℕ) → ordered ls ≡ true → tree ls q ≡ node (tree ls) q (line_at ls q)
unfolding tree ordered
tree_node ls q t =
    shape 0 (length ls) ls q t
    ∙ node_ext _ _ (0 + q) (line_at ls q) (λ c h. ap (λ (i : ℕ). get_or (trees 0 ls) i nil_t) (omega arith))
    ∙ ap (λ (i : ℕ). node (λ c. get_or (trees 0 ls) c nil_t) i (line_at ls q)) (omega arith)

length_trees : (b : ℕ) (ls : List Line) → length (trees b ls) ≡ length ls
unfolding trees
length_trees b [] = refl
length_trees b (l ∷ ls) = ap suc (length_trees (suc b) ls)

-- one more line in front
abbrev grow : ℕ → Line → List Tree → List Tree
grow b l ts = node (λ c. get_or ts (c - suc b) nil_t) b l ∷ ts

trees_append : (b n : ℕ) (ls ms : List Line) → ordered_from b n ls ≡ true → n ≤ b + length ls → trees b (ls ++ ms) ≡ trees b ls ++ trees (b + length ls) ms
unfolding ordered_from trees
trees_append b n [] ms t h = ap (λ (i : ℕ). trees i ms) (omega arith)
trees_append b n (l ∷ ls) ms t h =
    let ih : trees (suc b) (ls ++ ms) ≡ trees (suc b) ls ++ trees (suc b + length ls) ms = trees_append (suc b) n ls ms (and_r _ _ t) (omega arith) in
    ap (grow b l) (ih ∙ ap (λ (i : ℕ). trees (suc b) ls ++ trees i ms) (omega arith)) ∙ ap (λ (x : Tree). x ∷ (trees (suc b) ls ++ trees (b + suc (length ls)) ms)) head
  where
    head : node (λ c. get_or (trees (suc b) ls ++ trees (b + suc (length ls)) ms) (c - suc b) nil_t) b l ≡ node (λ c. get_or (trees (suc b) ls) (c - suc b) nil_t) b l
    head = node_ext _ _ b l (λ c i. get_or-append (trees (suc b) ls) _ nil_t (c - suc b) (omega (arith, length_trees (suc b) ls, child_low b n l (and_l _ _ t) c i, child_high b n l (and_l _ _ t) c i)))

get_d_map : (f : Tree → Tree) (ts : List Tree) (i : ℕ) → f nil_t ≡ nil_t → get_or (map f ts) i nil_t ≡ f (get_or ts i nil_t)
get_d_map f [] i e = sym e
get_d_map f (t ∷ ts) zero e = refl
get_d_map f (t ∷ ts) (suc i) e = get_d_map f ts i e

renumber_nil : (d : ℕ) → renumber d nil_t ≡ nil_t
unfolding renumber
renumber_nil d = refl

trees_move : (d b : ℕ) (ls : List Line) → trees (d + b) (map (move d) ls) ≡ map (renumber d) (trees b ls)
unfolding trees
trees_move d b [] = refl
trees_move d b (l ∷ ls) =
    let ih : trees (suc (d + b)) (map (move d) ls) ≡ map (renumber d) (trees (suc b) ls) = ap (λ (i : ℕ). trees i (map (move d) ls)) (omega arith) ∙ trees_move d (suc b) ls in
    ap (grow (d + b) (move d l)) ih ∙ ap (λ (x : Tree). x ∷ map (renumber d) (trees (suc b) ls)) head
  where
    head : node (λ c. get_or (map (renumber d) (trees (suc b) ls)) (c - suc (d + b)) nil_t) (d + b) (move d l) ≡ renumber d (node (λ c. get_or (trees (suc b) ls) (c - suc b) nil_t) b l)
    head =
        move_node d _ (d + b) l
        ∙ node_ext _ _ (d + b) l (λ c i. ap (λ (j : ℕ). get_or (map (renumber d) (trees (suc b) ls)) j nil_t) (omega arith) ∙ get_d_map (renumber d) (trees (suc b) ls) (c - suc b) (renumber_nil d))
        ∙ node_move d _ b l

free_renumber : (d : ℕ) (t : Tree) → free (renumber d t) ≡ free t
unfolding renumber free
free_renumber d nil_t = refl
free_renumber d (par_t a b) = ap₂ ◌⧺◌ (free_renumber d a) (free_renumber d b)
free_renumber d (rep_t a) = free_renumber d a
free_renumber d (out_t q g fs a) = ap (λ (x : List ℕ). concat used_in (map Value (g ∷ fs)) ⧺ x) (free_renumber d a)
free_renumber d (get_t q r g fs a) = ap (λ (x : List ℕ). concat used_in (Value g ∷ fs) ⧺ without (concat bound_in fs) x) (free_renumber d a)
free_renumber d (eval_t q g k b a) = ap₂ (λ (x y : List ℕ). used_in (Value g) ⧺ (x ⧺ y)) (free_renumber d b) (free_renumber d a)
free_renumber d (accept_t k a) = free_renumber d a

-- lines put behind leave the process of a line as it is
pub tree_old : (ls ms : List Line) (q : ℕ) → ordered ls ≡ true → q < length ls → tree (ls ++ ms) q ≡ tree ls q
unfolding tree ordered
tree_old ls ms q t h =
    ap (λ (ts : List Tree). get_or ts q nil_t) (trees_append 0 (length ls) ls ms t (omega arith))
    ∙ get_or-append (trees 0 ls) _ nil_t q (omega (arith, length_trees 0 ls))

-- and the first r lines, if they name none behind them, stand for what they stood for
pub tree_first : (ls : List Line) (r : ℕ) → r ≤ length ls → ordered (take r ls) ≡ true → (q : ℕ) → q < r → tree (take r ls) q ≡ tree ls q
tree_first ls r few t q h =
    sym (tree_old (take r ls) (drop r ls) q t (omega (arith, length-take-le r ls few))) ∙ ap (λ (l : List Line). tree l q) (take-append-drop r ls)

get_or_behind : (xs ys : List Tree) (d : Tree) → get_or (xs ++ ys) (length xs) d ≡ get_or ys 0 d
get_or_behind [] ys d = refl
get_or_behind (x ∷ xs) ys d = get_or_behind xs ys d

-- an arrival's first line stands for what it stood for alone, renumbered
tree_new : (ls ms : List Line) → ordered ls ≡ true → tree (ls ++ map (move (length ls)) ms) (length ls) ≡ renumber (length ls) (tree ms 0)
unfolding tree ordered
tree_new ls ms t =
    ap (λ (ts : List Tree). get_or ts (length ls) nil_t) (trees_append 0 (length ls) ls (map (move (length ls)) ms) t (omega arith) ∙ ap (λ (ts : List Tree). trees 0 ls ++ ts) moved)
    ∙ ap (λ (i : ℕ). get_or (trees 0 ls ++ map (renumber (length ls)) (trees 0 ms)) i nil_t) (sym (length_trees 0 ls))
    ∙ get_or_behind (trees 0 ls) (map (renumber (length ls)) (trees 0 ms)) nil_t
    ∙ get_d_map (renumber (length ls)) (trees 0 ms) 0 (renumber_nil (length ls))
  where
    moved : trees (0 + length ls) (map (move (length ls)) ms) ≡ map (renumber (length ls)) (trees 0 ms)
    moved = ap (λ (i : ℕ). trees i (map (move (length ls)) ms)) (omega arith) ∙ trees_move (length ls) 0 ms

-- an arrival's root has the free variables that it had alone
pub free_new : (ls ms : List Line) → ordered ls ≡ true → free (tree (ls ++ map (move (length ls)) ms) (length ls)) ≡ free (tree ms 0)
free_new ls ms t = ap free (tree_new ls ms t) ∙ free_renumber (length ls) (tree ms 0)

ordered_more : (b n m : ℕ) (ls : List Line) → n ≤ m → ordered_from b n ls ≡ true → ordered_from b m ls ≡ true
unfolding ordered_from
ordered_more b n m [] h t = refl
ordered_more b n m (l ∷ ls) h t =
    and_i (all_turn _ _ (children l) (λ c s. and_i (and_l _ _ s) (lt-ltb c m (omega (arith, ltb_lt c n (and_r _ _ s))))) (and_l _ _ t))
    (ordered_more (suc b) n m ls h (and_r _ _ t))

ordered_move : (d b n : ℕ) (ls : List Line) → ordered_from b n ls ≡ true → ordered_from (d + b) (d + n) (map (move d) ls) ≡ true
unfolding ordered_from
ordered_move d b n [] t = refl
ordered_move d b n (l ∷ ls) t =
    and_i
    (subst (λ (cs : List ℕ). all (λ c. ltb (d + b) c & ltb c (d + n)) cs ≡ true) (sym (children_move d l))
    (all_map _ (λ c. d + c) (children l) ∙ (all_turn _ _ (children l) (λ c s. and_i (lt-ltb (d + b) (d + c) (omega (arith, ltb_lt b c (and_l _ _ s)))) (lt-ltb (d + c) (d + n) (omega (arith, ltb_lt c n (and_r _ _ s))))) (and_l _ _ t))))
    (subst (λ (i : ℕ). ordered_from i (d + n) (map (move d) ls) ≡ true) step (ordered_move d (suc b) n ls (and_r _ _ t)))
  where
    step : d + suc b ≡ suc (d + b)
    step = omega arith

ordered_append : (b n : ℕ) (ls ms : List Line) → ordered_from b n ls ≡ true → ordered_from (b + length ls) n ms ≡ true → ordered_from b n (ls ++ ms) ≡ true
unfolding ordered_from
ordered_append b n [] ms t s = subst (λ (i : ℕ). ordered_from i n ms ≡ true) (add-zero b) s
ordered_append b n (l ∷ ls) ms t s =
    and_i (and_l _ _ t) (ordered_append (suc b) n ls ms (and_r _ _ t) (subst (λ (i : ℕ). ordered_from i n ms ≡ true) step s))
  where
    step : b + suc (length ls) ≡ suc b + length ls
    step = omega arith

-- an arrival's lines, moved behind the present ones
pub ordered_join : (ls ms : List Line) → ordered ls ≡ true → ordered ms ≡ true → ordered (ls ++ map (move (length ls)) ms) ≡ true
unfolding ordered
ordered_join ls ms t s =
    ordered_append 0 (length (ls ++ map (move (length ls)) ms)) ls (map (move (length ls)) ms)
    (ordered_more 0 (length ls) _ ls (omega (arith, total)) t)
    (subst (λ (i : ℕ). ordered_from i (length (ls ++ map (move (length ls)) ms)) (map (move (length ls)) ms) ≡ true) start
    (ordered_more (length ls + 0) (length ls + length ms) _ (map (move (length ls)) ms) (omega (arith, total)) (ordered_move (length ls) 0 (length ms) ms s)))
  where
    total : length (ls ++ map (move (length ls)) ms) ≡ length ls + length ms
    total = length-append ls (map (move (length ls)) ms) ∙ ap (λ (i : ℕ). length ls + i) (length-map ms (move (length ls)))

    start : length ls + 0 ≡ 0 + length ls
    start = omega arith

-- a variable used in a line is free there
pub used_free : (f : ℕ → Tree) (q : ℕ) (l : Line) {s : Slot} {u : ℕ} → Elem s (slots_of l) → Elem u (used_in s) → Elem u (free (node f q l))
unfolding slots_of free node
used_free f q Nil i h = absurd (in_none i)
used_free f q (Par a b) i h = absurd (in_none i)
used_free f q (Rep a) i h = absurd (in_none i)
used_free f q (Out a g fs) i h = in_left _ (in_concat used_in i h)
used_free f q (In a g fs) i h = in_left _ (in_concat used_in i h)
used_free f q (Read a g fs) i h = in_left _ (in_concat used_in i h)
used_free f q (Eval a g b k) {u = u} (first e) h = in_left _ (subst (λ (s : Slot). Elem u (used_in s)) e h)
used_free f q (Eval a g b k) (later i) h = absurd (in_none i)
used_free f q (Accept a k) i h = absurd (in_none i)

-- a variable free in `in` or `read`'s next line is free in the line, or bound by its template
get_free : (q r : ℕ) (g : Loc) (fs : List Slot) (a : Tree) {u : ℕ} → Elem u (free a) → Elem u (free (get_t q r g fs a)) ⊎ Elem u (concat bound_in fs)
unfolding free without
get_free q r g fs a {u} h = go (split (among (concat bound_in fs) u))
  where
    go : ((among (concat bound_in fs) u ≡ true) ⊎ (not (among (concat bound_in fs) u) ≡ true)) → Elem u (concat used_in (Value g ∷ fs) ⧺ without (concat bound_in fs) (free a)) ⊎ Elem u (concat bound_in fs)
    go (inl t) = inr (among_in _ u t)
    go (inr t) = inl (in_right (concat used_in (Value g ∷ fs)) (in_keep _ h t))

-- a variable free in a child is free in the line, or bound by its template
pub child_free : (f : ℕ → Tree) (q : ℕ) (l : Line) {c u : ℕ} → Elem c (children l) → Elem u (free (f c)) → Elem u (free (node f q l)) ⊎ Elem u (concat bound_in (template l))
unfolding children template node free
child_free f q Nil i h = absurd (in_none i)
child_free f q (Par a b) {u = u} (first e) h = inl (in_left _ (subst (λ (c : ℕ). Elem u (free (f c))) e h))
child_free f q (Par a b) {u = u} (later (first e)) h = inl (in_right (free (f a)) (subst (λ (c : ℕ). Elem u (free (f c))) e h))
child_free f q (Par a b) (later (later i)) h = absurd (in_none i)
child_free f q (Rep a) {u = u} (first e) h = inl (subst (λ (c : ℕ). Elem u (free (f c))) e h)
child_free f q (Rep a) (later i) h = absurd (in_none i)
child_free f q (Out a g fs) {u = u} (first e) h = inl (in_right (concat used_in (map Value (g ∷ fs))) (subst (λ (c : ℕ). Elem u (free (f c))) e h))
child_free f q (Out a g fs) (later i) h = absurd (in_none i)
child_free f q (In a g fs) {u = u} (first e) h = get_free q in_bit g fs (f a) (subst (λ (c : ℕ). Elem u (free (f c))) e h)
child_free f q (In a g fs) (later i) h = absurd (in_none i)
child_free f q (Read a g fs) {u = u} (first e) h = get_free q read_bit g fs (f a) (subst (λ (c : ℕ). Elem u (free (f c))) e h)
child_free f q (Read a g fs) (later i) h = absurd (in_none i)
child_free f q (Eval a g b k) {u = u} (first e) h = inl (in_right (used_in (Value g)) (in_right (free (f b)) (subst (λ (c : ℕ). Elem u (free (f c))) e h)))
child_free f q (Eval a g b k) {u = u} (later (first e)) h = inl (in_right (used_in (Value g)) (in_left _ (subst (λ (c : ℕ). Elem u (free (f c))) e h)))
child_free f q (Eval a g b k) (later (later i)) h = absurd (in_none i)
child_free f q (Accept a k) {u = u} (first e) h = inl (subst (λ (c : ℕ). Elem u (free (f c))) e h)
child_free f q (Accept a k) (later i) h = absurd (in_none i)
