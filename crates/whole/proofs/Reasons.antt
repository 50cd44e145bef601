-- Laws of what refuses a whole text.
-- Assumes nothing.
use mathlib.Core.Path.{◌≡◌, refl, ap, ◌∙◌}
use mathlib.Core.Bool.{Bool, true, false, not, cond}
use mathlib.Core.List.{List}
use Prim.Native.Nat.{ℕ}
use lib.Dec.{ltb}
use lib.ListN.{length}
use Rattle.std.specs.Prelude.{Ok, Err}
use Rattle.sets.specs.Lists.{◌&◌, all, below, same}
use Rattle.klaim.specs.declared.Reason.TheVariants.{Turn, Naming, Free}
use Rattle.klaim.specs.Process.{Line, ordered}
use Rattle.klaim.specs.Reader.{refused, gives, in_turn, named_once, roots_closed, whole}
use Rattle.whole.specs.Reasons.{whole_of, whole_answer}

-- the tests one by one
module _ (turn : Bool) (ls : List Line) (n : ℕ) (roots : List ℕ) (long : length ls ≡ n) where
  pub whole_turn : turn & ordered ls & all (λ q. ltb q n) roots ≡ false → Err Turn ≡ whole_of turn ls roots
  unfolding whole_of
  whole_turn t = rw (long, t)

  pub whole_once : turn & ordered ls & all (λ q. ltb q n) roots ≡ true → named_once ls roots ≡ false → Err Naming ≡ whole_of turn ls roots
  unfolding whole_of
  whole_once t m = rw (long, t, m)

  pub whole_closed : turn & ordered ls & all (λ q. ltb q n) roots ≡ true → named_once ls roots ≡ true → (b : Bool) → roots_closed ls roots ≡ b → cond b (Ok tt) (Err Free) ≡ whole_of turn ls roots
  unfolding whole_of
  whole_closed t m true c = rw (long, t, m, c)
  whole_closed t m false c = rw (long, t, m, c)

-- "Then 5, 6, 8, each over the whole text."
pub whole_is : {A : Type 0} (turn : Bool) (numbers : List ℕ) (ls : List Line) (roots : List ℕ) (x : A) → same numbers (below (length ls)) ≡ turn → whole numbers ls roots x ≡ whole_answer (whole_of turn ls roots) x
unfolding whole in_turn whole_of
whole_is turn numbers ls roots x e = ap (λ (t : Bool). cond (not (t & ordered ls & all (λ q. ltb q (length ls)) roots)) (refused 5 0) (cond (not (named_once ls roots)) (refused 6 0) (cond (not (roots_closed ls roots)) (refused 8 0) (gives x)))) e ∙ go (turn & ordered ls & all (λ q. ltb q (length ls)) roots) (named_once ls roots) (roots_closed ls roots)
  where
    go : (a b c : Bool) → cond (not a) (refused 5 0) (cond (not b) (refused 6 0) (cond (not c) (refused 8 0) (gives x))) ≡ whole_answer (cond (not a) (Err Turn) (cond (not b) (Err Naming) (cond (not c) (Err Free) (Ok tt)))) x
    go false b c = refl
    go true false c = refl
    go true true false = refl
    go true true true = refl
