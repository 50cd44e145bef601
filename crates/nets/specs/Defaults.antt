-- The sandboxes when all rows are read: what stands where no D row speaks.
-- Assumes nothing.
use Rattle.std.specs.Prelude.{cond, List, ℕ, ◌%◌, eqb, ltb, get_or}
use Rattle.sets.specs.Lists.{table}
use Rattle.sets.specs.Bits.{every_right}
use Rattle.klaim.specs.Limits.{box_width, boxes_size, self_place}
use Rattle.text.specs.Fields.{unsaid}

-- what a sandbox has for `self`: what a row says; No. 3: "a sandbox with no `self` row has all five rights for `self`"
unfoldable pub own_of : ℕ → ℕ
own_of said = cond (ltb said unsaid) said every_right

-- the table, with that at the place of `self` in each sandbox
unfoldable pub with_own : List ℕ → List ℕ
with_own boxes = table boxes_size (λ i. cond (eqb (i % box_width) self_place) (own_of (get_or boxes i 0)) (get_or boxes i 0))

-- the table, with no rights where none are said
unfoldable pub cleared : List ℕ → List ℕ
cleared boxes = table boxes_size (λ i. get_or boxes i 0 % unsaid)
