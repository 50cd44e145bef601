-- The tables of sets that hold the rows of a group.
-- Assumes nothing.
use Rattle.std.specs.Prelude.{List, ℕ, ◌^◌}
use Rattle.klaim.specs.Rows.{Row, group_d, group_b}
use Rattle.klaim.specs.Reader.{of_group, nth, gather, pair_place, put_boxes}

-- the rights of R or of E rows, for each pair of sites
abbrev pub pairs_of : ℕ → List Row → List ℕ
pairs_of g above = gather 1024 pair_place (λ x. x.rights) (of_group g above)

-- the rights of D rows, for each sandbox and each site or `self`, put over what stands there
abbrev pub boxes_of : List ℕ → List Row → List ℕ
boxes_of start above = put_boxes start (of_group group_d above)

-- the sites of B rows, for each variable
abbrev pub bounds_of : List Row → List ℕ
bounds_of above = gather 32 (λ x. nth x.vars 0) (λ x. 2 ^ nth x.sites 0) (of_group group_b above)
