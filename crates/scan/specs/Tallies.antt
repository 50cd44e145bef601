-- The tally of the rows above, with a row more.
-- Assumes nothing.
use Rattle.std.specs.Prelude.{true, ℕ, eqb, Option, None, Some}
use Rattle.sets.specs.Lists.{◌&◌}
use Rattle.forms.specs.declared.rows.Group.{Group}
use Rattle.forms.specs.declared.rows.Group.TheVariants as Groups
use Rattle.forms.specs.declared.rows.Row.{Row}
use Rattle.forms.specs.declared.rows.Row.TheVariants.{N, R, D, T, L, Q, B, A, E}
use Rattle.forms.specs.Forms.{group_number}
use Rattle.scan.specs.declared.Tally.{Tally}

-- the number of the last group, 0 where no row stands above
abbrev pub last_number : Option Group → ℕ
last_number None = 0
last_number (Some g) = group_number g

-- below n lines
abbrev pub counted_of : Row → ℕ → Tally → Tally
counted_of (N k) n t = record t { size = k; last = Some Groups.N }
counted_of (R p) n t = record t { last = Some Groups.R }
counted_of (D b) n t = record t { last = Some Groups.D }
counted_of (T x) n t = record t { last = Some Groups.T }
counted_of (L r) n t = record t { last = Some Groups.L }
counted_of (Q p) n t = record t { last = Some Groups.Q; turn = t.turn & eqb p.number n }
counted_of (B b) n t = record t { last = Some Groups.B }
counted_of (A x) n t = record t { last = Some Groups.A }
counted_of (E p) n t = record t { last = Some Groups.E }

-- the tally of no rows, n given
abbrev pub start_of : ℕ → Tally
start_of n = record { size = n; last = None; turn = true }
