-- The invariant of an engine state: every start gives it, every call keeps it (proofs/Invariant.antt).
-- Assumes nothing.
use Rattle.std.specs.Prelude.{◌≡◌, Bool, true, false, not, List, [], ◌∷◌, ℕ, ◌<◌, ◌≤◌, ltb, length, get_or, take}
use Rattle.std.proofs.Math.Option.{none, some}
use Rattle.sets.specs.Lists.{Elem, All, ◌&◌, all, any, concat, empty, same, ◌⧺◌}
use Rattle.klaim.specs.Limits.{site_limit, var_limit, box_limit, thread_limit, tuple_limit, line_limit}
use Rattle.klaim.specs.Process.{Line, line_at, boxes_of, slots_of, sites_in, used_in, bound_in, ordered, tree, free}
use Rattle.klaim.specs.State.{Thread, State, is_nil}

-- each number is below n
unfoldable pub all_below : ℕ → List ℕ → Bool
all_below n xs = all (λ x. ltb x n) xs

-- what 2 and 4 leave of a line, among n sites
unfoldable pub line_fits : ℕ → Line → Bool
line_fits n l =
    all_below n (concat sites_in (slots_of l))
    & all_below var_limit (concat used_in (slots_of l) ⧺ concat bound_in (slots_of l))
    & all_below box_limit (boxes_of l)

-- what 3 leaves of A rows: no two are equal
unfoldable pub distinct : List (List ℕ) → Bool
distinct [] = true
distinct (t ∷ ts) = not (any (same t) ts) & distinct ts

-- each number is less than those behind it
unfoldable pub rising : List ℕ → Bool
rising [] = true
rising (r ∷ rs) = all (ltb r) rs & rising rs

-- an arrival's root is a line behind the net's own, and what 8 leaves of it; the lines before it name none from it on
pub record ArrivalOk (own : ℕ) (ls : List Line) (r : ℕ) : Type 0 where
  pub present : r < length ls
  pub closed : empty (free (tree ls r)) ≡ true
  pub behind : own ≤ r
  pub apart : ordered (take r ls) ≡ true

-- a thread stands at a site, on a line that is not `nil`, and each free variable of its line is bound to a site
pub record ThreadOk (n : ℕ) (ls : List Line) (th : Thread) : Type 0 where
  pub placed : th.site < n
  pub policy_long : length th.policy ≡ site_limit
  pub present : th.line < length ls
  pub running : is_nil (line_at ls th.line) ≡ false
  pub bindings_long : length th.bindings ≡ var_limit
  pub bindings_low : (u s : ℕ) → get_or th.bindings u none ≡ some s → s < n
  pub free_bound : (u : ℕ) → Elem u (free (tree ls th.line)) → (s : ℕ) × (get_or th.bindings u none ≡ some s)

-- "an invariant that every starting state is shown to have and every call to keep"
pub record Invariant (st : State) : Type 0 where
  pub sites_some : 1 ≤ st.net.size
  pub sites_few : st.net.size ≤ site_limit
  pub lines_few : length st.lines ≤ line_limit
  pub threads_few : length st.threads ≤ thread_limit
  pub tuples_few : length st.tuples ≤ tuple_limit
  pub lines_ordered : ordered st.lines ≡ true
  pub lines_fit : all (line_fits st.net.size) st.lines ≡ true
  pub stand_fit : all (all_below st.net.size) st.estimate.stand ≡ true
  pub stand_few : length st.estimate.stand ≤ tuple_limit
  pub stand_distinct : distinct st.estimate.stand ≡ true
  pub tuples_fit : all (all_below st.net.size) st.tuples ≡ true
  pub own_lines : length st.net.lines ≤ length st.lines
  pub arrivals_ok : All (ArrivalOk (length st.net.lines) st.lines) st.arrivals
  pub arrivals_rise : rising st.arrivals ≡ true
  pub threads_ok : All (ThreadOk st.net.size st.lines) st.threads
