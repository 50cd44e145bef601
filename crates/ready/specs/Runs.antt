-- Whether a thread can make a bare step, by the line that it stands on.
-- Assumes nothing.
use Rattle.std.specs.Prelude.{Bool, false, cond, ℕ, ◌+◌, List, leb, ltb, length}
use Rattle.sets.specs.Lists.{◌&◌, any}
use Rattle.klaim.specs.Limits.{thread_limit, tuple_limit}
use Rattle.klaim.specs.Process.{Line, Nil, Par, Rep, Out, In, Read, Eval, Accept, line_at, tree}
use Rattle.klaim.specs.Report.{door}
use Rattle.klaim.specs.State.{Thread, State, is_nil}
use Rattle.klaim.specs.Engine.{agrees}

-- how many threads stand on a line that one has come to
unfoldable pub standing : List Line → ℕ → ℕ
standing ls q = cond (is_nil (line_at ls q)) 0 1

-- of n threads one comes to line a, and one is appended on line b: the list stays within its limit
unfoldable pub room : ℕ → List Line → ℕ → ℕ → Bool
room n ls a b = leb (n + standing ls a + standing ls b) (thread_limit + 1)

-- an arrival passes the door, and there is room for it
unfoldable pub welcome : State → Thread → ℕ → ℕ → ℕ → Bool
welcome st th a d r = door st.net st.estimate d th.site (tree st.lines r) & room (length st.threads) st.lines a r

-- some m and r make a bare step of thread th perform
unfoldable pub runs : State → Thread → Line → Bool
runs st th Nil = false
runs st th (Par a b) = room (length st.threads) st.lines a b
runs st th (Rep a) = room (length st.threads) st.lines th.line a
runs st th (Out a g fs) = ltb (length st.tuples) tuple_limit
runs st th (In a g ss) = any (agrees th g ss) st.tuples
runs st th (Read a g ss) = any (agrees th g ss) st.tuples
runs st th (Eval a g b d) = room (length st.threads) st.lines a b
runs st th (Accept a d) = any (welcome st th a d) st.arrivals
