-- The engine's state, and how it begins.
-- Assumes nothing.
use Rattle.std.specs.Prelude.{Bool, true, false, cond, List, [], ◌∷◌, ℕ, replicate}
use Rattle.std.proofs.Math.Option.{Option, none}
use Rattle.sets.specs.Lists.{concat, table}
use Rattle.klaim.specs.Limits.{site_limit, var_limit}
use Rattle.klaim.specs.Process.{Line, Nil, Par, Rep, Out, In, Read, Eval, Accept, line_at}
use Rattle.klaim.specs.Net.{Root, Net, Estimate, home, box_at}
use Rattle.klaim.specs.Reader.{Answer, gives, and_then, World, read_both}

-- "a site or none for each of 32 variables"
abbrev pub Bindings : Type 0
Bindings = List (Option ℕ)

-- thread: "site, policy, line, a site or none for each of 32 variables"; a policy has a set of rights for each of 32 sites
pub record Thread : Type 0 where
  pub site : ℕ
  pub policy : List ℕ
  pub line : ℕ
  pub bindings : Bindings

-- "State: the net, the estimate, the lines, the arrivals' roots, a list of at most 64 threads .., a list of at most 256 tuples."
-- A tuple is its site followed by its fields.
pub record State : Type 0 where
  pub net : Net
  pub estimate : Estimate
  pub lines : List Line
  pub arrivals : List ℕ
  pub threads : List Thread
  pub tuples : List (List ℕ)

-- "nothing bound"
abbrev pub unbound : Bindings
unbound = replicate var_limit none

-- the line is `nil`
unfoldable pub is_nil : Line → Bool
is_nil Nil = true
is_nil (Par a b) = false
is_nil (Rep a) = false
is_nil (Out a g fs) = false
is_nil (In a g fs) = false
is_nil (Read a g fs) = false
is_nil (Eval a g b k) = false
is_nil (Accept a k) = false

-- "No thread stands on `nil`: it is taken out, or never added, and those behind move up."
unfoldable pub settle : List Line → Thread → List Thread
settle ls th = cond (is_nil (line_at ls th.line)) [] (th ∷ [])

-- the home policy of site s, as a thread holds it
unfoldable pub home_policy : Net → ℕ → List ℕ
home_policy N s = table site_limit (home N s)

-- sandbox k evaluated at site l, as a thread holds it
unfoldable pub box_policy : Net → ℕ → ℕ → List ℕ
box_policy N k l = table site_limit (box_at N k l)

-- "one thread per L row, in order, under the home policy, nothing bound"
unfoldable pub root_thread : Net → Root → Thread
root_thread N r = record { site = r.site; policy = home_policy N r.site; line = r.line; bindings = unbound }

-- "with one thread per L row .. and the T rows"
unfoldable pub begin : World → State
begin w = record {
  net = w.net;
  estimate = w.estimate;
  lines = w.net.lines;
  arrivals = [];
  threads = concat (λ r. settle w.net.lines (root_thread w.net r)) w.net.roots;
  tuples = w.net.tuples;
}

-- "It begins from both texts, refused as for the checker but for 9"
unfoldable pub start : List ℕ → List ℕ → Answer State
start net estimate = and_then (read_both net estimate) (λ w. gives (begin w))
