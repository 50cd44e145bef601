-- Bring, withdraw, the two steps, the door called by itself, and ready.
-- Assumes nothing.
use Rattle.std.specs.Prelude.{Bool, true, false, not, cond, ℕ, suc, eqb, leb, ltb, length, get_or, set, take}
use mathlib.Core.List.{List, [], ◌∷◌, ◌++◌, map, get_last?, drop_last}
use Rattle.std.proofs.Math.Option
use Rattle.std.proofs.Math.Option.{Option, none, some}
use Rattle.std.proofs.Math.ListN.{get_elem?}
use Rattle.sets.specs.Lists.{◌&◌, either, any, keep, splice, below, among}
use Rattle.sets.specs.Bits.{out_bit, in_bit, read_bit, eval_bit, accept_bit, has}
use Rattle.klaim.specs.declared.Loc.{Loc}
use Rattle.klaim.specs.declared.Loc.TheVariants.{At, Here, Use}
use Rattle.klaim.specs.declared.Slot.{Slot}
use Rattle.klaim.specs.declared.Slot.TheVariants.{Value, Bind, Wildcard}
use Rattle.klaim.specs.Limits.{box_limit, thread_limit, tuple_limit}
use Rattle.klaim.specs.Process.{Line, Nil, Par, Rep, Out, In, Read, Eval, Accept, line_at, tree, move}
use Rattle.klaim.specs.Net.{Net, home}
use Rattle.klaim.specs.Reader.{Answer, refused, gives, read_arrival}
use Rattle.klaim.specs.Analysis.{matches, least}
use Rattle.klaim.specs.Report.{door}
use Rattle.klaim.specs.State.{Bindings, Thread, State, unbound, settle, box_policy}

-- what a bring, a withdrawal or a step that is not refused answers: an arrival's root; 'silent'; "its site, target and right"
pub data Event : Type 0 where
  brought : ℕ → Event
  withdrawn : ℕ → Event
  silent : Event
  performed : ℕ → ℕ → ℕ → Event

-- the answer, and the state behind the call
pub record Result : Type 0 where
  pub answer : Answer Event
  pub state : State

-- a refusal leaves the state as it is
abbrev pub refuse : ℕ → ℕ → State → Result
refuse n row st = record { answer = refused n row; state = st }

-- "Bring takes Q rows numbered from 0, renumbers them behind the present lines, and makes line 0 a root"
unfoldable pub joined : State → List Line → State
joined st ls = record {
  net = st.net;
  estimate = st.estimate;
  lines = st.lines ++ map (move (length st.lines)) ls;
  arrivals = st.arrivals ++ (length st.lines ∷ []);
  threads = st.threads;
  tuples = st.tuples;
}

-- what bring does with what was read
unfoldable pub bring_read : State → Answer (List Line) → Result
bring_read st (refused n row) = refuse n row st
bring_read st (gives ls) = record { answer = gives (brought (length st.lines)); state = joined st ls }

-- "Bring uses 1 to 8": it answers the root's line number
unfoldable pub bring : State → List ℕ → Result
bring st bytes = bring_read st (read_arrival st.net.size (length st.lines) bytes)

-- No. 8: "the newest arrival": the last of the roots, if there is one
unfoldable pub newest : List ℕ → Option ℕ
newest rs = get_last? rs

-- the roots of the others
unfoldable pub older : List ℕ → List ℕ
older rs = drop_last rs

-- No. 8: "a thread stands on one of that arrival's lines": of the newest arrival these are the lines from its root r on
unfoldable pub occupied : State → ℕ → Bool
occupied st r = any (λ th. leb r th.line) st.threads

-- No. 8: "its lines become free again"
unfoldable pub freed : State → ℕ → State
freed st r = record {
  net = st.net;
  estimate = st.estimate;
  lines = take r st.lines;
  arrivals = older st.arrivals;
  threads = st.threads;
  tuples = st.tuples;
}

-- No. 8: "It refuses with 35 while the state has no arrival, then with 36 while a thread stands on one of that arrival's lines, and
-- the state is kept."
unfoldable pub withdraw_root : State → Option ℕ → Result
withdraw_root st none = refuse 35 0 st
withdraw_root st (some r) = cond (occupied st r) (refuse 36 0 st) (record { answer = gives (withdrawn r); state = freed st r })

-- No. 8: "a call that withdraws the newest arrival": it answers the root's line number
unfoldable pub withdraw : State → Result
withdraw st = withdraw_root st (newest st.arrivals)

-- the site that a target or a field stands for, at site l; every variable that is met is bound (the invariant says so)
unfoldable pub value : ℕ → Bindings → Loc → ℕ
value l e (At s) = s.0
value l e Here = l
value l e (Use u) = Option.get_or (get_or e u.0 none) 0

-- "with the new bindings, a rebound variable replaced"; No. 1: `_` "binds nothing"
unfoldable pub bind_all : List Slot → List ℕ → Bindings → Bindings
bind_all [] vs e = e
bind_all (s ∷ ss) [] e = e
bind_all (Value x ∷ ss) (v ∷ vs) e = bind_all ss vs e
bind_all (Bind u ∷ ss) (v ∷ vs) e = bind_all ss vs (set e u.0 (some v))
bind_all (Wildcard ∷ ss) (v ∷ vs) e = bind_all ss vs e

-- "in, read: tuple m stands at the target, has as many fields, and agrees in every non-binding field":
-- the target stands for the tuple's site, as a first field
unfoldable pub agrees : Thread → Loc → List Slot → List ℕ → Bool
agrees th g ss t = matches (λ x v. eqb v (value th.site th.bindings x)) (Value g ∷ ss) t

-- the thread, come to line q
unfoldable pub to : Thread → ℕ → Thread
to th q = record { site = th.site; policy = th.policy; line = q; bindings = th.bindings }

-- a thread at l on line b, "under the sandbox evaluated there"
unfoldable pub under : Net → ℕ → ℕ → ℕ → Bindings → Thread
under N k l b e = record { site = l; policy = box_policy N k l; line = b; bindings = e }

-- thread k becomes th, `more` is appended, the tuples are ts
unfoldable pub after : State → ℕ → Thread → List Thread → List (List ℕ) → State
after st k th more ts = record {
  net = st.net;
  estimate = st.estimate;
  lines = st.lines;
  arrivals = st.arrivals;
  threads = splice k (settle st.lines th) st.threads ++ more;
  tuples = ts;
}

-- what a step comes to by the tests before 26: a refusal; a silent step; a right used on a target; with the state behind it
pub data Plan : Type 0 where
  stop : ℕ → Plan
  quiet : State → Plan
  act : ℕ → ℕ → State → Plan

-- in and read of tuple m, by the right; `rest` are the tuples left. 22: "no tuple m"; 23: "tuple m elsewhere or not matching"
unfoldable pub get_plan : State → ℕ → Thread → ℕ → ℕ → Loc → List Slot → List (List ℕ) → Option (List ℕ) → Plan
get_plan st k th right a g ss rest none = stop 22
get_plan st k th right a g ss rest (some t) =
    let e = bind_all (Value g ∷ ss) t th.bindings in
    cond (agrees th g ss t)
    (act (value th.site th.bindings g) right (after st k (record { site = th.site; policy = th.policy; line = a; bindings = e }) [] rest))
    (stop 23)

-- "accept: r is an arrival's root and the door passes it; to a; r appended at the same site under the evaluated sandbox, nothing bound."
unfoldable pub accept_plan : State → ℕ → Thread → ℕ → ℕ → ℕ → Bool → Bool → Plan
accept_plan st k th r a d false passes = stop 24
accept_plan st k th r a d true false = stop 25
accept_plan st k th r a d true true =
    act th.site accept_bit (after st k (to th a) (settle st.lines (under st.net d th.site r unbound)) st.tuples)

-- thread k, th, on a line; on `nil` no thread stands
unfoldable pub plan : State → ℕ → Thread → ℕ → ℕ → Line → Plan
plan st k th m r Nil = stop 21
-- "par: to a; b appended, same site, policy, bindings. rep: stays; a appended likewise."
plan st k th m r (Par a b) = quiet (after st k (to th a) (settle st.lines (to th b)) st.tuples)
plan st k th m r (Rep a) = quiet (after st k th (settle st.lines (to th a)) st.tuples)
-- "out: to a; the tuple appended at the target."
plan st k th m r (Out a g fs) =
    let t = map (value th.site th.bindings) (g ∷ fs) in
    act (value th.site th.bindings g) out_bit (after st k (to th a) [] (st.tuples ++ (t ∷ [])))
-- "`in` removes tuple m, those behind moving up"
plan st k th m r (In a g ss) = get_plan st k th in_bit a g ss (splice m [] st.tuples) (get_elem? st.tuples m)
plan st k th m r (Read a g ss) = get_plan st k th read_bit a g ss st.tuples (get_elem? st.tuples m)
-- "eval: to a; b appended at the target, under the sandbox evaluated there, same bindings."
plan st k th m r (Eval a g b d) =
    let l = value th.site th.bindings g in
    act l eval_bit (after st k (to th a) (settle st.lines (under st.net d l b th.bindings)) st.tuples)
plan st k th m r (Accept a d) =
    accept_plan st k th r a d (among st.arrivals r) (door st.net st.estimate d th.site (tree st.lines r))

-- the right on target t is "in the thread's policy and in the home policy of its site"
unfoldable pub permits : Net → Thread → ℕ → ℕ → Bool
permits N th t right = has (get_or th.policy t 0) right & has (home N th.site t) right

-- 27: "lists after the step would exceed 64 or 256"
unfoldable pub limit : State → Event → State → Result
limit st e new =
    cond (leb (length new.threads) thread_limit & leb (length new.tuples) tuple_limit)
    (record { answer = gives e; state = new })
    (refuse 27 0 st)

-- 26: "guarded: right missing"; "Guarded steps need the right ..; bare ones need neither"
unfoldable pub finish : Bool → State → Thread → Plan → Result
finish guarded st th (stop n) = refuse n 0 st
finish guarded st th (quiet new) = limit st silent new
finish guarded st th (act t right new) =
    cond (either (not guarded) (permits st.net th t right))
    (limit st (performed th.site t right) new)
    (refuse 26 0 st)

-- 21: "no thread k"
unfoldable pub step_of : Bool → State → ℕ → ℕ → ℕ → Option Thread → Result
step_of guarded st k m r none = refuse 21 0 st
step_of guarded st k m r (some th) = finish guarded st th (plan st k th m r (line_at st.lines th.line))

-- "Step(k, m, r) acts on thread k, the first having place 0": guarded or bare; "Steps go 21 to 27."
unfoldable pub step : Bool → State → ℕ → ℕ → ℕ → Result
step guarded st k m r = step_of guarded st k m r (get_elem? st.threads k)

-- "Called by itself, the door refuses with 24 for the root, then 4 for l, then 2 for a sandbox number over 31, row 0."
unfoldable pub door_alone : State → ℕ → ℕ → ℕ → Answer Bool
door_alone st r l d =
    cond (not (among st.arrivals r)) (refused 24 0)
    (cond (not (ltb l st.net.size)) (refused 4 0)
    (cond (not (ltb d box_limit)) (refused 2 0)
    (gives (door st.net st.estimate d l (tree st.lines r)))))

-- the step was not refused
unfoldable pub performs : Answer Event → Bool
performs (refused n row) = false
performs (gives e) = true

-- "some m and r make a bare step perform": every m past the tuples is refused alike, and so is every r that is no arrival's root
unfoldable pub runnable : State → ℕ → Bool
runnable st k = any (λ m. any (λ r. performs (step false st k m r).answer) (0 ∷ st.arrivals)) (below (suc (length st.tuples)))

-- "`ready` looks down the thread list for the lowest place where some m and r make a bare step perform, or says none."
unfoldable pub ready : State → Option ℕ
ready st = least (keep (runnable st) (below (length st.threads)))
