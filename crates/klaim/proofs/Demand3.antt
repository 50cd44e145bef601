-- Demand 3 holds.
-- Assumes nothing.
use mathlib.Core.Path.{◌≡◌, refl, sym, ap, subst, ◌∙◌}
use mathlib.Core.Bool.{true, false}
use mathlib.Core.List.{List, [], ◌∷◌, map}
use mathlib.Core.Option.{Option, none, some}
use Prim.Native.Nat.{ℕ, ◌<◌}
use native.Mathlib.Omega.{arith}
use lib.Dec.{leb, ltb}
use lib.ListN.{length, take, drop, replicate}
use lib.Seq.{take_at}
use Rattle.sets.specs.Lists.{Elem, ◌&◌, either}
use Rattle.sets.proofs.Lists.{cond_at, All-in}
use Rattle.sets.proofs.Tables.{length_table}
use Rattle.klaim.specs.Process.{Line}
use Rattle.klaim.specs.Net.{Root, Net, Estimate}
use Rattle.klaim.specs.Reader.{Answer, refused, gives, and_then, World, read_both}
use Rattle.klaim.specs.Analysis.{Verdict, accepted, verdict}
use Rattle.klaim.specs.Report.{report}
use Rattle.klaim.specs.Check.{Checked, written, check_read, check}
use Rattle.klaim.specs.State.{Thread, State, begin, start}
use Rattle.klaim.specs.Engine.{Event, silent, performed, Result, bring_read, bring, newest, occupied, withdraw_root, withdraw, Plan, stop, quiet, act, permits, limit, finish, step_of, step}
use Rattle.klaim.specs.Invariant.{Invariant}
use Rattle.klaim.specs.Demand3.{Call, bringing, withdrawing, bare, guarded, call, guard, run, acting, Permitted, Safe, GuardsIdle, report_of, Statement, Allowed, GuardStatement}
use Rattle.klaim.proofs.Scan.{refused_none}
use Rattle.klaim.proofs.Reader.{both_read}
use Rattle.klaim.proofs.Invariant.{step_keeps, bring_keeps, withdraw_keeps, start_gives}
use Rattle.klaim.proofs.Safety.{permits_allows, Tracked, tracked_within, step_tracked, step_permitted, step_same, joined_tracked, freed_tracked, begin_tracked}

-- calls from a state that the analysis of N and E follows
module _ (N : Net) (E : Estimate) where
  bring_read_tracked : (st : State) → Invariant st → Tracked N E st → (x : Answer (List Line)) → Tracked N E (bring_read st x).state
  unfolding bring_read
  bring_read_tracked st i t (refused n row) = t
  bring_read_tracked st i t (gives ls) = joined_tracked N E st i t ls

  bring_read_permitted : (st : State) (x : Answer (List Line)) → Permitted N (report N E) none (bring_read st x).answer
  unfolding bring_read
  bring_read_permitted st (refused n row) = tt
  bring_read_permitted st (gives ls) = tt

  withdraw_root_tracked : (st : State) → Invariant st → Tracked N E st → (x : Option ℕ) → newest st.arrivals ≡ x → Tracked N E (withdraw_root st x).state
  unfolding withdraw_root
  withdraw_root_tracked st i t none e = t
  withdraw_root_tracked st i t (some r) e = cond_at (λ (x : Result). Tracked N E x.state) (occupied st r) (λ b. t) (λ b. freed_tracked N E st i t r e b)

  withdraw_root_permitted : (st : State) (x : Option ℕ) → Permitted N (report N E) none (withdraw_root st x).answer
  unfolding withdraw_root
  withdraw_root_permitted st none = tt
  withdraw_root_permitted st (some r) = cond_at (λ (x : Result). Permitted N (report N E) none x.answer) (occupied st r) (λ b. tt) (λ b. tt)

  module _ (st : State) (i : Invariant st) (t : Tracked N E st) where
    call_keeps : (c : Call) → Invariant (call st c).state
    unfolding call
    call_keeps (bringing bytes) = bring_keeps st bytes i
    call_keeps withdrawing = withdraw_keeps st i
    call_keeps (bare k m r) = step_keeps false st k m r i
    call_keeps (guarded k m r) = step_keeps true st k m r i

    call_tracked : (c : Call) → Tracked N E (call st c).state
    unfolding call bring withdraw
    call_tracked (bringing bytes) = bring_read_tracked st i t _
    call_tracked withdrawing = withdraw_root_tracked st i t _ refl
    call_tracked (bare k m r) = step_tracked N E st i t k m r false
    call_tracked (guarded k m r) = step_tracked N E st i t k m r true

    call_permitted : (c : Call) → Permitted N (report N E) (acting st c) (call st c).answer
    unfolding call bring withdraw acting
    call_permitted (bringing bytes) = bring_read_permitted st _
    call_permitted withdrawing = withdraw_root_permitted st _
    call_permitted (bare k m r) = step_permitted N E st i t k m r false
    call_permitted (guarded k m r) = step_permitted N E st i t k m r true

    call_same : report N E ≡ replicate 1024 0 → (c : Call) → call st (guard c) ≡ call st c
    unfolding call guard
    call_same z (bringing bytes) = refl
    call_same z withdrawing = refl
    call_same z (bare k m r) = step_same N E st i t k m r z
    call_same z (guarded k m r) = refl

  safe_from : (cs : List Call) (st : State) → Invariant st → Tracked N E st → Safe N E (report N E) st cs
  safe_from [] st i t = tracked_within N E st t
  safe_from (c ∷ cs) st i t = (tracked_within N E st t, call_permitted st i t c, safe_from cs (call st c).state (call_keeps st i t c) (call_tracked st i t c))

  same_from : (cs : List Call) (st : State) → Invariant st → Tracked N E st → GuardsIdle (report N E) st cs
  unfolding run
  same_from [] st i t z = refl
  same_from (c ∷ cs) st i t z =
      ap (λ (x : Result). x ∷ run x.state (map guard cs)) (call_same st i t z c)
      ∙ ap (λ (xs : List Result). call st c ∷ xs) (same_from cs (call st c).state (call_keeps st i t c) (call_tracked st i t c) z)

-- texts that check accepts are read, their verdict is 'accepted', and the buffer begins with the report
record Passed (net estimate buffer : List ℕ) (c : Checked) : Type 0 where
  world : World
  read : read_both net estimate ≡ gives world
  passed : verdict world.net world.estimate ≡ accepted
  wrote : take 1024 c.buffer ≡ report world.net world.estimate

report_long : (N : Net) (E : Estimate) → length (report N E) ≡ 1024
unfolding report
report_long N E = length_table 1024 _

wrote_report : (w : World) (buffer : List ℕ) (v : Verdict) → v ≡ accepted → take 1024 (written w buffer v) ≡ report w.net w.estimate
unfolding written
wrote_report w buffer v e = ap (λ (u : Verdict). take 1024 (written w buffer u)) e ∙ take_at (report w.net w.estimate) (drop 1024 buffer) 1024 (report_long w.net w.estimate)

read_passed : (net estimate buffer : List ℕ) (x : Answer World) → read_both net estimate ≡ x → (check_read buffer x).answer ≡ gives accepted → Passed net estimate buffer (check_read buffer x)
unfolding check_read
read_passed net estimate buffer (refused n row) r e = refused_none e
read_passed net estimate buffer (gives w) r e =
    let v : verdict w.net w.estimate ≡ accepted = cc in
    record { world = w; read = r; passed = v; wrote = wrote_report w buffer _ v }

check_passed : (net estimate buffer : List ℕ) → (check net estimate buffer).answer ≡ gives accepted → Passed net estimate buffer (check net estimate buffer)
unfolding check
check_passed net estimate buffer =
    cond_at (λ (c : Checked). c.answer ≡ gives accepted → Passed net estimate buffer c) (ltb (length buffer) 1024)
    (λ t. refused_none) (λ t. read_passed net estimate buffer _ refl)

begun : (net estimate : List ℕ) (w : World) → read_both net estimate ≡ gives w → start net estimate ≡ gives (begin w)
unfolding start and_then
begun net estimate w r = ap (λ (x : Answer World). and_then x (λ w. gives (begin w))) r

pub demand3 : Statement
unfolding report_of begin
demand3 net estimate buffer a =
    let p = check_passed net estimate buffer a in
    let s = begun net estimate p.world p.read in
    let i = start_gives net estimate (begin p.world) s in
    let t = begin_tracked p.world (roots_low p) p.passed in
    record {
      state = begin p.world;
      started = s;
      safe = λ cs. subst (λ (b : List ℕ). Safe p.world.net p.world.estimate b (begin p.world) cs) (sym p.wrote) (safe_from p.world.net p.world.estimate cs (begin p.world) i t);
      guards_idle = λ cs. subst (λ (b : List ℕ). GuardsIdle b (begin p.world) cs) (sym p.wrote) (same_from p.world.net p.world.estimate cs (begin p.world) i t);
    }
  where
    roots_low : (p : Passed net estimate buffer (check net estimate buffer)) → (r : Root) → Elem r p.world.net.roots → r.site < 32
    roots_low p r j = let n = (both_read net estimate p.world p.read).0 in omega (arith, (All-in n.roots_ok j).placed, n.sites_few)

-- a guarded step: 26 was tested
limit_allowed : (st : State) (th : Thread) (e : Event) (new : State) → Allowed st.net (some th) (gives e) → Allowed st.net (some th) (limit st e new).answer
unfolding limit
limit_allowed st th e new p = cond_at (λ (x : Result). Allowed st.net (some th) x.answer) (leb (length new.threads) 64 & leb (length new.tuples) 256) (λ b. p) (λ b. tt)

finish_allowed : (st : State) (th : Thread) (pl : Plan) → Allowed st.net (some th) (finish true st th pl).answer
unfolding finish either
finish_allowed st th (stop n) = tt
finish_allowed st th (quiet new) = limit_allowed st th silent new tt
finish_allowed st th (act t right new) =
    cond_at (λ (x : Result). Allowed st.net (some th) x.answer) (permits st.net th t right)
    (λ b. limit_allowed st th (performed th.site t right) new (permits_allows st.net th t right b)) (λ b. tt)

step_of_allowed : (st : State) (k m r : ℕ) (x : Option Thread) → Allowed st.net x (step_of true st k m r x).answer
unfolding step_of
step_of_allowed st k m r none = tt
step_of_allowed st k m r (some th) = finish_allowed st th _

pub guard_holds : GuardStatement
unfolding step
guard_holds st k m r = step_of_allowed st k m r _
