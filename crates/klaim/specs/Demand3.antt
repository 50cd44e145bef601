-- Demand 3: one claim about every list of calls (document 01, "The engine", last paragraph). The theorem is in proofs/Demand3.antt.
-- Assumes nothing.
use Rattle.std.specs.Prelude.{◌≡◌, Bool, true, false, not, List, [], ◌∷◌, map, ℕ, get_or, take, replicate}
use Rattle.std.proofs.Math.Option.{Option, none, some}
use Rattle.std.proofs.Math.ListN.{get_elem?}
use Rattle.sets.specs.Lists.{Elem, All, either}
use Rattle.sets.specs.Bits.{has, mem}
use Rattle.klaim.specs.Limits.{report_size, pair_index}
use Rattle.klaim.specs.Net.{Net, Estimate, home, may}
use Rattle.klaim.specs.Reader.{Answer, refused, gives}
use Rattle.klaim.specs.Analysis.{accepted}
use Rattle.klaim.specs.Check.{check}
use Rattle.klaim.specs.State.{Thread, State, start}
use Rattle.klaim.specs.Engine.{Event, brought, withdrawn, silent, performed, Result, step, bring, withdraw}

-- a call: bring, with any bytes; a bare or a guarded step, with any numbers; No. 8: withdraw, since "lists that contain withdrawals are
-- covered like any other run"
pub data Call : Type 0 where
  bringing : List ℕ → Call
  withdrawing : Call
  bare : ℕ → ℕ → ℕ → Call
  guarded : ℕ → ℕ → ℕ → Call

-- what a call answers and leaves
unfoldable pub call : State → Call → Result
call st (bringing bytes) = bring st bytes
call st withdrawing = withdraw st
call st (bare k m r) = step false st k m r
call st (guarded k m r) = step true st k m r

-- the same call, a step guarded
unfoldable pub guard : Call → Call
guard (bringing bytes) = bringing bytes
guard withdrawing = withdrawing
guard (bare k m r) = guarded k m r
guard (guarded k m r) = guarded k m r

-- every answer, with the state behind it: each call gets "what the last returned or left"
unfoldable pub run : State → List Call → List Result
run st [] = []
run st (c ∷ cs) = call st c ∷ run (call st c).state cs

-- the thread that a call acts on
unfoldable pub acting : State → Call → Option Thread
acting st (bringing bytes) = none
acting st withdrawing = none
acting st (bare k m r) = get_elem? st.threads k
acting st (guarded k m r) = get_elem? st.threads k

-- "the report lists it if byte 32 × site + target has that right"
unfoldable pub listed : List ℕ → ℕ → ℕ → ℕ → Bool
listed report s t right = has (get_or report (pair_index s t) 0) right

-- "they forbid any other performed one if, just before it, thread k's policy or the home policy of its site lacks the answered
-- right on the answered target"
unfoldable pub forbids : Net → Thread → ℕ → ℕ → Bool
forbids N th t right = either (not (has (get_or th.policy t 0) right)) (not (has (home N th.site t) right))

-- (a) "Policies never forbid a silent step"; what else they forbid, the report lists. No step answers as bring or withdraw do.
abbrev pub Permitted : Net → List ℕ → Option Thread → Answer Event → Type 0
Permitted N report th (refused n row) = Unit {0}
Permitted N report none (gives (brought q)) = Unit {0}
Permitted N report (some th) (gives (brought q)) = ⊥
Permitted N report none (gives (withdrawn q)) = Unit {0}
Permitted N report (some th) (gives (withdrawn q)) = ⊥
Permitted N report th (gives silent) = Unit {0}
Permitted N report none (gives (performed s t right)) = ⊥
Permitted N report (some th) (gives (performed s t right)) = forbids N th t right ≡ true → listed report s t right ≡ true

-- (b) "A tuple is within the estimate if an A row has it at its site, a thread's binding if a B row has it."
pub record Within (E : Estimate) (st : State) : Type 0 where
  pub tuples_in : All (λ t. Elem t E.stand) st.tuples
  pub bindings_in : All (λ th. (u s : ℕ) → get_or th.bindings u none ≡ some s → mem s (may E u) ≡ true) st.threads

-- (b) at the start and after every call, (a) at every call
abbrev pub Safe : Net → Estimate → List ℕ → State → List Call → Type 0
Safe N E report st [] = Within E st
Safe N E report st (c ∷ cs) = Within E st × Permitted N report (acting st c) (call st c).answer × Safe N E report (call st c).state cs

-- (c) "A report of 1,024 zeros is empty": then the list with guarded steps gives equal answers, and equal states after every call
abbrev pub GuardsIdle : List ℕ → State → List Call → Type 0
GuardsIdle report st cs = report ≡ replicate report_size 0 → run st (map guard cs) ≡ run st cs

-- the report that check wrote
unfoldable pub report_of : List ℕ → List ℕ → List ℕ → List ℕ
report_of net estimate buffer = take report_size (check net estimate buffer).buffer

-- "The first call gets the state begun from the two checked texts": the engine starts,
-- and of every list of calls from there (a), (b) and (c) hold
pub record Demand3 (net estimate buffer : List ℕ) : Type 0 where
  pub state : State
  pub started : start net estimate ≡ gives state
  pub safe : (cs : List Call) → Safe state.net state.estimate (report_of net estimate buffer) state cs
  pub guards_idle : (cs : List Call) → GuardsIdle (report_of net estimate buffer) state cs

-- the only premise: check accepts the two texts, so that they are read
abbrev pub Statement : Type 0
Statement = (net estimate buffer : List ℕ) → (check net estimate buffer).answer ≡ gives accepted → Demand3 net estimate buffer

-- beside it: what a guarded step performs, the policies do not forbid, whatever the state
abbrev pub Allowed : Net → Option Thread → Answer Event → Type 0
Allowed N th (refused n row) = Unit {0}
Allowed N th (gives (brought q)) = ⊥
Allowed N th (gives (withdrawn q)) = ⊥
Allowed N th (gives silent) = Unit {0}
Allowed N none (gives (performed s t right)) = ⊥
Allowed N (some th) (gives (performed s t right)) = forbids N th t right ≡ false

-- "Guarded steps need the right in the thread's policy and in the home policy of its site"
abbrev pub GuardStatement : Type 0
GuardStatement = (st : State) (k m r : ℕ) → Allowed st.net (get_elem? st.threads k) (step true st k m r).answer
