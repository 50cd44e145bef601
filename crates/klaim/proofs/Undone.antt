-- A bring that was not refused is undone by a withdrawal.
-- Assumes nothing.
use mathlib.Core.Path.{◌≡◌, refl, ap, ◌∙◌}
use mathlib.Core.Bool.{Bool, false, cond}
use mathlib.Core.List.{List, map}
use mathlib.Core.Option.{some}
use Prim.Native.Nat.{ℕ}
use lib.Dec.{leb}
use lib.ListN.{length}
use lib.Seq.{take-append_seam}
use borrow.Author.Tests.{lt-leb}
use Rattle.sets.proofs.Lists.{All-in, none_any}
use Rattle.klaim.specs.Process.{Line, move}
use Rattle.klaim.specs.Reader.{Answer, refused, gives}
use Rattle.klaim.specs.State.{State}
use Rattle.klaim.specs.Engine.{Event, brought, withdrawn, Result, refuse, joined, bring_read, bring, newest, occupied, freed, withdraw_root, withdraw}
use Rattle.klaim.specs.Invariant.{Invariant}
use Rattle.klaim.specs.Undone.{Statement}
use Rattle.klaim.proofs.Scan.{refused_none}
use Rattle.klaim.proofs.Newest.{newest_snoc, older_snoc}

-- the new root is the newest, no thread stands on its lines, and without them the state is the one before
module _ (st : State) (ls : List Line) where
  abbrev new : ℕ
  new = length st.lines

  joined_newest : newest (joined st ls).arrivals ≡ some new
  unfolding joined
  joined_newest = newest_snoc st.arrivals new

  joined_unoccupied : Invariant st → occupied (joined st ls) new ≡ false
  unfolding joined occupied
  joined_unoccupied i = none_any (λ th. leb new th.line) st.threads (λ th j. lt-leb new th.line (All-in i.threads_ok j).present)

  joined_freed : freed (joined st ls) new ≡ st
  unfolding joined freed
  joined_freed = rw (take-append_seam st.lines (map (move new) ls), older_snoc st.arrivals new)

  joined_undone : Invariant st → withdraw (joined st ls) ≡ record { answer = gives (withdrawn new); state = st }
  unfolding withdraw withdraw_root
  joined_undone i =
      ap (withdraw_root (joined st ls)) joined_newest
      ∙ ap (λ (b : Bool). cond b (refuse 36 0 (joined st ls)) (record { answer = gives (withdrawn new); state = freed (joined st ls) new })) (joined_unoccupied i)
      ∙ ap (λ (s : State). record { answer = gives (withdrawn new); state = s }) joined_freed

-- what bring answers, and the withdrawal behind it
abbrev Behind : State → Answer (List Line) → Type 0
Behind st x = (q : ℕ) × ((bring_read st x).answer ≡ gives (brought q)) × (withdraw (bring_read st x).state ≡ record { answer = gives (withdrawn q); state = st })

bring_read_undone : (st : State) (x : Answer (List Line)) (e : Event) → Invariant st → (bring_read st x).answer ≡ gives e → Behind st x
unfolding bring_read
bring_read_undone st (refused n row) e i h = refused_none h
bring_read_undone st (gives ls) e i h = (length st.lines, refl, joined_undone st ls i)

pub undone : Statement
unfolding bring
undone st bytes e i h =
    let x = bring_read_undone st _ e i h in
    record { root = x.0; came = x.1; went = ap (λ (r : Result). r.answer) x.2; same = ap (λ (r : Result). r.state) x.2 }
