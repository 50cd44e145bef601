-- Laws of the threads that a start makes, and of the state that it gives.
-- Assumes nothing.
use mathlib.Core.Path.{◌≡◌, refl, sym, ap, ap₂, ◌∙◌}
use mathlib.Core.Bool.{Bool, true, false, cond}
use mathlib.Core.List.{List, [], ◌∷◌, ◌++◌}
use Prim.Native.Nat.{ℕ, ◌+◌, ◌<◌, ◌≤◌}
use native.Mathlib.Omega.{arith}
use native.Mathlib.Numerals.{add-one}
use lib.ListN.{length}
use lib.Seq.{take_all}
use Rattle.std.specs.Prelude as Prelude
use Rattle.sets.specs.Lists.{concat, table, table_from}
use Rattle.sets.proofs.Lists.{All-in, cat_append}
use Rattle.sets.proofs.Tables.{table_in, table_snoc}
use Rattle.sets.proofs.Runs.{concat_append, concat_one}
use Rattle.klaim.specs.Process.{Line, line_at}
use Rattle.klaim.specs.Net.{Net, Root}
use Rattle.klaim.specs.Reader.{Answer, gives, and_then, World, read_both}
use Rattle.klaim.specs.Refusals.{answer_of}
use Rattle.klaim.specs.declared.Refusal.{Refusal}
use Rattle.klaim.specs.State as Spec
use Rattle.klaim.specs.State.{settle, home_policy, root_thread, begin, start}
use Rattle.klaim.specs.Engine.{silent}
use Rattle.klaim.specs.WellFormed.{RootOk, NetOk}
use Rattle.klaim.specs.Invariant.{Invariant}
use Rattle.klaim.proofs.Reader.{both_read}
use Rattle.klaim.proofs.Invariant.{start_gives}
use Rattle.tables.specs.View.{Roots, net_view, estimate_view, lines_of, tuples_of, roots_of, root_at}
use Rattle.tables.proofs.LineTable.{lines_long}
use Rattle.threads.specs.View.{Threads, threads_of}
use Rattle.worlds.specs.declared.World as Code
use Rattle.worlds.specs.World.{world_view}
use Rattle.state.specs.declared.State.{State}
use Rattle.state.specs.declared.Event.{Event}
use Rattle.state.specs.View.{Arrivals, arrival_root, arrivals_of, state_view, answer_view}
use Rattle.state.specs.Fits.{Fits, FitsNet}
use Rattle.starts.specs.Started.{Started, RootsPlaced}

-- the thread of a root
pub root_thread_view : (N : Net) (r : Root) {s q : ℕ} {p : List ℕ} → s ≡ r.site → p ≡ home_policy N s → q ≡ r.line → record { site = s; policy = p; line = q; bindings = Spec.unbound } ≡ root_thread N r
unfolding root_thread
root_thread_view N r {s} {q} e h l =
    ap (λ (p : List ℕ). record { site = s; policy = p; line = q; bindings = Spec.unbound }) h
    ∙ ap₂ (λ (s q : ℕ). record { site = s; policy = home_policy N s; line = q; bindings = Spec.unbound }) e l

-- the union over a list with one element more
concat_snoc : {A B : Type 0} (f : A → List B) (xs : List A) (x : A) → concat f (xs ++ (x ∷ [])) ≡ concat f xs ++ f x
concat_snoc f xs x = rw (concat_append, concat_one, cat_append)

-- the threads of the first roots
module _ (N : Net) (rs : Roots) where
  pub roots_none : [] ≡ concat (λ x. settle N.lines (root_thread N x)) (table 0 (root_at rs))
  unfolding concat table table_from
  roots_none = refl

  pub roots_more : (i : ℕ) {th : Spec.Thread} {old new : List Spec.Thread} → th ≡ root_thread N (root_at rs i) → old ≡ concat (λ x. settle N.lines (root_thread N x)) (table i (root_at rs)) → new ≡ old ++ settle N.lines th → new ≡ concat (λ x. settle N.lines (root_thread N x)) (table (i + 1) (root_at rs))
  roots_more i {th} {old} {new} t o n =
      let both : old ++ settle N.lines th ≡ concat (λ x. settle N.lines (root_thread N x)) (table i (root_at rs)) ++ settle N.lines (root_thread N (root_at rs i)) = cc in
      rw add-one
      (n
      ∙ both
      ∙ sym (concat_snoc (λ x. settle N.lines (root_thread N x)) (table i (root_at rs)) (root_at rs i))
      ∙ ap (concat (λ x. settle N.lines (root_thread N x))) (sym (table_snoc i (root_at rs))))

-- one thread at most
pub settle_few : (ls : List Line) (th : Spec.Thread) → length (settle ls th) ≤ 1
unfolding settle
settle_few ls th = go (Spec.is_nil (line_at ls th.line))
  where
    go : (b : Bool) → length (cond b [] (th ∷ [])) ≤ 1
    go true = omega arith
    go false = omega arith

-- a state of what was read and of these threads, nothing brought
module _ (w : Code.World) (arrivals : Arrivals) (threads : Threads) (told : Prelude.Result Event Refusal) where
  abbrev pub begun : State
  begun = record {
    net = w.net;
    estimate = w.estimate;
    lines = w.net.lines;
    arrivals = arrivals;
    tuples = w.net.tuples;
    threads = threads;
    told = told;
  }

  pub begun_view : arrivals.count ≡ 0 → threads_of threads ≡ concat (λ x. settle (lines_of w.net.lines) (root_thread (net_view w.net) x)) (roots_of w.net.roots) → state_view begun ≡ begin (world_view w)
  unfolding state_view world_view begin arrivals_of table table_from
  begun_view z e =
      ap₂ (λ (n : ℕ) (ts : List Spec.Thread). record { net = net_view w.net; estimate = estimate_view w.estimate; lines = lines_of w.net.lines; arrivals = table n (arrival_root arrivals); threads = ts; tuples = tuples_of w.net.tuples }) z e

  pub begun_fits : arrivals.count ≡ 0 → Invariant (state_view begun) → FitsNet begun
  begun_fits z i = record {
    own_first = take_all w.net.lines.count (lines_of w.net.lines) (omega (arith, lines_long w.net.lines));
    fits = record {
      arrivals_few = omega (arith, z);
      sound_is = λ i l h k. absurd (omega (arith, z, h));
      invariant = i;
    };
  }

-- what was read
module _ (w : Code.World) (net estimate : List ℕ) (e : gives (world_view w) ≡ read_both net estimate) where
  net_ok : NetOk (net_view w.net)
  unfolding world_view
  net_ok = (both_read net estimate (world_view w) (sym e)).0

  pub roots_in : RootsPlaced w.net.roots
  unfolding roots_of
  roots_in =
      let root : (i : ℕ) → i < w.net.roots.count → RootOk (net_view w.net) (root_at w.net.roots i) = λ i h. All-in net_ok.roots_ok (table_in w.net.roots.count (root_at w.net.roots) i h) in
      record {
        placed = λ i h. omega (arith, (root i h).placed, net_ok.sites_few);
      }

  -- a start of it: the state that stands for what begins is the one that starts, whatever it says of the call behind it
  module _ (st : State) (q : state_view st ≡ begin (world_view w)) where
    pub start_of : gives (state_view st) ≡ start net estimate
    unfolding start and_then
    start_of = ap (λ (s : Spec.State). gives s) q ∙ ap (λ (a : Answer World). and_then a (λ x. gives (begin x))) e

    start_invariant : Invariant (state_view st)
    start_invariant = start_gives net estimate (state_view st) (sym start_of)

    pub start_fits : (Invariant (state_view st) → Fits st) → Fits st
    start_fits f = f start_invariant

    pub started : (Invariant (state_view st) → FitsNet st) → answer_view st.told ≡ gives silent → Started net estimate (Prelude.Ok st)
    started f t = record { result = start_of; fits = f start_invariant; told = t }

-- a start of texts that are refused
pub not_started : (net estimate : List ℕ) (why : Refusal) → answer_of world_view (Prelude.Err why) ≡ read_both net estimate → Started net estimate (Prelude.Err why)
unfolding start and_then
not_started net estimate why e = record { result = ap (λ (a : Answer World). and_then a (λ x. gives (begin x))) e; fits = tt; told = tt }
