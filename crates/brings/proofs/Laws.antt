-- Laws of what a bring reads, of the state that it makes, and of its refusals.
-- Assumes nothing.
use mathlib.Core.Path.{◌≡◌, refl, sym, ap, ap₂, subst, ◌∙◌}
use mathlib.Core.Bool.{Bool, true, false}
use mathlib.Core.List.{List, [], ◌∷◌, ◌++◌, map}
use Prim.Native.Nat.{ℕ, suc, ◌+◌, ◌<◌, ◌≤◌, ◌^◌}
use native.Mathlib.Omega.{arith}
use native.Mathlib.Decide.{ℕ_discrete}
use borrow.Author.Tests.{eq-eqb, ne_eqb, lt-ltb, le-ltb}
use lib.Dec.{eqb, ltb}
use lib.ListN.{length, get_or, set, take}
use lib.Seq.{take-append-le, get_or-set_same, get_or-set_other}
use Rattle.sets.specs.Lists.{◌&◌, either}
use Rattle.sets.specs.Bits.{mem, join}
use Rattle.sets.proofs.Lists.{or_false, iff, all_turn, ltb_lt, All-in}
use Rattle.sets.proofs.Bits.{has_or, has_none}
use Rattle.sets.proofs.Shared.{mem_single}
use Rattle.sets.proofs.Tables.{length_table, table_in}
use Rattle.klaim.specs.Process.{Line, move, ordered, tree}
use Rattle.std.specs.Prelude.{Ok, Err}
use Rattle.klaim.specs.declared.Refusal.{Refusal}
use Rattle.klaim.specs.Refusals.{number_of}
use Rattle.klaim.specs.Reader.{Answer, refused, gives, read_arrival}
use Rattle.klaim.specs.Engine.{Result, brought, joined, bring_read, bring}
use Rattle.klaim.specs.Invariant.{all_below, Invariant}
use Rattle.klaim.specs.WellFormed.{ArrivalRead as ReadOk}
use Rattle.klaim.proofs.Reader.{arrival_read}
use Rattle.klaim.proofs.Invariant.{bring_keeps}
use Rattle.klaim.proofs.Process.{tree_old, ordered_join}
use Rattle.tables.specs.View.{Lines, lines_of, net_view, estimate_view, InForm}
use Rattle.tables.proofs.Entries.{pushed}
use Rattle.tables.proofs.LineTable.{lines_long}
use Rattle.rules.specs.Masks.{Sized}
use Rattle.door.specs.Parts.{sound}
use Rattle.state.specs.declared.Arrival.{Arrival}
use Rattle.state.specs.declared.Event.TheVariants.{Brought as Came}
use Rattle.state.specs.declared.State.{State}
use Rattle.state.specs.View.{Arrivals, no_arrival, arrival_root, arrivals_of, state_view, result_view}
use Rattle.state.specs.Fits.{sound_at, Fits}
use Rattle.state.proofs.Few.{sites_few}
use Rattle.state.proofs.On.{answering, answering_fits}
use Rattle.brings.specs.Brought.{Brought}

-- lines put behind others leave the first of these
pub own_kept : (own : ℕ) (old new more : List Line) → own ≤ length old → new ≡ old ++ more → take own new ≡ take own old
own_kept own old new more h e = ap (take own) e ∙ take-append-le own old more h

-- a site more, or none
module _ (set l s : ℕ) where
  pub one_more : {here : Bool} → here ≡ true → mem s (join set (2 ^ l)) ≡ either (mem s set) (here & eqb l s)
  unfolding ◌&◌
  one_more e = rw e (has_or set (2 ^ l) s ∙ ap (either (mem s set)) (mem_single s l))

  pub no_more : {here : Bool} → here ≡ false → mem s set ≡ either (mem s set) (here & eqb l s)
  unfolding ◌&◌
  no_more e = rw e (sym (or_false (mem s set)))

-- the sites below l that pass a test
abbrev pub Sites : (ℕ → Bool) → ℕ → ℕ → Type 0
Sites f l set = (s : ℕ) → mem s set ≡ (ltb s l & f s)

module _ (f : ℕ → Bool) where
  pub sites_none : Sites f 0 0
  unfolding ◌&◌
  sites_none s = has_none s ∙ ap (λ (b : Bool). b & f s) (sym (le-ltb s 0 (omega arith)))

  at_last : (x b : Bool) → either (false & x) (b & true) ≡ (true & b)
  unfolding either ◌&◌
  at_last x true = refl
  at_last x false = refl

  elsewhere : (x b : Bool) → either x (b & false) ≡ x
  unfolding either ◌&◌
  elsewhere true b = refl
  elsewhere false true = refl
  elsewhere false false = refl

  still : (s l k : ℕ) → (s ≡ l → ⊥) → suc l ≡ k → ltb s l ≡ ltb s k
  still s l k p q = iff (λ h. lt-ltb s k (omega (arith, ltb_lt s l h))) (λ h. lt-ltb s l (omega (arith, ltb_lt s k h)))

  pub sites_more : (l set next : ℕ) {here : Bool} → Sites f l set → here ≡ f l → ((s : ℕ) → mem s next ≡ either (mem s set) (here & eqb l s)) → (k : ℕ) → suc l ≡ k → Sites f k next
  sites_more l set next {here} old e new k q s = new s ∙ ap (λ (b : Bool). either b (here & eqb l s)) (old s) ∙ go (ℕ_discrete s l)
    where
      go : Dec (s ≡ l) → either (ltb s l & f s) (here & eqb l s) ≡ (ltb s k & f s)
      go (yes p) =
          ap₂ (λ (b c : Bool). either (b & f s) (here & c)) (le-ltb s l (omega arith)) (eq-eqb l s (sym p))
          ∙ at_last (f s) here
          ∙ ap₂ (λ (b c : Bool). b & c) (sym (lt-ltb s k (omega arith))) (e ∙ sym (ap f p))
      go (no p) =
          ap (λ (c : Bool). either (ltb s l & f s) (here & c)) (ne_eqb l s (λ z. p (sym z)))
          ∙ elsewhere (ltb s l & f s) here
          ∙ ap (λ (b : Bool). b & f s) (still s l k p q)

  pub sites_all : (l set : ℕ) → Sites f l set → (s : ℕ) → s < l → mem s set ≡ f s
  unfolding ◌&◌
  sites_all l set h s k = h s ∙ ap (λ (b : Bool). b & f s) (lt-ltb s l k)

-- an arrival that was read for a state
module _ {st : State} (f : Fits st) where
  pub sized : Sized st.estimate.stand
  unfolding state_view all_below
  sized = record {
    alone = f.invariant.stand_distinct;
    low = all_turn (all_below st.net.size) (all_below 32) _ (λ t h. all_turn (λ x. ltb x st.net.size) (λ x. ltb x 32) t (λ x l. lt-ltb x 32 (omega (arith, ltb_lt x st.net.size l, sites_few f))) h) f.invariant.stand_fit;
  }

  roots_long : length (arrivals_of st.arrivals) ≡ st.arrivals.count
  unfolding arrivals_of
  roots_long = length_table st.arrivals.count (arrival_root st.arrivals)

  -- an arrival's root is a line
  root_low : (i : ℕ) → i < st.arrivals.count → arrival_root st.arrivals i < length (lines_of st.lines)
  unfolding state_view arrivals_of
  root_low i h = (All-in f.invariant.arrivals_ok (table_in st.arrivals.count (arrival_root st.arrivals) i h)).present

  module _ (rows : List ℕ) where
    bring_by : {a : Answer (List Line)} → a ≡ read_arrival st.net.size st.lines.count rows → bring (state_view st) rows ≡ bring_read (state_view st) a
    unfolding state_view bring
    bring_by e = rw (lines_long st.lines, e)

    -- a refusal leaves the state as it is
    pub refused_bring : {e : Refusal} → refused (number_of e.why) e.row ≡ read_arrival st.net.size st.lines.count rows → Brought st rows (answering st (Err e))
    unfolding result_view bring_read state_view
    refused_bring {e} q = record { result = sym (bring_by q); fits = answering_fits st f (Err e) }

  pub read_ok : (a : Lines) (rows : List ℕ) → gives (lines_of a) ≡ read_arrival st.net.size st.lines.count rows → ReadOk st.net.size st.lines.count (lines_of a)
  read_ok a rows e = arrival_read st.net.size st.lines.count rows (lines_of a) st.lines.few (sym e)

  module _ (a : Lines) (r : ReadOk st.net.size st.lines.count (lines_of a)) where
    pub some_line : 0 < a.count
    some_line = omega (arith, r.some_line, lines_long a)

    pub few : st.lines.count + a.count ≤ 256
    few = omega (arith, r.few, lines_long a)

    pub place : st.arrivals.count < 256
    place = omega (arith, few, some_line, f.arrivals_few)

    joined_by : (rows : List ℕ) → gives (lines_of a) ≡ read_arrival st.net.size st.lines.count rows → bring (state_view st) rows ≡ record { answer = gives (brought st.lines.count); state = joined (state_view st) (lines_of a) }
    unfolding bring_read state_view
    joined_by rows e = bring_by rows e ∙ rw (lines_long st.lines)

    -- the lines with those of the arrival
    module _ (new : Lines) (j : lines_of new ≡ lines_of st.lines ++ map (move st.lines.count) (lines_of a)) (n : new.count ≡ st.lines.count + a.count) where
      pub root_form : InForm new st.lines.count
      unfolding state_view
      root_form =
          let o : ordered (lines_of st.lines ++ map (move (length (lines_of st.lines))) (lines_of a)) ≡ true = ordered_join (lines_of st.lines) (lines_of a) f.invariant.lines_ordered r.lines_ordered in
          record {
            in_order = ap ordered j ∙ subst (λ (n : ℕ). ordered (lines_of st.lines ++ map (move n) (lines_of a)) ≡ true) (lines_long st.lines) o;
            present = omega (arith, some_line, n);
          }

      -- the arrivals with a root more
      module _ (sites : ℕ) (arrivals : Arrivals) (p : arrivals.items ≡ set st.arrivals.items st.arrivals.count (record { root = st.lines.count; sound = sites })) (m : arrivals.count ≡ st.arrivals.count + 1) where
        -- the state behind a bring
        abbrev pub behind : State
        behind = record {
          net = st.net;
          estimate = st.estimate;
          lines = new;
          arrivals = arrivals;
          tuples = st.tuples;
          threads = st.threads;
          told = Ok (Came st.lines.count);
        }

        roots_more : arrivals_of arrivals ≡ arrivals_of st.arrivals ++ (st.lines.count ∷ [])
        unfolding arrivals_of
        roots_more = pushed (λ (x : Arrival). x.root) no_arrival st.arrivals arrivals (record { root = st.lines.count; sound = sites }) place p m

        behind_view : state_view behind ≡ joined (state_view st) (lines_of a)
        unfolding state_view joined
        behind_view = rw (j, roots_more, lines_long st.lines)

        -- the entries that stood there, and the one that came
        old_entry : (i : ℕ) → i < st.arrivals.count → get_or arrivals.items i no_arrival ≡ get_or st.arrivals.items i no_arrival
        old_entry i h = ap (λ (xs : List Arrival). get_or xs i no_arrival) p ∙ get_or-set_other st.arrivals.items st.arrivals.count i _ no_arrival (λ q. omega arith)

        new_entry : get_or arrivals.items st.arrivals.count no_arrival ≡ record { root = st.lines.count; sound = sites }
        new_entry = ap (λ (xs : List Arrival). get_or xs st.arrivals.count no_arrival) p ∙ get_or-set_same st.arrivals.items st.arrivals.count _ no_arrival (omega (arith, place, st.arrivals.long))

        -- lines put behind the present ones change no tree
        sound_old : (i l : ℕ) → i < st.arrivals.count → sound_at behind i l ≡ sound_at st i l
        unfolding sound_at state_view
        sound_old i l h =
            let t : tree (lines_of new) (arrival_root st.arrivals i) ≡ tree (lines_of st.lines) (arrival_root st.arrivals i) = ap (λ (ls : List Line). tree ls (arrival_root st.arrivals i)) j ∙ tree_old (lines_of st.lines) _ (arrival_root st.arrivals i) f.invariant.lines_ordered (root_low i h) in
            ap (λ (x : Arrival). sound (net_view st.net) (estimate_view st.estimate) l (tree (lines_of new) x.root)) (old_entry i h)
            ∙ ap (sound (net_view st.net) (estimate_view st.estimate) l) t

        module _ (s : (l : ℕ) → l < st.net.size → mem l sites ≡ sound (net_view st.net) (estimate_view st.estimate) l (tree (lines_of new) st.lines.count)) where
          sound_new : (l : ℕ) → l < st.net.size → mem l sites ≡ sound_at behind st.arrivals.count l
          unfolding sound_at state_view
          sound_new l h =
              s l h ∙ ap (λ (x : Arrival). sound (net_view st.net) (estimate_view st.estimate) l (tree (lines_of new) x.root)) (sym new_entry)

          sound_all : (i l : ℕ) → i < arrivals.count → l < st.net.size → mem l (get_or arrivals.items i no_arrival).sound ≡ sound_at behind i l
          sound_all i l h k = go (ℕ_discrete i st.arrivals.count)
            where
              go : Dec (i ≡ st.arrivals.count) → mem l (get_or arrivals.items i no_arrival).sound ≡ sound_at behind i l
              go (yes q) =
                  ap (λ (x : ℕ). mem l (get_or arrivals.items x no_arrival).sound) q
                  ∙ ap (λ (x : Arrival). mem l x.sound) new_entry
                  ∙ sound_new l k
                  ∙ ap (λ (x : ℕ). sound_at behind x l) (sym q)
              go (no q) =
                  let low : i < st.arrivals.count = omega (arith, h, m) in
                  ap (λ (x : Arrival). mem l x.sound) (old_entry i low) ∙ f.sound_is i l low k ∙ sym (sound_old i l low)

          pub joined_brought : (rows : List ℕ) → gives (lines_of a) ≡ read_arrival st.net.size st.lines.count rows → Brought st rows behind
          unfolding result_view
          joined_brought rows e = record {
            result = rw behind_view (sym (joined_by rows e));
            fits = record {
              arrivals_few = omega (arith, some_line, f.arrivals_few, n, m);
              sound_is = sound_all;
              invariant = subst Invariant (ap (λ (r : Result). r.state) (joined_by rows e) ∙ sym behind_view) (bring_keeps (state_view st) rows f.invariant);
            };
          }
