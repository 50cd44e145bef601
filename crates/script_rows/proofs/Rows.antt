-- Laws of the search for a row: where its end is, and what one turn gives.
-- Assumes nothing.
use mathlib.Core.Path.{◌≡◌, refl, sym, ap, ◌∙◌}
use mathlib.Core.List.{List}
use Prim.Native.Nat.{ℕ, ◌+◌, ◌-◌, ◌<◌, ◌≤◌}
use native.Mathlib.Omega.{arith}
use native.Mathlib.Decide.{dec_lt}
use lib.ListN.{length, get_or, take}
use lib.Seq.{get_or-take, length-take-le}
use Rattle.klaim.specs.Rows.{newline}
use Rattle.text.specs.Pieces.{end_of}
use Rattle.text.proofs.Pieces.{end_none, end_hit}
use Rattle.script_rows.specs.declared.Find.TheVariants.{Row}
use Rattle.script_rows.specs.declared.Window.{Window}
use Rattle.script_rows.specs.Window.{Kept, Unended, Seeks, Turned, Roomy, Read}

-- the end of a row looked for in the first bytes of a buffer
module _ (buf : List ℕ) (to at : ℕ) (h : to ≤ length buf) where
  looked : (e : ℕ) → e ≡ end_of newline (take to buf) at → e ≤ to → Unended buf at e
  looked e q l i a m p = end_none newline (take to buf) at i a (omega arith) (get_or-take to buf i 0 (omega arith) ∙ p)

  met : (e : ℕ) → e ≡ end_of newline (take to buf) at → e < to → get_or buf e 0 ≡ newline
  met e q l =
      let long = length-take-le to buf h in
      sym (get_or-take to buf e 0 l) ∙ ap (λ (k : ℕ). get_or (take to buf) k 0) q ∙ end_hit newline (take to buf) at (omega (arith, long))

-- nothing ends in either of two parts: nothing ends in both
unended_on : (buf : List ℕ) (a b e : ℕ) → Unended buf a b → Unended buf b e → Unended buf a e
unended_on buf a b e f g i l m = go (dec_lt i b)
  where
    go : Dec (i < b) → get_or buf i 0 ≡ newline → ⊥
    go (yes p) = f i l p
    go (no p) = g i (omega arith) m

-- the end of the row stands in what is there
pub row_here : {last w : Window} {buf : List ℕ} (e : ℕ) → Seeks last buf → e ≡ end_of newline (take last.to buf) last.next → e < last.to → last.next ≤ e →
    (w.found ≡ Row) × (w.from ≡ last.from) × (w.row ≡ last.row) × (w.next ≡ e + 1) × (w.to ≡ last.to) × (w.more ≡ last.more) → Turned last buf w buf
row_here {last} {w} {buf} e S q h low (found, from, row, next, to, coming) =
    let in_order = S.within in
    let place : w.next - 1 ≡ e = omega arith in
    let unended = unended_on buf last.row last.next e S.unended (looked buf last.to last.next in_order.3 e q (omega arith)) in
    record {
      more = λ m. absurd (cc);
      long = refl;
      found = λ m. record {
        within = (omega arith, omega arith, omega arith, omega arith);
        kept = λ i l. ap (λ (k : ℕ). get_or buf (k + i) 0) from;
        all = omega arith;
        row = λ _. (
          omega arith,
          record {
            some = omega arith;
            ended = ap (λ (k : ℕ). get_or buf k 0) place ∙ met buf last.to last.next in_order.3 e q h;
            one = λ i a b. unended i (omega arith) (omega arith);
          },
        );
        none = λ no. absurd (no found);
        end = λ p. absurd (cc);
        full = λ p. absurd (cc);
        goes_on = λ p. coming;
        long = refl;
      };
    }

-- all that is there was looked at
pub looked_all : {last : Window} {buf : List ℕ} (e : ℕ) → Seeks last buf → e ≡ end_of newline (take last.to buf) last.next → e ≤ last.to → last.to ≤ e → Unended buf last.row last.to
looked_all {last} {buf} e S q l m =
    let all : e ≡ last.to = omega arith in
    let rest = looked buf last.to last.next S.within.3 e q l in
    unended_on buf last.row last.next last.to S.unended (λ i a b. rest i a (omega arith))

-- bytes that were kept twice
pub kept_on : (a b : ℕ) (old : List ℕ) (c d : ℕ) (mid : List ℕ) (e : ℕ) (new : List ℕ) → b + c ≤ d + a → Kept a b old c mid → Kept c d mid e new → Kept a b old e new
kept_on a b old c d mid e new l first second i h = second i (omega arith) ∙ first i h

-- bytes that no row ends among, and that were kept
unended_kept : (a b : ℕ) (old : List ℕ) (c : ℕ) (new : List ℕ) → Kept a b old c new → (p q : ℕ) → a ≤ p → q ≤ b → Unended old p q → (x y : ℕ) → p + c ≤ x + a → y + a ≤ q + c → c ≤ x → Unended new x y
unended_kept a b old c new kept p q low high f x y lx ly cx i h m e =
    let place : c + (i - c) ≡ i = omega arith in
    let same = kept (i - c) (omega arith) in
    f (a + (i - c)) (omega arith) (omega arith) (sym same ∙ ap (λ (k : ℕ). get_or new k 0) place ∙ e)

-- more was read, or nothing more came
pub read_on : {last r w : Window} {old mid new : List ℕ} → Seeks last old → last.next ≡ last.to → Roomy last old r mid → Read r mid w new → Turned last old w new
read_on {last} {r} {w} {old} {mid} {new} S all R D =
    let in_order = S.within in
    let roomy = R.within in
    let within = D.within in
    let from = D.from in
    let row = R.row in
    let next = R.next in
    let to = R.to in
    let moved : Kept r.from r.to mid w.from new = λ i h. ap (λ (k : ℕ). get_or new (k + i) 0) from ∙ D.same (r.from + i) h in
    let kept = kept_on last.from last.to old r.from r.to mid w.from new (omega arith) R.kept moved in
    let unended = unended_kept last.from last.to old w.from new kept last.row last.next in_order.0 (omega arith) S.unended in
    record {
      more = λ m.
          let more = D.more m in (
            record { within = within; unended = unended w.row w.next (omega (arith, more)) (omega (arith, more)) within.0 },
            omega (arith, more),
            omega (arith, more),
            kept,
            D.coming (λ p. cc) ∙ R.coming,
          );
      long = D.long ∙ R.long;
      found = λ m. record {
        within = within;
        kept = kept;
        all = omega (arith, D.stop m);
        row = λ p. absurd (D.no_row p);
        none = λ no. unended (last.row + w.from - last.from) w.to (omega arith) (omega (arith, D.stop m)) (omega arith);
        end = D.end;
        full = λ p. (from ∙ R.room (omega (arith, D.full p, D.stop m, D.long)), D.full p);
        goes_on = λ p. D.coming p ∙ R.coming;
        long = D.long ∙ R.long;
      };
    }
