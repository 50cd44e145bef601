-- Laws of writing: one write behind another, and what is left of the room.
-- Assumes nothing.
use mathlib.Core.Path.{◌≡◌, refl, sym, ap, ◌∙◌, subst}
use mathlib.Core.List.{List, [], ◌∷◌, ◌++◌, append_assoc, append-nil}
use Prim.Native.Nat.{ℕ, ◌+◌, ◌<◌, ◌≤◌}
use native.Mathlib.Omega.{arith}
use native.Mathlib.Numerals.{add-one}
use native.Mathlib.Nat.{add-zero}
use lib.ListN.{length, take, drop, set, get_or, length-append, length-drop, length-take, take-append-drop}
use lib.Seq.{length-take-le, take_at, drop-append-add, drop-drop, set_split, append_snoc, take-suc}
use Rattle.sets.specs.Lists.{◌⧺◌}
use Rattle.sets.proofs.Lists.{length_cat, cat_append}
use Rattle.writer.specs.Wrote.{Wrote}

-- nothing written
pub wrote_none : (a : List ℕ) (at : ℕ) → at ≤ length a → Wrote a a at [] at
wrote_none a at h = record {
  room = omega arith;
  is = rw (add-zero, append-nil) (sym (take-append-drop at a));
  ends = omega arith;
}

-- one byte stored
pub wrote_byte : (a : List ℕ) (at b : ℕ) → at < length a → Wrote a (set a at b) at (b ∷ []) (at + 1)
wrote_byte a at b h = record {
  room = omega arith;
  is = rw (add-one, append_snoc) (set_split a at b h);
  ends = refl;
}

-- the buffer stays as long as it was
pub wrote_long : {a b : List ℕ} {at next : ℕ} {xs : List ℕ} → Wrote a b at xs next → length b ≡ length a
wrote_long {a} {b} {at} {next} {xs} w =
    ap length w.is
    ∙ omega (arith, w.room, length-append (take at a ++ xs) (drop (at + length xs) a), length-append (take at a) xs, length-drop (at + length xs) a, length-take-le at a (omega (arith, w.room)))

-- a write behind a write
pub wrote_then : {a b c : List ℕ} {at next last : ℕ} {xs ys : List ℕ} → Wrote a b at xs next → Wrote b c next ys last → Wrote a c at (xs ⧺ ys) last
wrote_then {a} {b} {c} {at} {next} {last} {xs} {ys} w v = record {
  room = omega (arith, length_cat xs ys, w.room, w.ends, v.room, wrote_long w);
  is = v.is ∙ ap (λ (l : List ℕ). l ++ ys ++ drop (next + length ys) b) front ∙ ap (λ (l : List ℕ). take at a ++ xs ++ ys ++ l) behind ∙ joined;
  ends = omega (arith, length_cat xs ys, w.ends, v.ends);
}
  where
    head : length (take at a ++ xs) ≡ next
    head = omega (arith, length-append (take at a) xs, length-take-le at a (omega (arith, w.room)), w.ends)

    front : take next b ≡ take at a ++ xs
    front = rw w.is (take_at (take at a ++ xs) (drop (at + length xs) a) next head)

    behind : drop (next + length ys) b ≡ drop (at + length (xs ⧺ ys)) a
    behind =
        let e : at + length xs + length ys ≡ at + length (xs ⧺ ys) = omega (arith, length_cat xs ys) in
        ap (λ (l : List ℕ). drop (next + length ys) l) w.is
        ∙ ap (λ (n : ℕ). drop (n + length ys) (take at a ++ xs ++ drop (at + length xs) a)) (sym head)
        ∙ drop-append-add (take at a ++ xs) (drop (at + length xs) a) (length ys)
        ∙ drop-drop (length ys) (at + length xs) a
        ∙ ap (λ (n : ℕ). drop n a) e

    joined : take at a ++ xs ++ ys ++ drop (at + length (xs ⧺ ys)) a ≡ take at a ++ (xs ⧺ ys) ++ drop (at + length (xs ⧺ ys)) a
    joined = ap (λ (l : List ℕ). l ++ drop (at + length (xs ⧺ ys)) a) (append_assoc (take at a) xs ys ∙ ap (λ (l : List ℕ). take at a ++ l) (sym (cat_append xs ys)))

-- the same write, its bytes said otherwise
pub wrote_as : {a b : List ℕ} {at next : ℕ} {xs ys : List ℕ} → xs ≡ ys → Wrote a b at xs next → Wrote a b at ys next
wrote_as {a} {b} {at} {next} e w = subst (λ (l : List ℕ). Wrote a b at l next) e w

-- a turn of the loop that copies a text
pub wrote_more : {a b : List ℕ} {at : ℕ} (t : List ℕ) (i : ℕ) → i < length t → at + length t ≤ length a → Wrote a b at (take i t) (at + i) → Wrote a (set b (at + i) (get_or t i 0)) at (take (i + 1) t) (at + (i + 1))
wrote_more {a} {b} {at} t i h room w = wrote_as bytes (wrote_next (omega arith) (wrote_then w (wrote_byte b (at + i) (get_or t i 0) (omega (arith, wrote_long w)))))
  where
    bytes : take i t ⧺ (get_or t i 0 ∷ []) ≡ take (i + 1) t
    bytes = cat_append (take i t) (get_or t i 0 ∷ []) ∙ sym (take-suc t i 0 h) ∙ ap (λ (n : ℕ). take n t) (sym (add-one i))

    wrote_next : {c ys : List ℕ} {m n : ℕ} → m ≡ n → Wrote a c at ys m → Wrote a c at ys n
    wrote_next {c} {ys} e v = subst (λ (n : ℕ). Wrote a c at ys n) e v

-- as many bytes as were written
pub written_count : {a b xs : List ℕ} {next : ℕ} → Wrote a b 0 xs next → next ≡ length (take next b)
written_count {a} {b} {xs} {next} W = omega (arith, W.room, W.ends, wrote_long W, length-take next b)

-- they lie within the output
pub written_in : {a b xs : List ℕ} {next : ℕ} → Wrote a b 0 xs next → next ≤ length b
written_in W = omega (arith, W.room, W.ends, wrote_long W)
