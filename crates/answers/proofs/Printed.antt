-- A row that was put together is what is printed of it.
-- Assumes nothing.
use Rattle.std.proofs.Common.{◌≡◌, ℕ, List, [], ◌++◌, take, drop, sym, ap, ◌∙◌, subst, length, ◌+◌, arith, append_assoc, length-append, length-take-le}
use Rattle.std.proofs.lemmas.List.{take_at}
use Rattle.std.specs.declared.option.Option.{Option}
use Rattle.std.specs.Io.KnownBytes.{Appends}
use Rattle.sets.specs.Lists.{◌⧺◌}
use Rattle.sets.proofs.Lists.{length_cat, cat_append}
use Rattle.writer.specs.Wrote.{Wrote}
use Rattle.answers.specs.declared.Row.{Row}
use Rattle.answers.specs.Made.{made, Adds}

-- the bytes up to the place behind what was written
pub wrote_on : {before after bytes : List ℕ} {at next : ℕ} → Wrote before after at bytes next → take next after ≡ take at before ++ bytes
wrote_on {before} {after} {bytes} {at} {next} W =
    ap (take next) W.is ∙ take_at (take at before ++ bytes) (drop (at + length bytes) before) next (omega (arith, length-append (take at before) bytes, length-take-le at before (omega (arith, W.room)), W.ends))

-- one part behind another
pub adds_then : {N : ℕ} {a b c : Row N} {xs ys : List ℕ} → Adds a b xs → Adds b c ys → Adds a c (xs ⧺ ys)
adds_then {N} {a} {b} {c} {xs} {ys} p q = record {
  made_is = q.made_is ∙ ap (λ l. l ++ ys) p.made_is ∙ append_assoc (made a) xs ys ∙ ap (λ l. made a ++ l) (sym (cat_append xs ys));
  ends = omega (arith, length_cat xs ys, p.ends, q.ends);
}

-- what was printed of an empty row to which bytes were added are those bytes
pub printed : {N : ℕ} {first last : Row N} {bytes : List ℕ} (old new : Option (List ℕ)) → made first ≡ [] → Adds first last bytes → Appends old new (made last) → Appends old new bytes
printed {N} {first} {last} {bytes} old new empty added = subst (Appends old new) (added.made_is ∙ ap (λ l. l ++ bytes) empty)
