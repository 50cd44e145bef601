-- One read more puts what it took behind what was there.
use Rattle.std.proofs.Common.{rules, ◌≡◌, ℕ, ◌+◌, ◌-◌, ◌≤◌, List, ◌++◌, length, take, drop, sym, ap, ◌∙◌, subst, le_refl, drop_at, length-take-le}
use Rattle.std.specs.declared.option.Option.{Option}
use Rattle.std.proofs.lemmas.Slice.{take-put_mid_below}
use Rattle.std.specs.Io.KnownBytes.{Consumes}
use Rattle.std.proofs.KnownBytes.{Consumes-trans}
use borrow.Rule.Slice.PartMut.{put_mid, post_of}
use lib.Seq.{take-add, take-append-le}
use Rattle.streams.proofs.read_full.Goals as goal

taken_more : (a b c : Option (List ℕ)) (buf new : List ℕ) (from n : ℕ) → from ≤ length buf → n ≤ length new → Consumes a b (take from buf) → Consumes b c (take n new) → Consumes a c (take (from + n) (put_mid from (length buf - from) buf new))
taken_more a b c buf new from n within fits front more =
    let room = length buf - from in
    let whole = put_mid from room buf new in
    let before : take from whole ≡ take from buf = take-put_mid_below _ _ _ _ _ (le_refl _) within in
    let behind : take n (drop from whole) ≡ take n new = ap (take n) (drop_at (take from buf) (new ++ post_of from room buf) from (length-take-le from buf within)) ∙ take-append-le n new (post_of from room buf) fits in
    subst (Consumes a c) (ap (λ l. l ++ take n new) (sym before) ∙ ap (λ l. take from whole ++ l) (sym behind) ∙ sym (take-add from n whole)) (Consumes-trans a b c _ _ front more)

pub loop-done-preserved : goal.loop-done-preserved
loop-done-preserved g c =
    (search rules, taken_more _ _ _ c.loop-done.buf c.read.new.buf c.loop-done.done c.in-Ok.count c.loop-done.invariant.0 c.in-Ok.ensures.within.0 c.loop-done.invariant.1 c.in-Ok.ensures.taken.0)
