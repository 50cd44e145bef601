use borrow.Author.Rules.{rules}
use mathlib.Core.Path.{◌≡◌, ap, ◌∙◌}
use Prim.Native.Nat.{ℕ, ◌%◌, ◌<◌}
use native.Mathlib.Omega.{arith}
use native.Mathlib.Nat.{add-zero}
use lib.ListN.{length}
use lib.Seq.{take_all}
use Rattle.sets.specs.Bits.{set_count}
use Rattle.klaim.specs.Listing.{letters}
use Rattle.klaim.proofs.Letters.{letters_short}
use Rattle.writer.proofs.Wrote.{wrote_none, wrote_long, wrote_more, wrote_as}
use Rattle.writer.proofs.Letters.{at_letter, entry_read, read_ends, read_goes_on}
use Rattle.writer.proofs.put_letters_from.Goals as goal

pub loop-i-init : goal.loop-i-init
loop-i-init c = (search rules, rw add-zero (wrote_none _ _ (search rules)))

pub shape_of-out-then-letter-eq-DOT : goal.shape_of-out-then-letter-eq-DOT
shape_of-out-then-letter-eq-DOT c = wrote_long c.loop-i.invariant.1

pub returns-then-letter-eq-DOT : goal.returns-then-letter-eq-DOT
returns-then-letter-eq-DOT c =
    let l = c.loop-i in
    let e = ap (λ (n : ℕ). n % set_count) c.from-set.ensures in
    wrote_as (take_all l.i (letters c.args.rights) (read_ends c.requires.0 c.args.rights l.i e c.if-letter-eq-DOT.true)) l.invariant.1

pub overflow_add-out : goal.overflow_add-out
overflow_add-out c =
    let e = ap (λ (n : ℕ). n % set_count) c.from-set.ensures in
    let goes_on : c.loop-i.i < length (letters c.args.rights) = read_goes_on c.requires.0 c.args.rights c.loop-i.i e (omega arith) c.if-letter-eq-DOT.false in
    search (rules, goes_on)

pub bounds-out-at : goal.bounds-out-at
bounds-out-at c =
    let e = ap (λ (n : ℕ). n % set_count) c.from-set.ensures in
    omega (arith, read_goes_on c.requires.0 c.args.rights c.loop-i.i e (omega arith) c.if-letter-eq-DOT.false, wrote_long c.loop-i.invariant.1)

pub loop-i-preserved : goal.loop-i-preserved
loop-i-preserved c =
    let l = c.loop-i in
    let xs = letters c.args.rights in
    let e = ap (λ (n : ℕ). n % set_count) c.from-set.ensures in
    let goes_on = read_goes_on c.requires.0 c.args.rights l.i e (omega arith) c.if-letter-eq-DOT.false in (
      omega (arith, goes_on),
      rw (entry_read c.requires.0 c.args.rights l.i e ∙ at_letter xs l.i goes_on) (wrote_more xs l.i goes_on (search rules) l.invariant.1),
    )

pub shape_of-out : goal.shape_of-out
shape_of-out c = wrote_long c.loop-i.invariant.1

pub returns : goal.returns
returns c =
    let r = c.args.rights in
    let e : c.loop-i.i ≡ 5 = omega arith in
    wrote_as (take_all 5 (letters r) (omega (arith, letters_short r))) (rw e at c.loop-i.invariant.1)
