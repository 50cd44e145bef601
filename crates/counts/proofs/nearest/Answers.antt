use native.Mathlib.Nat.{div-le_self, mod-le}
use borrow.Author.Rules.{rules}
use Rattle.klaim.proofs.Share.{nearest_less, nearest_more, nearest_even, nearest_odd}
use Rattle.counts.proofs.nearest.Goals as goal

pub overflow_mul-twice : goal.overflow_mul-twice
overflow_mul-twice c = search (rules, mod-le c.args.a c.args.p)

pub returns-then-twice-p : goal.returns-then-twice-p
returns-then-twice-p c = nearest_less _ _ c.if-twice-p.true

pub overflow_add-result : goal.overflow_add-result
overflow_add-result c = search (rules, div-le_self c.args.a c.args.p)

pub returns-then-p-twice : goal.returns-then-p-twice
returns-then-p-twice c = nearest_more _ _ c.if-p-twice.true

pub returns-then-n-eq0 : goal.returns-then-n-eq0
returns-then-n-eq0 c = nearest_even _ _ c.if-twice-p.false c.if-p-twice.false c.if-n-eq0.true

pub overflow_add-result-2 : goal.overflow_add-result-2
overflow_add-result-2 c = search (rules, div-le_self c.args.a c.args.p)

pub returns : goal.returns
returns c = nearest_odd _ _ c.if-twice-p.false c.if-p-twice.false c.if-n-eq0.false
