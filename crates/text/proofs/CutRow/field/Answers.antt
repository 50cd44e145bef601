use mathlib.Core.Path.{sym}
use native.Mathlib.Omega.{arith}
use Rattle.text.proofs.Pieces.{spans, no_field}
use Rattle.text.proofs.CutRow.field.Goals as goal

pub returns-then-self-k : goal.returns-then-self-k
returns-then-self-k c = sym (no_field c.args.k c.args.self.now.is_cut c.if-self-k.true)

pub overflow_sub-end : goal.overflow_sub-end
overflow_sub-end c = omega (arith, (spans c.args.k c.args.self.now.is_cut c.if-self-k.false c.requires).some)

pub slice_bounds-result-count : goal.slice_bounds-result-count
slice_bounds-result-count c = (spans c.args.k c.args.self.now.is_cut c.if-self-k.false c.requires).low

pub slice_bounds-result-start : goal.slice_bounds-result-start
slice_bounds-result-start c = let S = spans c.args.k c.args.self.now.is_cut c.if-self-k.false c.requires in omega (arith, S.low, S.high)

pub slice_bounds-result-end-2 : goal.slice_bounds-result-end-2
slice_bounds-result-end-2 c = (spans c.args.k c.args.self.now.is_cut c.if-self-k.false c.requires).high

pub returns : goal.returns
returns c = (spans c.args.k c.args.self.now.is_cut c.if-self-k.false c.requires).bytes
