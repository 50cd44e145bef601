use mathlib.Core.Path.{sym, refl, ◌∙◌}
use Prim.Native.Nat.{◌<◌, ◌≤◌}
use Rattle.std.proofs.Common.{rules, tests}
use Rattle.tables.specs.View.{no_tuple}
use Rattle.state.specs.View.{state_view}
use Rattle.plan.proofs.Entries.{entries_long, entry_read}
use Rattle.plan.proofs.Laws.{get_none, get_other, get_some}
use Rattle.plan.proofs.plan_get.Goals as goal

pub returns-in_default-clause-value : goal.returns-in_default-clause-value
unfolding state_view
returns-in_default-clause-value c =
    let ts = c.args.state.now.tuples in
    let h : ts.count ≤ c.args.m = search (rules, tests, entries_long) in
    λ k. get_none (state_view c.args.state.now) k c.args.m 0 _ _ _ _ _ _ ts refl h

pub returns-then-not-agrees-clause-value : goal.returns-then-not-agrees-clause-value
unfolding state_view
returns-then-not-agrees-clause-value c =
    let ts = c.args.state.now.tuples in
    let h : c.args.m < ts.count = search (rules, tests, entries_long) in
    let e = entry_read ts c.args.m _ no_tuple c.as_slice.ensures h c.in-Some.ensures.lookup.1 in
    λ k. get_other (state_view c.args.state.now) k c.args.m 0 _ _ _ _ _ _ ts refl h e (sym c.agrees.ensures ∙ c.if-not-agrees.true)

pub returns-clause-value : goal.returns-clause-value
unfolding state_view
returns-clause-value c =
    let ts = c.args.state.now.tuples in
    let h : c.args.m < ts.count = search (rules, tests, entries_long) in
    let e = entry_read ts c.args.m _ no_tuple c.as_slice.ensures h c.in-Some.ensures.lookup.1 in
    λ k. c.plan_taken.ensures.value (state_view c.args.state.now) k c.args.m
    ∙ get_some (state_view c.args.state.now) k c.args.m 0 _ _ _ _ _ _ ts refl h e (sym c.agrees.ensures ∙ c.if-not-agrees.false)

pub returns-clause-possible : goal.returns-clause-possible
returns-clause-possible c = c.plan_taken.ensures.possible c.args.m c.args.state.now.tuples.count (search (rules, tests, entries_long))
