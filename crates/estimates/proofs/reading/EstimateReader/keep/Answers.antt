use mathlib.Core.Path.{sym, ap, ◌∙◌}
use Prim.Native.Nat.{ℕ, ◌+◌}
use native.Mathlib.Omega.{arith}
use Rattle.klaim.specs.Rows.{group_a, group_e}
use Rattle.forms.specs.Forms.{tuple_data, row_data}
use Rattle.judge.proofs.Limits.{bound_low, tuple_low, pair_low}
use Rattle.entries.proofs.Pushed.{tuple_pushed}
use Rattle.estimates.proofs.Rows.{none_other, tables_b, tables_a, tables_e, room_a}
use Rattle.estimates.proofs.reading.EstimateReader.keep.Goals as goal

pub put_bound-requires-clause-variable_low : goal.put_bound-requires-clause-variable_low
unfolding row_data
put_bound-requires-clause-variable_low c = (bound_low _ (rw c.in-B.is at c.requires.low)).0

pub put_bound-requires-clause-site_low : goal.put_bound-requires-clause-site_low
unfolding row_data
put_bound-requires-clause-site_low c = (bound_low _ (rw c.in-B.is at c.requires.low)).1

pub tuple-requires : goal.tuple-requires
unfolding row_data
tuple-requires c = tuple_low group_a _ (rw c.in-A.is at c.requires.low)

pub push-requires : goal.push-requires
unfolding row_data tuple_data
push-requires c = (omega arith, room_a _ _ (ap (λ r. (row_data r).group) c.in-A.is) c.requires.room)

pub keep_key-requires-clause-sites_low : goal.keep_key-requires-clause-sites_low
unfolding row_data
keep_key-requires-clause-sites_low c = tuple_low group_a _ (rw c.in-A.is at c.requires.low)

pub invariant_of-self-in-A : goal.invariant_of-self-in-A
invariant_of-self-in-A c = record { keyed = c.keep_key.ensures.count ∙ ap (λ (n : ℕ). n + 1) c.args.self.now.keyed ∙ sym c.push.ensures.count }

pub put_pair-requires-clause-from_low : goal.put_pair-requires-clause-from_low
unfolding row_data
put_pair-requires-clause-from_low c = (pair_low group_e _ (rw c.in-E.is at c.requires.low)).0

pub put_pair-requires-clause-to_low : goal.put_pair-requires-clause-to_low
unfolding row_data
put_pair-requires-clause-to_low c = (pair_low group_e _ (rw c.in-E.is at c.requires.low)).1

pub returns-in-B-clause-tables : goal.returns-in-B-clause-tables
returns-in-B-clause-tables c = λ above T. rw c.in-B.is (tables_b T c.in-B.bound (c.put_bound.ensures above T.binds_is))

pub returns-in-A-clause-tables : goal.returns-in-A-clause-tables
unfolding row_data tuple_data
returns-in-A-clause-tables c = λ above T.
    let room = room_a _ _ (ap (λ r. (row_data r).group) c.in-A.is) c.requires.room in
    rw c.in-A.is (tables_a T c.in-A.tuple (tuple_pushed _ _ _ room c.push.ensures.items c.push.ensures.count c.tuple.ensures) (c.keep_key.ensures.keys group_a above T.keys_are))

pub returns-in-E-clause-tables : goal.returns-in-E-clause-tables
returns-in-E-clause-tables c = λ above T. rw c.in-E.is (tables_e T c.in-E.pair (c.put_pair.ensures group_e above T.hold_is))

pub returns-in_default-clause-tables : goal.returns-in_default-clause-tables
returns-in_default-clause-tables c = λ above T. absurd (none_other _ _ c.requires.placed c.in_default.not-B c.in_default.not-A c.in_default.not-E)
