use mathlib.Core.Path.{refl}
use Rattle.sets.specs.Lists.{either}
use Rattle.forms.specs.Forms.{pair_group, tuple_group, row_data}
use Rattle.klaim.specs.Rows.{group_a, group_e}
use Rattle.judge.proofs.Limits.{bound_low, tuple_low, pair_low}
use Rattle.estimates.proofs.Rows.{none_other}
use Rattle.estimates.proofs.EstimateReaderReader.is_seen.Goals as goal

pub bound_seen-requires : goal.bound_seen-requires
unfolding row_data
bound_seen-requires c = let l = bound_low _ (rw c.in-B.is at c.requires.low) in record { variable_low = l.0; site_low = l.1 }

pub tuple_seen-requires : goal.tuple_seen-requires
unfolding row_data
tuple_seen-requires c = tuple_low group_a _ (rw c.in-A.is at c.requires.low)

pub pair_seen-requires : goal.pair_seen-requires
unfolding row_data
pair_seen-requires c = let l = pair_low group_e _ (rw c.in-E.is at c.requires.low) in record { from_low = l.0; to_low = l.1 }

pub returns-in-B : goal.returns-in-B
unfolding row_data
returns-in-B c = λ t above H. rw c.in-B.is (c.bound_seen.ensures above H.counts.kept H.tables.binds_is)

pub returns-in-A : goal.returns-in-A
unfolding row_data tuple_group either
returns-in-A c = λ t above H. rw c.in-A.is (c.tuple_seen.ensures group_a above refl H.counts.kept H.tables.keys_are)

pub returns-in-E : goal.returns-in-E
unfolding row_data pair_group either
returns-in-E c = λ t above H. rw c.in-E.is (c.pair_seen.ensures group_e above refl H.counts.kept H.tables.hold_is)

pub returns-in_default : goal.returns-in_default
returns-in_default c = λ t above H. absurd (none_other _ _ c.requires.placed c.in_default.not-B c.in_default.not-A c.in_default.not-E)
