use mathlib.Core.Path.{refl}
use Rattle.sets.specs.Lists.{either}
use Rattle.forms.specs.Forms.{pair_group, tuple_group, row_data}
use Rattle.klaim.specs.Rows.{group_r, group_t}
use Rattle.judge.proofs.Limits.{pair_low, tuple_low, root_low}
use Rattle.nets.proofs.Rows.{seen_rest}
use Rattle.nets.proofs.NetReaderReader.is_seen.Goals as goal

pub pair_seen-requires : goal.pair_seen-requires
unfolding row_data
pair_seen-requires c = let l = pair_low group_r _ (rw c.in-R.is at c.requires.low) in record { from_low = l.0; to_low = l.1 }

pub box_seen-requires : goal.box_seen-requires
unfolding row_data
box_seen-requires c = rw c.in-D.is at c.requires.low

pub tuple_seen-requires : goal.tuple_seen-requires
unfolding row_data
tuple_seen-requires c = tuple_low group_t _ (rw c.in-T.is at c.requires.low)

pub root_seen-requires-clause-site_low : goal.root_seen-requires-clause-site_low
unfolding row_data
root_seen-requires-clause-site_low c = (root_low _ (rw c.in-L.is at c.requires.low)).0

pub root_seen-requires-clause-line_low : goal.root_seen-requires-clause-line_low
unfolding row_data
root_seen-requires-clause-line_low c = (root_low _ (rw c.in-L.is at c.requires.low)).1

pub returns-in-R : goal.returns-in-R
unfolding row_data pair_group either
returns-in-R c = λ t above H. rw c.in-R.is (c.pair_seen.ensures group_r above refl H.counts.kept H.tables.homes_is)

pub returns-in-D : goal.returns-in-D
unfolding row_data
returns-in-D c = λ t above H. rw c.in-D.is (c.box_seen.ensures above H.counts.kept H.tables.boxes_is)

pub returns-in-T : goal.returns-in-T
unfolding row_data tuple_group either
returns-in-T c = λ t above H. rw c.in-T.is (c.tuple_seen.ensures group_t above refl H.counts.kept H.tables.keys_are)

pub returns-in-L : goal.returns-in-L
unfolding row_data
returns-in-L c = λ t above H. rw c.in-L.is (c.root_seen.ensures above H.counts.kept H.tables.roots_is)

pub returns-in_default : goal.returns-in_default
returns-in_default c = λ t above H. seen_rest _ H.counts c.requires.placed c.in_default.not-R c.in_default.not-D c.in_default.not-T c.in_default.not-L
