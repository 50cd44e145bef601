use mathlib.Core.Path.{sym, ap, ◌∙◌}
use Prim.Native.Nat.{ℕ, ◌+◌}
use native.Mathlib.Omega.{arith}
use Rattle.klaim.specs.Rows.{group_r, group_t, row_line}
use Rattle.forms.specs.Forms.{tuple_data, root_data, process_data, row_data}
use Rattle.judge.proofs.Limits.{pair_low, sandbox_low, tuple_low, root_low}
use Rattle.entries.proofs.Pushed.{line_pushed, tuple_pushed, root_pushed}
use Rattle.nets.proofs.Rows.{tables_r, tables_d, tables_t, tables_l, tables_q, tables_rest, room_t, room_l, room_q}
use Rattle.nets.proofs.reading.NetReader.keep.Goals as goal

pub put_pair-requires-clause-from_low : goal.put_pair-requires-clause-from_low
unfolding row_data
put_pair-requires-clause-from_low c = (pair_low group_r _ (rw c.in-R.is at c.requires.low)).0

pub put_pair-requires-clause-to_low : goal.put_pair-requires-clause-to_low
unfolding row_data
put_pair-requires-clause-to_low c = (pair_low group_r _ (rw c.in-R.is at c.requires.low)).1

pub put_box-requires-clause-number_low : goal.put_box-requires-clause-number_low
unfolding row_data
put_box-requires-clause-number_low c = (sandbox_low _ (rw c.in-D.is at c.requires.low)).0

pub put_box-requires-clause-toward_low : goal.put_box-requires-clause-toward_low
unfolding row_data
put_box-requires-clause-toward_low c = (sandbox_low _ (rw c.in-D.is at c.requires.low)).1

pub tuple-requires : goal.tuple-requires
unfolding row_data
tuple-requires c = tuple_low group_t _ (rw c.in-T.is at c.requires.low)

pub push-requires : goal.push-requires
unfolding row_data tuple_data
push-requires c = (omega arith, room_t _ _ (ap (λ r. (row_data r).group) c.in-T.is) c.requires.room)

pub keep_key-requires-clause-sites_low : goal.keep_key-requires-clause-sites_low
unfolding row_data
keep_key-requires-clause-sites_low c = tuple_low group_t _ (rw c.in-T.is at c.requires.low)

pub root-requires : goal.root-requires
unfolding row_data
root-requires c = let l = root_low _ (rw c.in-L.is at c.requires.low) in record { site_low = l.0; line_low = l.1 }

pub line-requires : goal.line-requires
unfolding row_data
line-requires c = rw c.in-Q.is at c.requires.low

pub returns-in-R-clause-tables : goal.returns-in-R-clause-tables
returns-in-R-clause-tables c = λ above T. rw c.in-R.is (tables_r T c.in-R.pair (c.put_pair.ensures group_r above T.homes_is))

pub returns-in-D-clause-tables : goal.returns-in-D-clause-tables
returns-in-D-clause-tables c = λ above T. rw c.in-D.is (tables_d T c.in-D.sandbox (c.put_box.ensures _ above T.boxes_is))

pub push-requires-in-L : goal.push-requires-in-L
unfolding row_data root_data
push-requires-in-L c = (omega arith, room_l _ _ (ap (λ r. (row_data r).group) c.in-L.is) c.requires.room)

pub push-requires-in-Q : goal.push-requires-in-Q
unfolding row_data process_data row_line
push-requires-in-Q c = (omega arith, room_q _ _ (ap (λ r. (row_data r).group) c.in-Q.is) c.requires.room)

pub invariant_of-self-in-T : goal.invariant_of-self-in-T
invariant_of-self-in-T c = record {
  keyed = c.keep_key.ensures.count ∙ ap (λ (n : ℕ). n + 1) c.args.self.now.keyed ∙ sym c.push.ensures.count;
  size_few = c.args.self.now.size_few;
}

pub returns-in-T-clause-tables : goal.returns-in-T-clause-tables
unfolding row_data tuple_data
returns-in-T-clause-tables c = λ above T.
    let room = room_t _ _ (ap (λ r. (row_data r).group) c.in-T.is) c.requires.room in
    rw c.in-T.is (tables_t T c.in-T.tuple (tuple_pushed _ _ _ room c.push.ensures.items c.push.ensures.count c.tuple.ensures) (c.keep_key.ensures.keys group_t above T.keys_are))

pub returns-in-L-clause-tables : goal.returns-in-L-clause-tables
unfolding row_data root_data
returns-in-L-clause-tables c = λ above T.
    let room = room_l _ _ (ap (λ r. (row_data r).group) c.in-L.is) c.requires.room in
    rw c.in-L.is (tables_l T c.in-L.root (root_pushed _ _ _ room c.push-in-L.ensures.items c.push-in-L.ensures.count c.root.ensures))

pub returns-in-Q-clause-tables : goal.returns-in-Q-clause-tables
unfolding row_data process_data row_line
returns-in-Q-clause-tables c = λ above T.
    let room = room_q _ _ (ap (λ r. (row_data r).group) c.in-Q.is) c.requires.room in
    rw c.in-Q.is (tables_q T c.in-Q.process (line_pushed _ _ _ room c.push-in-Q.ensures.items c.push-in-Q.ensures.count c.line.ensures))

pub returns-in_default-clause-tables : goal.returns-in_default-clause-tables
returns-in_default-clause-tables c = λ above T. tables_rest T _ _ c.requires.placed c.in_default.not-R c.in_default.not-D c.in_default.not-T c.in_default.not-L c.in_default.not-Q
