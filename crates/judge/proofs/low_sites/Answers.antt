use mathlib.Core.Path.{refl, sym, ap, ◌∙◌}
use Rattle.klaim.specs.Rows.{row_line}
use Rattle.forms.specs.Forms.{row_data, size_data, box_data, root_data, process_data, bound_data}
use Rattle.sets.specs.Lists.{all}
use Rattle.sets.proofs.Lists.{and_true}
use Rattle.judge.proofs.Rows.{sites_low, pair_sites, tuple_sites}
use Rattle.judge.proofs.low_sites.Goals as goal

pub returns-in-N : goal.returns-in-N
unfolding row_data size_data all
returns-in-N c = refl ∙ sites_low c.args.n _ _ (ap (λ r. (row_data r).sites) c.in-N.is)

pub returns-in-D : goal.returns-in-D
unfolding row_data box_data all
returns-in-D c = c.low_toward.ensures ∙ sites_low c.args.n _ _ (ap (λ r. (row_data r).sites) c.in-D.is)

pub returns-in-L : goal.returns-in-L
unfolding row_data root_data all
returns-in-L c = sym (and_true _) ∙ sites_low c.args.n _ _ (ap (λ r. (row_data r).sites) c.in-L.is)

pub returns-in-Q : goal.returns-in-Q
unfolding row_data process_data row_line all
returns-in-Q c = c.low_line.ensures ∙ sites_low c.args.n _ _ (ap (λ r. (row_data r).sites) c.in-Q.is)

pub returns-in-B : goal.returns-in-B
unfolding row_data bound_data all
returns-in-B c = sym (and_true _) ∙ sites_low c.args.n _ _ (ap (λ r. (row_data r).sites) c.in-B.is)

pub returns-in-T : goal.returns-in-T
returns-in-T c = c.low_tuple.ensures ∙ sites_low c.args.n _ _ (tuple_sites _ _ c.in-T.is)

pub returns-in-R : goal.returns-in-R
returns-in-R c = c.low_pair.ensures ∙ sites_low c.args.n _ _ (pair_sites _ _ c.in-R.is)
