use mathlib.Core.Path.{refl, ◌∙◌}
use Rattle.sets.specs.Lists.{◌&◌}
use Rattle.klaim.specs.Rows.{group_t, group_l, group_q}
use Rattle.nets.specs.Rows.{full_of}
use Rattle.nets.proofs.Rows.{full_rest, full_law}
use Rattle.nets.proofs.NetReaderReader.is_full.Goals as goal

pub returns-in-T : goal.returns-in-T
unfolding full_of ◌&◌
returns-in-T c = rw c.in-T.is (record { told = refl; meant = λ t above H. full_law H group_t })

pub returns-in-L : goal.returns-in-L
unfolding full_of ◌&◌
returns-in-L c = rw c.in-L.is (record { told = refl; meant = λ t above H. full_law H group_l })

pub returns-in-Q : goal.returns-in-Q
unfolding full_of ◌&◌
returns-in-Q c = rw c.in-Q.is (record { told = refl; meant = λ t above H. full_law H group_q })

pub returns-in_default-clause-told : goal.returns-in_default-clause-told
returns-in_default-clause-told c = full_rest _ _ c.in_default.not-T c.in_default.not-L c.in_default.not-Q

pub returns-in_default-clause-meant : goal.returns-in_default-clause-meant
returns-in_default-clause-meant c = λ t above H. returns-in_default-clause-told c ∙ full_law H _
