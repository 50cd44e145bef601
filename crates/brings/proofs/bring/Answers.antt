use Rattle.state.proofs.Own.{bring_net}
use Rattle.brings.proofs.Laws.{read_ok, refused_bring}
use Rattle.brings.proofs.bring.Goals as goal

pub join-requires : goal.join-requires
join-requires c = (c.requires, read_ok c.requires c.in-Ok.arrival c.args.rows.now c.in-Ok.ensures)

pub returns-in-Ok-clause-brought : goal.returns-in-Ok-clause-brought
returns-in-Ok-clause-brought c = c.join.ensures c.args.rows.now c.in-Ok.ensures

pub returns-in-Err-clause-brought : goal.returns-in-Err-clause-brought
returns-in-Err-clause-brought c = refused_bring c.requires c.args.rows.now c.in-Err.ensures

pub returns-in-Ok-clause-net : goal.returns-in-Ok-clause-net
returns-in-Ok-clause-net c = λ f. let b = returns-in-Ok-clause-brought c in bring_net f b.fits _ b.result

pub returns-in-Err-clause-net : goal.returns-in-Err-clause-net
returns-in-Err-clause-net c = λ f. let b = returns-in-Err-clause-brought c in bring_net f b.fits _ b.result
