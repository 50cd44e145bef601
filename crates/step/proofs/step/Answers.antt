use Rattle.state.proofs.Own.{step_net}
use Rattle.step.proofs.Laws.{stepped_no, stepped_yes}
use Rattle.step.proofs.step.Goals as goal

pub returns-in-Ok-clause-stepped : goal.returns-in-Ok-clause-stepped
returns-in-Ok-clause-stepped c = stepped_yes c.requires c.in-Ok.ensures c.perform.ensures.performed

pub returns-in-Err-clause-stepped : goal.returns-in-Err-clause-stepped
returns-in-Err-clause-stepped c = stepped_no c.requires c.in-Err.ensures c.from.ensures

pub returns-in-Ok-clause-net : goal.returns-in-Ok-clause-net
returns-in-Ok-clause-net c = λ f. let s = returns-in-Ok-clause-stepped c in step_net f s.fits _ _ _ _ s.result

pub returns-in-Err-clause-net : goal.returns-in-Err-clause-net
returns-in-Err-clause-net c = λ f. let s = returns-in-Err-clause-stepped c in step_net f s.fits _ _ _ _ s.result

pub returns-in-Ok-clause-kept : goal.returns-in-Ok-clause-kept
returns-in-Ok-clause-kept c = c.perform.ensures.performed.kept
