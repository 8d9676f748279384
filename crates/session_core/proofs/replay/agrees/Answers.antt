use Rattle.session_core.proofs.replay.agrees.Goals as goal

pub returns-in-Ok-clause-kept : goal.returns-in-Ok-clause-kept
returns-in-Ok-clause-kept g c = c.in_ok-reply.ensures.kept

pub returns-in-Ok-clause-blockers : goal.returns-in-Ok-clause-blockers
returns-in-Ok-clause-blockers g c = c.in_ok-reply.ensures.blockers

pub returns-in-Err-clause-blockers : goal.returns-in-Err-clause-blockers
returns-in-Err-clause-blockers g c = c.in_ok-reply.ensures.blockers

pub returns-in-Err-clause-kept : goal.returns-in-Err-clause-kept
returns-in-Err-clause-kept g c = c.in_ok-reply.ensures.kept
