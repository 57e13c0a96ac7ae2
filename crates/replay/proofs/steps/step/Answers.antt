use Rattle.replay.proofs.steps.step.Goals as goal

pub returns-in-Draft-Edit-clause-stepped : goal.returns-in-Draft-Edit-clause-stepped
returns-in-Draft-Edit-clause-stepped g c = rw (c.in-Draft-Edit.is-0, c.in-Draft-Edit.is-1) c.edit.ensures.stepped

pub returns-in-Draft-Issue-clause-stepped : goal.returns-in-Draft-Issue-clause-stepped
returns-in-Draft-Issue-clause-stepped g c = rw (c.in-Draft-Issue.is-0, c.in-Draft-Issue.is-1) c.issue.ensures.stepped

pub returns-in-Draft-Issue-clause-showing : goal.returns-in-Draft-Issue-clause-showing
returns-in-Draft-Issue-clause-showing g c = rw (c.in-Draft-Issue.is-0, c.in-Draft-Issue.is-1) c.issue.ensures.showing

pub returns-in-Issued-LookUp-clause-stepped : goal.returns-in-Issued-LookUp-clause-stepped
returns-in-Issued-LookUp-clause-stepped g c = rw (c.in-Issued-LookUp.is-0, c.in-Issued-LookUp.is-1) c.look_up.ensures

pub returns-in-Issued-Withdraw-clause-stepped : goal.returns-in-Issued-Withdraw-clause-stepped
returns-in-Issued-Withdraw-clause-stepped g c = rw (c.in-Issued-Withdraw.is-0, c.in-Issued-Withdraw.is-1) c.withdraw.ensures
