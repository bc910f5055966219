use Rattle.top_reply.proofs.checking.report.Goals as goal

pub returns-clause-reported : goal.returns-clause-reported
returns-clause-reported c = (c.in_ok-run.run'.finished, (c.in_ok-run.run'.text, (c.run_reply.ensures, c.in_ok-run.ensures.run)))

pub returns-clause-lines : goal.returns-clause-lines
returns-clause-lines c = (c.in_ok-run.run'.finished, (c.in_ok-run.run'.text, (c.run_reply.ensures, c.in_ok-run.ensures)))
