use Rattle.front_end.proofs.Requesting.{keeps_then}
use Rattle.front_end.proofs.Showing.{outcome_shown}
use Rattle.front_end.proofs.client.Client.end_committed.Goals as goal

pub returns-clause-shown : goal.returns-clause-shown
returns-clause-shown c = λ old new repos decided. outcome_shown old new c.args.sent.ts c.committed.result c.committed.ensures.late c.committed.ensures.stands decided

pub returns-clause-keeps : goal.returns-clause-keeps
returns-clause-keeps c = keeps_then c.args.self.now.held c.keep.new.self c.learn_commit.new.self.held c.keep.ensures.keeps c.learn_commit.ensures.held
