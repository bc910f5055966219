use Rattle.client_state.proofs.Parting.{lost_gives, lost_keeps}
use Rattle.client_state.proofs.Pending.{lost_written, not_lost_written}
use Rattle.client_state.proofs.held.Held.lose.Goals as goal
use Rattle.std.proofs.Common.{sym, ◌∙◌}

pub returns-then-end_session-clause-written : goal.returns-then-end_session-clause-written
returns-then-end_session-clause-written c = lost_written c.args.repo c.args.session c.args.self.now c.end_session.new.self c.drop_held.new.self c.end_session.ensures.rest c.end_session.ensures.links c.drop_held.ensures.links c.drop_held.ensures.wrote

pub returns-else-end_session-clause-written : goal.returns-else-end_session-clause-written
returns-else-end_session-clause-written c = not_lost_written c.args.repo c.args.session c.args.self.now c.end_session.new.self c.end_session.result c.end_session.ensures.answer c.if-end_session.false c.end_session.ensures.rest c.end_session.ensures.links

pub returns-then-end_session-clause-wrote : goal.returns-then-end_session-clause-wrote
returns-then-end_session-clause-wrote c = lost_gives c.args.repo c.args.session c.args.self.now c.end_session.new.self c.drop_held.new.self c.end_session.ensures.rest (sym c.end_session.ensures.answer ∙ c.if-end_session.true) c.drop_held.ensures.wrote

pub returns-else-end_session-clause-wrote : goal.returns-else-end_session-clause-wrote
returns-else-end_session-clause-wrote c = lost_keeps c.args.repo c.args.session c.args.self.now c.end_session.new.self c.end_session.new.self c.end_session.ensures.rest (sym c.end_session.ensures.answer ∙ c.if-end_session.false)
