use Rattle.front_end.proofs.Stepping.{notes_behind}
use Rattle.client_state.specs.Pending.{pending_in}
use Rattle.client_state.specs.Receiving.{LosesThere}
use Rattle.front_end.proofs.Receiving.{lost_nothing, stops_behind}
use Rattle.front_end.proofs.client.Client.end_in_outage.Goals as goal
use Rattle.std.proofs.Common.{ap, ◌∙◌}

pub returns-then-left-clause-ends : goal.returns-then-left-clause-ends
returns-then-left-clause-ends c = λ k gone. LosesThere (lost_nothing k c.args.repo c.args.self.now.held c.end_try.new.self.held gone c.end_try.ensures.less) c.end_try.ensures.less.0

pub returns-clause-ends : goal.returns-clause-ends
returns-clause-ends c = λ k gone. stops_behind k c.args.repo c.args.self.now.held c.end_try-news.new.self.held c.stop_waiting.new.self.held gone c.end_try-news.ensures.less c.stop_waiting.ensures.stops c.stop_waiting.ensures.held

pub returns-then-left-clause-free : goal.returns-then-left-clause-free
returns-then-left-clause-free c = ap pending_in c.end_try.ensures.phase

pub returns-clause-free : goal.returns-clause-free
returns-clause-free c = ap pending_in (c.stop_waiting.ensures.phase ∙ c.end_try-news.ensures.phase)

pub returns-clause-notes : goal.returns-clause-notes
returns-clause-notes c = notes_behind c.args.self.now c.end_try-news.new.self c.stop_waiting.new.self c.stop_waiting.ensures.phase c.stop_waiting.ensures.abort c.end_try-news.ensures.notes
