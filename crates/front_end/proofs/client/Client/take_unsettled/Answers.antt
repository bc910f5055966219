use Rattle.front_end.proofs.Settling.{back_less, takes_it}
use Rattle.front_end.proofs.client.Client.take_unsettled.Goals as goal

pub returns-in-Unsettled-clause-taken : goal.returns-in-Unsettled-clause-taken
returns-in-Unsettled-clause-taken c = takes_it _ _ _ c.take_link.ensures.rest c.take_link.ensures.links c.in-Unsettled.sent c.in-Unsettled.index c.take_link.result c.take_link.ensures.taken c.in-Unsettled.is

pub returns-in_default-clause-none : goal.returns-in_default-clause-none
returns-in_default-clause-none c = λ none. back_less c.args.repo c.args.self.now.held c.take_link.new.self c.take_link.ensures.rest c.take_link.ensures.links c.set_link.new.self c.take_link.result c.take_link.ensures.taken c.set_link.ensures.rest c.set_link.ensures.links
