use Rattle.client_state.proofs.Parting.{leaves_sent, parts_more, parts_none}
use Rattle.client_state.proofs.Writing.{nothing_unsent}
use Rattle.client_state.specs.Links.{at_repo}
use Rattle.client_state.specs.Participants.{first_in}
use Rattle.client_state.specs.Writing.{unsent}
use Rattle.client_state.specs.declared.link.Link.TheVariants.{Unsettled}
use Rattle.client_state.specs.declared.link.Link.{Link}
use Rattle.front_end.proofs.Leaving.{held_unknown}
use Rattle.front_end.proofs.Stepping.{put_there}
use Rattle.front_end.proofs.client.Client.hold_as_unknown.Goals as goal
use Rattle.front_end.specs.declared.client.Client.{Client}
use Rattle.std.proofs.Common.{ap, ℕ, ◌∙◌}

pub returns-clause-leaves : goal.returns-clause-leaves
returns-clause-leaves c = held_unknown _ _ _ c.args.self.now.held c.leave_all.new.self.held c.leave.new.self c.give_up.new.self c.set_link.new.self c.leave_all.ensures.leaves c.leave.ensures.client c.leave.ensures.leaves c.leave.ensures.none c.leave.ensures.fewer c.give_up.ensures.less c.set_link.ensures.rest c.set_link.ensures.links

pub returns-clause-writes : goal.returns-clause-writes
returns-clause-writes c = λ none. nothing_unsent _ _ (ap (λ (k : Client). unsent k.phase) c.leave_all.ensures.rest ∙ none)

pub returns-clause-link : goal.returns-clause-link
returns-clause-link c = λ link there. put_there c.give_up.new.self.links.items c.set_link.new.self.links.items _ (Unsettled c.args.sent c.args.task.who.index) (c.set_link.ensures.links ∙ ap (λ (r : ℕ). at_repo c.give_up.new.self.links.items r (λ (l : Link). Unsettled c.args.sent c.args.task.who.index)) c.coordinator-coordinator.ensures) link there

pub returns-clause-parts : goal.returns-clause-parts
returns-clause-parts c = leaves_sent (first_in c.args.sent.participants) c.args.task.who.index c.args.sent c.args.self.now.held c.give_up.new.self c.set_link.new.self (parts_more c.args.self.now.held c.leave.new.self c.give_up.new.self (parts_more c.args.self.now.held c.leave_all.new.self.held c.leave.new.self c.leave_all.ensures.parts c.leave.ensures.parts) (parts_none c.leave.new.self c.give_up.new.self c.give_up.ensures.less.1)) (c.set_link.ensures.links ∙ ap (λ (r : ℕ). at_repo c.give_up.new.self.links.items r (λ (l : Link). Unsettled c.args.sent c.args.task.who.index)) c.coordinator-coordinator.ensures)
