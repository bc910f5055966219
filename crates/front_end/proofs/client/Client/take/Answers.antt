use Rattle.client_state.specs.Pending.{pending_in}
use Rattle.client_state.specs.Receiving.{GivesUp, TakesCopies}
use Rattle.client_state.specs.Written.{WrittenTaken, is_sent_to}
use Rattle.front_end.proofs.client.Client.take.Goals as goal
use Rattle.session_outbox.specs.declared.message.Message.{Message}
use Rattle.client_port.specs.Acting.{IsTaken}
use Rattle.std.proofs.Common.{subst, sym}
use Rattle.std.proofs.lemmas.Result.{IfOk-weaker, on_ok_weaker}

pub returns-in-Page-clause-shown : goal.returns-in-Page-clause-shown
returns-in-Page-clause-shown c = IfOk-weaker c.take_page.result _ _ (λ n told old new repos taken. told old new repos c.in-Page.place (subst (IsTaken old new c.args.repo) c.in-Page.is taken)) c.take_page.ensures.shown

pub returns-in-Grant-clause-shown : goal.returns-in-Grant-clause-shown
returns-in-Grant-clause-shown c = IfOk-weaker c.take_grant.result _ _ (λ n told old new repos taken. told old new repos) c.take_grant.ensures.shown

pub returns-in-Invalid-clause-shown : goal.returns-in-Invalid-clause-shown
returns-in-Invalid-clause-shown c = λ old new repos taken. c.take_invalid.ensures.shown old new repos c.args.repo (subst (IsTaken old new c.args.repo) c.in-Invalid.is taken)

pub returns-clause-shown : goal.returns-clause-shown
returns-clause-shown c = λ old new repos taken. c.take_upgrade.ensures.shown old new repos c.args.repo c.in-Upgrade.place c.in-Upgrade.text (subst (IsTaken old new c.args.repo) c.in-Upgrade.is taken)

pub returns-in-Page-clause-takes : goal.returns-in-Page-clause-takes
returns-in-Page-clause-takes c = on_ok_weaker c.take_page.result (subst (λ (m : Message). TakesCopies c.args.repo m c.args.self.now.held c.take_page.new.self.held) (sym c.in-Page.is)) (c.take_page.ensures.takes c.in-Page.place)

pub returns-in-Grant-clause-takes : goal.returns-in-Grant-clause-takes
returns-in-Grant-clause-takes c = on_ok_weaker c.take_grant.result (subst (λ (m : Message). TakesCopies c.args.repo m c.args.self.now.held c.take_grant.new.self.held) (sym c.in-Grant.is)) (c.take_grant.ensures.takes c.in-Grant.place)

pub returns-in-Invalid-clause-takes : goal.returns-in-Invalid-clause-takes
returns-in-Invalid-clause-takes c = subst (λ (m : Message). TakesCopies c.args.repo m c.args.self.now.held c.take_invalid.new.self.held) (sym c.in-Invalid.is) (c.take_invalid.ensures.takes c.args.repo)

pub returns-clause-takes : goal.returns-clause-takes
returns-clause-takes c = subst (λ (m : Message). TakesCopies c.args.repo m c.args.self.now.held c.take_upgrade.new.self.held) (sym c.in-Upgrade.is) (c.take_upgrade.ensures.takes c.args.repo c.in-Upgrade.place c.in-Upgrade.text)

pub returns-in-Invalid-clause-gives_up : goal.returns-in-Invalid-clause-gives_up
returns-in-Invalid-clause-gives_up c = subst (λ (m : Message). GivesUp c.args.repo m c.args.self.now.phase c.take_invalid.new.self.held.cache.cache) (sym c.in-Invalid.is) c.take_invalid.ensures.gives_up

pub returns-in-Page-clause-wrote : goal.returns-in-Page-clause-wrote
returns-in-Page-clause-wrote c = on_ok_weaker c.take_page.result (λ wrote und. subst (λ (m : Message). WrittenTaken (is_sent_to c.args.repo (pending_in c.args.self.now.phase)) m c.args.self.now.held.cache.cache c.take_page.new.self.held.cache.cache) (sym c.in-Page.is) (wrote und)) c.take_page.ensures.wrote

pub returns-in-Grant-clause-wrote : goal.returns-in-Grant-clause-wrote
returns-in-Grant-clause-wrote c = on_ok_weaker c.take_grant.result (λ wrote und. subst (λ (m : Message). WrittenTaken (is_sent_to c.args.repo (pending_in c.args.self.now.phase)) m c.args.self.now.held.cache.cache c.take_grant.new.self.held.cache.cache) (sym c.in-Grant.is) (wrote und)) c.take_grant.ensures.wrote

pub returns-in-Invalid-clause-wrote : goal.returns-in-Invalid-clause-wrote
returns-in-Invalid-clause-wrote c = λ und. subst (λ (m : Message). WrittenTaken (is_sent_to c.args.repo (pending_in c.args.self.now.phase)) m c.args.self.now.held.cache.cache c.take_invalid.new.self.held.cache.cache) (sym c.in-Invalid.is) (c.take_invalid.ensures.wrote und)

pub returns-clause-wrote : goal.returns-clause-wrote
returns-clause-wrote c = λ und. subst (λ (m : Message). WrittenTaken (is_sent_to c.args.repo (pending_in c.args.self.now.phase)) m c.args.self.now.held.cache.cache c.take_upgrade.new.self.held.cache.cache) (sym c.in-Upgrade.is) (c.take_upgrade.ensures.wrote und)
