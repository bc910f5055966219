use Rattle.client_items.specs.Meanings.{committed_as}
use Rattle.client_items.specs.declared.news.News.TheVariants.{Ended}
use Rattle.client_port.specs.Acting.{ByCommit, RefusesCommit}
use Rattle.client_state.proofs.Writing.{nothing_unsent}
use Rattle.client_state.specs.Pending.{pending_in}
use Rattle.client_state.specs.Stepping.{AsksWhereStopped, RefusesItem}
use Rattle.client_state.specs.Writing.{unsent}
use Rattle.client_state.specs.declared.transaction.Sent.{Sent}
use Rattle.front_end.proofs.Acting.{by_commit}
use Rattle.front_end.proofs.Requesting.{asks_behind}
use Rattle.front_end.proofs.Stepping.{by_commit_refused_so, by_commit_so, every_more_if, refused_undrawn, same_duties}
use Rattle.front_end.proofs.client.Client.commit_one.Goals as goal
use Rattle.front_end.specs.declared.client.Client.{Client}
use Rattle.std.proofs.Common.{ap, refl, subst, ◌∙◌}
use Rattle.std.proofs.lemmas.Result.{IfOk-weaker}

pub returns-in-Ok-clause-acts : goal.returns-in-Ok-clause-acts
returns-in-Ok-clause-acts g c = by_commit _ _ _ _ _ c.args.sending.request _ c.commit_one.ensures.call

pub returns-in-Err-clause-acts : goal.returns-in-Err-clause-acts
returns-in-Err-clause-acts g c = by_commit _ _ _ _ _ c.args.sending.request _ c.commit_one.ensures.call

pub returns-in-Ok-clause-shown : goal.returns-in-Ok-clause-shown
returns-in-Ok-clause-shown g c = λ tx s. c.end_committed.ensures.shown _ _ _ (ByCommit c.args.sending.at.repo c.args.sending.at.session c.in-Ok.field-0 c.args.sending.request tx refl (c.in-Ok.ensures.call s))

pub returns-in-Err-clause-shown : goal.returns-in-Err-clause-shown
returns-in-Err-clause-shown g c = λ tx. IfOk-weaker c.refuse_commit.result _ _ (λ n told s. told _ _ _ (RefusesCommit c.args.sending.at.session c.args.sending.request (c.in-Err.ensures.call s))) c.refuse_commit.ensures.shown

pub returns-in-Ok-clause-moves : goal.returns-in-Ok-clause-moves
returns-in-Ok-clause-moves g c = λ item left alone is none joined wrote held of idle. by_commit_so _ item _ _ c.args.self.now.held c.end_committed.new.self.held _ _ _ _ _ c.args.sending of idle c.in-Ok.field-0 c.in-Ok.ensures.call joined wrote held c.end_committed.ensures.keeps (ap (λ (k : Client). pending_in k.phase) c.end_committed.ensures.rest ∙ ap pending_in none) left alone (c.end_committed.ensures.own ∙ ap (λ (x : Sent). Ended (committed_as x.ts x.meaning)) is) (same_duties _ _ (ap (λ (k : Client). k.duties) c.end_committed.ensures.rest)) (ap (λ (k : Client). k.phase) c.end_committed.ensures.rest ∙ none) (ap (λ (k : Client). k.duties.abort) c.end_committed.ensures.rest) _ refl

pub returns-in-Err-clause-moves : goal.returns-in-Err-clause-moves
returns-in-Err-clause-moves g c = λ item left alone is none joined wrote held of idle. every_more_if c.refuse_commit.result (λ n quiet asks keeps over abort same. by_commit_refused_so _ item _ _ c.args.self.now.held c.refuse_commit.new.self.held _ _ _ _ n c.args.sending of idle c.in-Err.refusal c.in-Err.ensures.call c.refuse_commit.ensures.learns c.refuse_commit.ensures.client (asks_behind c.args.sending _ _ c.args.self.now.held c.refuse_commit.new.self.held _ left asks is joined wrote (c.refuse_commit.ensures.written c.args.sending.at)) (RefusesItem left alone (subst (λ (x : Sent). AsksWhereStopped c.in-Err.refusal x (pending_in c.refuse_commit.new.self.phase)) is asks)) quiet keeps over (abort (ap pending_in none)) _ refl (refused_undrawn c.in-Err.refusal c.args.sent c.refuse_commit.new.self.phase asks over) same) c.refuse_commit.ensures.ends c.refuse_commit.ensures.asks c.refuse_commit.ensures.duties c.refuse_commit.ensures.over c.refuse_commit.ensures.abort c.refuse_commit.ensures.wrote

pub returns-in-Ok-clause-writes : goal.returns-in-Ok-clause-writes
returns-in-Ok-clause-writes g c = λ none. nothing_unsent _ _ (ap (λ (k : Client). unsent k.phase) c.end_committed.ensures.rest ∙ none)

pub returns-in-Err-clause-writes : goal.returns-in-Err-clause-writes
returns-in-Err-clause-writes g c = c.refuse_commit.ensures.writes
