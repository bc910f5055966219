use Rattle.client_state.specs.Drawing.{drawn_in}
use Rattle.client_state.specs.declared.duties.Duties.{Duties}
use Rattle.client_port.specs.Acting.{RefusesCommit}
use Rattle.client_state.specs.Stepping.{RefusesTransform}
use Rattle.front_end.proofs.Acting.{by_commit}
use Rattle.front_end.proofs.Stepping.{all_if, by_commit_refused_so, by_transform_so, each_if, none_undecided, same_duties}
use Rattle.front_end.proofs.client.Client.send_transform.Goals as goal
use Rattle.std.proofs.Common.{ap, inl, refl}
use Rattle.std.proofs.lemmas.Result.{IfOk-weaker}

pub returns-in-Ok-clause-acts : goal.returns-in-Ok-clause-acts
returns-in-Ok-clause-acts g c = by_commit _ _ _ _ _ c.args.request _ c.commit_one.ensures.call

pub returns-in-Err-clause-acts : goal.returns-in-Err-clause-acts
returns-in-Err-clause-acts g c = by_commit _ _ _ _ _ c.args.request _ c.commit_one.ensures.call

pub returns-in-Err-clause-shown : goal.returns-in-Err-clause-shown
returns-in-Err-clause-shown g c = λ repos. IfOk-weaker c.refuse_transform.result _ _ (λ n told s. told _ _ _ (RefusesCommit _ c.args.request (c.in-Err.ensures.call s))) c.refuse_transform.ensures.shown

pub returns-in-Ok-clause-shown : goal.returns-in-Ok-clause-shown
returns-in-Ok-clause-shown g c = λ repos. IfOk-weaker c.end_transform.result _ _ (λ n told s. told _ _ _) c.end_transform.ensures.shown

pub returns-in-Ok-clause-moves : goal.returns-in-Ok-clause-moves
returns-in-Ok-clause-moves g c = λ item none joined sends of writes here held idle. all_if c.end_transform.result (λ n quiet keeps undrawn. by_transform_so _ item _ _ c.args.self.now.held c.end_transform.new.self.held _ _ _ _ n (record { at = c.args.at; request = c.args.request }) of idle c.in-Ok.field-0 c.args.oref c.args.made c.in-Ok.ensures.call joined writes here held keeps (c.end_transform.ensures.free none) sends quiet (same_duties _ _ c.end_transform.ensures.duties) (ap (λ (x : Duties). x.abort) c.end_transform.ensures.duties) _ refl undrawn) c.end_transform.ensures.ends c.end_transform.ensures.keeps c.end_transform.ensures.undrawn

pub returns-in-Err-clause-moves : goal.returns-in-Err-clause-moves
returns-in-Err-clause-moves g c = λ item none joined sends of writes here held idle. each_if c.refuse_transform.result (λ n quiet keeps over abort. by_commit_refused_so _ item _ _ c.args.self.now.held c.refuse_transform.new.self.held _ _ _ _ n (record { at = c.args.at; request = c.args.request }) of idle c.in-Err.refusal c.in-Err.ensures.call c.refuse_transform.ensures.learns c.refuse_transform.ensures.client (inl (c.refuse_transform.ensures.free none)) (RefusesTransform sends (c.refuse_transform.ensures.free none)) quiet keeps (λ _. over) (abort none) _ refl (ap drawn_in over) (none_undecided _ (c.refuse_transform.ensures.free none))) c.refuse_transform.ensures.ends c.refuse_transform.ensures.duties c.refuse_transform.ensures.over c.refuse_transform.ensures.abort
