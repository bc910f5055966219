use Rattle.std.proofs.Common.{◌≡◌, Err, List, Option, Some, ap, inl, inr, map, rules, subst, sym, ◌||◌, ◌∙◌}
use Rattle.std.specs.List.{fold}
use Rattle.commit_log.specs.Recovered.{in_format}
use Rattle.page_format.specs.declared.format.StoreFormat.TheVariants.{Two}
use Rattle.repo_state.specs.Said.{said}
use Rattle.repo_state.specs.declared.fault.HoldFault.TheVariants.{Unfit}
use Rattle.log_codec.specs.declared.body.Body.{Body}
use Rattle.log_codec.specs.declared.state.State.{State}
use Rattle.recovery.proofs.Replayed.{whole_said}
use Rattle.recovery.specs.Damage.{CantPut, put_on}
use Rattle.recovery.specs.Reopening.{reopened}
use Rattle.recovery.proofs.recovering.hold.Goals as goal

pub returns-in_err-put_all-clause-unfit : goal.returns-in_err-put_all-clause-unfit
returns-in_err-put_all-clause-unfit c = λ is.
    let wrong : c.put_all.result ≡ Err Unfit = search rules in
    let begins = whole_said c.in_ok-held.held (in_format Two c.args.state) c.in_ok-held.ensures.keeps c.in_ok-held.ensures.said in
    inr (subst (λ (o : Option State). CantPut o c.args.bodies.now) (sym begins) (subst (λ (bs : List Body). CantPut (Some (said c.in_ok-held.held)) bs) c.as_slice.ensures (c.put_all.ensures.unfit wrong)))

pub returns-in_err-held-clause-unfit : goal.returns-in_err-held-clause-unfit
returns-in_err-held-clause-unfit c = λ is.
    let wrong : c.of.result ≡ Err Unfit = search rules in
    inl (record { unfit = c.of.ensures.unfit wrong; not_whole = c.of.ensures.broken wrong })

pub returns-clause-said : goal.returns-clause-said
returns-clause-said c =
    let begins = whole_said c.in_ok-held.held (in_format Two c.args.state) c.in_ok-held.ensures.keeps c.in_ok-held.ensures.said in
    ap (λ (o : Option State). fold put_on o c.args.bodies.now) begins ∙ subst (λ (bs : List Body). fold put_on (Some (said c.in_ok-held.held)) bs ≡ Some (said c.put_all.new.held)) c.as_slice.ensures c.in_ok-put_all.ensures.said

pub returns-clause-reopens : goal.returns-clause-reopens
returns-clause-reopens c =
    let begins = whole_said c.in_ok-held.held (in_format Two c.args.state) c.in_ok-held.ensures.keeps c.in_ok-held.ensures.said in
    subst (λ (o : Option State). c.put_all.new.reopens ≡ (c.args.reopens.now || reopened o (map Some c.args.bodies.now))) (sym begins)
    (subst (λ (bs : List Body). c.put_all.new.reopens ≡ (c.args.reopens.now || reopened (Some (said c.in_ok-held.held)) (map Some bs))) c.as_slice.ensures c.in_ok-put_all.ensures.reopens)
