use Rattle.cluster_port.proofs.Counting.{failed_then}
use Rattle.cluster_port.specs.Counting.{FailedAt}
use Rattle.repo_opening.specs.declared.unopened.Unopened.TheVariants.{Failed}
use Rattle.repo_opening.specs.declared.unopened.Unopened.{Unopened}
use Rattle.std.proofs.Common.{Err, IsErrOf, ap, subst, sym, ◌∙◌, ◌≡◌, ℕ}
use Rattle.cluster_core.proofs.settling.settle_one.Goals as goal

told : {T : Type 0} (why : Unopened) (r : ℕ) → IsErrOf {T = T} {E = Unopened} (Err why) (Failed r) → why ≡ Failed r
told why r is = cc

pub returns-in-Err-clause-failed : goal.returns-in-Err-clause-failed
returns-in-Err-clause-failed g c = λ r is.
    let at = c.unopened.ensures r (told c.unopened.result r is) in
    let stopped = c.settle.ensures.stopped at.1.0 (c.in-Err.is ∙ ap (λ f. Err f) at.1.1) in
    let failed = failed_then c.args.repo c.args.sites.now.items c.loop.sites.items c.settle.new.sites.items c.loop.invariant.2 stopped in
    subst (λ (k : ℕ). FailedAt k c.args.sites.now.items c.settle.new.sites.items) (sym at.0) failed
