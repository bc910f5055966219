use Rattle.std.proofs.Common.{Err, Ok, subst}
use Rattle.std.proofs.lemmas.Result.{err_from_is_err_and}
use Rattle.std.specs.List.{flat_map}
use Rattle.script_check.specs.Upgrading.{Leads, blocks_of, upgrade_in}
use Rattle.script_check.proofs.UpgradingLaws.{ends, fails, goes_on}
use Rattle.script_check.proofs.upgrading.behind_clients.Goals as goal

pub returns-in_err-standing : goal.returns-in_err-standing
returns-in_err-standing c =
    let p = err_from_is_err_and c.from_residual.result c.from_residual.ensures.1 in
    let told = subst (λ items. Leads c.loop-client.standing.schema c.loop-client.standing.repos (flat_map upgrade_in items) (blocks_of c.args.clients.now) (Err c.in_err-standing.field-0.0)) c.as_slice.ensures c.in_err-standing.ensures in
    let all = fails (flat_map upgrade_in) (blocks_of c.args.clients.now) c.args.schema.schema c.args.schema.repos c.args.clients.now c.loop-client.client-index c.loop-client.standing c.loop-client.invariant
    c.client-item.result c.loop-client-test.true c.client-item.is c.in_err-standing.field-0.0 told in
    rw (p.1, p.2) all

pub loop-client-preserved : goal.loop-client-preserved
loop-client-preserved c =
    goes_on (flat_map upgrade_in) (blocks_of c.args.clients.now) c.args.schema.schema c.args.schema.repos c.args.clients.now c.loop-client.client-index c.loop-client.standing c.loop-client.invariant
    c.client-item.result c.loop-client-test.true c.client-item.is c.in_ok-standing.standing
    (subst (λ items. Leads c.loop-client.standing.schema c.loop-client.standing.repos (flat_map upgrade_in items) (blocks_of c.args.clients.now) (Ok c.in_ok-standing.standing)) c.as_slice.ensures c.in_ok-standing.ensures)

pub returns : goal.returns
returns c = ends (flat_map upgrade_in) (blocks_of c.args.clients.now) c.args.schema.schema c.args.schema.repos c.args.clients.now c.loop-client.client-index c.loop-client.standing c.loop-client.invariant c.loop-client-test.false
