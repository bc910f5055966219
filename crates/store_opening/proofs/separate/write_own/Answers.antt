use Rattle.log_entries.specs.declared.request.Request.{Request}
use Rattle.std.proofs.Common.{Bor, sym, ◌∙◌}
use Rattle.std.specs.List.{list_all}
use Rattle.store_opening.proofs.Walking.{fails_at}
use Rattle.store_opening.specs.Fitting.{is_own}
use Rattle.store_opening.specs.Standing.{member_of}
use Rattle.store_opening.proofs.separate.write_own.Goals as goal

pub returns-then-not-writes_own : goal.returns-then-not-writes_own
returns-then-not-writes_own c =
    fails_at (λ (q : Bor Request). q.now) (λ (q : Request). list_all (λ w. is_own (member_of c.args.one.now) w.0) q.writes) c.args.requests.now c.loop-request.request-index c.request-item.result
    c.loop-request-test.true c.request-item.is (sym c.writes_own.ensures ∙ c.if-not-writes_own.true)
