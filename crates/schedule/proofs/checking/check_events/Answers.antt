use Rattle.std.proofs.Common.{sym, ap, ◌∙◌}
use Rattle.schedule.specs.Breaks.{least_breach}
use Rattle.schedule.proofs.Breaches.{none_breaks, least_breaks}
use Rattle.schedule.proofs.checking.check_events.Goals as goal

pub returns-in-None-clause-kept : goal.returns-in-None-clause-kept
returns-in-None-clause-kept c =
    none_breaks c.args.clients c.args.repos c.args.events.now (sym (c.in-None.ensures ∙ ap (least_breach c.args.clients c.args.repos) c.as_slice.ensures))

pub returns-in-Some-clause-broken : goal.returns-in-Some-clause-broken
returns-in-Some-clause-broken c =
    least_breaks c.args.clients c.args.repos c.args.events.now c.in-Some.line (sym (c.in-Some.ensures ∙ ap (least_breach c.args.clients c.args.repos) c.as_slice.ensures))
