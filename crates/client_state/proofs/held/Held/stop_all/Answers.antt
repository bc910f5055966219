use Rattle.client_state.proofs.Stopping.{Stops, all_stop, one_stops}
use Rattle.client_state.proofs.held.Held.stop_all.Goals as goal
use Rattle.client_state.specs.declared.held.Held.{Held}
use Rattle.client_state.specs.declared.link.Link.{Link}
use Rattle.std.proofs.Common.{List, ap, arith, length, subst, sym, ◌+◌, ◌≤◌, ◌∙◌}

pub loop-place-preserved : goal.loop-place-preserved
loop-place-preserved c = (
  c.stop_at.ensures.rest ∙ ap (λ (h : Held). record h { links = c.stop_at.new.self.links }) c.loop-place.invariant.0,
  subst (λ (ls : List Link). Stops (c.loop-place.place + 1) c.args.self.now.links.items ls) (sym c.stop_at.ensures.links) (one_stops c.loop-place.place c.args.self.now.links.items c.loop-place.self.links.items c.loop-place.invariant.1),
)

pub returns-clause-links : goal.returns-clause-links
returns-clause-links c =
    let past : length c.args.self.now.links.items ≤ c.loop-place.place = omega (arith, c.loop-place-test.false, c.len-place-end.ensures) in
    all_stop c.loop-place.place c.args.self.now.links.items c.loop-place.self.links.items past c.loop-place.invariant.1
