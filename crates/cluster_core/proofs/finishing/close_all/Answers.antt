use Rattle.cluster_core.proofs.Ending.{ended_left, ended_next, ended_right, ended_told, none_ended}
use Rattle.cluster_core.proofs.Seating.{number_next, numbered, numbers_left}
use Rattle.cluster_core.specs.Seated.{AreNumbered}
use Rattle.std.proofs.Common.{arith, length, subst, sym, vec_len, ℕ, ◌∙◌, ◌≡◌}
use Rattle.std.specs.Vec.Iter.{into_iter_items}
use Rattle.cluster_core.proofs.finishing.close_all.Goals as goal

pub loop-site-init : goal.loop-site-init
loop-site-init g c =
    let none : length c.args.spare.items ≡ 0 = omega (arith, c.requires.empty, c.args.spare.ok.0) in (
      omega (arith, c.requires.empty),
      omega (arith, c.requires.empty, c.requires.room),
      subst (λ (n : ℕ). AreNumbered n (into_iter_items c.into_iter-site-iterator.result)) (sym c.requires.empty) (subst (AreNumbered 0) (sym c.into_iter-site-iterator.ensures.into_iter_gives.0) (numbered c.args.sites.items c.requires.placed)),
      none_ended g.P.Parts.disks g.O.Opening.run c.args.spare.items c.new.result none c.new.ensures,
    )

pub loop-site-preserved : goal.loop-site-preserved
loop-site-preserved g c =
    let inv = c.loop-site.invariant in
    let next = c.in-Some.ensures.steps in
    let number = number_next _ (into_iter_items c.loop-site.site-iterator) (into_iter_items c.next.new.self) c.in-Some.site next.0 inv.2 in (
      omega (arith, inv.0, next.1, c.push_reserved.ensures.len),
      omega (arith, inv.1, next.1, c.push_reserved.ensures.len, c.push_reserved.ensures.capacity),
      numbers_left (vec_len c.loop-site.parts) (vec_len c.push_reserved.new.self) (into_iter_items c.loop-site.site-iterator) (into_iter_items c.next.new.self) c.in-Some.site next.0 (omega (arith, c.push_reserved.ensures.len)) inv.2,
      ended_next g.P.Parts.disks g.O.Opening.run c.loop-site.traces c.with_trace_of-traces.result c.loop-site.parts.items c.push_reserved.new.self.items c.close-part.result.0 c.close-part.result.1 c.in-Some.site.number c.is_torn-torn.result c.push_reserved.ensures.items c.with_trace_of-traces.ensures.more c.with_trace_of-traces.ensures.whole
          (omega (arith, number, c.loop-site.parts.ok.0)) c.close-part.ensures.right (λ whole. c.close-part.ensures.left (sym c.is_torn-torn.ensures ∙ whole)) inv.3,
    )

pub returns-clause-right : goal.returns-clause-right
returns-clause-right g c = ended_right g.P.Parts.disks g.O.Opening.run c.loop-site.parts.items c.loop-site.traces c.loop-site.invariant.3

pub returns-clause-told : goal.returns-clause-told
returns-clause-told g c =
    let inv = c.loop-site.invariant in
    let all = c.into_iter-site-iterator.ensures.into_iter_gives.1 in
    ended_told g.P.Parts.disks g.O.Opening.run c.loop-site.parts.items (vec_len c.args.sites) c.loop-site.traces (omega (arith, inv.0, c.in-None.ensures.steps.0, all, c.loop-site.parts.ok.0)) inv.3

pub returns-clause-left : goal.returns-clause-left
returns-clause-left g c = ended_left g.P.Parts.disks g.O.Opening.run c.loop-site.parts.items c.loop-site.traces c.loop-site.invariant.3
