use Rattle.cluster_core.proofs.Failing.{failed_all, failed_last, failed_more, fell_all, fell_next, no_err, none_fell}
use Rattle.cluster_core.specs.Failing.{faults_at}
use Rattle.cluster_core.proofs.Seating.{begun_left, length_more, next_one, none_left, none_seated, recovered_all, recovered_next, seated_next}
use Rattle.cluster_core.specs.Seated.{AreBegun, IsSeatedAt}
use Rattle.std.proofs.Common.{ap, arith, inl, inr, length, refl, subst, suc, sym, vec_len, ℕ, ◌∙◌, ◌≡◌}
use Rattle.repo_opening.specs.declared.unopened.Unopened.TheVariants.{Failed}
use Rattle.std.specs.Vec.Iter.{into_iter_items}
use Rattle.cluster_core.proofs.opening.open_all.Goals as goal

pub loop-closed-init : goal.loop-closed-init
loop-closed-init g c =
    let all = c.into_iter-closed-iterator.ensures.into_iter_gives in
    let items = into_iter_items c.into_iter-closed-iterator.result in
    let none : length c.args.room.items ≡ 0 = omega (arith, c.requires.empty, c.args.room.ok.0) in
    let repos : c.len-repos.result ≡ vec_len c.args.places = omega (arith, c.len-repos.ensures, c.args.places.ok.0) in
    let begun : AreBegun g.O.Opening.run c.len-repos.result 0 c.args.places.items = subst (λ (k : ℕ). AreBegun g.O.Opening.run k 0 c.args.places.items) (sym repos) c.requires.begun in (
      omega (arith, c.requires.empty),
      omega (arith, c.requires.empty, c.requires.room, all.1),
      all.0,
      none_seated 0 c.args.room.items none,
      subst (λ (n : ℕ). AreBegun g.O.Opening.run c.len-repos.result n items) (sym none) (subst (AreBegun g.O.Opening.run c.len-repos.result 0) (sym all.0) begun),
      tt,
      none_fell g.P.Parts.disks (faults_at g.P.Parts.disks) c.args.room.items none,
      sym none,
      λ r is. no_err _ (Failed r) is refl,
    )

pub loop-closed-preserved : goal.loop-closed-preserved
loop-closed-preserved g c =
    let inv = c.loop-closed.invariant in
    let next = c.in-Some.ensures.steps in
    let seat = c.open_behind-seat.result.0 in
    let place : c.len-place.result ≡ length c.loop-closed.done.items = omega (arith, c.len-place.ensures, c.loop-closed.done.ok.0) in
    let more = length_more c.loop-closed.done.items c.push_reserved.new.self.items seat c.push_reserved.ensures.items in (
      omega (arith, inv.0, next.1, c.push_reserved.ensures.len),
      omega (arith, inv.1, next.1, c.push_reserved.ensures.len, c.push_reserved.ensures.capacity),
      next_one c.loop-closed.yielded (into_iter_items c.loop-closed.closed-iterator) (into_iter_items c.next.new.self) c.args.places.items c.in-Some.closed inv.2 next.0,
      seated_next c.loop-closed.done.items c.push_reserved.new.self.items seat c.push_reserved.ensures.items inv.3 (subst (λ (n : ℕ). IsSeatedAt n seat) place c.open_behind-seat.ensures.seated),
      begun_left g.O.Opening.run c.len-repos.result _ _ (into_iter_items c.loop-closed.closed-iterator) (into_iter_items c.next.new.self) c.in-Some.closed next.0 more inv.4,
      recovered_next g.P.Parts.disks c.loop-closed.opened c.open_behind-seat.result.1 c.loop-closed.yielded c.in-Some.closed inv.5 c.open_behind-seat.ensures.before c.open_behind-seat.ensures.recovered,
      fell_next g.P.Parts.disks (faults_at g.P.Parts.disks) c.loop-closed.opened c.open_behind-seat.result.1 c.loop-closed.yielded c.loop-closed.done.items c.push_reserved.new.self.items c.in-Some.closed seat c.push_reserved.ensures.items inv.6 c.open_behind-seat.ensures.before c.open_behind-seat.ensures.fell,
      length_more c.loop-closed.yielded _ c.in-Some.closed refl ∙ (ap suc inv.7 ∙ sym more),
      λ r is. elim (c.open_behind-seat.ensures.failed r is) [
        | inl before ↦ failed_more g.P.Parts.disks (faults_at g.P.Parts.disks) c.loop-closed.yielded c.loop-closed.done.items c.push_reserved.new.self.items c.in-Some.closed seat r c.push_reserved.ensures.items (inv.8 r before)
        | inr here ↦ failed_last g.P.Parts.disks (faults_at g.P.Parts.disks) c.loop-closed.yielded c.loop-closed.done.items c.push_reserved.new.self.items c.in-Some.closed seat r c.push_reserved.ensures.items inv.7 (here.0 ∙ place) here.1
      ],
    )

pub returns-clause-recovered : goal.returns-clause-recovered
returns-clause-recovered g c =
    let inv = c.loop-closed.invariant in
    recovered_all g.P.Parts.disks c.loop-closed.opened c.loop-closed.yielded (into_iter_items c.loop-closed.closed-iterator) c.args.places.items inv.2 (none_left c.loop-closed.closed-iterator c.next.new.self c.in-None.ensures.steps) inv.5

pub returns-clause-fell : goal.returns-clause-fell
returns-clause-fell g c =
    let inv = c.loop-closed.invariant in
    fell_all g.P.Parts.disks (faults_at g.P.Parts.disks) c.loop-closed.opened c.loop-closed.yielded (into_iter_items c.loop-closed.closed-iterator) c.args.places.items c.loop-closed.done.items inv.2 (none_left c.loop-closed.closed-iterator c.next.new.self c.in-None.ensures.steps) inv.6

pub returns-clause-failed : goal.returns-clause-failed
returns-clause-failed g c = λ r is.
    let inv = c.loop-closed.invariant in
    failed_all g.P.Parts.disks (faults_at g.P.Parts.disks) c.loop-closed.yielded (into_iter_items c.loop-closed.closed-iterator) c.args.places.items c.loop-closed.done.items r inv.2 (none_left c.loop-closed.closed-iterator c.next.new.self c.in-None.ensures.steps) (inv.8 r is)
