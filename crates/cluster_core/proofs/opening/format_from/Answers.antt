use Rattle.cluster_core.proofs.Failing.{failed_all, failed_last, failed_more, fell_all, fell_next}
use Rattle.cluster_core.proofs.Seating.{length_more, next_one, none_left, seated_first, seated_left, seated_next}
use Rattle.cluster_core.specs.Failing.{faults_on}
use Rattle.cluster_core.specs.Seated.{IsSeatedAt}
use Rattle.cluster_port.specs.Sited.{BeginsNew}
use Rattle.std.proofs.Common.{ap, arith, inl, inr, length, refl, subst, suc, sym, vec_len, ℕ, ◌∙◌, ◌≡◌}
use Rattle.std.specs.Vec.Iter.{into_iter_items}
use Rattle.cluster_core.proofs.opening.format_from.Goals as goal

pub format_behind-seat-requires-clause-begins : goal.format_behind-seat-requires-clause-begins
format_behind-seat-requires-clause-begins g c =
    let repos : c.len-repos.result ≡ vec_len c.args.seats = omega (arith, c.len-repos.ensures, c.args.seats.ok.0) in
    subst (λ (k : ℕ). BeginsNew g.O.Opening.run c.len-place.result k c.args.setup.now c.args.mob) (sym repos) (c.requires.begins c.len-place.result)

pub format_behind-seat-requires-clause-seated : goal.format_behind-seat-requires-clause-seated
format_behind-seat-requires-clause-seated g c =
    let inv = c.loop-seat.invariant in
    let next = c.in-Some.ensures.steps in
    let place : c.len-place.result ≡ length c.loop-seat.done.items = omega (arith, c.len-place.ensures, c.loop-seat.done.ok.0) in
    subst (λ (n : ℕ). IsSeatedAt n c.in-Some.seat) (sym place) (seated_first _ (into_iter_items c.loop-seat.seat-iterator) (into_iter_items c.next.new.self) c.in-Some.seat next.0 inv.3)

pub loop-seat-preserved : goal.loop-seat-preserved
loop-seat-preserved g c =
    let inv = c.loop-seat.invariant in
    let next = c.in-Some.ensures.steps in
    let seat = c.format_behind-seat.result.0 in
    let place : c.len-place.result ≡ length c.loop-seat.done.items = omega (arith, c.len-place.ensures, c.loop-seat.done.ok.0) in
    let more = length_more c.loop-seat.done.items c.push_reserved.new.self.items seat c.push_reserved.ensures.items in (
      omega (arith, inv.0, next.1, c.push_reserved.ensures.len),
      omega (arith, inv.1, next.1, c.push_reserved.ensures.len, c.push_reserved.ensures.capacity),
      seated_next c.loop-seat.done.items c.push_reserved.new.self.items seat c.push_reserved.ensures.items inv.2 (subst (λ (n : ℕ). IsSeatedAt n seat) place c.format_behind-seat.ensures.seated),
      seated_left _ _ (into_iter_items c.loop-seat.seat-iterator) (into_iter_items c.next.new.self) c.in-Some.seat next.0 more inv.3,
      next_one c.loop-seat.yielded (into_iter_items c.loop-seat.seat-iterator) (into_iter_items c.next.new.self) c.args.seats.items c.in-Some.seat inv.4 next.0,
      fell_next g.P.Parts.disks (faults_on g.P.Parts.disks) c.loop-seat.formatted c.format_behind-seat.result.1 c.loop-seat.yielded c.loop-seat.done.items c.push_reserved.new.self.items c.in-Some.seat seat c.push_reserved.ensures.items inv.5 c.format_behind-seat.ensures.before c.format_behind-seat.ensures.fell,
      length_more c.loop-seat.yielded _ c.in-Some.seat refl ∙ (ap suc inv.6 ∙ sym more),
      λ r is. elim (c.format_behind-seat.ensures.failed r is) [
        | inl before ↦ failed_more g.P.Parts.disks (faults_on g.P.Parts.disks) c.loop-seat.yielded c.loop-seat.done.items c.push_reserved.new.self.items c.in-Some.seat seat r c.push_reserved.ensures.items (inv.7 r before)
        | inr here ↦ failed_last g.P.Parts.disks (faults_on g.P.Parts.disks) c.loop-seat.yielded c.loop-seat.done.items c.push_reserved.new.self.items c.in-Some.seat seat r c.push_reserved.ensures.items inv.6 (here.0 ∙ place) here.1
      ],
    )

pub returns-clause-fell : goal.returns-clause-fell
returns-clause-fell g c =
    let inv = c.loop-seat.invariant in
    fell_all g.P.Parts.disks (faults_on g.P.Parts.disks) c.loop-seat.formatted c.loop-seat.yielded (into_iter_items c.loop-seat.seat-iterator) c.args.seats.items c.loop-seat.done.items inv.4 (none_left c.loop-seat.seat-iterator c.next.new.self c.in-None.ensures.steps) inv.5

pub returns-clause-failed : goal.returns-clause-failed
returns-clause-failed g c = λ r is.
    let inv = c.loop-seat.invariant in
    failed_all g.P.Parts.disks (faults_on g.P.Parts.disks) c.loop-seat.yielded (into_iter_items c.loop-seat.seat-iterator) c.args.seats.items c.loop-seat.done.items r inv.4 (none_left c.loop-seat.seat-iterator c.next.new.self c.in-None.ensures.steps) (inv.7 r is)
