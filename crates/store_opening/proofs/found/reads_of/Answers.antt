use Rattle.disk_trait.specs.AllDisks.{ReadsAs}
use Rattle.repo_opening.specs.declared.repository.Read.{Read}
use Rattle.std.proofs.Common.{List, subst, sym, ℕ}
use Rattle.std.specs.List.{AllByRecursion}
use Rattle.store_opening.proofs.Holding.{all_more, all_taken, at_place, stand_next}
use Rattle.store_opening.proofs.Misfits.{logs_next}
use Rattle.store_opening.specs.Joined.{IsKept, read_states}
use Rattle.store_opening.specs.Unsound.{HaveLogs}
use Rattle.store_opening.specs.Reading.{StandFor}
use Rattle.store_opening.specs.Seated.{IsSeated}
use Rattle.store_opening.proofs.found.reads_of.Goals as goal

pub loop-place-preserved : goal.loop-place-preserved
loop-place-preserved g c =
    let inv = c.loop-place.invariant in (
      record { each = subst (λ (rs : List Read). AllByRecursion IsKept rs) (sym c.in_ok-push-in-Some.ensures.items) (all_more IsKept c.loop-place.reads.items c.in-Some.read inv.0.each c.in-Some.ensures.kept) },
      λ parts images seated reads.
          let at = at_place (IsSeated g.P.Parts.disks) (λ p i. ReadsAs (g.P.Parts.disks p) i) parts c.args.places.now images c.loop-place.place-index c.place-item.result seated reads c.loop-place-test.true c.place-item.is in
          stand_next images c.loop-place.place-index c.loop-place.reads.items c.push.new.self.items at.z c.in-Some.read at.more c.in_ok-push-in-Some.ensures.items (inv.1 parts images seated reads) (c.in-Some.ensures.stands at.x at.z at.first at.second),
      λ parts images seated reads.
          let at = at_place (IsSeated g.P.Parts.disks) (λ p i. ReadsAs (g.P.Parts.disks p) i) parts c.args.places.now images c.loop-place.place-index c.place-item.result seated reads c.loop-place-test.true c.place-item.is in
          logs_next images c.loop-place.place-index c.loop-place.reads.items c.push.new.self.items at.z c.in-Some.read at.more c.in_ok-push-in-Some.ensures.items (inv.2 parts images seated reads) (c.in-Some.ensures.log at.x at.z at.first at.second),
    )

pub returns-clause-stand : goal.returns-clause-stand
returns-clause-stand g c = λ parts images seated reads.
    subst (λ (is : List (ℕ → List ℕ)). StandFor is (read_states c.loop-place.reads.items))
    (all_taken (IsSeated g.P.Parts.disks) (λ p i. ReadsAs (g.P.Parts.disks p) i) parts c.args.places.now images c.loop-place.place-index seated reads c.loop-place-test.false)
    (c.loop-place.invariant.1 parts images seated reads)

pub returns-clause-logs : goal.returns-clause-logs
returns-clause-logs g c = λ parts images seated reads.
    subst (λ (is : List (ℕ → List ℕ)). HaveLogs is c.loop-place.reads.items)
    (all_taken (IsSeated g.P.Parts.disks) (λ p i. ReadsAs (g.P.Parts.disks p) i) parts c.args.places.now images c.loop-place.place-index seated reads c.loop-place-test.false)
    (c.loop-place.invariant.2 parts images seated reads)
