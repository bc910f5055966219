use Rattle.cluster_core.proofs.Failing.{none_counted}
use Rattle.cluster_core.specs.Failing.{HaveCounted, faults_in}
use Rattle.cluster_port.specs.Failing.{NoneFell}
use Rattle.cluster_port.specs.Sited.{Sited}
use Rattle.repo_core.specs.Shown.{faults_of}
use Rattle.std.proofs.Common.{ap, arith, List, subst, sym, ◌++◌, ◌∙◌, ◌≡◌}
use Rattle.std.proofs.lemmas.List.{append-nil}
use Rattle.std.specs.Vec.Iter.{into_iter_items}
use Rattle.store_opening.proofs.Places.{next_one, none_left, zip_more}
use Rattle.cluster_core.proofs.cluster.give_back.Goals as goal

pub loop-site-init : goal.loop-site-init
loop-site-init g c = (
  omega (arith, c.requires.empty),
  omega (arith, c.requires.empty, c.requires.room),
  c.into_iter-site-iterator.ensures.into_iter_gives.0,
  λ r is. (is, none_counted g.P.Parts.disks c.args.spare.items (omega (arith, c.requires.empty, c.args.spare.ok.0))),
)

pub loop-site-preserved : goal.loop-site-preserved
loop-site-preserved g c =
    let inv = c.loop-site.invariant in
    let next = c.in-Some.ensures.steps in (
      omega (arith, inv.0, next.1, c.push_reserved.ensures.len),
      omega (arith, inv.1, next.1, c.push_reserved.ensures.len, c.push_reserved.ensures.capacity),
      next_one c.loop-site.yielded (into_iter_items c.loop-site.site-iterator) (into_iter_items c.next.new.self) c.args.sites.items c.in-Some.site inv.2 next.0,
      λ r is.
          let before = inv.3 r (c.unless_fallen-why.ensures.same r is) in
          (before.0, zip_more (λ (x : Sited) p. NoneFell (faults_of x.shown) (faults_in g.P.Parts.disks p)) c.loop-site.yielded c.loop-site.parts.items c.push_reserved.new.self.items c.in-Some.site c.into_parts-part.result.0 c.push_reserved.ensures.items before.1 (c.into_parts-part.ensures (c.unless_fallen-why.ensures.whole r is))),
    )

pub returns-clause-failed : goal.returns-clause-failed
returns-clause-failed g c = λ r is.
    let inv = c.loop-site.invariant in
    let none = none_left c.loop-site.site-iterator c.next.new.self c.in-None.ensures.steps in
    let whole : c.loop-site.yielded ≡ c.args.sites.items = sym (append-nil c.loop-site.yielded) ∙ (ap (λ xs. c.loop-site.yielded ++ xs) (sym none) ∙ inv.2) in
    let told = inv.3 r is in
    (told.0, subst (λ (xs : List Sited). HaveCounted g.P.Parts.disks xs c.loop-site.parts.items) whole told.1)
