use Rattle.store_opening.proofs.Failing.{fails_last, fails_more}
use Rattle.store_opening.proofs.Misfits.{there, told_behind}
use Rattle.store_opening.proofs.Places.{next_one, none_left, zip_all, zip_more}
use Rattle.store_opening.proofs.found.read_all.Goals as goal
use Rattle.std.proofs.lemmas.Slice.Zip.{AllZip-long}
use Rattle.store_opening.specs.Failing.{FailsIn, IsCalled}
use Rattle.store_opening.specs.Seated.{IsSeated}
use Rattle.disk_trait.specs.AllDisks.{ReadsAs}
use Rattle.std.proofs.Common.{List, OnOk, ap, arith, inl, inr, subst, sym, ℕ, ◌++◌, ◌∙◌, ◌≡◌, ◌∷◌}
use Rattle.std.proofs.lemmas.List.{append-nil}
use Rattle.store_opening.proofs.Holding.{ends, puts_next}
use Rattle.store_opening.specs.Reading.{PutsAll, ReadAll}
use Rattle.std.specs.Vec.Iter.{into_iter_items}

pub loop-part-preserved : goal.loop-part-preserved
loop-part-preserved g c =
    let inv = c.loop-part.invariant in
    let next = c.in-Some.ensures.steps in (
      omega (arith, inv.0, next.1, c.push_reserved.ensures.len),
      omega (arith, inv.1, next.1, c.push_reserved.ensures.len, c.push_reserved.ensures.capacity),
      next_one c.loop-part.yielded (into_iter_items c.loop-part.part-iterator) (into_iter_items c.next.new.self) c.args.parts.items c.in-Some.part inv.2 next.0,
      zip_more (IsSeated g.P.Parts.disks) c.loop-part.yielded c.loop-part.places.items c.push_reserved.new.self.items c.in-Some.part c.read_next-found.result.0 c.push_reserved.ensures.items inv.3 c.read_next-found.ensures.seated,
      λ images reads.
          let e = ends (λ p i. ReadsAs (g.P.Parts.disks p) i) c.loop-part.yielded c.in-Some.part images reads in
          subst (λ (is : List (ℕ → List ℕ)). OnOk c.read_next-found.result.1 (PutsAll is c.args.objects.now c.read_next-found.new.objects)) (sym e.is)
          (puts_next c.loop-part.read c.read_next-found.result.1 e.before e.last c.args.objects.now c.loop-part.objects c.read_next-found.new.objects (inv.4 e.before e.each) (c.read_next-found.ensures.put e.last e.at_last)),
      λ images r d place reads is.
          let disks = g.P.Parts.disks in
          let rest = into_iter_items c.next.new.self in
          let whole : c.loop-part.yielded ++ c.in-Some.part ∷ rest ≡ c.args.parts.items = ap (λ ps. c.loop-part.yielded ++ ps) (sym next.0) ∙ inv.2 in
          let t = there disks c.loop-part.yielded rest c.args.parts.items c.in-Some.part images whole reads in
          elim (c.read_next-found.ensures.damaged t.image r d place t.reads is) [
            | inl before ↦ inv.5 images r d place reads before
            | inr here ↦ told_behind disks c.loop-part.yielded rest c.args.parts.items c.in-Some.part c.as_slice.result.now c.loop-part.places.items images c.len-repos.result r d place c.as_slice.ensures.value whole reads inv.3 (c.len-repos.ensures ∙ c.args.parts.ok.0) t here
          ],
      zip_more (IsCalled g.P.Parts.disks) c.loop-part.yielded c.loop-part.places.items c.push_reserved.new.self.items c.in-Some.part c.read_next-found.result.0 c.push_reserved.ensures.items inv.6 c.read_next-found.ensures.goes,
      λ r is.
          let disks = g.P.Parts.disks in
          elim (c.read_next-found.ensures.failed r is) [
            | inl before ↦ fails_more disks c.loop-part.yielded c.loop-part.places.items c.push_reserved.new.self.items c.in-Some.part c.read_next-found.result.0 r c.push_reserved.ensures.items (inv.7 r before)
            | inr here ↦ fails_last disks c.loop-part.yielded c.loop-part.places.items c.as_slice.result.now c.push_reserved.new.self.items c.in-Some.part c.read_next-found.result.0 r c.push_reserved.ensures.items c.as_slice.ensures.value (sym (AllZip-long (IsSeated disks) c.loop-part.yielded c.loop-part.places.items inv.3)) here.0 here.1
          ],
    )

pub returns-clause-seated : goal.returns-clause-seated
returns-clause-seated g c =
    let inv = c.loop-part.invariant in
    zip_all (IsSeated g.P.Parts.disks) c.loop-part.yielded (into_iter_items c.loop-part.part-iterator) c.args.parts.items c.loop-part.places.items inv.2 (none_left c.loop-part.part-iterator c.next.new.self c.in-None.ensures.steps) inv.3

pub returns-clause-put : goal.returns-clause-put
returns-clause-put g c = λ images reads.
    let inv = c.loop-part.invariant in
    let none = none_left c.loop-part.part-iterator c.next.new.self c.in-None.ensures.steps in
    let whole : c.loop-part.yielded ≡ c.args.parts.items = sym (append-nil c.loop-part.yielded) ∙ (ap (λ ps. c.loop-part.yielded ++ ps) (sym none) ∙ inv.2) in
    inv.4 images (subst (λ ps. ReadAll g.P.Parts.disks ps images) (sym whole) reads)

pub returns-clause-called : goal.returns-clause-called
returns-clause-called g c =
    let inv = c.loop-part.invariant in
    zip_all (IsCalled g.P.Parts.disks) c.loop-part.yielded (into_iter_items c.loop-part.part-iterator) c.args.parts.items c.loop-part.places.items inv.2 (none_left c.loop-part.part-iterator c.next.new.self c.in-None.ensures.steps) inv.6

pub returns-clause-failed : goal.returns-clause-failed
returns-clause-failed g c = λ r is.
    let inv = c.loop-part.invariant in
    let none = none_left c.loop-part.part-iterator c.next.new.self c.in-None.ensures.steps in
    let whole : c.loop-part.yielded ≡ c.args.parts.items = sym (append-nil c.loop-part.yielded) ∙ (ap (λ ps. c.loop-part.yielded ++ ps) (sym none) ∙ inv.2) in
    subst (λ ps. FailsIn g.P.Parts.disks ps c.loop-part.places.items r) whole (inv.7 r is)
