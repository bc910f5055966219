use Rattle.std.proofs.Common.{◌++◌, ◌∷◌, ◌∙◌, ◌≤◌, ◌+◌, arith, [], List, Some, map, ap, subst, sym, drop}
use Rattle.std.proofs.lemmas.List.{append-nil, drop_all}
use Rattle.std.proofs.lemmas.Result.{IfOk-weaker, on_ok_weaker}
use Rattle.std.specs.List.{flat_map}
use Rattle.std.specs.Option.{option_copied}
use Rattle.thor_value.specs.FiniteMap.{Map, get}
use Rattle.thor_value.specs.Names.{oref_cmp}
use Rattle.class_defs.specs.Upgrades as upgrades
use Rattle.class_defs.specs.Upgrades.{object_behind}
use Rattle.class_defs.specs.declared.store.Object.{Object}
use Rattle.class_defs.specs.declared.classes.Class.{Class}
use Rattle.lazy_transform.proofs.Alike.{transformed_alike}
use Rattle.lazy_transform.proofs.Early.{reads_early, reads_on, value_early, value_on}
use Rattle.lazy_transform.proofs.Gathering.{Follows, drop_is, follows_end, follows_on, gathers_more, gathers_none, gathers_one, paths_more}
use Rattle.lazy_transform.specs.Reads.{field_behind, passed, path_reads, reads}
use Rattle.lazy_transform.specs.Walked.{Covers, Gathers, as_of, classes_in}
use Rattle.lazy_transform.proofs.raising.+raising.Goals as goal

pub follow-loop-name-preserved : goal.follow-loop-name-preserved
follow-loop-name-preserved t c =
    let p = c.args.past.now in
    let k = c.args.before in
    follows_on p k c.args.value c.args.names.now c.args.parts.now c.args.looked.now
    c.loop-name.reached c.name-item.result (drop (c.loop-name.name-index + 1) c.args.names.now)
    c.loop-name.parts c.look.new.parts c.loop-name.looked c.look.new.looked c.field_behind-reached.result
    (subst (λ ns. Follows p k c.args.value c.args.names.now c.args.parts.now c.args.looked.now c.loop-name.reached ns c.loop-name.parts c.loop-name.looked)
    (drop_is c.args.names.now c.loop-name.name-index c.name-item.result c.loop-name-test.true c.name-item.is) c.loop-name.invariant)
    c.in_ok-look.ensures
    (c.field_behind-reached.ensures
    ∙ ap (λ o. field_behind c.classes_at-old.result.now o c.name-item.result) c.object_behind.ensures
    ∙ ap (λ (cs : List Class). field_behind cs (object_behind (get c.look.new.parts) c.loop-name.reached) c.name-item.result) c.classes_at-old.ensures)

pub follow-returns : goal.follow-returns
follow-returns t c =
    let p = c.args.past.now in
    let k = c.args.before in
    follows_end p k c.args.value c.args.names.now c.args.parts.now c.args.looked.now c.loop-name.reached c.loop-name.parts c.loop-name.looked
    (subst (λ ns. Follows p k c.args.value c.args.names.now c.args.parts.now c.args.looked.now c.loop-name.reached ns c.loop-name.parts c.loop-name.looked)
    (drop_all c.loop-name.name-index c.args.names.now c.loop-name-test.false) c.loop-name.invariant)

pub gather-loop-names-preserved : goal.gather-loop-names-preserved
gather-loop-names-preserved t c =
    let p = c.args.past.now in
    let k = c.args.before in
    gathers_more p k _ (path_reads (classes_in p k) (as_of p k) c.args.object.now c.names-item.result.now) _
    c.loop-names.parts c.walk.new.parts c.args.looked.now c.loop-names.looked c.walk.new.looked
    (paths_more (path_reads (classes_in p k) (as_of p k) c.args.object.now) c.args.paths.now c.loop-names.names-index c.names-item.result c.loop-names-test.true c.names-item.is)
    c.loop-names.invariant
    c.in_ok-walk.ensures

pub look-returns-in-Some : goal.look-returns-in-Some
look-returns-in-Some t c =
    on_ok_weaker c.look_at.result (λ g.
    subst (λ xs. Gathers c.args.past.now c.args.before xs c.args.parts.now c.look_at.new.parts c.args.looked.now c.look_at.new.looked) (sym c.in-Some.ensures) g)
    c.look_at.ensures

pub look_at-returns-in_ok-object-in-Some : goal.look_at-returns-in_ok-object-in-Some
look_at-returns-in_ok-object-in-Some t c =
    let p = c.args.past.now in
    let k = c.args.before in
    on_ok_weaker c.insert.result (λ put.
    subst (λ (m : Map oref_cmp Object). Gathers p k (c.args.part ∷ []) c.args.parts.now m c.args.looked.now c.raise.new.looked) (sym put)
    (gathers_one p k c.args.part c.in-Some.obj.now c.in_ok-object-in-Some.object c.args.parts.now c.args.looked.now c.raise.new.looked
    (sym c.get.ensures ∙ ap option_copied c.in-Some.is)
    c.in_ok-object-in-Some.ensures.value
    (c.in_ok-object-in-Some.ensures.looked
    ∙ ap (λ xs. xs ++ reads p.schemas.now p.objects.now k c.in-Some.obj.now) c.in_ok-push.ensures.ok)))
    c.insert.ensures.ok

pub look_at-returns-in-None : goal.look_at-returns-in-None
look_at-returns-in-None t c =
    gathers_none c.args.past.now c.args.before c.args.part c.args.parts.now c.args.looked.now c.push.new.self
    (sym c.get.ensures ∙ ap option_copied c.in-None.is)
    c.in_ok-push.ensures.ok

pub next-returns-in_ok-parts-in-Some-clause-value :
    goal.next-returns-in_ok-parts-in-Some-clause-value
next-returns-in_ok-parts-in-Some-clause-value t c =
    let p = c.args.past.now in
    let k = c.args.before in
    let said = c.in-Some.said.now in
    let parts = c.in_ok-parts-in-Some.parts in
    let reading = path_reads (classes_in p k) (as_of p k) c.args.object in
    let covers = subst (λ ps. Covers (flat_map reading ps) (get parts) (as_of p k))
    (ap (map (λ b. b.now)) c.as_slice.ensures.value ∙ c.in_ok-paths-in-Some.ensures) c.in_ok-parts-in-Some.ensures.parts in
    IfOk-weaker c.transformed.result _ _ (λ after is.
    is
    ∙ ap (λ (cs : List Class). upgrades.transformed cs c.classes_at-new.result.now (get parts) c.args.object (Some said)) c.classes_at-old.ensures
    ∙ ap (λ (cs : List Class). upgrades.transformed (classes_in p k) cs (get parts) c.args.object (Some said)) c.classes_at-new.ensures
    ∙ transformed_alike (classes_in p k) (as_of p k) (get parts) c.args.object (classes_in p (k + 1)) (Some said) covers.agree
    ∙ ap (λ w. upgrades.transformed (classes_in p k) (classes_in p (k + 1)) (as_of p k) c.args.object w) (sym (ap option_copied c.in-Some.is)))
    c.transformed.ensures

pub raise-loop-before-init : goal.raise-loop-before-init
raise-loop-before-init t c =
    let s = c.args.past.now.schemas.now in
    let m = c.args.past.now.objects.now in
    let o = c.args.obj.now in
    let early : c.min-first.result ≤ o.ver = omega (arith, c.min-first.ensures) in (
      ap (λ fs. record { class = o.class; fields = fs }) c.in_ok-copy.ensures ∙ sym (value_early s m c.min-first.result o early),
      sym (ap (λ xs. c.args.looked.now ++ xs) (reads_early s m c.min-first.result o early) ∙ append-nil c.args.looked.now),
    )

pub raise-loop-before-preserved : goal.raise-loop-before-preserved
raise-loop-before-preserved t c =
    let s = c.args.past.now.schemas.now in
    let m = c.args.past.now.objects.now in
    let o = c.args.obj.now in
    let k = c.loop-before.before in
    let said = option_copied c.next_of-said.result in
    let written : o.ver ≤ k = omega (arith, c.min-first.ensures, c.loop-before.auto.before, c.loop-before-test.true) in (
      c.in_ok-object.ensures.value ∙ value_on s m k o c.loop-before.object said written c.loop-before.invariant.0 c.next_of-said.ensures,
      reads_on s m k o c.loop-before.object said c.args.looked.now c.loop-before.looked c.next.new.looked written
          c.loop-before.invariant.0 c.next_of-said.ensures c.loop-before.invariant.1 c.in_ok-object.ensures.looked,
    )

pub walk-returns-in-Some : goal.walk-returns-in-Some
walk-returns-in-Some t c =
    let p = c.args.past.now in
    let k = c.args.before in
    let o = c.args.object.now in
    on_ok_weaker c.follow.result (λ g.
    subst (λ xs. Gathers p k xs c.args.parts.now c.follow.new.parts c.args.looked.now c.follow.new.looked)
    (ap (λ v. passed (classes_in p k) (as_of p k) v c.in-Some.rest.now)
    (c.field_behind-value.ensures ∙ ap (λ (cs : List Class). field_behind cs (Some o) c.in-Some.name.now) c.classes_at-old.ensures)
    ∙ ap (λ ns. path_reads (classes_in p k) (as_of p k) o ns) (sym c.in-Some.ensures.cases.0 ∙ c.as_slice.ensures))
    g)
    c.follow.ensures
