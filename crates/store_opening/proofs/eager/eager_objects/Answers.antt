use Rattle.class_defs.specs.declared.store.Object.{Object}
use Rattle.std.proofs.Common.{List, ap, ◌∙◌}
use Rattle.store_opening.proofs.Bringing.{none_sorted, whole_put}
use Rattle.store_opening.specs.Bringing.{with_all}
use Rattle.thor_value.specs.FiniteMap.{Map, empty}
use Rattle.thor_value.specs.Names.{oref_cmp}
use Rattle.thor_value.specs.declared.names.Oref.{Oref}
use Rattle.store_opening.proofs.eager.eager_objects.Goals as goal

pub returns-clause-sorted : goal.returns-clause-sorted
returns-clause-sorted c = c.in_ok-put_all.ensures.sorted (none_sorted c.new-objects.result c.new-objects.ensures)

pub returns-clause-values : goal.returns-clause-values
returns-clause-values c = λ sorted.
    let s = c.args.schemas.now in
    let m = c.args.stored.now.objects in
    let k = c.args.stored.now.epoch in
    c.in_ok-put_all.ensures.put
    ∙ (ap (λ (n : Map oref_cmp Object). with_all s m k n c.as_slice.result.now) c.new-objects.ensures
    ∙ (ap (λ (names : List Oref). with_all s m k empty names) (c.as_slice.ensures ∙ c.in_ok-names.ensures)
    ∙ whole_put s m k sorted))
