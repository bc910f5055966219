use Rattle.std.proofs.Common.{List, ap, rules, sym, ◌∙◌, ◌≡◌, ◌∷◌}
use Rattle.std.specs.Vec.Iter.{into_iter_items}
use Rattle.class_defs.specs.Stored.{Objects}
use Rattle.thor_value.specs.FiniteMap.{overwrite}
use Rattle.thor_value.specs.declared.names.Oref.{Oref}
use Rattle.thor_value.specs.declared.values.Obj.{Obj}
use Rattle.repo_opening.proofs.pages.put_objects.Goals as goal

pub loop-name-preserved : goal.loop-name-preserved
loop-name-preserved c =
    let step : into_iter_items c.loop-name.name-iterator ≡ (c.in-Some.name, c.in-Some.object) ∷ into_iter_items c.next.new.self = search rules in
    ap (λ (m : Objects). overwrite m (into_iter_items c.next.new.self)) c.in_ok-insert.ensures.ok
    ∙ ap (λ (ws : List (Oref × Obj)). overwrite c.loop-name.objects ws) (sym step)
    ∙ c.loop-name.invariant
