use Rattle.client_state.proofs.Sharing.{keeps_up}
use Rattle.client_state.proofs.transaction.shares_of.Goals as goal
use Rattle.std.proofs.Common.{List, [], ap, append_assoc, rules, sym, ◌++◌, ◌∷◌, ◌≡◌, ◌∙◌}
use Rattle.std.specs.Vec.Iter.{into_iter_items}
use Rattle.thor_value.specs.declared.names.Oref.{Oref}
use Rattle.thor_value.specs.declared.values.Obj.{Obj}

pub loop-oref-preserved : goal.loop-oref-preserved
loop-oref-preserved c =
    let step : into_iter_items c.loop-oref.oref-iterator ≡ (c.in-Some.oref, c.in-Some.obj) ∷ into_iter_items c.next.new.self = search rules in (
      append_assoc c.loop-oref.yielded ((c.in-Some.oref, c.in-Some.obj) ∷ []) (into_iter_items c.next.new.self) ∙ (ap (λ (xs : List (Oref × Obj)). c.loop-oref.yielded ++ xs) (sym step) ∙ c.loop-oref.invariant.0),
      keeps_up c.loop-oref.shares.items c.push_write.new.shares.items c.loop-oref.yielded c.in-Some.oref c.in-Some.obj c.loop-oref.invariant.1 c.in_ok-push_write.ensures,
    )
