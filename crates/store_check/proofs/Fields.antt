-- Whether an object's fields fit, one by one.
use Rattle.class_defs.specs.Stored.{Objects}
use Rattle.class_defs.specs.declared.store.Schemas.{Schemas}
use Rattle.store_check.specs.Tests.{field_fits, fields_fit}
use Rattle.std.proofs.Common.{arith, cond, false, refl, subst, suc, true, ℕ, ◌+◌, ◌≡◌}
use Rattle.thor_value.specs.declared.values.Obj.{Obj}

pub none_so_far : (s : Schemas) (m : Objects) (o : Obj) → fields_fit s m o 0 ≡ true
unfolding fields_fit
none_so_far s m o = refl

pub one_more : (s : Schemas) (m : Objects) (o : Obj) (k : ℕ) → fields_fit s m o (k + 1) ≡ cond (field_fits s m o k) (fields_fit s m o k) false
unfolding fields_fit
one_more s m o k =
    let e : suc k ≡ k + 1 = omega arith in
    let step : fields_fit s m o (suc k) ≡ cond (field_fits s m o k) (fields_fit s m o k) false = refl in
    subst (λ j. fields_fit s m o j ≡ cond (field_fits s m o k) (fields_fit s m o k) false) e step
