-- The notes of an object's fields, one by one.
use Rattle.class_defs.specs.declared.store.Schemas.{Schemas}
use Rattle.store_check.specs.Naming.{Namings, noted, noted_fields}
use Rattle.std.proofs.Common.{arith, subst, refl, slice_get, suc, ℕ, ◌+◌, ◌≡◌}
use Rattle.thor_value.specs.declared.names.Oref.{Oref}
use Rattle.thor_value.specs.declared.values.Obj.{Obj}

pub noted_none : (s : Schemas) (n : Namings) (a : Oref) (o : Obj) → noted_fields s n a o 0 ≡ n
unfolding noted_fields
noted_none s n a o = refl

pub noted_more : (s : Schemas) (n : Namings) (a : Oref) (o : Obj) (k : ℕ) → noted_fields s n a o (k + 1) ≡ noted s (noted_fields s n a o k) a o k (slice_get o.fields k)
unfolding noted_fields
noted_more s n a o k =
    let e : suc k ≡ k + 1 = omega arith in
    let step : noted_fields s n a o (suc k) ≡ noted s (noted_fields s n a o k) a o k (slice_get o.fields k) = refl in
    subst (λ j. noted_fields s n a o j ≡ noted s (noted_fields s n a o k) a o k (slice_get o.fields k)) e step
