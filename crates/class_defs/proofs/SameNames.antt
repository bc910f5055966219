-- When two names of objects are the same.
use Rattle.std.proofs.Common.{◌≡◌, Bool, true, Ordering, Less, Equal, Greater, ap, refl, is_eq, ◌∙◌}
use Rattle.std.proofs.lemmas.Cmp.{tied_itself}
use Rattle.thor_value.proofs.NameOrders.{oref_exact, oref_total}
use Rattle.thor_value.specs.Names.{same_oref}
use Rattle.thor_value.specs.declared.names.Oref.{Oref}

pub same_itself : (x : Oref) → same_oref x x ≡ true
same_itself x = ap is_eq (tied_itself oref_total x)

-- two names that compare alike are one
pub one_name : (x y : Oref) (b : Bool) → same_oref x y ≡ b → b ≡ true → x ≡ y
one_name x y b h e = oref_exact x y (equal _ (h ∙ e))
  where
    equal : (o : Ordering) → is_eq o ≡ true → o ≡ Equal
    equal Less h = cc
    equal Equal h = refl
    equal Greater h = cc
