-- An evaluation over a part of what was opened meets what the law on the owners that are told asks for.
use Rattle.class_defs.proofs.Levels.{due_by_last}
use Rattle.class_defs.proofs.RuleForms.{the_forms}
use Rattle.class_defs.specs.Applied.{number_of}
use Rattle.class_defs.specs.Calls.{call, call_object, owners_at, run_body}
use Rattle.class_defs.specs.Expressions.{expression, values_of}
use Rattle.class_defs.specs.Levels.{is_due, last_naming}
use Rattle.class_defs.specs.Objects.{field_value, named_value, scope_at, seen, touch}
use Rattle.class_defs.specs.Run.{execute_all}
use Rattle.class_defs.specs.Statements.{block_of, statement}
use Rattle.class_defs.specs.Steps.{step}
use Rattle.law_eval.proofs.AboveMaps.{owners_above}
use Rattle.law_eval.specs.Owners.{AreOwnersAbove, IsCheckedOver}
use Rattle.method_eval.specs.Answers.{evaluation}
use Rattle.method_eval.specs.declared.view.Ran.TheVariants.{Need}
use Rattle.rows_serial.proofs.Opened.{N, are-checked, opening-fits}
use Rattle.rows_serial.specs.Rows.{an_owner, asking, first, o, opening, owner_alone, p, schemas}
use Rattle.std.proofs.Common.{Bool, [], ap, arith, cond, false, refl, subst, sym, true, ℕ, zero, suc, ◌≡◌, ◌∙◌, ◌∷◌}
use Rattle.std.proofs.lemmas.Map.Views.{tells_apart}
use Rattle.std.proofs.lemmas.Option.{same_Some}
use Rattle.std.specs.List.{IsDistinct}
use Rattle.std.specs.Prelude.{None, Some, nat_lt}
use Rattle.thor_value.proofs.NameOrders.{oref_exact}
use Rattle.thor_value.specs.FiniteMap.{get}
use Rattle.thor_value.specs.Names.{same_oref}
use Rattle.thor_value.specs.declared.names.Oref.{Oref}
use Rattle.thor_value.specs.declared.values.Obj.{Obj}
use Rattle.rows_language.proofs.RunForms.{deep, run_forms}

ruleset forms = (the_forms, run_forms)

none_twice : IsDistinct same_oref []
unfolding IsDistinct
none_twice = tt

-- no upgrade has come yet
numbers : (v : Obj) → is_due schemas 0 v ≡ nat_lt v.ver (number_of first.upgraded v.class)
unfolding last_naming
numbers v = due_by_last schemas 0 v ∙ ap (nat_lt v.ver) (by v.class)
  where
    by : (c : ℕ) → 0 ≡ number_of first.upgraded c
    by zero = refl
    by (suc zero) = refl
    by (suc (suc zero)) = refl
    by (suc (suc (suc c))) = refl

at_hand : (x : Oref) (v : Obj) → get owner_alone.objects x ≡ Some v → get N.objects x ≡ Some v
at_hand x v h = by (same_oref x o) refl h
  where
    by : (b : Bool) → same_oref x o ≡ b → cond b (Some an_owner) None ≡ Some v → get N.objects x ≡ Some v
    by true e k = subst (λ y. get N.objects y ≡ Some v) (sym (tells_apart oref_exact x o e)) (subst (λ w. get N.objects o ≡ Some w) (same_Some an_owner v k) refl)
    by false e k = cc

pub meets : IsCheckedOver schemas N first 2 asking owner_alone
meets = record {
  epoch = refl;
  rules = are-checked.schemas_keep 0 first refl;
  item = are-checked.items_keep (record { client = 1; index = 4 }) asking 0 first refl refl;
  keeps = λ k l. absurd (omega (arith, l));
  numbers = numbers;
  fits = opening-fits.fits;
  roots = are-checked.roots_stand 0 first refl;
  at_hand = at_hand;
  names = record { waiting = tt; distinct = none_twice; stand_ins = tt };
}

pub needs : evaluation asking first owner_alone ≡ Need p (o ∷ [])
unfolding evaluation execute_all deep statement expression values_of block_of step named_value scope_at call call_object run_body touch seen owners_at field_value
needs = simp forms refl

pub above : AreOwnersAbove schemas opening.objects p (o ∷ [])
above = owners_above schemas N first 2 asking owner_alone meets p (o ∷ []) needs
