-- The owners that an evaluation tells are those above the object that it needs in the stored map.
use Rattle.std.proofs.Common.{◌≡◌, Bool, true, false, cond, List, [], ◌∷◌, Option, Some, None, Result, refl, ap, sym, subst, ◌∙◌, ℕ}
use Rattle.std.proofs.lemmas.Bool.{both_ways}
use Rattle.std.specs.Prelude.{is_some, nat_lt, option_map}
use Rattle.thor_value.specs.FiniteMap.{get}
use Rattle.thor_value.specs.declared.names.Oref.{Oref}
use Rattle.thor_value.specs.declared.values.Obj.{Obj}
use Rattle.class_defs.proofs.KeptRules.{schema_sound}
use Rattle.class_defs.proofs.Levels.{due_is}
use Rattle.class_defs.specs.Applied.{number_of}
use Rattle.class_defs.specs.Eager.{eager, value}
use Rattle.class_defs.specs.Epochs.{classes_of}
use Rattle.class_defs.specs.Objects.{seen}
use Rattle.class_defs.specs.Ownership.{Owns}
use Rattle.class_defs.specs.Rules.{is_part}
use Rattle.class_defs.specs.Run.{begun}
use Rattle.class_defs.specs.SchemaRules.{in_item}
use Rattle.class_defs.specs.Stored.{Stored, bare}
use Rattle.class_defs.specs.WellOwned.{IsWellOwned}
use Rattle.class_defs.specs.declared.machine.Flow.{Flow}
use Rattle.class_defs.specs.declared.machine.Machine.{Machine}
use Rattle.class_defs.specs.declared.machine.Stop.{Stop}
use Rattle.class_defs.specs.declared.statements.Stmt.{Stmt}
use Rattle.class_defs.specs.declared.store.Object.{Object}
use Rattle.class_defs.specs.declared.store.Schema.{Schema}
use Rattle.class_defs.specs.declared.store.Schemas.{Schemas}
use Rattle.class_defs.specs.declared.types.ExprType.TheVariants as type
use Rattle.law_eval.proofs.Above.{AreAbove, State}
use Rattle.law_eval.proofs.AboveRun.{transaction_tells}
use Rattle.law_eval.proofs.Told.{owners_needed}
use Rattle.law_eval.specs.Owners.{AreOwnersAbove, IsCheckedOver}
use Rattle.law_lazy_upgrade.proofs.Values.{value_class, value_stays}
use Rattle.method_eval.specs.Answers.{evaluation}
use Rattle.method_eval.specs.Names.{supply}
use Rattle.method_eval.specs.Viewed.{current}
use Rattle.method_eval.specs.declared.view.Ran.TheVariants.{Need}
use Rattle.method_eval.specs.declared.view.View.{View}
use Rattle.law_ownership.proofs.Plainly.{owns-stored, part-at, plain-at, some_and, store-fits}
use Rattle.law_encapsulation.proofs.Runs.{begun_tidy, block_unbroken, roots_free, roots_unbroken}

module _ (s : Schemas) (N : Stored) (schema : Schema) (repos : ℕ) (tx : List Stmt) (view : View) (h : IsCheckedOver s N schema repos tx view) where
  abbrev f : Oref → Option Object
  f x = current schema (get view.objects x)

  abbrev g : Oref → Option Object
  g = get (eager s N).objects

  plain : (x : Oref) → g x ≡ option_map (value s N.objects N.epoch) (get N.objects x)
  plain = plain-at s N schema repos h.epoch h.rules h.keeps h.fits h.roots

  -- what is at hand and not due is what the map stands for
  agrees : (x : Oref) → is_some (f x) ≡ true → g x ≡ f x
  agrees x there = by (get view.objects x) refl there
    where
      undue : (o : Obj) (due : Bool) → nat_lt o.ver (number_of schema.upgraded o.class) ≡ due → get view.objects x ≡ Some o
          → let seen : Option Object = cond due None (Some (bare o)) in is_some seen ≡ true → g x ≡ seen
      undue o true e is k = cc
      undue o false e is k =
          plain x ∙ ap (option_map (value s N.objects N.epoch)) (h.at_hand x o is)
          ∙ ap Some (value_stays s N.objects N.epoch o (sym (due_is s N.epoch o) ∙ (h.numbers o ∙ e)))

      by : (o : Option Obj) → get view.objects x ≡ o → is_some (current schema o) ≡ true → g x ≡ current schema o
      by None is k = cc
      by (Some o) is k = undue o (nat_lt o.ver (number_of schema.upgraded o.class)) refl is k

  abbrev first : Machine
  first = begun (supply view.names).waiting (supply view.names).stand_in

  begins : State schema repos f g (in_item schema repos) first
  unfolding seen
  begins = record {
    fits = record { objects = store-fits s N schema repos h.epoch h.rules h.keeps h.fits h.roots; this = tt; locals = tt; names = h.names };
    tidy = begun_tidy schema.classes g;
    hand = λ x e. cc;
    known = record { this = tt; written = λ x e. cc };
    made = record { this = tt; created = λ x e. cc };
    above = λ q e out. cc;
  }

  told_above : (x : Oref) (owners : List Oref) → evaluation tx schema view ≡ Need x owners → AreAbove schema repos f g x owners
  told_above x owners is =
      let ended = owners_needed tx schema view x owners is in
      let tells = transaction_tells schema repos (schema_sound schema repos h.rules) (roots_free schema.classes repos schema.roots (roots_unbroken schema repos tx (eager s N) [] h.rules)) f g agrees tx
      (block_unbroken schema repos tx (eager s N) [] h.item) first begins in
      tells.told x owners (ap (λ (p : Result Flow Stop × Machine). p.0) ended.1)

  -- an object that is no part of what the map stands for is owned by nobody
  unowned : (x : Oref) → AreAbove schema repos f g x [] → (a : Oref) (i : ℕ) → ¬ Owns s N.objects a i x
  unowned x free a i own =
      let o = some_and (get N.objects x) (λ (p : Obj). p.class ≡ own.class) (h.fits.owned.declared a i own.class x own.reference) in
      let v : Object = value s N.objects N.epoch o.0 in
      let stands : g x ≡ Some v = plain x ∙ ap (option_map (value s N.objects N.epoch)) o.1 in
      let part : is_part schema.classes (type.Class v.class) ≡ true =
      part-at s N schema repos h.epoch h.rules h.keeps h.fits h.roots v.class ∙ (ap (λ c. is_part (classes_of s 0) (type.Class c)) (value_class s N.objects N.epoch o.0 ∙ o.2) ∙ own.part) in
      absurd (both_ways (is_part schema.classes (type.Class v.class)) (free v stands) part)

  stored_above : (owners : List Oref) (x : Oref) → AreAbove schema repos f g x owners → AreOwnersAbove s N.objects x owners
  stored_above [] x above = unowned x above
  stored_above (a ∷ further) x above = (owns-stored s N schema repos h.epoch h.rules h.keeps h.fits h.roots a above.0.0 x above.0.1, stored_above further a above.1)

  pub owners_above : (x : Oref) (owners : List Oref) → evaluation tx schema view ≡ Need x owners → AreOwnersAbove s N.objects x owners
  owners_above x owners is = stored_above owners x (told_above x owners is)

-- there is one such list
pub one_above : (s : Schemas) (N : Stored) (x : Oref) (xs ys : List Oref) → IsWellOwned s N → AreOwnersAbove s N.objects x xs → AreOwnersAbove s N.objects x ys → xs ≡ ys
one_above s N x [] [] owned h k = refl
one_above s N x [] (b ∷ others) owned h k = absurd (h b k.0.0 k.0.1)
one_above s N x (a ∷ further) [] owned h k = absurd (k a h.0.0 h.0.1)
one_above s N x (a ∷ further) (b ∷ others) owned h k =
    let same : a ≡ b = (owned.once a b h.0.0 k.0.0 x h.0.1 k.0.1).0 in
    ap (λ y. y ∷ further) same ∙ ap (λ zs. b ∷ zs) (one_above s N b further others owned (subst (λ y. AreOwnersAbove s N.objects y further) same h.1) k.1)
