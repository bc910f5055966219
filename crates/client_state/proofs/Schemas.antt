-- The methods of an epoch are those of its schema.
use Rattle.std.proofs.Common.{◌≡◌, List, ℕ, zero, suc, ap, sym, ◌∙◌}
use Rattle.std.proofs.lemmas.Option.{slice_get-map}
use Rattle.std.specs.Prelude.{Option, Some, None, option_map, slice_get}
use Rattle.class_defs.specs.Epochs.{schema_at}
use Rattle.class_defs.specs.declared.store.Schema.{Schema}
use Rattle.class_defs.specs.declared.store.Schemas.{Schemas}
use Rattle.class_defs.specs.declared.store.UpgradedSchema.{UpgradedSchema}
use Rattle.client_items.specs.declared.opened.Opened.{Opened}
use Rattle.client_state.specs.Evaluating.{chosen, schema_in}
use Rattle.lang_small_steps.specs.Methods.{AreMethodsOf, class_methods, methods_at}
use Rattle.lang_small_steps.specs.Typed.{TypedMethod}
use Rattle.lang_small_steps.specs.declared.methods.EpochMethods.{EpochMethods}

same_methods : (a b : List (List TypedMethod)) → Some a ≡ Some b → a ≡ b
same_methods a b is = cc

same_schema : (a b : Schema) → Some a ≡ Some b → a ≡ b
same_schema a b is = cc

upgraded : (o : Option UpgradedSchema) (a : Schema) (b : List (List TypedMethod)) → option_map (λ u. u.schema) o ≡ Some a → option_map (λ u. class_methods u.schema.classes) o ≡ Some b → b ≡ class_methods a.classes
upgraded (Some u) a b is are = sym (same_methods _ _ are) ∙ ap (λ (s : Schema). class_methods s.classes) (same_schema _ _ is)
upgraded None a b is are = cc

pub are_its_methods : (s : Schemas) (m : EpochMethods) (n : ℕ) (a : Schema) (b : List (List TypedMethod)) → AreMethodsOf s m → schema_at s n ≡ Some a → methods_at m n ≡ Some b → b ≡ class_methods a.classes
are_its_methods s m zero a b known is are = sym (same_methods _ _ are) ∙ known.0 ∙ ap (λ (s : Schema). class_methods s.classes) (same_schema _ _ is)
are_its_methods s m (suc n) a b known is are = upgraded (slice_get s.upgraded n) a b is
    (sym (slice_get-map (λ u. class_methods u.schema.classes) s.upgraded n) ∙ ap (λ us. slice_get us n) (sym known.1) ∙ are)

-- ---- which schema is chosen

module _ (opened : Opened) (n : ℕ) where
  pub both_chosen : (s : Schema) (m : List (List TypedMethod)) → schema_at opened.schemas n ≡ Some s → methods_at opened.methods n ≡ Some m → schema_in opened n ≡ s
  both_chosen s m is are = ap (λ (o : Option Schema). chosen o (methods_at opened.methods n) opened.schemas.first) is ∙ ap (λ (o : Option (List (List TypedMethod))). chosen (Some s) o opened.schemas.first) are

  pub no_methods : (s : Schema) → schema_at opened.schemas n ≡ Some s → methods_at opened.methods n ≡ None → schema_in opened n ≡ opened.schemas.first
  no_methods s is none = ap (λ (o : Option Schema). chosen o (methods_at opened.methods n) opened.schemas.first) is ∙ ap (λ (o : Option (List (List TypedMethod))). chosen (Some s) o opened.schemas.first) none

  pub no_schema : schema_at opened.schemas n ≡ None → schema_in opened n ≡ opened.schemas.first
  no_schema none = ap (λ (o : Option Schema). chosen o (methods_at opened.methods n) opened.schemas.first) none
