-- A method that is found among those of the schema's classes is the schema's, and the types beside it are those that its words name.
use Rattle.std.proofs.Common.{◌≡◌, Bool, true, false, cond, List, [], ◌∷◌, ℕ, map, ap, refl, sym, subst, ◌∙◌}
use Rattle.std.proofs.lemmas.Option.{slice_get-map}
use Rattle.std.specs.Prelude.{Option, Some, None, IfSome, find, option_and_then, option_map, slice_get}
use Rattle.std.specs.Str.{bytes_eq}
use Rattle.class_defs.specs.Types.{method_of}
use Rattle.class_defs.specs.declared.classes.Class.{Class}
use Rattle.class_defs.specs.declared.classes.Method.{Method}
use Rattle.lang_small_steps.specs.Methods.{class_methods}
use Rattle.lang_small_steps.specs.Typed.{IsTyped, TypedMethod, typed}

-- the first method with this name of the class with this number
abbrev named : List (List TypedMethod) → ℕ → List ℕ → Option TypedMethod
named methods c name = option_and_then (λ ms. find (λ m. bytes_eq m.method.name.text name) ms) (slice_get methods c)

chosen : (classes : List Class) (b : Bool) (m : Method) (o : Option TypedMethod) (p : Option Method) → o ≡ option_map (typed classes) p → cond b (Some (typed classes m)) o ≡ option_map (typed classes) (cond b (Some m) p)
chosen classes true m o p is = refl
chosen classes false m o p is = is

first : (classes : List Class) (name : List ℕ) (ms : List Method) → find (λ m. bytes_eq m.method.name.text name) (map (typed classes) ms) ≡ option_map (typed classes) (find (λ m. bytes_eq m.name.text name) ms)
first classes name [] = refl
first classes name (m ∷ ms) = chosen classes (bytes_eq m.name.text name) m (find (λ m. bytes_eq m.method.name.text name) (map (typed classes) ms)) (find (λ m. bytes_eq m.name.text name) ms) (first classes name ms)

in_class : (classes : List Class) (name : List ℕ) (o : Option Class)
    → option_and_then (λ ms. find (λ m. bytes_eq m.method.name.text name) ms) (option_map (λ c. map (typed classes) c.methods) o) ≡ option_map (typed classes) (option_and_then (λ d. find (λ m. bytes_eq m.name.text name) d.methods) o)
in_class classes name (Some c) = first classes name c.methods
in_class classes name None = refl

there : (classes : List Class) (methods : List (List TypedMethod)) (c : ℕ) (name : List ℕ) → methods ≡ class_methods classes → named methods c name ≡ option_map (typed classes) (method_of classes c name)
there classes methods c name is = ap (λ ms. named ms c name) is
    ∙ ap (option_and_then (λ ms. find (λ m. bytes_eq m.method.name.text name) ms)) (slice_get-map (λ c. map (typed classes) c.methods) classes c) ∙ in_class classes name (slice_get classes c)

its_method : (classes : List Class) (o : Option Method) → option_map (λ m. m.method) (option_map (typed classes) o) ≡ o
its_method classes (Some m) = refl
its_method classes None = refl

its_types : (classes : List Class) (o : Option Method) → IfSome (option_map (typed classes) o) (λ m. IsTyped classes m)
its_types classes (Some m) = (refl, refl)
its_types classes None = tt

pub found_is : (classes : List Class) (methods : List (List TypedMethod)) (c : ℕ) (name : List ℕ) (o : Option TypedMethod) → methods ≡ class_methods classes
    → o ≡ option_and_then (λ ms. find (λ m. bytes_eq m.method.name.text name) ms) (slice_get methods c) → option_map (λ m. m.method) o ≡ method_of classes c name
found_is classes methods c name o known is = ap (option_map (λ m. m.method)) (is ∙ there classes methods c name known) ∙ its_method classes (method_of classes c name)

pub is_typed : (classes : List Class) (methods : List (List TypedMethod)) (c : ℕ) (name : List ℕ) (o : Option TypedMethod) → methods ≡ class_methods classes
    → o ≡ option_and_then (λ ms. find (λ m. bytes_eq m.method.name.text name) ms) (slice_get methods c) → IfSome o (λ m. IsTyped classes m)
is_typed classes methods c name o known is = subst (λ q. IfSome q (λ m. IsTyped classes m)) (sym (is ∙ there classes methods c name known)) (its_types classes (method_of classes c name))
