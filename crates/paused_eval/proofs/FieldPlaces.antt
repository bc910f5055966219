-- A field that is found by its place.
use Rattle.std.proofs.Common.{◌≡◌, Bool, true, false, cond, List, length, ℕ, Option, Some, None, refl, ap, sym, ◌∙◌, arith}
use Rattle.std.proofs.lemmas.Bool.Decides.{nat_tests}
use Rattle.std.proofs.lemmas.List.Folds.{find_at}
use Rattle.std.proofs.lemmas.Option.{slice_get_past}
use Rattle.std.specs.List.{position_or_len}
use Rattle.std.specs.Prelude.{◌≤◌, nat_lt, find, option_and_then, option_map, position, slice_get}
use Rattle.thor_value.specs.declared.values.Value.{Value}
use Rattle.class_defs.specs.Objects.{field_at, field_of_receiver, field_value, fitted_or_beginning, scope_at, seen}
use Rattle.class_defs.specs.Steps.{World}
use Rattle.class_defs.specs.Types.{field_named, field_of, fields_of, typed}
use Rattle.class_defs.specs.declared.classes.Class.{Class}
use Rattle.class_defs.specs.declared.classes.Field.{Field}
use Rattle.class_defs.specs.declared.machine.Machine.{Machine}
use Rattle.class_defs.specs.declared.machine.Receiver.{Receiver}
use Rattle.class_defs.specs.declared.types.ExprType.{ExprType}

placed : {X : Type 0} (p : X → Bool) (xs : List X) → option_and_then (λ i. slice_get xs i) (position p xs) ≡ find p xs
placed p xs = by (nat_lt (position_or_len p xs) (length xs)) refl ∙ sym (find_at p xs)
  where
    past : nat_lt (position_or_len p xs) (length xs) ≡ false → length xs ≤ position_or_len p xs
    past e = grind (arith, nat_tests)

    by : (b : Bool) → nat_lt (position_or_len p xs) (length xs) ≡ b
        → option_and_then (λ i. slice_get xs i) (cond b (Some (position_or_len p xs)) None) ≡ slice_get xs (position_or_len p xs)
    by true e = refl
    by false e = sym (slice_get_past xs (position_or_len p xs) (past e))

field_at_place : (classes : List Class) (c : ℕ) (name : List ℕ)
    → option_and_then (λ i. slice_get (fields_of classes c) i) (field_named classes c name) ≡ field_of classes c name
field_at_place classes c name = placed _ (fields_of classes c)

-- what is read of a field whose place and type were found together
pub field_value_is : (w : World) (m : Machine) (r : Receiver) (name : List ℕ) (index : Option ℕ) (kind : ExprType) (found : Option Value) (v : Value)
    → m.this ≡ Some r → index ≡ field_named w.schema.classes r.class name
    → kind ≡ typed w.schema.classes (option_map (λ f. f.type_name) (option_and_then (λ i. slice_get (fields_of w.schema.classes r.class) i) index))
    → found ≡ field_at (seen w m r.oref) index → v ≡ fitted_or_beginning kind found
    → v ≡ field_value w m name
unfolding field_value scope_at
field_value_is w m r name index kind found v t i k f e =
    e ∙ ap (λ (t : ExprType). fitted_or_beginning t found) kind_is
    ∙ ap (λ (o : Option Value). fitted_or_beginning (typed w.schema.classes (option_map (λ d. d.type_name) (field_of w.schema.classes r.class name))) o) found_is
    ∙ sym at_this
  where
    kind_is : kind ≡ typed w.schema.classes (option_map (λ d. d.type_name) (field_of w.schema.classes r.class name))
    kind_is =
        k ∙ ap (λ (j : Option ℕ). typed w.schema.classes (option_map (λ d. d.type_name) (option_and_then (λ n. slice_get (fields_of w.schema.classes r.class) n) j))) i
        ∙ ap (λ (o : Option Field). typed w.schema.classes (option_map (λ d. d.type_name) o)) (field_at_place w.schema.classes r.class name)

    found_is : found ≡ field_at (seen w m r.oref) (field_named w.schema.classes r.class name)
    found_is = f ∙ ap (λ (j : Option ℕ). field_at (seen w m r.oref) j) i

    at_this : field_of_receiver w m m.this name
        ≡ fitted_or_beginning (typed w.schema.classes (option_map (λ d. d.type_name) (field_of w.schema.classes r.class name))) (field_at (seen w m r.oref) (field_named w.schema.classes r.class name))
    at_this =
        ap (λ (o : Option Receiver). field_of_receiver w m o name) t
        ∙ ap (λ (o : Option Receiver). fitted_or_beginning
        (typed w.schema.classes (option_map (λ d. d.type_name) (option_and_then (λ c. field_of w.schema.classes c name) (option_map (λ q. q.class) o))))
        (field_at (seen w m r.oref) (field_named w.schema.classes r.class name))) t
