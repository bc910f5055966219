-- The names that a request wrote, by its list.
use Rattle.log_entries.specs.declared.request.Request.{Request}
use Rattle.spec_history.specs.Requests.{has_written}
use Rattle.std.proofs.Common.{List, [], ap, cond, refl, ◌≡◌, ◌∙◌, ◌∷◌}
use Rattle.std.specs.List.{list_any}
use Rattle.std.specs.Map.{keys_of}
use Rattle.std.specs.Ordering.{eq_by_cmp}
use Rattle.std.specs.Prelude.{Bool, Some, false, is_some, true, ◌||◌}
use Rattle.thor_value.proofs.FiniteMap.{get-insert}
use Rattle.thor_value.proofs.NameOrders.{oref_total}
use Rattle.thor_value.specs.FiniteMap.{Map, empty, get, has, insert, overwrite}
use Rattle.thor_value.specs.Names.{oref_cmp, same_oref}
use Rattle.thor_value.specs.declared.names.Oref.{Oref}

or_false : (x : Bool) → (x || false) ≡ x
or_false true = refl
or_false false = refl

turned : (x y z : Bool) → (x || (y || z)) ≡ ((y || x) || z)
turned true true z = refl
turned true false z = refl
turned false true z = refl
turned false false z = refl

put_all : {X : Type 0} (x : Oref) (m : Map oref_cmp X) (es : List (Oref × X)) → has (overwrite m es) x ≡ (list_any (same_oref x) (keys_of es) || has m x)
put_all x m [] = refl
put_all {X} x m (e ∷ es) =
    put_all x (insert m e.0 e.1) es
    ∙ ap (λ o. list_any (same_oref x) (keys_of es) || is_some o) (get-insert oref_total m e.0 e.1 x)
    ∙ ap (λ z. list_any (same_oref x) (keys_of es) || z) (either (eq_by_cmp oref_cmp x e.0))
    ∙ turned (list_any (same_oref x) (keys_of es)) (same_oref x e.0) (has m x)
  where
    either : (k : Bool) → is_some (cond k (Some e.1) (get m x)) ≡ (k || has m x)
    either true = refl
    either false = refl

pub written_among : (q : Request) (x : Oref) → has_written q x ≡ list_any (same_oref x) (keys_of q.writes)
written_among q x = put_all x empty q.writes ∙ or_false (list_any (same_oref x) (keys_of q.writes))
