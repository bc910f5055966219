use Rattle.std.proofs.Common.{refl, ◌≡◌, ℕ, ◌+◌, ◌<◌, List, ◌∷◌, [], ◌++◌, length, take, map, get_or, ◌∙◌, ap, sym, subst, arith}
use Rattle.std.proofs.lemmas.Grind.{common_steps}
use Rattle.std.proofs.lemmas.List.{take_more}
use Rattle.thor_value.proofs.FiniteMap.{IsSorted-insert}
use Rattle.thor_value.proofs.NameOrders.{oref_total}
use Rattle.thor_value.specs.FiniteMap.{IsSorted, Map, empty, insert, overwrite}
use Rattle.thor_value.specs.Names.{oref_cmp}
use Rattle.thor_value.specs.declared.names.Oref.{Oref}
use Rattle.class_defs.specs.declared.store.Object.{Object}
use Rattle.class_defs.specs.declared.store.RootDeclaration.{RootDeclaration}
use Rattle.class_defs.specs.declared.store.Schema.{Schema}
use Rattle.script_check.specs.Opened.{root_object}
use Rattle.script_check.proofs.opening.root_objects.Goals as goal

map_end : (f : RootDeclaration → Oref × Object) (xs : List RootDeclaration) (x : RootDeclaration) → map f (xs ++ x ∷ []) ≡ map f xs ++ f x ∷ []
map_end f [] x = refl
map_end f (y ∷ xs) x = ap (λ ys. f y ∷ ys) (map_end f xs x)

overwrite_end : (m : Map oref_cmp Object) (xs : List (Oref × Object)) (x : Oref × Object) → overwrite m (xs ++ x ∷ []) ≡ insert (overwrite m xs) x.0 x.1
overwrite_end m [] x = refl
overwrite_end m (y ∷ xs) x = overwrite_end (insert m y.0 y.1) xs x

taken : (rs : List RootDeclaration) (i : ℕ) (r : RootDeclaration) → i < length rs → r ≡ get_or rs i r → take (i + 1) rs ≡ take i rs ++ r ∷ []
taken rs i r within is = take_more rs i r within ∙ ap (λ (q : RootDeclaration). take i rs ++ q ∷ []) (sym is)

one_more : (schema : Schema) (rs : List RootDeclaration) (i : ℕ) (r : RootDeclaration) (objects new : Map oref_cmp Object) (o : Object) → i < length rs → r ≡ get_or rs i r → o ≡ (root_object schema r).1 → new ≡ insert objects r.oref o
    → (objects ≡ overwrite empty (map (root_object schema) (take i rs))) × IsSorted objects → (new ≡ overwrite empty (map (root_object schema) (take (i + 1) rs))) × IsSorted new
one_more schema rs i r objects new o within is same put h = (
  put
      ∙ ap (λ (m : Map oref_cmp Object). insert m r.oref o) h.0
      ∙ ap (λ (p : Object). insert (overwrite empty (map (root_object schema) (take i rs))) r.oref p) same
      ∙ sym (ap (λ xs. overwrite empty (map (root_object schema) xs)) (taken rs i r within is) ∙ ap (overwrite empty) (map_end (root_object schema) (take i rs) r) ∙ overwrite_end empty (map (root_object schema) (take i rs)) (root_object schema r)),
  subst IsSorted (sym put) (IsSorted-insert oref_total objects r.oref o h.1),
)

pub loop-root-preserved : goal.loop-root-preserved
loop-root-preserved c = grind (arith, common_steps, one_more c.args.schema.now c.as_slice-root-items.result.now c.loop-root.root-index c.root-item.result c.loop-root.objects c.insert.new.self c.in_ok-root_object.field-0)
