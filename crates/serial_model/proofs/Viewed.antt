-- The view of a whole store at its epoch.
use Rattle.std.proofs.Common.{◌≡◌, ℕ, List, [], ◌∷◌, map, refl, ap, sym, subst, ◌∙◌}
use Rattle.std.specs.List.{AllByRecursion}
use Rattle.std.specs.List.Sorted.{IsStrictlySortedBy}
use Rattle.std.specs.Map.{keys_of}
use Rattle.thor_value.specs.Names.{oref_cmp}
use Rattle.thor_value.specs.declared.names.Oref.{Oref}
use Rattle.thor_value.specs.declared.values.Obj.{Obj}
use Rattle.class_defs.specs.declared.store.Object.{Object}
use Rattle.class_defs.specs.declared.store.Plain.{Plain}
use Rattle.method_eval.specs.Answers.{stored_at}
use Rattle.method_eval.specs.declared.view.View.{View}
use Rattle.serial_model.specs.Whole.{bare_pair, plain, IsOfItsEpoch}
use Rattle.serial_model.proofs.SortedMaps.{order_kept}

bare_stored : (epoch : ℕ) (es : List (Oref × Object)) → map bare_pair (stored_at epoch es) ≡ es
bare_stored epoch [] = refl
bare_stored epoch (e ∷ es) = ap (λ (fs : List (Oref × Object)). e ∷ fs) (bare_stored epoch es)

stored_epoch : (epoch : ℕ) (es : List (Oref × Object)) → AllByRecursion (λ p. p.1.ver ≡ epoch) (stored_at epoch es)
stored_epoch epoch [] = tt
stored_epoch epoch (e ∷ es) = (refl, stored_epoch epoch es)

-- a store's objects, stored at its epoch, are the store
pub whole_again : (store : Plain) (view : View) → view.objects.pairs ≡ stored_at store.epoch store.objects.pairs → view.epoch ≡ store.epoch → plain store.roots view ≡ store
whole_again store view is e =
    ap (λ (es : List (Oref × Object)). record { objects = record { pairs = es }; epoch = view.epoch; roots = store.roots }) (ap (map bare_pair) is ∙ bare_stored store.epoch store.objects.pairs)
    ∙ ap (λ (n : ℕ). record store { epoch = n }) e

pub of_epoch : (view : View) (epoch : ℕ) (es : List (Oref × Object)) → view.objects.pairs ≡ stored_at epoch es → view.epoch ≡ epoch → IsOfItsEpoch view
of_epoch view epoch es is e = subst (λ (n : ℕ). AllByRecursion (λ p. p.1.ver ≡ n) view.objects.pairs) (sym e) (subst (AllByRecursion (λ p. p.1.ver ≡ epoch)) (sym is) (stored_epoch epoch es))

pub stored_order : (epoch : ℕ) (es : List (Oref × Object)) (fs : List (Oref × Obj)) → fs ≡ stored_at epoch es → IsStrictlySortedBy oref_cmp (keys_of es) → IsStrictlySortedBy oref_cmp (keys_of fs)
stored_order epoch es fs is sorted = order_kept oref_cmp (λ (p : Oref × Object). let o : Obj = record { class = p.1.class; ver = epoch; fields = p.1.fields } in o) es fs is sorted
