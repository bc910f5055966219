-- Names once each are all the names, so what agrees on them agrees on all that is read.
use Rattle.std.proofs.Common.{◌≡◌, Bool, true, false, cond, List, [], ◌∷◌, ℕ, Option, Some, None, is_some, refl, ap, sym, ◌∙◌, subst}
use Rattle.std.proofs.lemmas.Map.Views.{tells_apart}
use Rattle.std.specs.Ordering.{eq_by_cmp}
use Rattle.std.specs.Prelude.{find, not}
use Rattle.thor_value.proofs.FiniteMap.{get-insert}
use Rattle.thor_value.proofs.NameOrders.{oref_exact, oref_total}
use Rattle.thor_value.specs.FiniteMap.{Set, add, get, has}
use Rattle.thor_value.specs.Names.{oref_cmp}
use Rattle.thor_value.specs.declared.names.Oref.{Oref}
use Rattle.thor_value.specs.declared.values.Obj.{Obj}
use Rattle.class_defs.specs.Eager.{brought, value as value_of}
use Rattle.class_defs.specs.Stored.{Objects, Stored, in_epoch}
use Rattle.class_defs.specs.declared.store.Schemas.{Schemas}
use Rattle.lazy_transform.proofs.Alike.{right_of}
use Rattle.lazy_transform.proofs.ReadAlike.{first_among, same_first, values_alike}
use Rattle.lazy_transform.specs.Reads.{SameOn, reads}
use Rattle.lazy_transform.specs.Wants.{each_once, part_or_all, unseen, wanted}
use Rattle.lazy_transform.specs.declared.wanted.Wanted.TheVariants.{All}

module _ {X : Type 0} (f g : Oref → Option X) where
  -- both have the same at the names that were seen
  abbrev SameAtSeen : Set oref_cmp → Type 0
  SameAtSeen seen = (y : Oref) → has seen y ≡ true → g y ≡ f y

  seen_by : (seen : Set oref_cmp) (x y : Oref) (b : Bool) → eq_by_cmp oref_cmp y x ≡ b → g x ≡ f x → SameAtSeen seen → has (add seen x) y ≡ true → g y ≡ f y
  seen_by seen x y true e one rest h = subst (λ z. g z ≡ f z) (sym (tells_apart oref_exact y x e)) one
  seen_by seen x y false e one rest h =
      rest y (sym (ap is_some (get-insert oref_total seen x tt y ∙ ap (λ c. cond c (Some tt) (get seen y)) e)) ∙ h)

  same_by : (seen : Set oref_cmp) (x : Oref) (xs : List Oref) (b : Bool) → has seen x ≡ b
      → ((before : Set oref_cmp) → SameOn (unseen before xs) f g → SameAtSeen before → SameOn xs f g)
      → SameOn (cond b (unseen seen xs) (x ∷ unseen (add seen x) xs)) f g → SameAtSeen seen → SameOn (x ∷ xs) f g
  same_by seen x xs true e later h rest = same_first x xs f g (rest x e) (later seen h rest)
  same_by seen x xs false e later h rest =
      let one = h x (first_among x (unseen (add seen x) xs)) in
      same_first x xs f g one
      (later (add seen x) (right_of (x ∷ []) (unseen (add seen x) xs) f g h) (λ y. seen_by seen x y (eq_by_cmp oref_cmp y x) refl one rest))

  same_unseen : (seen : Set oref_cmp) (xs : List Oref) → SameOn (unseen seen xs) f g → SameAtSeen seen → SameOn xs f g
  same_unseen seen [] h rest = h
  same_unseen seen (x ∷ xs) h rest = same_by seen x xs (has seen x) refl (λ before. same_unseen before xs) h rest

  same_once : (xs : List Oref) → SameOn (each_once xs) f g → SameOn xs f g
  same_once xs h = same_unseen _ xs h (λ y e. cc)

all_names : (w : Option Oref) (xs names : List Oref) → part_or_all w xs ≡ All names → each_once xs ≡ names
all_names None xs names h = cc
all_names (Some z) xs names h = cc

-- what was made over the objects at hand is what a stored map's object is brought to, where they agree on what is wanted
pub brought_is : (s : Schemas) (m : Objects) (k : ℕ) (o b : Obj) → b ≡ in_epoch k (value_of s m k o)
    → (L : Stored) (names : List Oref) → L.epoch ≡ k → wanted s m k o ≡ All names → SameOn names (get m) (get L.objects) → b ≡ brought s L o
brought_is s m k o b is L names epoch all same =
    let once = all_names (find (λ z. not (has m z)) (reads s m k o)) (reads s m k o) names all in
    let read = same_once (get m) (get L.objects) (reads s m k o) (subst (λ xs. SameOn xs (get m) (get L.objects)) (sym once) same) in
    is ∙ ap (in_epoch k) (sym (values_alike s m L.objects k o read).value)
    ∙ ap (λ n. in_epoch n (value_of s L.objects n o)) (sym epoch)
