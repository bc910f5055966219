-- That a client whose names at hand nothing refers to finds names for each transaction that creates, and still has
-- such names behind it.
use Rattle.std.proofs.Common.{◌≡◌, ◌⊎◌, Bool, true, false, cond, List, [], ◌∷◌, Option, Some, None, Result, refl, ◌∙◌, inl, inr, IsSomeAnd}
use Rattle.std.specs.List.{AllByRecursion}
use Rattle.std.specs.Prelude.{◌||◌, ◌==◌, find, is_some}
use Rattle.std.proofs.lemmas.Map.Views.{tells_apart}
use Rattle.std.proofs.lemmas.Bool.{or_from, or_right}
use Rattle.thor_value.proofs.NameOrders.{oref_exact}
use Rattle.thor_value.specs.FiniteMap.{get, keys}
use Rattle.thor_value.specs.Names.{same_oref}
use Rattle.thor_value.specs.declared.names.Oref.{Oref}
use Rattle.thor_value.specs.declared.values.Answer.TheVariants as answer
use Rattle.class_defs.proofs.SameNames.{same_itself}
use Rattle.law_renaming.proofs.Renamed.{differ}
use Rattle.law_renaming.proofs.RenamedAfter.{unused_behind, unwritten_behind}
use Rattle.law_renaming.proofs.RenamedStores.{Leaves, created_takeable, defined_with, leaves, no_names_takeable}
use Rattle.law_renaming.proofs.RenamedSupply.{In, all_in}
use Rattle.law_renaming.specs.Renaming.{AtHand, HadNames, Takeable, among}
use Rattle.class_defs.specs.Run.{Ran, begun, execute_all, run, world_of}
use Rattle.class_defs.specs.Touched.{HadObjects}
use Rattle.class_defs.specs.declared.machine.Flow.{Flow}
use Rattle.class_defs.specs.declared.machine.Machine.{Machine}
use Rattle.class_defs.specs.declared.machine.Stop.{Stop}
use Rattle.class_defs.specs.declared.statements.Stmt.{Stmt}
use Rattle.class_defs.specs.declared.store.Object.{Object}
use Rattle.class_defs.specs.declared.store.Plain.{Plain}
use Rattle.class_defs.specs.declared.store.Schema.{Schema}

all_of : (P : Oref → Type 0) (xs : List Oref) → ((x : Oref) → In xs x → P x) → AllByRecursion P xs
all_of P [] f = tt
all_of P (x ∷ xs) f = (f x (inl refl), all_of P xs (λ y i. f y (inr i)))

not_found : (x : Oref) (ys : List Oref) → ¬ (In ys x) → is_some (find (same_oref x) ys) ≡ false
not_found x [] h = refl
not_found x (y ∷ ys) h = rw (differ x y (λ e. h (inl e))) (not_found x ys (λ i. h (inr i)))

found_first : (b : Bool) (y : Oref) (o : Option Oref) → (b ≡ true) ⊎ (is_some o ≡ true) → is_some (cond b (Some y) o) ≡ true
found_first true y o h = refl
found_first false y o (inl e) = cc
found_first false y o (inr e) = e

found_in : (xs : List Oref) (x : Oref) → In xs x → is_some (find (same_oref x) xs) ≡ true
found_in [] x i = absurd i
found_in (a ∷ xs) x (inl e) = found_first (same_oref x a) a _ (inl (rw e (same_itself a)))
found_in (a ∷ xs) x (inr i) = found_first (same_oref x a) a _ (inr (found_in xs x i))

found_first_of : (x : Oref) (ys : List Oref) → is_some (find (same_oref x) ys) ≡ true → In ys x
found_first_of x [] h = cc
found_first_of x (y ∷ ys) h = by (same_oref x y) refl h (found_first_of x ys)
  where
    by : (b : Bool) → same_oref x y ≡ b → is_some (cond b (Some y) (find (same_oref x) ys)) ≡ true
        → (is_some (find (same_oref x) ys) ≡ true → In ys x) → In (y ∷ ys) x
    by true e f rest = inl (tells_apart oref_exact x y e)
    by false e f rest = inr (rest f)

more_true : (a b c : Bool) → (b ≡ true → c ≡ true) → (a || b) ≡ true → (a || c) ≡ true
more_true true b c f e = refl
more_true false b c f e = f e

module _ (schema : Schema) (tx : List Stmt) (store : Plain) (names : List Oref) (at_hand : AtHand names (world_of schema store)) where
  takeable : Takeable (among names) names
  takeable = record {
    new = all_of (λ x. among names x ≡ true) names (λ x i. or_right (x.repo == 255) _ (found_in names x i));
    placed = at_hand.placed;
    once = at_hand.once;
  }

  module _ (o : Result Flow Stop) (m : Machine) (is : execute_all (world_of schema store) tx (begun names None) ≡ (o, m)) (named : HadNames o) where
    abbrev waiting : List Oref
    waiting = m.names.waiting

    created : Takeable (among names) m.created
    created = created_takeable schema tx store (among names) at_hand.unused names takeable o m is named

    abbrev Rest : Type 0
    Rest = Leaves schema tx store (among names) at_hand.unused names takeable o m is named

    rest : Rest
    rest = leaves schema tx store (among names) at_hand.unused names takeable o m is named

    fewer : (x : Oref) → among waiting x ≡ true → among names x ≡ true
    fewer x e = more_true (x.repo == 255) _ _ (λ f. found_in names x (rest.still x (found_first_of x waiting f))) e

    taken : AllByRecursion (λ x. among waiting x ≡ false) m.created
    taken =
        all_of (λ x. among waiting x ≡ false) m.created
        (λ x i. or_from (x.repo == 255) _ (all_in (λ (z : Oref). (z.repo == 255) ≡ false) m.created x created.placed i)
        (not_found x waiting (rest.untaken x i)))

    still_free : (x : Oref) → In waiting x → {o : Option Object} → o ≡ get store.objects x → o ≡ None
    still_free x i e = e ∙ all_in (λ y. get store.objects y ≡ None) names x at_hand.free (rest.still x i)

    left : (r : Ran) → run schema tx store m.created ≡ Some r → AtHand waiting (world_of schema r.store)
    left r defined = record {
      placed = rest.placed;
      once = rest.once;
      free = all_of (λ x. get r.store.objects x ≡ None) waiting (λ x i. still_free x i
          (unwritten_behind schema tx store (among names) at_hand.unused (among waiting) fewer (λ k. refl) m.created r created taken defined x
          (or_right (x.repo == 255) _ (found_in waiting x i))));
      unused = unused_behind schema tx store (among names) at_hand.unused (among waiting) fewer (λ k. refl) m.created r created taken defined;
    }

    pub names_found : run schema tx store [] ≡ None → HadObjects (execute_all (world_of schema store) tx (begun [] (Some 0))).0
        → IsSomeAnd (run schema tx store m.created) (λ r. (r.answer ≡ answer.Ints m.printed) × AtHand m.names.waiting (world_of schema r.store))
    names_found undefined objects =
        let d = defined_with schema tx store (among names) at_hand.unused names takeable o m undefined objects is named in
        both (run schema tx store m.created) refl d
      where
        both : (x : Option Ran) → run schema tx store m.created ≡ x
            → IsSomeAnd x (λ r. (r.answer ≡ answer.Ints m.printed) × (r.touched ≡ keys m.reads))
            → IsSomeAnd x (λ r. (r.answer ≡ answer.Ints m.printed) × AtHand m.names.waiting (world_of schema r.store))
        both (Some r) e h = (h.0, left r e)
        both None e h = h

  pub names_stay : (r : Ran) → run schema tx store [] ≡ Some r → AtHand names (world_of schema r.store)
  names_stay r defined = record {
    placed = at_hand.placed;
    once = at_hand.once;
    free = all_of (λ x. get r.store.objects x ≡ None) names (λ x i.
        unwritten_behind schema tx store (among names) at_hand.unused (among names) (λ y e. e) (λ k. refl) [] r
        (no_names_takeable schema tx store (among names) at_hand.unused) tt defined x (or_right (x.repo == 255) _ (found_in names x i))
        ∙ all_in (λ y. get store.objects y ≡ None) names x at_hand.free i);
    unused =
        unused_behind schema tx store (among names) at_hand.unused (among names) (λ x e. e) (λ k. refl) [] r
        (no_names_takeable schema tx store (among names) at_hand.unused) tt defined;
  }
