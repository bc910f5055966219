-- Gathering the objects that are read: what covers more, and how gathering goes on.
use Rattle.std.proofs.Common.{◌≡◌, arith, Bool, true, false, cond, List, [], ◌∷◌, ◌++◌, Option, Some, None, refl, ap, sym, ◌∙◌, subst, inl, inr, ◌⊎◌}
use Rattle.std.proofs.lemmas.Cmp.{eq_by_cmp_equiv}
use Rattle.std.proofs.lemmas.List.Elements.{Contains-append_right, Contains-push_cases}
use Rattle.std.proofs.lemmas.Map.Views.{tells_apart}
use Rattle.std.specs.List.{Contains}
use Rattle.std.specs.Ordering.{eq_by_cmp}
use Rattle.thor_value.proofs.FiniteMap.{get-insert}
use Rattle.thor_value.proofs.NameOrders.{oref_exact, oref_total}
use Rattle.thor_value.specs.FiniteMap.{Map, empty, get, insert}
use Rattle.thor_value.specs.Names.{oref_cmp}
use Rattle.thor_value.specs.declared.names.Oref.{Oref}
use Rattle.class_defs.specs.declared.store.Object.{Object}
use Rattle.lazy_transform.specs.Walked.{Covers}

nothing_in : (x : Oref) → Contains [] x → ⊥
nothing_in x c = omega (arith, c.1)

-- nothing was gathered yet
pub covers_nothing : (all : Oref → Option Object) (parts : Map oref_cmp Object) → parts ≡ empty → Covers [] (get parts) all
covers_nothing all parts is = subst (λ (m : Map oref_cmp Object). Covers [] (get m) all) (sym is) (record {
  agree = λ x c. absurd (nothing_in x c);
  only = λ x v h. cc;
})

-- an object of the store is put to those that were gathered
module _ (names : List Oref) (parts : Map oref_cmp Object) (all : Oref → Option Object) (z : Oref) (v : Object)
    (covers : Covers names (get parts) all) (is : all z ≡ Some v) where
  at : (x : Oref) (b : Bool) → eq_by_cmp oref_cmp x z ≡ b → get (insert parts z v) x ≡ cond b (Some v) (get parts x)
  at x b h = get-insert oref_total parts z v x ∙ ap (λ c. cond c (Some v) (get parts x)) h

  it : (x : Oref) → eq_by_cmp oref_cmp x z ≡ true → get (insert parts z v) x ≡ all x
  it x h = at x true h ∙ sym is ∙ ap all (sym (tells_apart oref_exact x z h))

  agrees : (x : Oref) → Contains names x ⊎ (z ≡ x) → (b : Bool) → eq_by_cmp oref_cmp x z ≡ b → get (insert parts z v) x ≡ all x
  agrees x c true h = it x h
  agrees x (inl c) false h = at x false h ∙ covers.agree x c
  agrees x (inr e) false h = it x (subst (λ y. eq_by_cmp oref_cmp x y ≡ true) (sym e) ((eq_by_cmp_equiv oref_total).refl x))

  holds : (x : Oref) (w : Object) (b : Bool) → eq_by_cmp oref_cmp x z ≡ b → get (insert parts z v) x ≡ Some w → all x ≡ Some w
  holds x w true h g = sym (it x h) ∙ g
  holds x w false h g = covers.only x w (sym (at x false h) ∙ g)

  pub covers_more : Covers (names ++ z ∷ []) (get (insert parts z v)) all
  covers_more = record {
    agree = λ x c. agrees x (Contains-push_cases names z x c) (eq_by_cmp oref_cmp x z) refl;
    only = λ x w g. holds x w (eq_by_cmp oref_cmp x z) refl g;
  }

-- an object that the store lacks is none that was gathered
module _ (names : List Oref) (parts all : Oref → Option Object) (z : Oref) (covers : Covers names parts all) (is : all z ≡ None) where
  lacks : (w : Option Object) → parts z ≡ w → w ≡ all z
  lacks None h = sym is
  lacks (Some v) h = sym (covers.only z v h)

  both_lack : (x : Oref) → Contains names x ⊎ (z ≡ x) → parts x ≡ all x
  both_lack x (inl c) = covers.agree x c
  both_lack x (inr e) = subst (λ y. parts y ≡ all y) e (lacks (parts z) refl)

  pub covers_lacking : Covers (names ++ z ∷ []) parts all
  covers_lacking = record { agree = λ x c. both_lack x (Contains-push_cases names z x c); only = covers.only }

-- what covers names covers those behind others
pub covers_last : (xs ys : List Oref) (parts all : Oref → Option Object) → Covers (xs ++ ys) parts all → Covers ys parts all
covers_last xs ys parts all c = record { agree = λ x h. c.agree x (Contains-append_right xs ys x h); only = c.only }
