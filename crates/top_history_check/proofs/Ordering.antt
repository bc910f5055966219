-- Client order, entry by entry.
use Rattle.std.proofs.Common.{◌≡◌, ◌<◌, ◌≤◌, ◌+◌, ℕ, length, take, get_or, Bool, true, false, cond, List, [], ◌∷◌, ◌++◌, Option, None, Some, refl, ap, sym, ◌∙◌, subst, arith, ◌==◌}
use Rattle.std.proofs.lemmas.Bool.Decides.{nat_tests}
use Rattle.std.proofs.lemmas.Cmp.{nat_cmp_total}
use Rattle.std.proofs.lemmas.List.{take_more}
use Rattle.std.specs.List.{AllByRecursion}
use Rattle.std.specs.Ordering.{eq_by_cmp, nat_cmp}
use Rattle.thor_value.proofs.FiniteMap.{get-insert}
use Rattle.thor_value.specs.FiniteMap.{Map, empty, get, insert}
use Rattle.serial_model.specs.Outcomes.{AreInClientOrder}
use Rattle.serial_model.specs.declared.entries.Did.{Did}
use Rattle.top_history_check.specs.Order.{EndsWith, IsAbove, IsGreatest}

all_behind : (P : Did → Type 0) (h : List Did) (d : Did) → AllByRecursion P h → P d → AllByRecursion P (h ++ d ∷ [])
all_behind P [] d all p = (p, tt)
all_behind P (e ∷ es) d all p = (all.0, all_behind P es d all.1 p)

all_weaker : (P Q : Did → Type 0) (h : List Did) → ((d : Did) → P d → Q d) → AllByRecursion P h → AllByRecursion Q h
all_weaker P Q [] weaker all = tt
all_weaker P Q (e ∷ es) weaker all = (weaker e all.0, all_weaker P Q es weaker all.1)

ordered : (h : List Did) (d : Did) → AreInClientOrder h → AllByRecursion (λ e. e.who.client ≡ d.who.client → e.who.index < d.who.index) h → AreInClientOrder (h ++ d ∷ [])
ordered [] d order below = (tt, tt)
ordered (e ∷ es) d order below = (all_behind _ es d order.0 below.0, ordered es d order.1 below.1)

pub nothing : EndsWith empty []
nothing = record { in_order = tt; greatest = λ client. tt }

same_test : (a b : ℕ) → eq_by_cmp nat_cmp a b ≡ (a == b)
same_test a b = grind (arith, nat_tests)

below : (h : List Did) (client index : ℕ) (last : Option ℕ) → IsAbove last index → IsGreatest h client last → AllByRecursion (λ e. e.who.client ≡ client → e.who.index < index) h
below h client index None above greatest = all_weaker _ _ h (λ e none same. absurd (none same)) greatest
below h client index (Some last) above greatest = all_weaker _ _ h (λ e le same. let a : last < index = above in let b : e.who.index ≤ last = le same in omega (arith, a, b)) greatest

up_to : (h : List Did) (d : Did) → AllByRecursion (λ e. e.who.client ≡ d.who.client → e.who.index < d.who.index) h → AllByRecursion (λ e. e.who.client ≡ d.who.client → e.who.index ≤ d.who.index) (h ++ d ∷ [])
up_to h d low = all_behind _ h d (all_weaker _ _ h (λ e less same. omega (arith, less same)) low) (λ same. omega (arith))

others : (h : List Did) (d : Did) (client : ℕ) (last : Option ℕ) → (d.who.client ≡ client → ⊥) → IsGreatest h client last → IsGreatest (h ++ d ∷ []) client last
others h d client None differ greatest = all_behind _ h d greatest differ
others h d client (Some last) differ greatest = all_behind _ h d greatest (λ same. absurd (differ same))

pub next : (last : Map nat_cmp ℕ) (h : List Did) (d : Did) → IsAbove (get last d.who.client) d.who.index → EndsWith last h → EndsWith (insert last d.who.client d.who.index) (h ++ d ∷ [])
next last h d above ends = record { in_order = ordered h d ends.in_order low; greatest = greatest }
  where
    low : AllByRecursion (λ e. e.who.client ≡ d.who.client → e.who.index < d.who.index) h
    low = below h d.who.client d.who.index (get last d.who.client) above (ends.greatest d.who.client)

    by_client : (client : ℕ) (b : Bool) → (client == d.who.client) ≡ b → IsGreatest (h ++ d ∷ []) client (cond b (Some d.who.index) (get last client))
    by_client client true e = let same : d.who.client ≡ client = grind (arith, nat_tests, e) in subst (λ c. IsGreatest (h ++ d ∷ []) c (Some d.who.index)) same (up_to h d low)
    by_client client false e = others h d client (get last client) (λ same. let t : (client == d.who.client) ≡ true = grind (arith, nat_tests, same) in cc) (ends.greatest client)

    greatest : (client : ℕ) → IsGreatest (h ++ d ∷ []) client (get (insert last d.who.client d.who.index) client)
    greatest client = subst (IsGreatest (h ++ d ∷ []) client) (sym (get-insert nat_cmp_total last d.who.client d.who.index client ∙ ap (λ b. cond b (Some d.who.index) (get last client)) (same_test client d.who.client))) (by_client client (client == d.who.client) refl)

-- the entry at a place is put behind those before it
pub one_more : (last new : Map nat_cmp ℕ) (h : List Did) (i : ℕ) (d : Did) → i < length h → d ≡ get_or h i d → IsAbove (get last d.who.client) d.who.index → new ≡ insert last d.who.client d.who.index
    → EndsWith last (take i h) → EndsWith new (take (i + 1) h)
one_more last new h i d within is above put ends =
    let P : List Did → Type 0 = λ es. EndsWith new es in
    let Q : Map nat_cmp ℕ → Type 0 = λ m. EndsWith m (take i h ++ d ∷ []) in
    subst P (sym (take_more h i d within ∙ ap (λ (e : Did). take i h ++ e ∷ []) (sym is))) (subst Q (sym put) (next last (take i h) d above ends))

-- the same where the entry is told by its place
pub one_more_at : (last new : Map nat_cmp ℕ) (h : List Did) (i : ℕ) (d : Did) → i < length h → d ≡ get_or h i d → IsAbove (get last (get_or h i d).who.client) (get_or h i d).who.index → new ≡ insert last (get_or h i d).who.client (get_or h i d).who.index
    → EndsWith last (take i h) → EndsWith new (take (i + 1) h)
one_more_at last new h i d within is above put ends =
    let P : Did → Type 0 = λ e. IsAbove (get last e.who.client) e.who.index in
    let Q : Did → Type 0 = λ e. new ≡ insert last e.who.client e.who.index in
    one_more last new h i d within is (subst P (sym is) above) (subst Q (sym is) put) ends
