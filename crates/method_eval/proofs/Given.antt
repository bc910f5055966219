-- No name is given twice: held names differ and aren't spent, whatever is done with them.
use Rattle.std.proofs.Common.{◌≡◌, ◌<◌, ◌+◌, ◌==◌, ◌&&◌, Bool, true, false, cond, List, [], ◌∷◌, ◌++◌, map, ℕ, zero, suc, refl, ap, sym, ◌∙◌, subst, arith, Option, Some, None}
use Rattle.std.proofs.lemmas.Bool.Decides.{nat_tests}
use Rattle.std.specs.List.{AllByRecursion, IsDistinct, filter, fold, list_all, range_with_len}
use Rattle.std.specs.Prelude.{find, is_some, nat_lt, not}
use Rattle.thor_value.proofs.FiniteMap.{get-insert}
use Rattle.thor_value.proofs.NameOrders.{oref_total}
use Rattle.thor_value.specs.FiniteMap.{Set, add, get, has}
use Rattle.thor_value.specs.Names.{oref_cmp, same_oref}
use Rattle.thor_value.specs.declared.names.Oref.{Oref}
use Rattle.class_defs.proofs.SameNames.{same_itself, one_name}
use Rattle.class_defs.specs.Objects.{stand_in_name}
use Rattle.class_defs.specs.declared.limits.TheConstants.{STAND_IN_LIMIT}
use Rattle.method_eval.proofs.Holding.{freed_names, map_append}
use Rattle.method_eval.specs.Names.{IsSound, Names, drop_repo, free, give, given, grant, has_none_of, is_of_other, next, next_by, next_stand_in, none, orefs, page_names, reset, spend, spend_one, waiting, waits_in}
use Rattle.method_eval.specs.declared.held.Held.{Held}

-- ---- lists of different names

abbrev Apart : Oref → Oref → Type 0
Apart x y = same_oref x y ≡ false

apart_by : (x y : Oref) → ¬ (x ≡ y) → Apart x y
apart_by x y differ = by (same_oref x y) refl
  where
    by : (b : Bool) → same_oref x y ≡ b → same_oref x y ≡ false
    by true is = absurd (differ (one_name x y true is refl))
    by false is = is

apart_back : (x y : Oref) → Apart x y → Apart y x
apart_back x y h = apart_by y x (λ e. let bad : same_oref x x ≡ false = subst (λ z. same_oref x z ≡ false) e h in let k = same_itself x in cc)

all_append : {X : Type 0} (P : X → Type 0) (xs ys : List X) → AllByRecursion P xs → AllByRecursion P ys → AllByRecursion P (xs ++ ys)
all_append P [] ys h g = g
all_append P (x ∷ xs) ys h g = (h.0, all_append P xs ys h.1 g)

all_some : {X : Type 0} (P : X → Type 0) (test : X → Bool) (xs : List X) → AllByRecursion P xs → AllByRecursion P (filter test xs)
all_some P test [] h = tt
all_some P test (x ∷ xs) h = by (test x) (all_some P test xs h.1)
  where
    by : (b : Bool) → AllByRecursion P (filter test xs) → AllByRecursion P (cond b (x ∷ filter test xs) (filter test xs))
    by true rest = (h.0, rest)
    by false rest = rest

all_both : {X : Type 0} (P Q : X → Type 0) (xs : List X) → AllByRecursion P xs → AllByRecursion Q xs → AllByRecursion (λ x. P x × Q x) xs
all_both P Q [] h g = tt
all_both P Q (x ∷ xs) h g = ((h.0, g.0), all_both P Q xs h.1 g.1)

all_same : {X : Type 0} (P Q : X → Type 0) (xs : List X) → ((x : X) → P x → Q x) → AllByRecursion P xs → AllByRecursion Q xs
all_same P Q [] f h = tt
all_same P Q (x ∷ xs) f h = (f x h.0, all_same P Q xs f h.1)

once_append : (xs ys : List Oref) → IsDistinct same_oref xs → IsDistinct same_oref ys → AllByRecursion (λ x. AllByRecursion (Apart x) ys) xs → IsDistinct same_oref (xs ++ ys)
unfolding IsDistinct
once_append [] ys h g apart = g
once_append (x ∷ xs) ys h g apart = (all_append (Apart x) xs ys h.0 apart.0, once_append xs ys h.1 g apart.1)

once_some : (test : Oref → Bool) (xs : List Oref) → IsDistinct same_oref xs → IsDistinct same_oref (filter test xs)
unfolding IsDistinct
once_some test [] h = tt
once_some test (x ∷ xs) h = by (test x) (once_some test xs h.1)
  where
    by : (b : Bool) → IsDistinct same_oref (filter test xs) → IsDistinct same_oref (cond b (x ∷ filter test xs) (filter test xs))
    by true rest = (all_some (Apart x) test xs h.0, rest)
    by false rest = rest

-- ---- held names of which some stay

all_held : (P : Oref → Type 0) (test : Held → Bool) (held : List Held) → AllByRecursion P (orefs held) → AllByRecursion P (orefs (filter test held))
all_held P test [] h = tt
all_held P test (k ∷ held) h = by (test k) (all_held P test held h.1)
  where
    by : (b : Bool) → AllByRecursion P (orefs (filter test held)) → AllByRecursion P (orefs (cond b (k ∷ filter test held) (filter test held)))
    by true rest = (h.0, rest)
    by false rest = rest

once_held : (test : Held → Bool) (held : List Held) → IsDistinct same_oref (orefs held) → IsDistinct same_oref (orefs (filter test held))
unfolding IsDistinct
once_held test [] h = tt
once_held test (k ∷ held) h = by (test k) (once_held test held h.1)
  where
    by : (b : Bool) → IsDistinct same_oref (orefs (filter test held)) → IsDistinct same_oref (orefs (cond b (k ∷ filter test held) (filter test held)))
    by true rest = (all_held (Apart k.oref) test held h.0, rest)
    by false rest = rest

pub drop_sound : (n : Names) (repo : ℕ) → IsSound n → IsSound (drop_repo n repo)
drop_sound n repo s = record {
  once = once_held (λ (h : Held). not (h.oref.repo == repo)) n.held s.once;
  unspent = all_held (λ x. has n.spent x ≡ false) (λ (h : Held). not (h.oref.repo == repo)) n.held s.unspent;
}

-- the same names
same_sound : (n m : Names) → orefs m.held ≡ orefs n.held → m.spent ≡ n.spent → IsSound n → IsSound m
same_sound n m e f s = record {
  once = subst (IsDistinct same_oref) (sym e) s.once;
  unspent = subst (λ (spent : Set oref_cmp). AllByRecursion (λ x. has spent x ≡ false) (orefs m.held)) (sym f) (subst (AllByRecursion (λ x. has n.spent x ≡ false)) (sym e) s.unspent);
}

pub reset_sound : (n : Names) → IsSound n → IsSound (reset n)
reset_sound n s = same_sound n (reset n) (freed_names n.held (reset n).held refl) refl s

-- ---- a page is granted

abbrev slot_of : ℕ → ℕ → ℕ → Oref
slot_of repo page k = record { repo = repo; page = page; slot = k }

slots_after : (repo page j a n : ℕ) → j < a → AllByRecursion (Apart (slot_of repo page j)) (map (slot_of repo page) (range_with_len a n))
slots_after repo page j a zero less = tt
slots_after repo page j a (suc n) less =
    (apart_by (slot_of repo page j) (slot_of repo page a) (λ e. let f : j ≡ a = ap (λ (x : Oref). x.slot) e in absurd (omega (arith, f, less))), slots_after repo page j (a + 1) n (omega (arith, less)))

slots_once : (repo page a n : ℕ) → IsDistinct same_oref (map (slot_of repo page) (range_with_len a n))
unfolding IsDistinct
slots_once repo page a zero = tt
slots_once repo page a (suc n) = (slots_after repo page a (a + 1) n (omega arith), slots_once repo page (a + 1) n)

itself : (k : ℕ) → (k == k) ≡ true
itself k = grind (arith, nat_tests)

of_page : (repo page k : ℕ) (x : Oref) → x ≡ slot_of repo page k → (x.repo == repo && x.page == page) ≡ true
of_page repo page k x e = ap (λ (y : Oref). y.repo == repo && y.page == page) e ∙ ap (λ b. b && page == page) (itself repo) ∙ itself page

other_slots : (repo page a n : ℕ) (x : Oref) → (x.repo == repo && x.page == page) ≡ false → AllByRecursion (Apart x) (map (slot_of repo page) (range_with_len a n))
other_slots repo page a zero x h = tt
other_slots repo page a (suc n) x h = (apart_by x (slot_of repo page a) (λ e. let k = of_page repo page a x e in cc), other_slots repo page (a + 1) n x h)

both : (a b : Bool) → (not a && b) ≡ true → (a ≡ false) × (b ≡ true)
both true b h = cc
both false b h = (refl, h)

free_orefs : (xs : List Oref) → orefs (map free xs) ≡ xs
free_orefs [] = refl
free_orefs (x ∷ xs) = ap (λ (ys : List Oref). x ∷ ys) (free_orefs xs)

pass_unspent : (spent : Set oref_cmp) (xs : List Oref) → AllByRecursion (λ x. has spent x ≡ false) (filter (λ x. not (has spent x)) xs)
pass_unspent spent [] = tt
pass_unspent spent (x ∷ xs) = by (has spent x) refl (pass_unspent spent xs)
  where
    by : (b : Bool) → has spent x ≡ b → AllByRecursion (λ y. has spent y ≡ false) (filter (λ y. not (has spent y)) xs)
        → AllByRecursion (λ y. has spent y ≡ false) (cond (not b) (x ∷ filter (λ y. not (has spent y)) xs) (filter (λ y. not (has spent y)) xs))
    by true is rest = rest
    by false is rest = (is, rest)

pub grant_sound : (n : Names) (repo page : ℕ) → IsSound n → has_none_of n repo page ≡ true → IsSound (grant n repo page)
grant_sound n repo page s away =
    let test : Oref → Bool = λ x. not (has n.spent x) in
    let new : List Oref = filter test (page_names repo page) in
    let e : orefs (grant n repo page).held ≡ orefs n.held ++ new = map_append (λ (h : Held). h.oref) n.held (map free new) ∙ ap (λ (xs : List Oref). orefs n.held ++ xs) (free_orefs new) in
    record {
      once = subst (IsDistinct same_oref) (sym e) (once_append (orefs n.held) new s.once (once_some test (page_names repo page) (slots_once repo page 0 12)) (cross n.held away));
      unspent = subst (AllByRecursion (λ x. has n.spent x ≡ false)) (sym e) (all_append (λ x. has n.spent x ≡ false) (orefs n.held) new s.unspent (pass_unspent n.spent (page_names repo page)));
    }
  where
    cross : (held : List Held) → list_all (is_of_other repo page) held ≡ true
        → AllByRecursion (λ x. AllByRecursion (Apart x) (filter (λ y. not (has n.spent y)) (page_names repo page))) (orefs held)
    cross [] h = tt
    cross (k ∷ held) h =
        let p = both (k.oref.repo == repo && k.oref.page == page) (list_all (is_of_other repo page) held) h in
        (all_some (Apart k.oref) (λ y. not (has n.spent y)) (page_names repo page) (other_slots repo page 0 12 k.oref p.0), cross held p.1)

-- ---- a name is given

give_orefs : (test : Held → Bool) (held : List Held) → orefs (give test held) ≡ orefs held
give_orefs test [] = refl
give_orefs test (k ∷ held) = by (test k) (give_orefs test held)
  where
    by : (b : Bool) → orefs (give test held) ≡ orefs held → orefs (cond b (record k { given = true } ∷ held) (k ∷ give test held)) ≡ k.oref ∷ orefs held
    by true rest = refl
    by false rest = ap (λ (xs : List Oref). k.oref ∷ xs) rest

-- what is given leaves the names, and which are spent
record Keeps (n m : Names) : Type 0 where
  names : orefs m.held ≡ orefs n.held
  spent : m.spent ≡ n.spent

next_keeps : (n : Names) (repo : ℕ) → Keeps n (next repo n).1
next_keeps n repo = by (find (waits_in repo) n.held)
  where
    chosen : (k : ℕ) (b : Bool) → Keeps n (cond {A = Option Oref × Names} b (Some (stand_in_name k), record n { stand_in = Some (k + 1) }) (None, n)).1
    chosen k true = record { names = refl; spent = refl }
    chosen k false = record { names = refl; spent = refl }

    stand_in : (o : Option ℕ) → Keeps n (next_stand_in n o).1
    stand_in None = record { names = refl; spent = refl }
    stand_in (Some k) = chosen k (nat_lt k STAND_IN_LIMIT)

    by : (o : Option Held) → Keeps n (next_by n repo o).1
    by (Some h) = record { names = give_orefs (waits_in repo) n.held; spent = refl }
    by None = stand_in n.stand_in

pub next_sound : (n : Names) (repo : ℕ) → IsSound n → IsSound (next repo n).1
next_sound n repo s = let k = next_keeps n repo in same_sound n (next repo n).1 k.names k.spent s

pub next_stays : (n : Names) (repo : ℕ) (x : Oref) → has n.spent x ≡ true → has (next repo n).1.spent x ≡ true
next_stays n repo x h = subst (λ (spent : Set oref_cmp). has spent x ≡ true) (sym (next_keeps n repo).spent) h

-- the first that waits isn't spent, is none of those that are given, and lies in the repository
abbrev New : Set oref_cmp → List Held → ℕ → Oref → Type 0
New spent held repo x = (has spent x ≡ false) × AllByRecursion (Apart x) (orefs (given held)) × (x.repo ≡ repo)

found_in : (P : Oref → Type 0) (test : Held → Bool) (held : List Held) (h : Held) → find test held ≡ Some h → AllByRecursion P (orefs held) → P h.oref
found_in P test [] h e all = cc
found_in P test (k ∷ held) h e all = by (test k) e (λ f. found_in P test held h f all.1)
  where
    by : (b : Bool) → cond b (Some k) (find test held) ≡ Some h → (find test held ≡ Some h → P h.oref) → P h.oref
    by true f rest = subst (λ (z : Held). P z.oref) (let g : k ≡ h = cc in g) all.0
    by false f rest = rest f

same_number : (a b : ℕ) → (a == b) ≡ true → a ≡ b
same_number a b h = grind (arith, nat_tests)

first_new : (spent : Set oref_cmp) (repo : ℕ) (held : List Held) (h : Held) → find (waits_in repo) held ≡ Some h
    → IsDistinct same_oref (orefs held) → AllByRecursion (λ x. has spent x ≡ false) (orefs held) → New spent held repo h.oref
unfolding IsDistinct
first_new spent repo [] h e once unspent = cc
first_new spent repo (k ∷ held) h e once unspent = by k.given (k.oref.repo == repo) refl e (λ f. first_new spent repo held h f once.1 unspent.1)
  where
    by : (g b : Bool) → (k.oref.repo == repo) ≡ b → cond (not g && b) (Some k) (find (waits_in repo) held) ≡ Some h → (find (waits_in repo) held ≡ Some h → New spent held repo h.oref)
        → (has spent h.oref ≡ false) × AllByRecursion (Apart h.oref) (orefs (cond g (k ∷ given held) (given held))) × (h.oref.repo ≡ repo)
    by false true is f rest =
        let same : k ≡ h = cc in
        subst (λ (z : Held). (has spent z.oref ≡ false) × AllByRecursion (Apart z.oref) (orefs (given held)) × (z.oref.repo ≡ repo)) same
        (unspent.0, all_held (Apart k.oref) (λ (z : Held). z.given) held once.0, same_number k.oref.repo repo is)
    by false false is f rest = rest f
    by true b is f rest = let r = rest f in (r.0, (apart_back k.oref h.oref (found_in (Apart k.oref) (waits_in repo) held h f once.0), r.1), r.2)

pub next_new : (n : Names) (repo : ℕ) (x : Oref) → IsSound n → n.stand_in ≡ None → (next repo n).0 ≡ Some x → New n.spent n.held repo x
next_new n repo x s none e = by (find (waits_in repo) n.held) refl e
  where
    nothing : (o : Option ℕ) → o ≡ None → (next_stand_in n o).0 ≡ Some x → New n.spent n.held repo x
    nothing None is f = cc
    nothing (Some k) is f = cc

    by : (o : Option Held) → find (waits_in repo) n.held ≡ o → (next_by n repo o).0 ≡ Some x → New n.spent n.held repo x
    by (Some h) is f = subst (New n.spent n.held repo) (let g : h.oref ≡ x = cc in g) (first_new n.spent repo n.held h is s.once s.unspent)
    by None is f = nothing n.stand_in none f

-- ---- names are spent

has_added : (spent : Set oref_cmp) (x y : Oref) → has (add spent x) y ≡ is_some (cond (same_oref y x) (Some tt) (get spent y))
has_added spent x y = ap is_some (get-insert oref_total spent x tt y)

still_has : (spent : Set oref_cmp) (h : Held) (x : Oref) → has spent x ≡ true → has (spend_one spent h) x ≡ true
still_has spent h x is = by h.given
  where
    either : (b : Bool) → is_some (cond b (Some tt) (get spent x)) ≡ true
    either true = refl
    either false = is

    by : (g : Bool) → has (cond g (add spent h.oref) spent) x ≡ true
    by true = has_added spent h.oref x ∙ either (same_oref x h.oref)
    by false = is

all_keep : (spent : Set oref_cmp) (held : List Held) (x : Oref) → has spent x ≡ true → has (fold spend_one spent held) x ≡ true
all_keep spent [] x h = h
all_keep spent (k ∷ held) x h = all_keep (spend_one spent k) held x (still_has spent k x h)

pub spend_stays : (n : Names) (x : Oref) → has n.spent x ≡ true → has (spend n).spent x ≡ true
spend_stays n x h = all_keep n.spent n.held x h

given_spent : (spent : Set oref_cmp) (held : List Held) → AllByRecursion (λ x. has (fold spend_one spent held) x ≡ true) (orefs (given held))
given_spent spent [] = tt
given_spent spent (k ∷ held) = by k.given (λ s. given_spent s held)
  where
    by : (g : Bool) → ((s : Set oref_cmp) → AllByRecursion (λ x. has (fold spend_one s held) x ≡ true) (orefs (given held)))
        → AllByRecursion (λ x. has (fold spend_one (cond g (add spent k.oref) spent) held) x ≡ true) (orefs (cond g (k ∷ given held) (given held)))
    by true rest =
        (all_keep (add spent k.oref) held k.oref (has_added spent k.oref k.oref ∙ ap (λ b. is_some (cond b (Some tt) (get spent k.oref))) (same_itself k.oref)), rest (add spent k.oref))
    by false rest = rest spent

pub spend_spent : (n : Names) → AllByRecursion (λ x. has (spend n).spent x ≡ true) (orefs (given n.held))
spend_spent n = given_spent n.spent n.held

left_unspent : (spent : Set oref_cmp) (held : List Held) (x : Oref) → has spent x ≡ false → AllByRecursion (Apart x) (orefs (given held)) → has (fold spend_one spent held) x ≡ false
left_unspent spent [] x h apart = h
left_unspent spent (k ∷ held) x h apart = by k.given apart (λ s i a. left_unspent s held x i a)
  where
    by : (g : Bool) → AllByRecursion (Apart x) (orefs (cond g (k ∷ given held) (given held)))
        → ((s : Set oref_cmp) → has s x ≡ false → AllByRecursion (Apart x) (orefs (given held)) → has (fold spend_one s held) x ≡ false)
        → has (fold spend_one (cond g (add spent k.oref) spent) held) x ≡ false
    by true a rest = rest (add spent k.oref) (has_added spent k.oref x ∙ ap (λ b. is_some (cond b (Some tt) (get spent x))) a.0 ∙ h) a.1
    by false a rest = rest spent h a

waiting_apart : (held : List Held) → IsDistinct same_oref (orefs held) → AllByRecursion (λ x. AllByRecursion (Apart x) (orefs (given held))) (orefs (waiting held))
unfolding IsDistinct
waiting_apart [] h = tt
waiting_apart (k ∷ held) h = by k.given (waiting_apart held h.1)
  where
    by : (g : Bool) → AllByRecursion (λ x. AllByRecursion (Apart x) (orefs (given held))) (orefs (waiting held))
        → AllByRecursion (λ x. AllByRecursion (Apart x) (orefs (cond g (k ∷ given held) (given held)))) (orefs (cond (not g) (k ∷ waiting held) (waiting held)))
    by true rest =
        all_both (λ x. Apart x k.oref) (λ x. AllByRecursion (Apart x) (orefs (given held))) (orefs (waiting held))
        (all_held (λ x. Apart x k.oref) (λ (z : Held). not z.given) held (all_same (Apart k.oref) (λ x. Apart x k.oref) (orefs held) (λ x a. apart_back k.oref x a) h.0)) rest
    by false rest = (all_held (Apart k.oref) (λ (z : Held). z.given) held h.0, rest)

pub spend_sound : (n : Names) → IsSound n → IsSound (spend n)
spend_sound n s = record {
  once = once_held (λ (h : Held). not h.given) n.held s.once;
  unspent =
      all_same (λ x. AllByRecursion (Apart x) (orefs (given n.held)) × (has n.spent x ≡ false)) (λ x. has (spend n).spent x ≡ false) (orefs (waiting n.held))
      (λ x a. left_unspent n.spent n.held x a.1 a.0)
      (all_both (λ x. AllByRecursion (Apart x) (orefs (given n.held))) (λ x. has n.spent x ≡ false) (orefs (waiting n.held)) (waiting_apart n.held s.once)
      (all_held (λ x. has n.spent x ≡ false) (λ (h : Held). not h.given) n.held s.unspent));
}

pub none_sound : IsSound none
unfolding IsDistinct
none_sound = record { once = tt; unspent = tt }
