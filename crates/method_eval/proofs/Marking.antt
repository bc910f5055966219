-- Marks of spent names: which names they tell as spent, and that each held name keeps its mark.
use Rattle.std.proofs.Common.{◌≡◌, Bool, true, false, cond, List, [], ◌∷◌, ◌++◌, map, length, take, ℕ, zero, suc, refl, ap, sym, ◌∙◌, subst, ◌<◌, get_or, arith}
use Rattle.std.proofs.lemmas.Cmp.{tied_itself}
use Rattle.std.specs.BTreeMap.{insert_entry, is_at}
use Rattle.std.specs.List.{AllByRecursion, filter, range_with_len}
use Rattle.std.specs.List.Sorted.{IsStrictlySortedBy}
use Rattle.std.specs.Map.{keys_of, lookup}
use Rattle.std.specs.Ordering.{eq_by_cmp, is_eq}
use Rattle.std.specs.Prelude.{Option, Some, None, is_some, Result, Ok, Err, OnOk, OnErr}
use Rattle.std.specs.declared.cmp.Ordering.{Ordering}
use Rattle.std.specs.declared.cmp.Ordering.TheVariants.{Less, Equal, Greater}
use Rattle.thor_value.proofs.FiniteMap.{IsSorted-insert, get-insert, same_map}
use Rattle.thor_value.proofs.NameOrders.{oref_exact, oref_total}
use Rattle.thor_value.specs.FiniteMap.{IsSorted, Map, add, get, has, insert}
use Rattle.thor_value.specs.Names.{oref_cmp}
use Rattle.thor_value.specs.declared.names.Oref.{Oref}
use Rattle.method_eval.specs.Marks.{AreMarked, spent_in}
use Rattle.method_eval.specs.Names.{free, spend_one}
use Rattle.method_eval.specs.declared.held.Held.{Held}

-- ---- which names are told as spent

abbrev told : Option Bool → Option (Unit {0})
told None = None
told (Some true) = Some tt
told (Some false) = None

abbrev named : Oref × Bool → Oref × Unit {0}
named e = (e.0, tt)

abbrev spent_pairs : List (Oref × Bool) → List (Oref × Unit {0})
spent_pairs es = map named (filter (λ e. e.1) es)

-- with one more in front, where it is marked
abbrev with_one : Bool → Oref × Bool → List (Oref × Bool) → List (Oref × Unit {0})
with_one b e es = map named (cond b (e ∷ filter (λ (f : Oref × Bool). f.1) es) (filter (λ (f : Oref × Bool). f.1) es))

below_spent : (x : Oref) (es : List (Oref × Bool)) → AllByRecursion (λ y. oref_cmp x y ≡ Less) (keys_of es) → AllByRecursion (λ y. oref_cmp x y ≡ Less) (keys_of (spent_pairs es))
below_spent x [] h = tt
below_spent x (e ∷ es) h = by e.1 (below_spent x es h.1)
  where
    by : (b : Bool) → AllByRecursion (λ y. oref_cmp x y ≡ Less) (keys_of (spent_pairs es)) → AllByRecursion (λ y. oref_cmp x y ≡ Less) (keys_of (with_one b e es))
    by true rest = (h.0, rest)
    by false rest = rest

spent_sorted : (es : List (Oref × Bool)) → IsStrictlySortedBy oref_cmp (keys_of es) → IsStrictlySortedBy oref_cmp (keys_of (spent_pairs es))
unfolding IsStrictlySortedBy
spent_sorted [] h = tt
spent_sorted (e ∷ es) h = by e.1 (spent_sorted es h.1)
  where
    by : (b : Bool) → IsStrictlySortedBy oref_cmp (keys_of (spent_pairs es)) → IsStrictlySortedBy oref_cmp (keys_of (with_one b e es))
    by true rest = (below_spent e.0 es h.0, rest)
    by false rest = rest

none_below : {X : Type 0} (k j : Oref) (es : List (Oref × X)) → oref_cmp k j ≡ Less → AllByRecursion (λ y. oref_cmp j y ≡ Less) (keys_of es) → lookup (is_at (oref_cmp k)) es ≡ None
none_below k j [] l h = refl
none_below k j (e ∷ es) l h = let f : oref_cmp k e.0 ≡ Less = oref_total.trans k j e.0 l h.0 in rw f (none_below k j es l h.1)

none_behind : {X : Type 0} (k j : Oref) (es : List (Oref × X)) → oref_cmp k j ≡ Equal → AllByRecursion (λ y. oref_cmp j y ≡ Less) (keys_of es) → lookup (is_at (oref_cmp k)) es ≡ None
none_behind k j [] e h = refl
none_behind k j (e ∷ es) same h =
    let f : oref_cmp k e.0 ≡ Less = subst (λ z. oref_cmp z e.0 ≡ Less) (sym (oref_exact k j same)) h.0 in
    rw f (none_behind k j es same h.1)

get_pairs : (q : Oref) (es : List (Oref × Bool)) → IsStrictlySortedBy oref_cmp (keys_of es) → lookup (is_at (oref_cmp q)) (spent_pairs es) ≡ told (lookup (is_at (oref_cmp q)) es)
unfolding IsStrictlySortedBy
get_pairs q [] h = refl
get_pairs q (e ∷ es) h = by e.1 (oref_cmp q e.0) refl (get_pairs q es h.1)
  where
    by : (b : Bool) (o : Ordering) → oref_cmp q e.0 ≡ o → lookup (is_at (oref_cmp q)) (spent_pairs es) ≡ told (lookup (is_at (oref_cmp q)) es)
        → lookup (is_at (oref_cmp q)) (with_one b e es) ≡ told (cond (is_eq o) (Some b) (lookup (is_at (oref_cmp q)) es))
    by true Equal is rest = rw is refl
    by true Less is rest = rw is rest
    by true Greater is rest = rw is rest
    by false Equal is rest = none_behind q e.0 (spent_pairs es) is (below_spent e.0 es h.0)
    by false Less is rest = rest
    by false Greater is rest = rest

pub get_spent : (m : Map oref_cmp Bool) (q : Oref) → IsSorted m → get (spent_in m) q ≡ told (get m q)
get_spent m q h = get_pairs q m.pairs h

some_told : (o : Option Bool) (b : Bool) → o ≡ Some b → b ≡ is_some (told o)
some_told (Some true) b e = cc
some_told (Some false) b e = cc
some_told None b e = cc

none_told : (o : Option Bool) → o ≡ None → false ≡ is_some (told o)
none_told (Some b) e = cc
none_told None e = refl

pub has_spent : (m : Map oref_cmp Bool) (x : Oref) (b : Bool) → IsSorted m → get m x ≡ Some b → b ≡ has (spent_in m) x
has_spent m x b h is = some_told (get m x) b is ∙ sym (ap is_some (get_spent m x h))

pub has_not_spent : (m : Map oref_cmp Bool) (x : Oref) → IsSorted m → get m x ≡ None → false ≡ has (spent_in m) x
has_not_spent m x h is = none_told (get m x) is ∙ sym (ap is_some (get_spent m x h))

-- ---- one more mark

equal : (o : Ordering) → is_eq o ≡ true → o ≡ Equal
equal Equal h = refl
equal Less h = cc
equal Greater h = cc

one : (x y : Oref) → eq_by_cmp oref_cmp x y ≡ true → x ≡ y
one x y h = oref_exact x y (equal (oref_cmp x y) h)

-- a new name isn't spent
pub room_made : (m : Map oref_cmp Bool) (x : Oref) → IsSorted m → has m x ≡ false → spent_in (insert m x false) ≡ spent_in m
room_made m x h absent =
    same_map oref_total oref_exact _ _ (spent_sorted (insert m x false).pairs (IsSorted-insert oref_total m x false h)) (spent_sorted m.pairs h)
    (λ q. get_spent (insert m x false) q (IsSorted-insert oref_total m x false h)
    ∙ ap told (get-insert oref_total m x false q)
    ∙ by q (eq_by_cmp oref_cmp q x) refl
    ∙ sym (get_spent m q h))
  where
    none : (o : Option Bool) → is_some o ≡ false → o ≡ None
    none None e = refl
    none (Some b) e = cc

    by : (q : Oref) (b : Bool) → eq_by_cmp oref_cmp q x ≡ b → told (cond b (Some false) (get m q)) ≡ told (get m q)
    by q true is = sym (ap told (ap (get m) (one q x is) ∙ none (get m x) absent))
    by q false is = refl

-- a name is marked as spent
pub mark_made : (m : Map oref_cmp Bool) (x : Oref) → IsSorted m → spent_in (insert m x true) ≡ add (spent_in m) x
mark_made m x h =
    same_map oref_total oref_exact _ _ (spent_sorted (insert m x true).pairs (IsSorted-insert oref_total m x true h))
    (IsSorted-insert oref_total (spent_in m) x tt (spent_sorted m.pairs h))
    (λ q. get_spent (insert m x true) q (IsSorted-insert oref_total m x true h)
    ∙ ap told (get-insert oref_total m x true q)
    ∙ by (eq_by_cmp oref_cmp q x) (get m q)
    ∙ ap (cond (eq_by_cmp oref_cmp q x) (Some tt)) (sym (get_spent m q h))
    ∙ sym (get-insert oref_total (spent_in m) x tt q))
  where
    by : (b : Bool) (o : Option Bool) → told (cond b (Some true) o) ≡ cond b (Some tt) (told o)
    by true o = refl
    by false o = refl

-- ---- held names and their marks

still_some : (b : Bool) (v : Bool) (o : Option Bool) → is_some o ≡ true → is_some (cond b (Some v) o) ≡ true
still_some true v o h = refl
still_some false v o h = h

still_marked : (m : Map oref_cmp Bool) (x : Oref) (v : Bool) (all : List Held) → AllByRecursion (λ h. has m h.oref ≡ true) all → AllByRecursion (λ h. has (insert m x v) h.oref ≡ true) all
still_marked m x v [] h = tt
still_marked m x v (first ∷ all) h =
    (ap is_some (get-insert oref_total m x v first.oref) ∙ still_some (eq_by_cmp oref_cmp first.oref x) v (get m first.oref) h.0, still_marked m x v all h.1)

pub are_marked : (m : Map oref_cmp Bool) (x : Oref) (v : Bool) (all : List Held) → AreMarked m all → AreMarked (insert m x v) all
are_marked m x v all h = record { sorted = IsSorted-insert oref_total m x v h.sorted; marked = still_marked m x v all h.marked }

all_end : (m : Map oref_cmp Bool) (all : List Held) (x : Oref) → AllByRecursion (λ h. has m h.oref ≡ true) all → has m x ≡ true → AllByRecursion (λ h. has m h.oref ≡ true) (all ++ free x ∷ [])
all_end m [] x h is = (is, tt)
all_end m (first ∷ all) x h is = (h.0, all_end m all x h.1 is)

pub held_one : (m : Map oref_cmp Bool) (all : List Held) (x : Oref) → AreMarked m all → has m x ≡ true → AreMarked m (all ++ free x ∷ [])
held_one m all x h is = record { sorted = h.sorted; marked = all_end m all x h.marked is }

pub itself_marked : (m : Map oref_cmp Bool) (x : Oref) (v : Bool) → has (insert m x v) x ≡ true
itself_marked m x v = ap is_some (get-insert oref_total m x v x) ∙ by (eq_by_cmp oref_cmp x x) (same x)
  where
    same : (y : Oref) → eq_by_cmp oref_cmp y y ≡ true
    same y = let t = tied_itself oref_total y in ap is_eq t

    by : (b : Bool) → b ≡ true → is_some (cond b (Some v) (get m x)) ≡ true
    by true h = refl
    by false h = cc

all_take : (P : Held → Type 0) (n : ℕ) (all : List Held) → AllByRecursion P all → AllByRecursion P (take n all)
all_take P zero all h = tt
all_take P (suc n) [] h = tt
all_take P (suc n) (first ∷ all) h = (h.0, all_take P n all h.1)

pub marked_front : (m : Map oref_cmp Bool) (n : ℕ) (all : List Held) → AreMarked m all → AreMarked m (take n all)
marked_front m n all h = record { sorted = h.sorted; marked = all_take _ n all h.marked }

pub all_filter : (P : Held → Type 0) (test : Held → Bool) (all : List Held) → AllByRecursion P all → AllByRecursion P (filter test all)
all_filter P test [] h = tt
all_filter P test (first ∷ all) h = by (test first) (all_filter P test all h.1)
  where
    by : (b : Bool) → AllByRecursion P (filter test all) → AllByRecursion P (cond b (first ∷ filter test all) (filter test all))
    by true rest = (h.0, rest)
    by false rest = rest

pub marked_some : (m : Map oref_cmp Bool) (test : Held → Bool) (all : List Held) → AreMarked m all → AreMarked m (filter test all)
marked_some m test all h = record { sorted = h.sorted; marked = all_filter _ test all h.marked }

-- held names that are the same but for the given ones
all_same : (m : Map oref_cmp Bool) (all others : List Held) → map (λ h. h.oref) others ≡ map (λ h. h.oref) all → AllByRecursion (λ h. has m h.oref ≡ true) all → AllByRecursion (λ h. has m h.oref ≡ true) others
all_same m all [] e h = tt
all_same m [] (two ∷ others) e h = cc
all_same m (first ∷ all) (two ∷ others) e h =
    let f : two.oref ≡ first.oref = cc in
    let g : map (λ h. h.oref) others ≡ map (λ h. h.oref) all = cc in
    (ap (has m) f ∙ h.0, all_same m all others g h.1)

pub marked_same : (m : Map oref_cmp Bool) (all others : List Held) → map (λ h. h.oref) others ≡ map (λ h. h.oref) all → AreMarked m all → AreMarked m others
marked_same m all others e h = record { sorted = h.sorted; marked = all_same m all others e h.marked }

all_at : (P : Held → Type 0) (all : List Held) (i : ℕ) (d : Held) → i < length all → AllByRecursion P all → P (get_or all i d)
all_at P [] i d lt h = absurd (omega (arith, lt))
all_at P (x ∷ all) zero d lt h = h.0
all_at P (x ∷ all) (suc i) d lt h = all_at P all i d (omega (arith, lt)) h.1

pub marked_at : (m : Map oref_cmp Bool) (all : List Held) (i : ℕ) (d : Held) → i < length all → AreMarked m all → AreMarked m (get_or all i d ∷ [])
marked_at m all i d lt h = record { sorted = h.sorted; marked = (all_at _ all i d lt h.marked, tt) }

-- ---- the names of a page, one after the other

-- the first names of a page
abbrev pub page_from : ℕ → ℕ → ℕ → List Oref
page_from repo page count = map (λ k. record { repo = repo; page = page; slot = k }) (range_with_len 0 count)

-- ---- what an insert that is known to succeed leaves

in_place : {A E : Type 0} (r : Result A E) (P Q : Type 0) → OnOk r P → OnErr r Q → (Q → ⊥) → P
in_place (Ok a) P Q p q n = p
in_place (Err e) P Q p q n = absurd (n q)

with_pairs : (m : Map oref_cmp Bool) (es : List (Oref × Bool)) (x : Oref) (v : Bool) → es ≡ insert_entry oref_cmp m.pairs x v → let n : Map oref_cmp Bool = record { pairs = es } in n ≡ insert m x v
with_pairs m es x v e = ap (λ (fs : List (Oref × Bool)). record { pairs = fs }) e

-- a mark for which there is room can't fail for want of memory
pub put_in : {A E : Type 0} (r : Result A E) (m : Map oref_cmp Bool) (es : List (Oref × Bool)) (x : Oref) (v : Bool)
    → OnOk r (es ≡ insert_entry oref_cmp m.pairs x v) → OnErr r (get m x ≡ None) → has m x ≡ true → let n : Map oref_cmp Bool = record { pairs = es } in n ≡ insert m x v
put_in r m es x v ok err there =
    with_pairs m es x v (in_place r (es ≡ insert_entry oref_cmp m.pairs x v) (get m x ≡ None) ok err (λ e. let bad : false ≡ true = ap is_some (sym e) ∙ there in cc))

-- a name that was given is marked, and one that wasn't given isn't
pub one_marked : (m n : Map oref_cmp Bool) (held : Held) → held.given ≡ true → IsSorted m → n ≡ insert m held.oref true → spent_in n ≡ spend_one (spent_in m) held
one_marked m n held given h e = ap spent_in e ∙ mark_made m held.oref h ∙ sym (ap (λ (b : Bool). cond b (add (spent_in m) held.oref) (spent_in m)) given)

pub all_marked : (m n : Map oref_cmp Bool) (x : Oref) (v : Bool) → n ≡ insert m x v → (all : List Held) → AreMarked m all → AreMarked n all
all_marked m n x v e all h = subst (λ (k : Map oref_cmp Bool). AreMarked k all) (sym e) (are_marked m x v all h)

pub room_for : (m n : Map oref_cmp Bool) (x : Oref) → IsSorted m → has m x ≡ false → n ≡ insert m x false → spent_in n ≡ spent_in m
room_for m n x h absent e = ap spent_in e ∙ room_made m x h absent

pub inserted : (m : Map oref_cmp Bool) (es : List (Oref × Bool)) (x : Oref) (v : Bool) → es ≡ insert_entry oref_cmp m.pairs x v → let n : Map oref_cmp Bool = record { pairs = es } in n ≡ insert m x v
inserted m es x v e = with_pairs m es x v e
