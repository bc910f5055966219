-- What the code finds of an object is what the run sees of it, and what a write makes of that.
use Rattle.std.proofs.Common.{◌≡◌, ◌<◌, ◌&&◌, ◌||◌, zero, suc, take, Bool, true, false, cond, List, [], ◌∷◌, ℕ, Option, Some, None, refl, ap, inl, inr, subst, sym, ◌∙◌, is_eq, Ordering, Less, Equal, Greater, arith}
use Rattle.std.proofs.lemmas.Bool.Decides.{nat_tests}
use Rattle.std.proofs.lemmas.Bool.{eqb-true}
use Rattle.std.proofs.lemmas.Cmp.{tied_itself}
use Rattle.std.specs.BTreeMap.{is_at}
use Rattle.std.specs.BTreeSet.{insert_key}
use Rattle.std.specs.List.{AllByRecursion, filter, list_any}
use Rattle.std.specs.List.Sorted.{IsStrictlySortedBy}
use Rattle.std.specs.Map.{keys_of, lookup}
use Rattle.std.specs.Option.{option_or}
use Rattle.std.specs.Ordering.{eq_by_cmp}
use Rattle.std.specs.Prelude.{nat_lt, is_some, not, nat_eq, option_map, option_and_then, ◌⊎◌, Err, Ok, OnErr, OnOk, Result}
use Rattle.thor_value.specs.declared.memory.NoMemory.{NoMemory}
use Rattle.thor_value.proofs.FiniteMap.{get-insert, IsSorted-insert, same_map}
use Rattle.thor_value.proofs.NameOrders.{oref_exact, oref_total}
use Rattle.thor_value.specs.FiniteMap.{get, insert}
use Rattle.thor_value.specs.Names.{oref_cmp}
use Rattle.thor_value.specs.declared.names.Oref.{Oref}
use Rattle.thor_value.specs.declared.values.Obj.{Obj}
use Rattle.class_defs.specs.Applied.{number_of}
use Rattle.class_defs.specs.Objects as objects
use Rattle.class_defs.specs.Objects.{first_of}
use Rattle.class_defs.specs.Stored.{bare}
use Rattle.class_defs.specs.declared.store.Object.{Object}
use Rattle.class_defs.specs.declared.store.Schema.{Schema}
use Rattle.client_cache.specs.Copies.{Contents, Held, changed, has_written, holds, kept, nothing, seen, copy_by}
use Rattle.client_cache.specs.Pages.{page_of, same_name, same_page}
use Rattle.client_cache.specs.Slots.{kept_in, seen_in}
use Rattle.client_cache.specs.Slots as slots
use Rattle.client_cache.specs.declared.page_copies.Slot.{Slot}
use Rattle.method_eval.specs.Viewed.{current}
use Rattle.lang_small_steps.specs.Reaches.{over}
use Rattle.paused_eval.proofs.Names.{any_kept, any_put, none_rise, rise_kept, rise_put}
use Rattle.paused_eval.specs.Copies.{AreAmong, Keeps, Tied, at_hand, entries, entry, seen_now, state, unless_due, written_in}
use Rattle.class_defs.specs.declared.machine.Machine.{Machine}

-- ---- looks

split_at : (o : Option (List Slot)) (s : ℕ)
    → option_and_then (λ l. seen_in l s) o ≡ option_or (option_and_then (λ l. slots.written_in l s) o) (option_and_then (λ l. kept_in l s) o)
split_at None s = refl
split_at (Some l) s = refl

pub seen_split : (c : Contents) (x : Oref) → seen c x ≡ option_or (changed c x) (kept c x)
seen_split c x = split_at (lookup (same_page (page_of x)) c.held) x.slot

gone : (o : Option (List Slot)) (s : ℕ) → is_some o ≡ false → option_and_then (λ l. seen_in l s) o ≡ None
gone None s h = refl
gone (Some l) s h = cc

pub not_held : (c : Contents) (x : Oref) → holds c.held (page_of x) ≡ false → seen c x ≡ None
not_held c x h = gone (lookup (same_page (page_of x)) c.held) x.slot h

-- ---- what is written, as a map

equal_of : (o : Ordering) → is_eq o ≡ true → o ≡ Equal
equal_of Less h = cc
equal_of Equal h = refl
equal_of Greater h = cc

pub one_of : (x y : Oref) → eq_by_cmp oref_cmp x y ≡ true → x ≡ y
one_of x y h = oref_exact x y (equal_of (oref_cmp x y) h)

no_entry : (there : Bool) (fx : Option Obj) → fx ≡ None → cond there (option_map bare fx) None ≡ option_map bare fx
no_entry true fx e = refl
no_entry false fx e = sym (ap (option_map bare) e)

head : (b : Bool) (x y : Oref) (o fx : Option Obj) (rest : List (Oref × Object)) (there : Bool) → is_at (oref_cmp x) y ≡ b → (b ≡ true → fx ≡ o)
    → lookup (is_at (oref_cmp x)) rest ≡ cond there (option_map bare fx) None
    → lookup (is_at (oref_cmp x)) (entry y o rest) ≡ cond b (option_map bare fx) (cond there (option_map bare fx) None)
head true x y None fx rest there is e h = h ∙ no_entry there fx (e refl)
head true x y (Some o) fx rest there is e h = ap (λ (c : Bool). cond c (Some (bare o)) (lookup (is_at (oref_cmp x)) rest)) is ∙ sym (ap (option_map bare) (e refl))
head false x y None fx rest there is e h = h
head false x y (Some o) fx rest there is e h = ap (λ (c : Bool). cond c (Some (bare o)) (lookup (is_at (oref_cmp x)) rest)) is ∙ h

spread : (b there : Bool) (fx : Option Obj) → cond b (option_map bare fx) (cond there (option_map bare fx) None) ≡ cond (b || there) (option_map bare fx) None
spread true there fx = refl
spread false there fx = refl

at_entries : (f : Oref → Option Obj) (xs : List Oref) (x : Oref)
    → lookup (is_at (oref_cmp x)) (entries f xs) ≡ cond (list_any (is_at (oref_cmp x)) xs) (option_map bare (f x)) None
at_entries f [] x = refl
at_entries f (y ∷ ys) x =
    head (is_at (oref_cmp x) y) x y (f y) (f x) (entries f ys) (list_any (is_at (oref_cmp x)) ys) refl
    (λ same. ap f (one_of x y same)) (at_entries f ys x)
    ∙ spread (is_at (oref_cmp x) y) (list_any (is_at (oref_cmp x)) ys) (f x)

as_marked : (w : Bool) (o : Option Obj) → is_some o ≡ w → cond w (option_map bare o) None ≡ option_map bare o
as_marked true o h = refl
as_marked false None h = refl
as_marked false (Some o) h = cc

get_written : (c : Contents) (x : Oref) → Tied c → get (written_in c) x ≡ option_map bare (changed c x)
unfolding written_in
get_written c x t = at_entries (changed c) c.written x ∙ as_marked (has_written c x) (changed c x) (t.marked x)

-- ---- what is seen

due : (b : Bool) (o : Obj) → cond b None (Some (bare o)) ≡ cond (b && true) None (Some (bare o))
due true o = refl
due false o = refl

never_due : (b : Bool) (o : Obj) → Some (bare o) ≡ cond (b && false) None (Some (bare o))
never_due true o = refl
never_due false o = refl

sees : (s : Schema) (ch kp : Option Obj) (b w : Bool) → is_some ch ≡ w → (w ≡ true → b ≡ true)
    → first_of (option_map bare ch) (current s (cond b kp None)) ≡ cond b (unless_due s w (option_or ch kp)) None
sees s None None true w m in_page = refl
sees s None None false w m in_page = refl
sees s None (Some o) true true m in_page = cc
sees s None (Some o) true false m in_page = due (nat_lt o.ver (number_of s.upgraded o.class)) o
sees s None (Some o) false w m in_page = refl
sees s (Some o) kp true true m in_page = never_due (nat_lt o.ver (number_of s.upgraded o.class)) o
sees s (Some o) kp true false m in_page = cc
sees s (Some o) kp false true m in_page = let e : false ≡ true = in_page refl in cc
sees s (Some o) kp false false m in_page = cc

pub seen_is : (s : Schema) (p : Machine) (c : Contents) (x : Oref) → Tied c → seen_now s c x ≡ objects.seen (over s (at_hand s c)) (state p c) x
unfolding objects.seen
seen_is s p c x t = sym (
    ap (λ (o : Option Object). first_of o (at_hand s c x)) (get_written c x t)
    ∙ sees s (changed c x) (kept c x) (nat_lt x.slot 12) (is_some (changed c x)) refl (λ h. inside x (t.within x h))
    ∙ ap (λ (o : Option Obj). cond (nat_lt x.slot 12) (unless_due s (is_some (changed c x)) o) None) (sym (seen_split c x)))
  where
    inside : (x : Oref) → x.slot < 12 → nat_lt x.slot 12 ≡ true
    inside x l = grind (arith, nat_tests)

none_named : (names : List Oref) (x : Oref) → names ≡ [] → false ≡ list_any (is_at (oref_cmp x)) names
none_named names x e = ap (λ (xs : List Oref). list_any (is_at (oref_cmp x)) xs) (sym e)

pub none_written : (c : Contents) → c.written ≡ [] → ((x : Oref) → changed c x ≡ None) → Tied c
none_written c none h = record {
  rising = subst (λ (xs : List Oref). IsStrictlySortedBy oref_cmp xs) (sym none) none_rise;
  marked = λ x. ap is_some (h x) ∙ none_named c.written x none;
  within = λ x e. let never : false ≡ true = sym (ap is_some (h x)) ∙ e in cc;
}

pub nothing_written : (limit : ℕ) → Tied (nothing limit)
nothing_written limit = none_written (nothing limit) refl (λ x. refl)

-- ---- where pages go

abbrev told_at : Oref → Option (List Slot) → Option Obj
told_at x o = option_and_then (λ l. slots.written_in l x.slot) o

changed_before : (n : ℕ) (held : Held) (x : Oref) → copy_by slots.written_in held x ≡ None → copy_by slots.written_in (take n held) x ≡ None
changed_before zero held x h = refl
changed_before (suc n) [] x h = refl
changed_before (suc n) (e ∷ held) x h = by (same_page (page_of x) e.0) h (changed_before n held x)
  where
    by : (b : Bool) → told_at x (cond b (Some e.1) (lookup (same_page (page_of x)) held)) ≡ None → (copy_by slots.written_in held x ≡ None → copy_by slots.written_in (take n held) x ≡ None)
        → told_at x (cond b (Some e.1) (lookup (same_page (page_of x)) (take n held))) ≡ None
    by true h rest = h
    by false h rest = rest h

pub fewer_written : (n : ℕ) (c d : Contents) → d.held ≡ take n c.held → ((x : Oref) → changed c x ≡ None) → (x : Oref) → changed d x ≡ None
fewer_written n c d e h = λ x. ap (λ (held : Held). copy_by slots.written_in held x) e ∙ changed_before n c.held x (h x)

pub fewer_tied : (n : ℕ) (c d : Contents) → d.held ≡ take n c.held → c.written ≡ [] → d.written ≡ c.written → ((x : Oref) → changed c x ≡ None) → Tied d
fewer_tied n c d e none same h = none_written d (same ∙ none) (fewer_written n c d e h)

told_before : (n : ℕ) (held : Held) (x : Oref) → (copy_by slots.kept_in (take n held) x ≡ copy_by slots.kept_in held x) ⊎ (copy_by slots.kept_in (take n held) x ≡ None)
told_before zero held x = inr refl
told_before (suc n) [] x = inl refl
told_before (suc n) (e ∷ es) x = (elim (same_page (page_of x) e.0) as (λ b. same_page (page_of x) e.0 ≡ b → (copy_by slots.kept_in (take (suc n) (e ∷ es)) x ≡ copy_by slots.kept_in (e ∷ es) x) ⊎ (copy_by slots.kept_in (take (suc n) (e ∷ es)) x ≡ None)) [
  | true ↦ λ t. rw t (inl refl)
  | false ↦ λ t. rw t (told_before n es x)
]) refl

-- copies that stayed, with fewer pages
pub fewer_kept : (n : ℕ) (a c d : Contents) → Keeps a c → d.held ≡ take n c.held → AreAmong (kept a) (kept d)
fewer_kept n a c d same e x = subst (λ (held : Held). (copy_by slots.kept_in held x ≡ kept a x) ⊎ (copy_by slots.kept_in held x ≡ None)) (sym e) (by (told_before n c.held x))
  where
    by : (copy_by slots.kept_in (take n c.held) x ≡ kept c x) ⊎ (copy_by slots.kept_in (take n c.held) x ≡ None) → (copy_by slots.kept_in (take n c.held) x ≡ kept a x) ⊎ (copy_by slots.kept_in (take n c.held) x ≡ None)
    by (inl p) = inl (p ∙ same x)
    by (inr p) = inr p

others : (b : Bool) (ch : Option Obj) (u : Bool) → is_some ch ≡ u → is_some (cond b None ch) ≡ (not b && u)
others true ch u h = refl
others false ch u h = h

within_others : (b : Bool) (ch : Option Obj) → is_some (cond b None ch) ≡ true → is_some ch ≡ true
within_others true ch h = cc
within_others false ch h = h

-- what the try has written of some objects has gone
pub others_tied : (gone : Oref → Bool) (c d : Contents) → Tied c → ((x : Oref) → changed d x ≡ cond (gone x) None (changed c x))
    → d.written ≡ filter (λ x. not (gone x)) c.written → Tied d
others_tied gone c d t h e = record {
  rising = subst (λ (xs : List Oref). IsStrictlySortedBy oref_cmp xs) (sym e) (rise_kept (λ x. not (gone x)) c.written t.rising);
  marked = λ x.
      ap is_some (h x)
      ∙ others (gone x) (changed c x) (has_written c x) (t.marked x)
      ∙ sym (ap (λ (xs : List Oref). list_any (is_at (oref_cmp x)) xs) e ∙ any_kept (λ x. not (gone x)) c.written x);
  within = λ x k. t.within x (within_others (gone x) (changed c x) (sym (ap is_some (h x)) ∙ k));
}

-- ---- what is the same where a page was brought forward

pub same_hands : (s : Schema) (c d : Contents) → Keeps c d → at_hand s d ≡ at_hand s c
same_hands s c d h = λ i x. current s (cond (nat_lt x.slot 12) (h x i) None)

pub same_state : (p : Machine) (c d : Contents) → d.written ≡ c.written → ((x : Oref) → changed d x ≡ changed c x) → state p d ≡ state p c
unfolding written_in
same_state p c d e h = λ i. record p { writes = record { pairs = entries (λ x. h x i) (e i) } }

pub same_tied : (c d : Contents) → d.written ≡ c.written → ((x : Oref) → changed d x ≡ changed c x) → Tied c → Tied d
same_tied c d e h t = record {
  rising = subst (λ (xs : List Oref). IsStrictlySortedBy oref_cmp xs) (sym e) t.rising;
  marked = λ x. ap is_some (h x) ∙ t.marked x ∙ sym (ap (λ (xs : List Oref). list_any (is_at (oref_cmp x)) xs) e);
  within = λ x k. t.within x (sym (ap is_some (h x)) ∙ k);
}

-- ---- writes

itself : (n : ℕ) → nat_eq n n ≡ true
itself n = grind (arith, nat_tests)

same_there : (x : Oref) → same_name x x ≡ true
same_there x = rw (itself x.repo, itself x.page, itself x.slot) refl

parts : (a b : Bool) → (a && b) ≡ true → (a ≡ true) × (b ≡ true)
parts true true h = (refl, refl)
parts true false h = cc
parts false b h = cc

pub one_name : (x y : Oref) → same_name x y ≡ true → x ≡ y
one_name x y h =
    let p : (same_page (page_of x) (page_of y) ≡ true) × (nat_eq x.slot y.slot ≡ true) = parts (same_page (page_of x) (page_of y)) (nat_eq x.slot y.slot) h in
    let q : (nat_eq x.repo y.repo ≡ true) × (nat_eq x.page y.page ≡ true) = parts (nat_eq x.repo y.repo) (nat_eq x.page y.page) p.0 in
    ap (λ (r : ℕ). record { repo = r; page = x.page; slot = x.slot }) (eqb-true x.repo y.repo q.0)
    ∙ ap (λ (g : ℕ). record { repo = y.repo; page = g; slot = x.slot }) (eqb-true x.page y.page q.1)
    ∙ ap (λ (l : ℕ). record { repo = y.repo; page = y.page; slot = l }) (eqb-true x.slot y.slot p.1)

pub equal_itself : (x : Oref) → eq_by_cmp oref_cmp x x ≡ true
equal_itself x = ap is_eq (tied_itself oref_total x)

-- the two tests of names are one
pub name_tests : (x q : Oref) → same_name x q ≡ eq_by_cmp oref_cmp q x
name_tests x q = by (same_name x q) (eq_by_cmp oref_cmp q x) refl refl
  where
    by : (a b : Bool) → same_name x q ≡ a → eq_by_cmp oref_cmp q x ≡ b → a ≡ b
    by true true g h = refl
    by false false g h = refl
    by true false g h =
        let e : x ≡ q = one_name x q g in
        sym (equal_itself q) ∙ ap (λ (y : Oref). eq_by_cmp oref_cmp q y) (sym e) ∙ h
    by false true g h =
        let e : q ≡ x = one_of q x h in
        sym g ∙ ap (λ (y : Oref). same_name x y) e ∙ same_there x

below_entry : (P : Oref → Type 0) (y : Oref) (o : Option Obj) (rest : List (Oref × Object)) → P y → AllByRecursion P (keys_of rest) → AllByRecursion P (keys_of (entry y o rest))
below_entry P y None rest h g = g
below_entry P y (Some o) rest h g = (h, g)

below_entries : (P : Oref → Type 0) (f : Oref → Option Obj) (xs : List Oref) → AllByRecursion P xs → AllByRecursion P (keys_of (entries f xs))
below_entries P f [] h = tt
below_entries P f (x ∷ xs) h = below_entry P x (f x) (entries f xs) h.0 (below_entries P f xs h.1)

sorted_entry : (y : Oref) (o : Option Obj) (rest : List (Oref × Object)) → AllByRecursion (λ z. oref_cmp y z ≡ Less) (keys_of rest) → IsStrictlySortedBy oref_cmp (keys_of rest) → IsStrictlySortedBy oref_cmp (keys_of (entry y o rest))
unfolding IsStrictlySortedBy
sorted_entry y None rest h g = g
sorted_entry y (Some o) rest h g = (h, g)

sorted_entries : (f : Oref → Option Obj) (xs : List Oref) → IsStrictlySortedBy oref_cmp xs → IsStrictlySortedBy oref_cmp (keys_of (entries f xs))
unfolding IsStrictlySortedBy
sorted_entries f [] h = tt
sorted_entries f (x ∷ xs) h = sorted_entry x (f x) (entries f xs) (below_entries (λ z. oref_cmp x z ≡ Less) f xs h.0) (sorted_entries f xs h.1)

-- one object was written
abbrev pub Wrote : Oref → Obj → Contents → Contents → Type 0
Wrote x o c d = (y : Oref) → changed d y ≡ cond (same_name x y) (Some o) (changed c y)

lookups : (b : Bool) (o : Obj) (u : Bool) (ch : Option Obj) (was : Option Object) → is_some ch ≡ u → was ≡ option_map bare ch
    → cond (b || u) (option_map bare (cond b (Some o) ch)) None ≡ cond b (Some (bare o)) was
lookups true o u ch was m g = refl
lookups false o u ch was m g = as_marked u ch m ∙ sym g

pub wrote : (x : Oref) (o : Obj) (c d : Contents) → Tied c → Wrote x o c d → d.written ≡ insert_key oref_cmp c.written x
    → written_in d ≡ insert (written_in c) x (bare o)
unfolding written_in
wrote x o c d t h e = same_map oref_total oref_exact _ _
    (sorted_entries (changed d) d.written (subst (λ (xs : List Oref). IsStrictlySortedBy oref_cmp xs) (sym e) (rise_put c.written x t.rising)))
    (IsSorted-insert oref_total (written_in c) x (bare o) (sorted_entries (changed c) c.written t.rising))
    (λ q.
    at_entries (changed d) d.written q
    ∙ ap (λ (b : Bool). cond b (option_map bare (changed d q)) None) (ap (λ (xs : List Oref). list_any (is_at (oref_cmp q)) xs) e ∙ any_put c.written x q)
    ∙ ap (λ (v : Option Obj). cond (eq_by_cmp oref_cmp q x || has_written c q) (option_map bare v) None)
    (h q ∙ ap (λ (b : Bool). cond b (Some o) (changed c q)) (name_tests x q))
    ∙ lookups (eq_by_cmp oref_cmp q x) o (has_written c q) (changed c q) (get (written_in c) q) (t.marked q) (get_written c q t)
    ∙ sym (get-insert oref_total (written_in c) x (bare o) q))

mark : (b : Bool) (o : Obj) (u : Bool) (ch : Option Obj) → is_some ch ≡ u → is_some (cond b (Some o) ch) ≡ (b || u)
mark true o u ch m = refl
mark false o u ch m = m

in_page : (b : Bool) (x q : Oref) (o : Obj) (ch : Option Obj) → eq_by_cmp oref_cmp q x ≡ b → x.slot < 12 → (is_some ch ≡ true → q.slot < 12) → is_some (cond b (Some o) ch) ≡ true → q.slot < 12
in_page true x q o ch e l g h = rw (one_of q x e) l
in_page false x q o ch e l g h = g h

pub wrote_tied : (x : Oref) (o : Obj) (c d : Contents) → Tied c → Wrote x o c d → d.written ≡ insert_key oref_cmp c.written x → x.slot < 12 → Tied d
wrote_tied x o c d t h e l = record {
  rising = subst (λ (xs : List Oref). IsStrictlySortedBy oref_cmp xs) (sym e) (rise_put c.written x t.rising);
  marked = λ q.
      ap is_some (h q ∙ ap (λ (b : Bool). cond b (Some o) (changed c q)) (name_tests x q))
      ∙ mark (eq_by_cmp oref_cmp q x) o (has_written c q) (changed c q) (t.marked q)
      ∙ sym (ap (λ (xs : List Oref). list_any (is_at (oref_cmp q)) xs) e ∙ any_put c.written x q);
  within = λ q k. in_page (eq_by_cmp oref_cmp q x) x q o (changed c q) refl l (t.within q)
      (sym (ap is_some (h q ∙ ap (λ (b : Bool). cond b (Some o) (changed c q)) (name_tests x q))) ∙ k);
}

-- the same by the answer of a write: where it failed all is as it was
pub write_tied : (x : Oref) (o : Obj) (c d : Contents) (r : Result (Unit {0}) NoMemory) → Tied c → OnOk r (Wrote x o c d) → OnOk r (d.written ≡ insert_key oref_cmp c.written x) → OnErr r (d ≡ c) → x.slot < 12 → Tied d
write_tied x o c d (Ok u) t h e s l = wrote_tied x o c d t h e l
write_tied x o c d (Err n) t h e s l = subst Tied (sym s) t
