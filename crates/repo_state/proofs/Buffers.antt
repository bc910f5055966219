-- The buffer of objects behind writes, in the words of what a log stands for.
use Rattle.std.proofs.Common.{◌≡◌, Bool, List, Option, Some, [], ◌∷◌, ◌++◌, ap, append_assoc, cond, false, not, refl, subst, sym, true, ℕ, ◌&&◌, ◌∙◌}
use Rattle.std.proofs.lemmas.Cmp.{tied_itself}
use Rattle.std.proofs.lemmas.Map.Views.{tells_apart}
use Rattle.std.specs.List.{AllByRecursion, IsDistinct, fold}
use Rattle.std.specs.Map.{keys_of}
use Rattle.std.specs.Option.{is_some}
use Rattle.std.specs.Ordering.{eq_by_cmp, is_eq}
use Rattle.std.specs.Prelude.{IsTrue}
use Rattle.log_codec.specs.Checkpoint.{are_new}
use Rattle.mob_buffer.proofs.Writes.{not_same_name, same_is, same_refl}
use Rattle.mob_buffer.specs.Buffer.{AreDistinct, AreOf, Buffer, IsOf, Objects, same_name, with_all, with_object}
use Rattle.commit_log.specs.Recovered.{buffered}
use Rattle.thor_value.proofs.FiniteMap.{get-insert}
use Rattle.thor_value.proofs.NameOrders.{oref_exact, oref_total}
use Rattle.thor_value.specs.FiniteMap.{Set, add, empty, get, has}
use Rattle.thor_value.specs.Names.{oref_cmp, same_oref}
use Rattle.thor_value.specs.declared.names.Oref.{Oref}
use Rattle.thor_value.specs.declared.values.Obj.{Obj}

-- both tests of names are one
same_both : (x y : Oref) → same_name x y ≡ same_oref y x
same_both x y = by (same_name x y) (same_oref y x) refl refl
  where
    by : (a b : Bool) → same_name x y ≡ a → same_oref y x ≡ b → a ≡ b
    by true true p q = refl
    by false false p q = refl
    by true false p q =
        let one : same_oref y x ≡ true = ap (λ (z : Oref). same_oref y z) (same_is x y p) ∙ ap is_eq (tied_itself oref_total y) in
        let isnt : true ≡ false = sym one ∙ q in cc
    by false true p q =
        let one : same_name x y ≡ true = ap (λ (z : Oref). same_name x z) (tells_apart oref_exact y x q) ∙ same_refl x in
        let isnt : true ≡ false = sym one ∙ p in cc

-- one write
put_one : (objects : Objects) (w : Oref × Obj) → with_object objects w.0 w.1 ≡ buffered objects w
put_one [] w = refl
put_one (v ∷ vs) w = by (same_name w.0 v.0) (same_oref v.0 w.0) refl (same_both w.0 v.0) (put_one vs w)
  where
    by : (a b : Bool) → same_name w.0 v.0 ≡ a → same_name w.0 v.0 ≡ b → with_object vs w.0 w.1 ≡ buffered vs w → cond a ((v.0, w.1) ∷ vs) (v ∷ with_object vs w.0 w.1) ≡ cond b (w ∷ vs) (v ∷ buffered vs w)
    by true true p q rest = ap (λ (x : Oref). (x, w.1) ∷ vs) (sym (same_is w.0 v.0 p))
    by false false p q rest = ap (λ (os : List (Oref × Obj)). v ∷ os) rest
    by true false p q rest = let isnt : true ≡ false = sym p ∙ q in cc
    by false true p q rest = let isnt : true ≡ false = sym q ∙ p in cc

-- several writes
pub put_all_is : (objects : Objects) (writes : List (Oref × Obj)) → with_all objects writes ≡ fold buffered objects writes
put_all_is objects [] = refl
put_all_is objects (w ∷ ws) = put_all_is (with_object objects w.0 w.1) ws ∙ ap (λ (os : List (Oref × Obj)). fold buffered os ws) (put_one objects w)

-- ---- distinct names are new, one after the other

unseen : (seen : Set oref_cmp) (v : Oref) (x : Oref) → same_name v x ≡ false → has seen x ≡ false → has (add seen v) x ≡ false
unseen seen v x apart none =
    ap (λ o. is_some o) (get-insert oref_total seen v (tt {0}) x)
    ∙ ap (λ b. is_some (cond b (Some (tt {0})) (get seen x))) (sym (same_both v x) ∙ apart)
    ∙ none

all_unseen : (seen : Set oref_cmp) (v : Oref) (xs : List Oref) → AllByRecursion (λ x. has seen x ≡ false) xs → AllByRecursion (λ x. same_name v x ≡ false) xs → AllByRecursion (λ x. has (add seen v) x ≡ false) xs
all_unseen seen v [] none apart = tt
all_unseen seen v (x ∷ xs) none apart = (unseen seen v x apart.0 none.0, all_unseen seen v xs none.1 apart.1)

new_from : (seen : Set oref_cmp) (objects : Objects) → AllByRecursion (λ x. has seen x ≡ false) (keys_of objects) → AreDistinct objects → IsTrue (are_new seen objects)
unfolding IsDistinct
new_from seen [] none apart = refl
new_from seen (w ∷ ws) none apart = rw none.0 (new_from (add seen w.0) ws (all_unseen seen w.0 (keys_of ws) none.1 apart.0) apart.1)

none_seen : (xs : List Oref) → AllByRecursion (λ x. has {X = Unit {0}} {R = oref_cmp} empty x ≡ false) xs
none_seen [] = tt
none_seen (x ∷ xs) = (refl, none_seen xs)

pub distinct_new : (objects : Objects) → AreDistinct objects → IsTrue (are_new empty objects)
distinct_new objects apart = new_from empty objects (none_seen (keys_of objects)) apart

-- ---- names that are new are distinct

true_by : (o : Option (Unit {0})) (b : Bool) → is_some o ≡ true → is_some (cond b (Some (tt {0})) o) ≡ true
true_by o true is = refl
true_by o false is = is

still_seen : (seen : Set oref_cmp) (v x : Oref) → has seen x ≡ true → has (add seen v) x ≡ true
still_seen seen v x is = ap (λ o. is_some o) (get-insert oref_total seen v (tt {0}) x) ∙ true_by (get seen x) (eq_by_cmp oref_cmp x v) is

now_seen : (seen : Set oref_cmp) (v : Oref) → has (add seen v) v ≡ true
now_seen seen v = ap (λ o. is_some o) (get-insert oref_total seen v (tt {0}) v) ∙ ap (λ b. is_some (cond b (Some (tt {0})) (get seen v))) (ap is_eq (tied_itself oref_total v))

new_parts : (b : Bool) (rest : Bool) → (not b && rest) ≡ true → (b ≡ false) × (rest ≡ true)
new_parts true rest is = cc
new_parts false rest is = (refl, is)

new_apart : (seen : Set oref_cmp) (ws : Objects) (x : Oref) → IsTrue (are_new seen ws) → has seen x ≡ true → AllByRecursion (λ y. same_name x y ≡ false) (keys_of ws)
new_apart seen [] x new is = tt
new_apart seen (v ∷ vs) x new is =
    let parts = new_parts (has seen v.0) (are_new (add seen v.0) vs) new in
    (not_same_name x v.0 (λ e. (let isnt : true ≡ false = sym is ∙ ap (has seen) e ∙ parts.0 in cc)), new_apart (add seen v.0) vs x parts.1 (still_seen seen v.0 x is))

apart_from : (seen : Set oref_cmp) (ws : Objects) → IsTrue (are_new seen ws) → AreDistinct ws
unfolding IsDistinct
apart_from seen [] new = tt
apart_from seen (w ∷ ws) new =
    let parts = new_parts (has seen w.0) (are_new (add seen w.0) ws) new in
    (new_apart (add seen w.0) ws w.0 parts.1 (now_seen seen w.0), apart_from (add seen w.0) ws parts.1)

pub new_distinct : (ws : Objects) → IsTrue (are_new empty ws) → AreDistinct ws
new_distinct ws new = apart_from empty ws new

-- ---- a new name comes behind all

at_next : (P : Oref → Type 0) (objects rest : Objects) (w : Oref × Obj) → AllByRecursion P (keys_of (objects ++ w ∷ rest)) → P w.0
at_next P [] rest w h = h.0
at_next P (v ∷ vs) rest w h = at_next P vs rest w h.1

turned : (x y : Oref) → same_name x y ≡ false → same_name y x ≡ false
turned x y apart = not_same_name y x (λ e. (let isnt : false ≡ true = sym apart ∙ ap (same_name x) e ∙ same_refl x in cc))

pub put_new : (objects rest : Objects) (w : Oref × Obj) → AreDistinct (objects ++ w ∷ rest) → with_object objects w.0 w.1 ≡ objects ++ w ∷ []
unfolding IsDistinct
put_new [] rest w apart = refl
put_new (v ∷ vs) rest w apart = by (same_name w.0 v.0) (turned v.0 w.0 (at_next (λ y. same_name v.0 y ≡ false) vs rest w apart.0)) (put_new vs rest w apart.1)
  where
    by : (b : Bool) → b ≡ false → with_object vs w.0 w.1 ≡ vs ++ w ∷ [] → cond b ((v.0, w.1) ∷ vs) (v ∷ with_object vs w.0 w.1) ≡ v ∷ (vs ++ w ∷ [])
    by true isnt more = cc
    by false isnt more = ap (λ (os : List (Oref × Obj)). v ∷ os) more

pub of_front : (repo : ℕ) (objects rest : Objects) → AreOf repo (objects ++ rest) → AreOf repo objects
of_front repo [] rest of = tt
of_front repo (v ∷ vs) rest of = (of.0, of_front repo vs rest of.1)

pub of_next : (repo : ℕ) (objects rest : Objects) (w : Oref × Obj) → AreOf repo (objects ++ w ∷ rest) → IsOf repo w
of_next repo [] rest w of = of.0
of_next repo (v ∷ vs) rest w of = of_next repo vs rest w of.1

-- ---- a buffer that is filled

pub of_own : (repo : ℕ) (objects rest mob : Objects) (w : Oref × Obj) → objects ++ w ∷ rest ≡ mob → AreOf repo mob → AreOf w.0.repo objects
of_own repo objects rest mob w is of =
    let all : AreOf repo (objects ++ w ∷ rest) = subst (AreOf repo) (sym is) of in
    subst (λ (r : ℕ). AreOf r objects) (sym (of_next repo objects rest w all).repo_is) (of_front repo objects (w ∷ rest) all)

moved : (es fs : Objects) (x : Oref × Obj) → (es ++ x ∷ []) ++ fs ≡ es ++ x ∷ fs
moved es fs x = simp append_assoc

pub filled : (buffer next : Buffer) (limit : ℕ) (rest mob : Objects) (w : Oref × Obj) → AreDistinct mob → buffer.limit ≡ limit → buffer.objects ++ w ∷ rest ≡ mob → next ≡ record buffer { objects = with_object buffer.objects w.0 w.1 } → (next.limit ≡ limit) × (next.objects ++ rest ≡ mob)
filled buffer next limit rest mob w distinct same is put =
    let new : with_object buffer.objects w.0 w.1 ≡ buffer.objects ++ w ∷ [] = put_new buffer.objects rest w (subst AreDistinct (sym is) distinct) in
    (ap (λ (b : Buffer). b.limit) put ∙ same, ap (λ (b : Buffer). b.objects ++ rest) put ∙ ap (λ (os : Objects). os ++ rest) new ∙ moved buffer.objects rest w ∙ is)
