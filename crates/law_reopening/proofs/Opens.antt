-- What is recovered opens as a base: settling what was left keeps what a base is, one transaction after the
-- other.
use Rattle.log_entries.specs.declared.request.Request.{Request}
use Rattle.spec_history.proofs.Stamps.{at_most_itself, at_most_then, first_at_most, second_at_most}
use Rattle.spec_history.specs.History.{LeftOver}
use Rattle.spec_history.specs.Opening.{IsAtBase, IsBase, IsLeftAtBase, Recovered, left_by, opened, with_left_stamps, with_left_texts, with_left_writes}
use Rattle.spec_history.specs.Requests.{text_of}
use Rattle.law_reopening.specs.Recovering.{CanOpen, IsPrepared, IsStored}
use Rattle.std.proofs.Common.{List, [], arith, refl, subst, sym, ◌++◌, ◌≡◌, ◌∙◌, ◌∷◌, length, ℕ, ◌+◌, ◌≤◌}
use Rattle.std.proofs.lemmas.List.{length-append}
use Rattle.std.proofs.lemmas.Cmp.{nat_eq_equiv}
use Rattle.std.proofs.lemmas.Bool.{true≢false}
use Rattle.std.specs.BTreeMap.{insert_entry}
use Rattle.std.specs.List.{AllByRecursion}
use Rattle.std.specs.Ordering.{eq_by_cmp, match_ordering}
use Rattle.std.specs.Prelude.{Bool, IsTrue, Option, Some, cond, false, is_some, nat_eq, true, ◌≢◌}
use Rattle.std.specs.declared.cmp.Ordering.TheVariants.{Equal, Greater, Less}
use Rattle.thor_value.proofs.FiniteMap.{IsSorted-insert, get-insert}
use Rattle.thor_value.proofs.NameOrders.{oref_total}
use Rattle.thor_value.specs.FiniteMap.{IsSorted, Map, get, has, insert, overwrite}
use Rattle.thor_value.specs.Names.{AtMost, later_of, oref_cmp}
use Rattle.thor_value.specs.declared.names.Oref.{Oref}
use Rattle.thor_value.specs.declared.names.Ts.{Ts}
use Rattle.thor_value.specs.declared.values.Obj.{Obj}

abbrev Objects : Type 0
Objects = Map oref_cmp Obj

-- ---- lists

every : {X : Type 0} (P Q : X → Type 0) (xs : List X) → ((x : X) → P x → Q x) → AllByRecursion P xs → AllByRecursion Q xs
every P Q [] f h = tt
every P Q (x ∷ xs) f h = (f x h.0, every P Q xs f h.1)

joined : {X : Type 0} (P : X → Type 0) (xs ys : List X) → AllByRecursion P xs → AllByRecursion P ys → AllByRecursion P (xs ++ ys)
joined P [] ys h k = k
joined P (x ∷ xs) ys h k = (h.0, joined P xs ys h.1 k)

-- ---- writes

module _ (P : Oref × Obj → Type 0) (mixed : (e f : Oref × Obj) → P e → P f → P (e.0, f.1)) where
  all_insert : (es : List (Oref × Obj)) (x : Oref) (o : Obj) → P (x, o) → AllByRecursion P es → AllByRecursion P (insert_entry oref_cmp es x o)
  all_insert [] x o here h = (here, tt)
  all_insert (e ∷ es) x o here h =
      elim (oref_cmp x e.0) as (λ w. AllByRecursion P (match_ordering w ((x, o) ∷ e ∷ es) ((e.0, o) ∷ es) (e ∷ insert_entry oref_cmp es x o))) [
        | Less ↦ (here, h)
        | Equal ↦ (mixed e (x, o) h.0 here, h.1)
        | Greater ↦ (h.0, all_insert es x o here h.1)
      ]

  all_overwrite : (m : Objects) (ws : List (Oref × Obj)) → AllByRecursion P m.pairs → AllByRecursion P ws → AllByRecursion P (overwrite m ws).pairs
  all_overwrite m [] h k = h
  all_overwrite m (w ∷ ws) h k = all_overwrite (insert m w.0 w.1) ws (all_insert m.pairs w.0 w.1 k.0 h) k.1

sorted_overwrite : (m : Objects) (ws : List (Oref × Obj)) → IsSorted m → IsSorted (overwrite m ws)
sorted_overwrite m [] h = h
sorted_overwrite m (w ∷ ws) h = sorted_overwrite (insert m w.0 w.1) ws (IsSorted-insert oref_total m w.0 w.1 h)

has_insert : (m : Objects) (k : Oref) (v : Obj) (x : Oref) → IsTrue (has m x) → IsTrue (has (insert m k v) x)
has_insert m k v x h = subst (λ o. IsTrue (is_some o)) (sym (get-insert oref_total m k v x)) (by (eq_by_cmp oref_cmp x k))
  where
    by : (t : Bool) → IsTrue (is_some (cond t (Some v) (get m x)))
    by true = refl
    by false = h

has_overwrite : (m : Objects) (ws : List (Oref × Obj)) (x : Oref) → IsTrue (has m x) → IsTrue (has (overwrite m ws) x)
has_overwrite m [] x h = h
has_overwrite m (w ∷ ws) x h = has_overwrite (insert m w.0 w.1) ws x (has_insert m w.0 w.1 x h)

-- ---- what is settled, one transaction after the other

module _ (P : Oref × Obj → Type 0) (mixed : (e f : Oref × Obj) → P e → P f → P (e.0, f.1)) where
  abbrev Writes : Ts × LeftOver → Type 0
  Writes e = AllByRecursion P e.1.request.writes

  all_left : (m : Objects) (left : List (Ts × LeftOver)) → AllByRecursion P m.pairs → AllByRecursion Writes left → AllByRecursion P (with_left_writes m (record { pairs = left })).pairs
  all_left m [] h k = h
  all_left m (e ∷ es) h k = all_left (cond e.1.commits (overwrite m e.1.request.writes) m) es (by e.1.commits) k.1
    where
      by : (c : Bool) → AllByRecursion P (cond c (overwrite m e.1.request.writes) m).pairs
      by true = all_overwrite P mixed m e.1.request.writes h k.0
      by false = h

sorted_left : (m : Objects) (left : List (Ts × LeftOver)) → IsSorted m → IsSorted (with_left_writes m (record { pairs = left }))
sorted_left m [] h = h
sorted_left m (e ∷ es) h = sorted_left (cond e.1.commits (overwrite m e.1.request.writes) m) es (by e.1.commits)
  where
    by : (c : Bool) → IsSorted (cond c (overwrite m e.1.request.writes) m)
    by true = sorted_overwrite m e.1.request.writes h
    by false = h

has_left : (m : Objects) (left : List (Ts × LeftOver)) (x : Oref) → IsTrue (has m x) → IsTrue (has (with_left_writes m (record { pairs = left })) x)
has_left m [] x h = h
has_left m (e ∷ es) x h = has_left (cond e.1.commits (overwrite m e.1.request.writes) m) es x (by e.1.commits)
  where
    by : (c : Bool) → IsTrue (has (cond c (overwrite m e.1.request.writes) m) x)
    by true = has_overwrite m e.1.request.writes x h
    by false = h

texts_left : (ts : List (List ℕ)) (left : List (Ts × LeftOver)) → length ts ≤ length (with_left_texts ts (record { pairs = left }))
texts_left ts [] = omega arith
texts_left ts (e ∷ es) =
    let one : length ts ≤ length (cond e.1.commits (ts ++ text_of e.1.request.kind) ts) = by e.1.commits in
    let rest : length (cond e.1.commits (ts ++ text_of e.1.request.kind) ts) ≤ length (with_left_texts (cond e.1.commits (ts ++ text_of e.1.request.kind) ts) (record { pairs = es })) = texts_left _ es in
    omega arith
  where
    by : (c : Bool) → length ts ≤ length (cond c (ts ++ text_of e.1.request.kind) ts)
    by true = let same : length (ts ++ text_of e.1.request.kind) ≡ length ts + length (text_of e.1.request.kind) = length-append ts (text_of e.1.request.kind) in omega arith
    by false = omega arith

stamps_rise : (t : Ts) (left : List (Ts × LeftOver)) → AtMost t (with_left_stamps t (record { pairs = left }))
stamps_rise t [] = at_most_itself t
stamps_rise t (e ∷ es) = at_most_then t _ _ (by e.1.commits) (stamps_rise (cond e.1.commits (later_of t e.0) t) es)
  where
    by : (c : Bool) → AtMost t (cond c (later_of t e.0) t)
    by true = first_at_most t e.0
    by false = at_most_itself t

abbrev Counted : Ts → Ts × LeftOver → Type 0
Counted u e = e.1.commits ≡ true → AtMost e.0 u

stamps_count : (t : Ts) (left : List (Ts × LeftOver)) → AllByRecursion (Counted (with_left_stamps t (record { pairs = left }))) left
stamps_count t [] = tt
stamps_count t (e ∷ es) = (counted, stamps_count (cond e.1.commits (later_of t e.0) t) es)
  where
    by : (c : Bool) → c ≡ true → AtMost e.0 (cond c (later_of t e.0) t)
    by true h = second_at_most t e.0
    by false h = cc

    counted : Counted (with_left_stamps (cond e.1.commits (later_of t e.0) t) (record { pairs = es })) e
    counted h = at_most_then e.0 _ _ (by e.1.commits h) (stamps_rise (cond e.1.commits (later_of t e.0) t) es)

-- ---- which transactions are left

module _ (R : Recovered) (commits : Ts → Bool) where
  abbrev Left : Ts × LeftOver → Type 0
  Left e = (e.1.request.tx ≡ e.0) × ((e.0.repo ≢ R.repo) × AllByRecursion (IsStored R) e.1.request.writes)

  left_are : (ps : List (Ts × Request)) → AllByRecursion (IsPrepared R) ps → AllByRecursion Left (left_by R.repo commits (record { pairs = ps })).pairs
  left_are [] h = tt
  left_are (p ∷ ps) h = joined Left _ _ (by (nat_eq p.0.repo R.repo) refl) (left_are ps h.1)
    where
      by : (t : Bool) → nat_eq p.0.repo R.repo ≡ t → AllByRecursion Left (cond t [] ((p.0, record { request = p.1; commits = commits p.0 }) ∷ []))
      by true e = tt
      by false e = ((h.0.named, ((λ same. absurd (differs e same)), h.0.writes)), tt)
        where
          differs : nat_eq p.0.repo R.repo ≡ false → p.0.repo ≡ R.repo → ⊥
          differs f same = absurd (true≢false (sym (nat_eq_equiv.refl R.repo) ∙ subst (λ n. nat_eq n R.repo ≡ false) same f))

mixed : (R : Recovered) (e f : Oref × Obj) → IsStored R e → IsStored R f → IsStored R (e.0, f.1)
mixed R e f h k = record { here = h.here; page = h.page; version = k.version }

both : {X : Type 0} (P Q S : X → Type 0) (xs : List X) → ((x : X) → P x → Q x → S x) → AllByRecursion P xs → AllByRecursion Q xs → AllByRecursion S xs
both P Q S [] f h k = tt
both P Q S (x ∷ xs) f h k = (f x h.0 k.0, both P Q S xs f h.1 k.1)

pub opens : (R : Recovered) (limit : ℕ) (silence : Option ℕ) (tells : Bool) (commits : Ts → Bool) → CanOpen R commits → IsBase (opened R limit silence tells commits)
opens R limit silence tells commits can =
    let left : List (Ts × LeftOver) = (left_by R.repo commits R.prepared).pairs in
    let are : AllByRecursion (Left R commits) left = left_are R commits R.prepared.pairs can.prepared in
    let more : length R.texts ≤ length (with_left_texts R.texts (left_by R.repo commits R.prepared)) = texts_left R.texts left in
    record {
      number = can.number;
      repos = can.repos;
      life = can.life;
      count = can.count;
      epoch = can.epoch;
      pages = can.pages;
      sorted = sorted_left R.objects left can.sorted;
      objects = every (IsStored R) (IsAtBase (opened R limit silence tells commits)) _ (λ e s. record { here = s.here; page = s.page; version = omega (arith, s.version, more) }) (all_left (IsStored R) (mixed R) R.objects left can.objects (every (Left R commits) (Writes (IsStored R) (mixed R)) left (λ e l. l.1.1) are));
      roots = every _ _ R.roots (λ x there here. has_left R.objects left x (there here)) can.roots;
      alone = every _ _ R.alone.pairs (λ e l. at_most_then e.1 R.top _ l (stamps_rise R.top left)) can.alone;
      left = both (Left R commits) (Counted (with_left_stamps R.top (left_by R.repo commits R.prepared))) (IsLeftAtBase (opened R limit silence tells commits)) left (λ e l k. record { named = l.0; elsewhere = l.1.0; counted = k }) are (stamps_count R.top left);
    }
