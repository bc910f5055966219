-- What a session is told to be invalid was written by others.
use Rattle.law_cache_coherence.specs.Refusing.{OthersWrote}
use Rattle.log_entries.specs.declared.entry.Entry.{Entry}
use Rattle.log_entries.specs.declared.request.Request.{Request}
use Rattle.spec_history.proofs.LastWrite.{commit_shape}
use Rattle.spec_history.specs.History.{Base, State, commit_of, epoch_of, state, writers}
use Rattle.spec_history.specs.Requests.{has_written, is_upgrade, written}
use Rattle.spec_trace.proofs.Exactness.{by_each_item}
use Rattle.spec_trace.proofs.Kept.{writers-end}
use Rattle.spec_trace.proofs.Sessions.{session-end}
use Rattle.spec_trace.proofs.Told.{came}
use Rattle.spec_trace.proofs.Traces.{entries-append}
use Rattle.spec_trace.specs.Session.{Grant, Invalid, Notice, Page, Session, Upgrade, invalid_of, is_silent, move, moved, notice, or_retired, push, rested, retired, session, session_lives, told, told_of}
use Rattle.spec_trace.specs.Trace.{E, Item, M, entries}
use Rattle.spec_trace.specs.declared.mark.Mark.TheVariants as the
use Rattle.std.proofs.Common.{Bool, List, [], ap, cond, false, inl, inr, refl, subst, suc, sym, true, zero, ◌+◌, ◌++◌, ◌≡◌, ◌∙◌, ◌∷◌, ℕ}
use Rattle.std.proofs.lemmas.List.Elements.{All-contains_itself, All-head, Contains-append_left, Contains-append_right}
use Rattle.std.proofs.lemmas.List.{append-nil}
use Rattle.std.proofs.lemmas.Option.{same_Some}
use Rattle.std.specs.List.{Contains, filter, list_any, slice_get}
use Rattle.std.specs.Map.{keys_of, lookup}
use Rattle.std.specs.Ordering.{nat_cmp}
use Rattle.std.specs.Prelude.{None, Option, Some, is_some, nat_eq, ◌||◌, ◌⊎◌}
use Rattle.thor_value.specs.FiniteMap.{Map, has, keys}
use Rattle.thor_value.specs.Names.{same_oref}
use Rattle.thor_value.specs.declared.names.Oref.{Oref}
use Rattle.thor_value.specs.declared.values.Obj.{Obj}

-- ---- names

any_kept : (x : Oref) (f : Oref → Bool) (xs : List Oref) → list_any (same_oref x) (filter f xs) ≡ true → list_any (same_oref x) xs ≡ true
any_kept x f [] h = h
any_kept x f (y ∷ ys) h = by (same_oref x y) refl (f y) h (any_kept x f ys)
  where
    by : (t : Bool) → same_oref x y ≡ t → (u : Bool) → list_any (same_oref x) (cond u (y ∷ filter f ys) (filter f ys)) ≡ true → (list_any (same_oref x) (filter f ys) ≡ true → list_any (same_oref x) ys ≡ true) → (t || list_any (same_oref x) ys) ≡ true
    by true e u h more = refl
    by false e true h more = more (ap (λ (z : Bool). z || list_any (same_oref x) (filter f ys)) (sym e) ∙ h)
    by false e false h more = more h

found_named : (x : Oref) (es : List (Oref × Obj)) → is_some (lookup (same_oref x) es) ≡ list_any (same_oref x) (keys_of es)
found_named x [] = refl
found_named x (e ∷ es) = by (same_oref x e.0) (found_named x es)
  where
    by : (t : Bool) → is_some (lookup (same_oref x) es) ≡ list_any (same_oref x) (keys_of es) → is_some (cond t (Some e.1) (lookup (same_oref x) es)) ≡ (t || list_any (same_oref x) (keys_of es))
    by true h = refl
    by false h = h

pub wrote_named : (x : Oref) (f : Oref → Bool) (q : Request) → list_any (same_oref x) (filter f (keys (written q))) ≡ true → has_written q x ≡ true
wrote_named x f q h = found_named x (written q).pairs ∙ any_kept x f (keys (written q)) h

-- ---- what is sent

at_end : (sent : List Notice) (m n : Notice) (j : ℕ) → slice_get (sent ++ m ∷ []) j ≡ Some n → (slice_get sent j ≡ Some n) ⊎ (m ≡ n)
at_end [] m n zero h = inr (same_Some m n h)
at_end [] m n (suc j) h = cc
at_end (y ∷ ys) m n zero h = inl h
at_end (y ∷ ys) m n (suc j) h = at_end ys m n j h

pushed : (sent : List Notice) (o : Option Notice) (n : Notice) (j : ℕ) → slice_get (push sent o) j ≡ Some n → (slice_get sent j ≡ Some n) ⊎ (o ≡ Some n)
pushed sent None n j h = inl h
pushed sent (Some m) n j h = elim (at_end sent m n j h) [
  | inl old ↦ inl old
  | inr new ↦ inr (ap Some new)
]

no_answer : (t : Bool) (p k n : ℕ) (names : List Oref) {A : Type 0} → cond t (Some (Page p k)) None ≡ Some (Invalid names n) → A
no_answer true p k n names h = cc
no_answer false p k n names h = cc

no_grant : (t : Bool) (p k n : ℕ) (names : List Oref) {A : Type 0} → cond t (Some (Grant p k)) None ≡ Some (Invalid names n) → A
no_grant true p k n names h = cc
no_grant false p k n names h = cc

made : (xs names : List Oref) (l k : ℕ) → invalid_of xs l ≡ Some (Invalid names k) → (xs ≡ names) × (l ≡ k)
made [] names l k h = cc
made (y ∷ ys) names l k h = let one : y ∷ ys ≡ names = cc in let two : l ≡ k = cc in (one, two)

module _ (b : Base) (s : ℕ) where
  -- the names are of what another session's commit wrote
  told_by : (S : State) (pages : Map nat_cmp ℕ) (q : Request) (names : List Oref) (k : ℕ) → told s S pages q ≡ Some (Invalid names k) → (nat_eq q.session s ≡ false) × (filter (λ y. has pages y.page) (keys (written q)) ≡ names) × (S.length ≡ k)
  told_by S pages q names k h = by (is_upgrade q) (nat_eq q.session s) refl h
    where
      by : (u t : Bool) → nat_eq q.session s ≡ t → cond u (Some (Upgrade (epoch_of S + 1) S.length)) (cond t None (invalid_of (filter (λ y. has pages y.page) (keys (written q))) S.length)) ≡ Some (Invalid names k)
          → (nat_eq q.session s ≡ false) × (filter (λ y. has pages y.page) (keys (written q)) ≡ names) × (S.length ≡ k)
      by true t e h = cc
      by false true e h = cc
      by false false e h = let m = made (filter (λ y. has pages y.page) (keys (written q))) names S.length k h in (e, m.0, m.1)

  -- each invalidation that a session was sent names what others wrote at its place
  abbrev Named : List Item → Session → Type 0
  Named T v = (j : ℕ) (names : List Oref) (k : ℕ) → slice_get v.sent j ≡ Some (Invalid names k) → (x : Oref) → list_any (same_oref x) names ≡ true → OthersWrote b T s x k

  abbrev AllNamed : List Item → Type 0
  AllNamed T = (v : Session) → session b T s ≡ Some v → Named T v

  -- a commit that stands in a history stands in one that has grown
  grown : (T : List Item) (i : Item) (x : Oref) (k : ℕ) → OthersWrote b T s x k → OthersWrote b (T ++ i ∷ []) s x k
  grown T (M m) x k h = record { commit = h.commit; there = subst (λ (H : List Entry). Contains (writers b H x) h.commit) (sym (entries-append T (M m ∷ []) ∙ append-nil (entries T))) h.there; place = h.place; other = h.other }
  grown T (E e) x k h = record {
    commit = h.commit;
    there = subst (λ (H : List Entry). Contains (writers b H x) h.commit) (sym (entries-append T (E e ∷ []))) (subst (λ (cs : List (ℕ × Request)). Contains cs h.commit) (sym (writers-end b (entries T) e x)) (Contains-append_left (writers b (entries T) x) (filter (λ c. has_written c.1 x) (commit_of b (state b (entries T)) e)) h.commit h.there));
    place = h.place;
    other = h.other;
  }

  -- the commit that the entry is
  now : (T : List Item) (e : Entry) (q : Request) (x : Oref) → commit_of b (state b (entries T)) e ≡ ((state b (entries T)).length, q) ∷ [] → has_written q x ≡ true → nat_eq q.session s ≡ false → (k : ℕ) → (state b (entries T)).length ≡ k → OthersWrote b (T ++ E e ∷ []) s x k
  now T e q x is wrote other k place =
      let c : ℕ × Request = ((state b (entries T)).length, q) in
      let here : Contains (filter (λ d. has_written d.1 x) (c ∷ [])) c = subst (λ (t : Bool). Contains (cond t (c ∷ []) []) c) (sym wrote) (All-head (Contains (c ∷ [])) c [] (All-contains_itself (c ∷ []))) in
      let among : Contains (filter (λ d. has_written d.1 x) (commit_of b (state b (entries T)) e)) c = subst (λ (cs : List (ℕ × Request)). Contains (filter (λ d. has_written d.1 x) cs) c) (sym is) here in
      record {
        commit = c;
        there = subst (λ (H : List Entry). Contains (writers b H x) c) (sym (entries-append T (E e ∷ []))) (subst (λ (cs : List (ℕ × Request)). Contains cs c) (sym (writers-end b (entries T) e x)) (Contains-append_right (writers b (entries T) x) (filter (λ d. has_written d.1 x) (commit_of b (state b (entries T)) e)) c among));
        place = place;
        other = other;
      }

  -- the invalidation that is sent at an item
  new_named : (T : List Item) (i : Item) (pages : Map nat_cmp ℕ) (names : List Oref) (k : ℕ) → notice b s (state b (entries T)) pages i ≡ Some (Invalid names k) → (x : Oref) → list_any (same_oref x) names ≡ true → OthersWrote b (T ++ i ∷ []) s x k
  new_named T (M (the.Connected n c)) pages names k h x named = cc
  new_named T (M (the.Took n p)) pages names k h x named = cc
  new_named T (M (the.Fetched n page upto)) pages names k h x named = no_answer (nat_eq n s) page (state b (entries T)).length k names h
  new_named T (M (the.Granted n page)) pages names k h x named = no_grant (nat_eq n s) page (state b (entries T)).length k names h
  new_named T (M (the.Drew n t)) pages names k h x named = cc
  new_named T (M (the.Forgot t)) pages names k h x named = cc
  new_named T (M (the.Refused n q r)) pages names k h x named = cc
  new_named T (E e) pages names k h x named = elim (commit_shape b (state b (entries T)) e) [
    | inl none ↦ let never : None ≡ Some (Invalid names k) = ap (λ (cs : List (ℕ × Request)). told_of s (state b (entries T)) pages cs) (sym none) ∙ h in cc
    | inr one ↦
        let t = told_by (state b (entries T)) pages one.0 names k (ap (λ (cs : List (ℕ × Request)). told_of s (state b (entries T)) pages cs) (sym one.1) ∙ h) in
        now T e one.0 x one.1 (wrote_named x (λ y. has pages y.page) one.0 (ap (list_any (same_oref x)) t.1 ∙ named)) t.0 k t.2
  ]

  moved_named : (T : List Item) (i : Item) (u : Session) → Named T u → Named (T ++ i ∷ []) (move b s (state b (entries T)) i u)
  moved_named T i u p = by (session_lives u)
    where
      both : (w : Session) → w.sent ≡ push u.sent (notice b s (state b (entries T)) u.pages i) → Named (T ++ i ∷ []) w
      both w sent j names k is x named = elim (pushed u.sent (notice b s (state b (entries T)) u.pages i) (Invalid names k) j (ap (λ (ms : List Notice). slice_get ms j) (sym sent) ∙ is)) [
        | inl old ↦ grown T i x k (p j names k old x named)
        | inr new ↦ new_named T i u.pages names k new x named
      ]

      silent : (t : Bool) → Named (T ++ i ∷ []) (cond t (record (moved b s (state b (entries T)) u i) { stage = retired (moved b s (state b (entries T)) u i).stage }) (moved b s (state b (entries T)) u i))
      silent true = both (record (moved b s (state b (entries T)) u i) { stage = retired (moved b s (state b (entries T)) u i).stage }) refl
      silent false = both (moved b s (state b (entries T)) u i) refl

      by : (t : Bool) → Named (T ++ i ∷ []) (cond t (or_retired b (moved b s (state b (entries T)) u i)) (rested u i))
      by true = silent (is_silent b.silence (moved b s (state b (entries T)) u i))
      by false = λ j names k is x named. grown T i x k (p j names k is x named)

  pub all_named : (T : List Item) → AllNamed T
  all_named = by_each_item AllNamed (λ v is. cc) step
    where
      step : (T : List Item) (i : Item) → AllNamed T → AllNamed (T ++ i ∷ [])
      step T i p v is = elim (came b s (state b (entries T)) (session b T s) i v (sym (session-end b T i s) ∙ is)) [
        | inl begins ↦ λ j names k there x named. let never : slice_get [] j ≡ Some (Invalid names k) = ap (λ (ms : List Notice). slice_get ms j) (sym begins.1) ∙ there in none_there j never
        | inr y ↦ subst (Named (T ++ i ∷ [])) (sym y.2) (moved_named T i y.0 (p y.0 y.1))
      ]
        where
          none_there : {A : Type 0} {m : Notice} (j : ℕ) → slice_get [] j ≡ Some m → A
          none_there zero h = cc
          none_there (suc j) h = cc
