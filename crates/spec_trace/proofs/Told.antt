-- A live session was told of each commit of an object on one of its pages by another session.
use Rattle.log_entries.specs.declared.entry.Entry.{Entry}
use Rattle.log_entries.specs.declared.request.Request.{Request}
use Rattle.spec_history.proofs.Below.{within}
use Rattle.spec_history.proofs.Growth.{length-state}
use Rattle.spec_trace.proofs.Kept.{writers-end}
use Rattle.spec_history.proofs.LastWrite.{commit_shape}
use Rattle.spec_history.proofs.Listed.{get_end}
use Rattle.spec_trace.proofs.Sessions.{session-end}
use Rattle.spec_trace.proofs.Traces.{entries-append}
use Rattle.spec_trace.specs.Current.{IsTold, WasToldOf}
use Rattle.spec_history.specs.History.{Base, State, commit_of, commits, epoch_of, start, state, writers}
use Rattle.spec_history.specs.Requests.{has_written, is_upgrade, written}
use Rattle.spec_trace.specs.Session.{Ended, Invalid, Notice, Session, Upgrade, begun, cache, invalid_of, is_live, is_silent, lives_on, meet, move, moved, notice, or_retired, pages_after, push, rested, retired, session, session_lives, told, told_of}
use Rattle.spec_trace.specs.Trace.{E, Item, M, entries}
use Rattle.spec_trace.specs.declared.mark.Mark.TheVariants as the
use Rattle.std.proofs.Common.{Bool, List, [], ap, append_assoc, arith, cond, false, inl, inr, length, refl, subst, suc, sym, true, zero, ℕ, ◌+◌, ◌++◌, ◌<◌, ◌≡◌, ◌≤◌, ◌∙◌, ◌∷◌}
use Rattle.std.proofs.lemmas.List.Elements.{All-append, All-cons, All-nil}
use Rattle.std.proofs.lemmas.List.{append-nil}
use Rattle.std.specs.Cmp.{nat_cmp_total}
use Rattle.std.specs.List.{All, AllByRecursion, filter, list_any, slice_get}
use Rattle.std.specs.Map.{keys_of, lookup}
use Rattle.std.specs.Option.{is_some, option_map}
use Rattle.std.specs.Ordering.{eq_by_cmp, is_eq, nat_cmp}
use Rattle.std.specs.Prelude.{None, Option, Some, nat_eq, ◌||◌, ◌⊎◌}
use Rattle.std.specs.declared.cmp.Ordering.TheVariants.{Equal, Greater, Less}
use Rattle.std.specs.declared.cmp.Ordering.{Ordering}
use Rattle.thor_value.proofs.FiniteMap.{get-insert}
use Rattle.thor_value.proofs.NameOrders.{oref_exact}
use Rattle.thor_value.specs.FiniteMap.{Map, empty, get, has, insert, keys}
use Rattle.thor_value.specs.Names.{oref_cmp, same_oref}
use Rattle.thor_value.specs.declared.names.Oref.{Oref}
use Rattle.thor_value.specs.declared.values.Obj.{Obj}

equal : (r : Ordering) → is_eq r ≡ true → r ≡ Equal
equal Equal h = refl
equal Less h = cc
equal Greater h = cc

-- ---- the messages

get-more : {X : Type 0} (xs ys : List X) (i : ℕ) (y : X) → slice_get xs i ≡ Some y → slice_get (xs ++ ys) i ≡ Some y
get-more [] ys i y h = cc
get-more (x ∷ xs) ys zero y h = h
get-more (x ∷ xs) ys (suc i) y h = get-more xs ys i y h

told-more : (sent : List Notice) (o : Option Notice) (x : Oref) (k : ℕ) → IsTold sent x k → IsTold (push sent o) x k
told-more sent None x k h = h
told-more sent (Some m) x k h = record { at = h.at; names = h.names; message = get-more sent (m ∷ []) h.at (Invalid h.names k) h.message; named = h.named }

-- ---- the names that are told

lookup-any : (x : Oref) (es : List (Oref × Obj)) → is_some (lookup (same_oref x) es) ≡ list_any (same_oref x) (keys_of es)
lookup-any x [] = refl
lookup-any x (e ∷ es) = by (same_oref x e.0) (lookup-any x es)
  where
    by : (t : Bool) → is_some (lookup (same_oref x) es) ≡ list_any (same_oref x) (keys_of es) → is_some (cond t (Some e.1) (lookup (same_oref x) es)) ≡ (t || list_any (same_oref x) (keys_of es))
    by true h = refl
    by false h = h

any-filter : (x : Oref) (f : Oref → Bool) (xs : List Oref) → f x ≡ true → list_any (same_oref x) xs ≡ true → list_any (same_oref x) (filter f xs) ≡ true
any-filter x f [] p h = h
any-filter x f (y ∷ ys) p h = by (same_oref x y) refl (f y) refl h (λ g. any-filter x f ys p g)
  where
    by : (t : Bool) → same_oref x y ≡ t → (u : Bool) → f y ≡ u → (t || list_any (same_oref x) ys) ≡ true → (list_any (same_oref x) ys ≡ true → list_any (same_oref x) (filter f ys) ≡ true) → list_any (same_oref x) (cond u (y ∷ filter f ys) (filter f ys)) ≡ true
    by true e true g h more = rw e refl
    by true e false g h more = let same : x ≡ y = oref_exact x y (equal (oref_cmp x y) e) in let k : f x ≡ false = ap f same ∙ g in cc
    by false e true g h more = rw e (more h)
    by false e false g h more = more h

invalid-told : (sent : List Notice) (x : Oref) (names : List Oref) (k : ℕ) → list_any (same_oref x) names ≡ true → IsTold (push sent (invalid_of names k)) x k
invalid-told sent x [] k h = cc
invalid-told sent x (y ∷ ys) k h = record { at = length sent; names = y ∷ ys; message = get_end sent (Invalid (y ∷ ys) k); named = h }

told-now : (s : ℕ) (S : State) (pages : Map nat_cmp ℕ) (sent : List Notice) (x : Oref) (q : Request) (p : ℕ) → get pages x.page ≡ Some p → nat_eq q.session s ≡ false → is_upgrade q ≡ false → has_written q x ≡ true → IsTold (push sent (told s S pages q)) x S.length
told-now s S pages sent x q p is other plain wrote =
    let f : Oref → Bool = λ y. has pages y.page in
    let names : List Oref = filter f (keys (written q)) in
    let there : f x ≡ true = ap (λ (o : Option ℕ). is_some o) is in
    let named : list_any (same_oref x) names ≡ true = any-filter x f (keys (written q)) there (sym (lookup-any x (written q).pairs) ∙ wrote) in
    let e : told s S pages q ≡ invalid_of names S.length = ap (λ (u : Bool). cond u (Some (Upgrade (epoch_of S + 1) S.length)) (cond (nat_eq q.session s) None (invalid_of names S.length))) plain ∙ ap (λ (u : Bool). cond u None (invalid_of names S.length)) other in
    subst (λ (o : Option Notice). IsTold (push sent o) x S.length) (sym e) (invalid-told sent x names S.length named)

-- ---- the pages

pub cached : (pages : Map nat_cmp ℕ) (page k q p : ℕ) → get (cache pages page k) q ≡ Some p → (get pages q ≡ Some p) ⊎ (p ≡ k)
cached pages page k q p h = by (has pages page) h
  where
    at : (t : Bool) → cond t (Some k) (get pages q) ≡ Some p → (get pages q ≡ Some p) ⊎ (p ≡ k)
    at true e = let f : k ≡ p = cc in inr (sym f)
    at false e = inl e

    by : (t : Bool) → get (cond t pages (insert pages page k)) q ≡ Some p → (get pages q ≡ Some p) ⊎ (p ≡ k)
    by true e = inl e
    by false e = at (eq_by_cmp nat_cmp q page) (sym (get-insert nat_cmp_total pages page k q) ∙ e)

cached-own : (own : Bool) (pages : Map nat_cmp ℕ) (page k q p : ℕ) → get (cond own (cache pages page k) pages) q ≡ Some p → (get pages q ≡ Some p) ⊎ (p ≡ k)
cached-own true pages page k q p h = cached pages page k q p h
cached-own false pages page k q p h = inl h

-- a page was there, or it has come now
pub pages-old : (s : ℕ) (S : State) (pages : Map nat_cmp ℕ) (i : Item) (q p : ℕ) → get (pages_after s S pages i) q ≡ Some p → (get pages q ≡ Some p) ⊎ (p ≡ S.length)
pages-old s S pages (E e) q p h = inl h
pages-old s S pages (M (the.Fetched n page upto)) q p h = cached-own (nat_eq n s) pages page S.length q p h
pages-old s S pages (M (the.Granted n page)) q p h = cached-own (nat_eq n s) pages page S.length q p h
pages-old s S pages (M (the.Connected n d)) q p h = inl h
pages-old s S pages (M (the.Took n k)) q p h = inl h
pages-old s S pages (M (the.Drew n t)) q p h = inl h
pages-old s S pages (M (the.Forgot t)) q p h = inl h
pages-old s S pages (M (the.Refused n r z)) q p h = inl h

-- ---- lists of commits

all-of : (P : ℕ × Request → Type 0) (xs : List (ℕ × Request)) → AllByRecursion P xs → All P xs
all-of P [] h = All-nil P
all-of P (x ∷ xs) h = All-cons P x xs h.0 (all-of P xs h.1)

all-filter : (P : ℕ × Request → Type 0) (f : ℕ × Request → Bool) (xs : List (ℕ × Request)) → AllByRecursion P xs → AllByRecursion P (filter f xs)
all-filter P f [] h = tt
all-filter P f (x ∷ xs) h = by (f x) (all-filter P f xs h.1)
  where
    by : (t : Bool) → AllByRecursion P (filter f xs) → AllByRecursion P (cond t (x ∷ filter f xs) (filter f xs))
    by true r = (h.0, r)
    by false r = r

pub all-both : (P Q R : ℕ × Request → Type 0) (xs : List (ℕ × Request)) → ((c : ℕ × Request) → P c → Q c → R c) → All P xs → All Q xs → All R xs
all-both P Q R xs f p q = λ k d l. f _ (p k d l) (q k d l)

module _ (b : Base) where
  pub writers-below : (H : List Entry) (x : Oref) → All (λ c. c.0 < length H) (writers b H x)
  writers-below H x =
      let inside : AllByRecursion (λ c. (0 ≤ c.0) × (c.0 < 0 + length H)) (writers b H x) = all-filter (λ c. (0 ≤ c.0) × (c.0 < 0 + length H)) (λ c. has_written c.1 x) (commits b H) (within b (start b) H) in
      let all : All (λ c. (0 ≤ c.0) × (c.0 < 0 + length H)) (writers b H x) = all-of (λ c. (0 ≤ c.0) × (c.0 < 0 + length H)) (writers b H x) inside in
      all-both (λ c. (0 ≤ c.0) × (c.0 < 0 + length H)) (λ c. (0 ≤ c.0) × (c.0 < 0 + length H)) (λ c. c.0 < length H) (writers b H x) (λ c p q. below c.0 p.1) all all
    where
      below : (n : ℕ) → n < 0 + length H → n < length H
      below n h = omega arith

  -- ---- one more item

  moves : (s : ℕ) (S : State) (i : Item) (o : Option Session) (w : Session) → option_map (move b s S i) o ≡ Some w → (v : Session) × (o ≡ Some v) × (w ≡ move b s S i v)
  moves s S i None w h = cc
  moves s S i (Some v) w h = let f : move b s S i v ≡ w = cc in (v, refl, sym f)

  -- w has no page and was sent nothing
  abbrev pub Begins : Session → Type 0
  Begins w = (w.pages ≡ empty) × (w.sent ≡ [])

  -- a session begins at an item, with no page, or it is moved by it
  pub came : (s : ℕ) (S : State) (o : Option Session) (i : Item) (w : Session) → meet b s S o i ≡ Some w → Begins w ⊎ ((v : Session) × (o ≡ Some v) × (w ≡ move b s S i v))
  came s S o (M (the.Connected n c)) w h = by (nat_eq n s) h
    where
      by : (t : Bool) → cond t (Some (begun c S.length)) (option_map (move b s S (M (the.Connected n c))) o) ≡ Some w → Begins w ⊎ ((v : Session) × (o ≡ Some v) × (w ≡ move b s S (M (the.Connected n c)) v))
      by true e = let f : begun c S.length ≡ w = cc in inl (ap (λ (z : Session). z.pages) (sym f), ap (λ (z : Session). z.sent) (sym f))
      by false e = inr (moves s S (M (the.Connected n c)) o w e)
  came s S o (E e) w h = inr (moves s S (E e) o w h)
  came s S o (M (the.Took n k)) w h = inr (moves s S (M (the.Took n k)) o w h)
  came s S o (M (the.Fetched n page upto)) w h = inr (moves s S (M (the.Fetched n page upto)) o w h)
  came s S o (M (the.Granted n page)) w h = inr (moves s S (M (the.Granted n page)) o w h)
  came s S o (M (the.Drew n t)) w h = inr (moves s S (M (the.Drew n t)) o w h)
  came s S o (M (the.Forgot t)) w h = inr (moves s S (M (the.Forgot t)) o w h)
  came s S o (M (the.Refused n q r)) w h = inr (moves s S (M (the.Refused n q r)) o w h)

  -- what a session that is live behind an item is
  abbrev pub Went : ℕ → State → Item → Session → Session → Type 0
  Went s S i v w = (session_lives v ≡ true) × (w.pages ≡ pages_after s S v.pages i) × (w.sent ≡ push v.sent (notice b s S v.pages i))

  pub went : (s : ℕ) (S : State) (i : Item) (v : Session) → session_lives (move b s S i v) ≡ true → Went s S i v (move b s S i v)
  went s S i v h = by (session_lives v) refl h
    where
      dead : (t : Bool) → session_lives v ≡ false → is_live (cond t v.stage Ended) ≡ false
      dead true l = l
      dead false l = refl

      silent : (t : Bool) → session_lives v ≡ true → Went s S i v (cond t (record (moved b s S v i) { stage = retired (moved b s S v i).stage }) (moved b s S v i))
      silent true l = (l, refl, refl)
      silent false l = (l, refl, refl)

      by : (t : Bool) → session_lives v ≡ t → session_lives (cond t (or_retired b (moved b s S v i)) (rested v i)) ≡ true → Went s S i v (cond t (or_retired b (moved b s S v i)) (rested v i))
      by true l g = silent (is_silent b.silence (moved b s S v i)) l
      by false l g = let n : false ≡ true = sym (dead (lives_on v.client i) l) ∙ g in cc

  -- a commit of before
  tells-more : (s : ℕ) (S : State) (i : Item) (v w : Session) (x : Oref) (c : ℕ × Request) → Went s S i v w → c.0 < S.length → WasToldOf s v x c → WasToldOf s w x c
  tells-more s S i v w x c g l h p is le other plain =
      let told : IsTold v.sent x c.0 = elim (pages-old s S v.pages i x.page p (ap (λ (m : Map nat_cmp ℕ). get m x.page) (sym g.1) ∙ is)) [
        | inl old ↦ h p old le other plain
        | inr new ↦ absurd (omega arith)
      ] in
      subst (λ (ms : List Notice). IsTold ms x c.0) (sym g.2) (told-more v.sent (notice b s S v.pages i) x c.0 told)

  -- the commit that is the item
  tells-now : (s : ℕ) (S : State) (e : Entry) (v w : Session) (x : Oref) (q : Request) → Went s S (E e) v w → commit_of b S e ≡ (S.length, q) ∷ [] → has_written q x ≡ true → WasToldOf s w x (S.length, q)
  tells-now s S e v w x q g is wrote p page le other plain =
      let there : get v.pages x.page ≡ Some p = ap (λ (m : Map nat_cmp ℕ). get m x.page) (sym g.1) ∙ page in
      let sent : w.sent ≡ push v.sent (told s S v.pages q) = g.2 ∙ ap (λ (cs : List (ℕ × Request)). push v.sent (told_of s S v.pages cs)) is in
      subst (λ (ms : List Notice). IsTold ms x S.length) (sym sent) (told-now s S v.pages v.sent x q p there other plain wrote)

  all-now : (s : ℕ) (S : State) (e : Entry) (v w : Session) (x : Oref) → Went s S (E e) v w → All (WasToldOf s w x) (filter (λ c. has_written c.1 x) (commit_of b S e))
  all-now s S e v w x g = elim (commit_shape b S e) [
    | inl none ↦ subst (λ (cs : List (ℕ × Request)). All (WasToldOf s w x) (filter (λ c. has_written c.1 x) cs)) (sym none) (All-nil (WasToldOf s w x))
    | inr one ↦ subst (λ (cs : List (ℕ × Request)). All (WasToldOf s w x) (filter (λ c. has_written c.1 x) cs)) (sym one.1) (by one.0 one.1 (has_written one.0 x) refl)
  ]
    where
      by : (q : Request) → commit_of b S e ≡ (S.length, q) ∷ [] → (t : Bool) → has_written q x ≡ t → All (WasToldOf s w x) (cond t ((S.length, q) ∷ []) [])
      by q is true wrote = All-cons (WasToldOf s w x) (S.length, q) [] (tells-now s S e v w x q g is wrote) (All-nil (WasToldOf s w x))
      by q is false wrote = All-nil (WasToldOf s w x)

  old-told : (s : ℕ) (S : State) (i : Item) (v w : Session) (x : Oref) (cs : List (ℕ × Request)) (n : ℕ) → n ≡ S.length → Went s S i v w → All (λ c. c.0 < n) cs → All (WasToldOf s v x) cs → All (WasToldOf s w x) cs
  old-told s S i v w x cs n same g below h = all-both (λ c. c.0 < n) (WasToldOf s v x) (WasToldOf s w x) cs (λ c l t. tells-more s S i v w x c g (subst (λ (k : ℕ). c.0 < k) same l) t) below h

  -- what holds at the beginning, and behind one more item where it held before
  pub at_end : (P : List Item → Type 0) → P [] → ((T : List Item) (i : Item) → P T → P (T ++ i ∷ [])) → (T : List Item) → P T
  at_end P first step T = go [] T first
    where
      go : (done rest : List Item) → P done → P (done ++ rest)
      go done [] h = subst P (sym (append-nil done)) h
      go done (i ∷ rest) h = subst P (append_assoc done (i ∷ []) rest) (go (done ++ i ∷ []) rest (step done i h))

  abbrev AllTold : ℕ → List Item → Type 0
  AllTold s T = (v : Session) → session b T s ≡ Some v → session_lives v ≡ true → (x : Oref) → All (WasToldOf s v x) (writers b (entries T) x)

  -- none is told of a page that isn't there
  no-page : (s : ℕ) (w : Session) (x : Oref) (cs : List (ℕ × Request)) → w.pages ≡ empty → All (WasToldOf s w x) cs
  no-page s w x [] h = All-nil (WasToldOf s w x)
  no-page s w x (c ∷ cs) h = All-cons (WasToldOf s w x) c cs (λ p is le other plain. let e : None ≡ Some p = sym (ap (λ (m : Map nat_cmp ℕ). get m x.page) h) ∙ is in cc) (no-page s w x cs h)

  behind : (s : ℕ) (T : List Item) (i : Item) (v w : Session) → session b T s ≡ Some v → AllTold s T → Went s (state b (entries T)) i v w → (x : Oref) → All (WasToldOf s w x) (writers b (entries (T ++ i ∷ [])) x)
  behind s T (M m) v w is h g x =
      let e : entries (T ++ M m ∷ []) ≡ entries T = entries-append T (M m ∷ []) ∙ append-nil (entries T) in
      subst (λ (H : List Entry). All (WasToldOf s w x) (writers b H x)) (sym e) (old-told s (state b (entries T)) (M m) v w x (writers b (entries T) x) (length (entries T)) (sym (length-state b (entries T))) g (writers-below (entries T) x) (h v is g.0 x))
  behind s T (E e) v w is h g x =
      let S : State = state b (entries T) in
      let old : All (WasToldOf s w x) (writers b (entries T) x) = old-told s S (E e) v w x (writers b (entries T) x) (length (entries T)) (sym (length-state b (entries T))) g (writers-below (entries T) x) (h v is g.0 x) in
      let both : All (WasToldOf s w x) (writers b (entries T ++ e ∷ []) x) = subst (All (WasToldOf s w x)) (sym (writers-end b (entries T) e x)) (All-append (WasToldOf s w x) (writers b (entries T) x) (filter (λ c. has_written c.1 x) (commit_of b S e)) old (all-now s S e v w x g)) in
      subst (λ (H : List Entry). All (WasToldOf s w x) (writers b H x)) (sym (entries-append T (E e ∷ []))) both

  -- a live session was told of each commit
  pub all-told : (s : ℕ) (T : List Item) → AllTold s T
  all-told s = at_end (AllTold s) (λ v is l x. cc) (λ T i h w is l x. by T i h w l x (came s (state b (entries T)) (session b T s) i w (sym (session-end b T i s) ∙ is)))
    where
      by : (T : List Item) (i : Item) → AllTold s T → (w : Session) → session_lives w ≡ true → (x : Oref) → Begins w ⊎ ((v : Session) × (session b T s ≡ Some v) × (w ≡ move b s (state b (entries T)) i v)) → All (WasToldOf s w x) (writers b (entries (T ++ i ∷ [])) x)
      by T i h w l x (inl none) = no-page s w x (writers b (entries (T ++ i ∷ [])) x) none.0
      by T i h w l x (inr y) =
          let v : Session = y.0 in
          let live : session_lives (move b s (state b (entries T)) i v) ≡ true = ap (λ (z : Session). session_lives z) (sym y.2) ∙ l in
          subst (λ (z : Session). All (WasToldOf s z x) (writers b (entries (T ++ i ∷ [])) x)) (sym y.2) (behind s T i v (move b s (state b (entries T)) i v) y.1 h (went s (state b (entries T)) i v live) x)
