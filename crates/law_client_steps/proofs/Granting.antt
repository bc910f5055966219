-- That a page which was granted to a session is one of its pages, and that the news of a session are of places that are there.
use Rattle.law_atomic_commit.proofs.Committing.{or-cases}
use Rattle.log_entries.specs.declared.request.Request.{Request}
use Rattle.spec_history.proofs.Growth.{length-state}
use Rattle.spec_history.proofs.Listed.{end_cases, some_and}
use Rattle.spec_history.specs.History.{Base, State, commit_of, epoch_of, state}
use Rattle.spec_history.specs.Requests.{is_upgrade, written}
use Rattle.spec_trace.proofs.Exactness.{by_each_item, came-end, exact-beginning, exact-owed, known, sessions-rise}
use Rattle.spec_trace.proofs.Kept.{Extends, pages-extend}
use Rattle.spec_trace.proofs.Told.{went}
use Rattle.spec_trace.proofs.Traces.{entries-append}
use Rattle.spec_trace.specs.Calls.{grants, last_session, next_page, was_granted}
use Rattle.spec_trace.specs.Exact.{ItemIsExact, exact, most_pages}
use Rattle.spec_trace.specs.Session.{Grant, Invalid, Notice, Page, Session, Upgrade, cache, invalid_of, is_news, is_silent, move, moved, notice, or_retired, pages_after, place_of, push, rested, retired, session, session_lives, told_of}
use Rattle.spec_trace.specs.Trace.{E, Item, M, entries}
use Rattle.spec_trace.specs.declared.mark.Mark.TheVariants as the
use Rattle.std.proofs.Common.{Bool, List, [], ap, arith, cond, false, inl, inr, refl, subst, sym, true, ◌+◌, ◌++◌, ◌∙◌, ◌∷◌, ◌≡◌, ◌≤◌, ℕ}
use Rattle.std.proofs.lemmas.Bool.{and_parts, eqb-true}
use Rattle.std.proofs.lemmas.Cmp.{tied_itself}
use Rattle.std.proofs.lemmas.List.Folds.{list_any-append}
use Rattle.std.proofs.lemmas.List.{length-append}
use Rattle.std.proofs.lemmas.Option.{same_Some}
use Rattle.std.specs.Cmp.{nat_cmp_total}
use Rattle.std.specs.List.{filter, list_any, slice_get}
use Rattle.std.specs.Option.{is_some}
use Rattle.std.specs.Ordering.{is_eq, nat_cmp}
use Rattle.std.specs.Prelude.{None, Option, Some, length, nat_eq, ◌<◌, ◌||◌, ◌⊎◌}
use Rattle.thor_value.proofs.FiniteMap.{get-insert}
use Rattle.thor_value.specs.FiniteMap.{Map, get, has, insert, keys}
use Rattle.thor_value.specs.declared.names.Oref.{Oref}

last : (t : Bool) → (t || false) ≡ true → t ≡ true
last true e = refl
last false e = e

-- what holds of one of the items holds of one before the last, or of the last
any_end : (f : Item → Bool) (T : List Item) (i : Item) → list_any f (T ++ i ∷ []) ≡ true → (list_any f T ≡ true) ⊎ (f i ≡ true)
any_end f T i h = elim (or-cases (list_any f T) (list_any f (i ∷ [])) (sym (list_any-append f T (i ∷ [])) ∙ h)) [
  | inl before ↦ inl before
  | inr here ↦ inr (last (f i) here)
]

-- ---- pages

has_cached : (pages : Map nat_cmp ℕ) (page k : ℕ) → has (cache pages page k) page ≡ true
has_cached pages page k = by (has pages page) refl
  where
    by : (t : Bool) → has pages page ≡ t → has (cond t pages (insert pages page k)) page ≡ true
    by true e = e
    by false e = ap is_some (get-insert nat_cmp_total pages page k page) ∙ ap (λ (t : Bool). is_some (cond t (Some k) (get pages page))) (ap is_eq (tied_itself nat_cmp_total page))

has_extended : (m n : Map nat_cmp ℕ) → Extends m n → (page : ℕ) → has m page ≡ true → has n page ≡ true
has_extended m n x page h = by (get m page) refl h
  where
    by : (o : Option ℕ) → get m page ≡ o → is_some o ≡ true → has n page ≡ true
    by None e g = cc
    by (Some c) e g = ap is_some (x page c e)

grant_page : (s : ℕ) (S : State) (pages : Map nat_cmp ℕ) (i : Item) (page : ℕ) → grants s page i ≡ true → has (pages_after s S pages i) page ≡ true
grant_page s S pages (M (the.Granted n k)) page g =
    let both = and_parts (nat_eq n s) (nat_eq k page) g in
    let here : nat_eq n s ≡ true = both.0 in
    let same : k ≡ page = eqb-true k page both.1 in
    ap (λ (t : Bool). has (cond t (cache pages k S.length) pages) page) here ∙ ap (λ (p : ℕ). has (cache pages p S.length) page) same ∙ has_cached pages page S.length
grant_page s S pages (E e) page g = cc
grant_page s S pages (M (the.Connected n c)) page g = cc
grant_page s S pages (M (the.Fetched n k upto)) page g = cc
grant_page s S pages (M (the.Took n k)) page g = cc
grant_page s S pages (M (the.Drew n t)) page g = cc
grant_page s S pages (M (the.Forgot t)) page g = cc
grant_page s S pages (M (the.Refused n q r)) page g = cc

module _ (b : Base) where
  grant_session : (T : List Item) (i : Item) (s page : ℕ) → ItemIsExact b T i → grants s page i ≡ true → s ≤ last_session T
  grant_session T (M (the.Granted n k)) s page x g =
      let v = some_and (session b T n) (λ v. (session_lives v ≡ true) × ((k ≡ next_page b T) × (k < most_pages))) x in
      subst (λ (m : ℕ). m ≤ last_session T) (eqb-true n s (and_parts (nat_eq n s) (nat_eq k page) g).0) (known b T n v.0 v.1)
  grant_session T (E e) s page x g = cc
  grant_session T (M (the.Connected n c)) s page x g = cc
  grant_session T (M (the.Fetched n k upto)) s page x g = cc
  grant_session T (M (the.Took n k)) s page x g = cc
  grant_session T (M (the.Drew n t)) s page x g = cc
  grant_session T (M (the.Forgot t)) s page x g = cc
  grant_session T (M (the.Refused n q r)) s page x g = cc

  -- a session that was granted a page is there
  granted_number : (s page : ℕ) (T : List Item) → exact b T → was_granted T s page ≡ true → s ≤ last_session T
  granted_number s page = by_each_item (λ T. exact b T → was_granted T s page ≡ true → s ≤ last_session T) (λ k w. cc) (λ T i ih k w.
      let up : last_session T ≤ last_session (T ++ i ∷ []) = sessions-rise T (i ∷ []) in
      elim (any_end (grants s page) T i w) [
        | inl old ↦ let l : s ≤ last_session T = ih (exact-beginning b T (i ∷ []) k) old in omega arith
        | inr new ↦ let l : s ≤ last_session T = grant_session T i s page (exact-owed b T i k) new in omega arith
      ])

  -- a live session has each page that was granted to it
  pub has_granted : (s page : ℕ) (T : List Item) → exact b T → was_granted T s page ≡ true → (v : Session) → session b T s ≡ Some v → session_lives v ≡ true → has v.pages page ≡ true
  has_granted s page = by_each_item (λ T. exact b T → was_granted T s page ≡ true → (v : Session) → session b T s ≡ Some v → session_lives v ≡ true → has v.pages page ≡ true) (λ k w v is l. cc)
      (λ T i ih k w v is l. elim (came-end b T i s v is) [
        | inl x ↦ absurd (begins T i k w x.0 x.1)
        | inr y ↦
            let live : session_lives (move b s (state b (entries T)) i y.0) ≡ true = ap (λ (z : Session). session_lives z) (sym y.2) ∙ l in
            subst (λ (z : Session). has z.pages page ≡ true) (sym y.2) (moves T i y.0 (move b s (state b (entries T)) i y.0) (went b s (state b (entries T)) i y.0 live).1 (elim (any_end (grants s page) T i w) [
              | inl old ↦ inl (ih (exact-beginning b T (i ∷ []) k) old y.0 y.1 (went b s (state b (entries T)) i y.0 live).0)
              | inr new ↦ inr new
            ]))
      ])
    where
      begins : (T : List Item) (i : Item) → exact b (T ++ i ∷ []) → was_granted (T ++ i ∷ []) s page ≡ true → (c : ℕ) → i ≡ M (the.Connected s c) → ⊥
      begins T i k w c e =
          let o = subst (ItemIsExact b T) e (exact-owed b T i k) in
          let above : last_session T < s = o.0 in
          elim (any_end (grants s page) T i w) [
            | inl old ↦ let l : s ≤ last_session T = granted_number s page T (exact-beginning b T (i ∷ []) k) old in omega arith
            | inr new ↦ let f : false ≡ true = sym (ap (grants s page) e) ∙ new in cc
          ]

      moves : (T : List Item) (i : Item) (v w : Session) → w.pages ≡ pages_after s (state b (entries T)) v.pages i → (has v.pages page ≡ true) ⊎ (grants s page i ≡ true) → has w.pages page ≡ true
      moves T i v w same (inl old) = subst (λ (p : Map nat_cmp ℕ). has p page ≡ true) (sym same) (has_extended v.pages (pages_after s (state b (entries T)) v.pages i) (pages-extend s (state b (entries T)) v.pages i) page old)
      moves T i v w same (inr new) = subst (λ (p : Map nat_cmp ℕ). has p page ≡ true) (sym same) (grant_page s (state b (entries T)) v.pages i page new)

-- ---- news

push_cases : (sent : List Notice) (o : Option Notice) (j : ℕ) (m : Notice) → slice_get (push sent o) j ≡ Some m → (slice_get sent j ≡ Some m) ⊎ (o ≡ Some m)
push_cases sent None j m is = inl is
push_cases sent (Some n) j m is = elim (end_cases sent n m j is) [
  | inl old ↦ inl old.1
  | inr new ↦ inr (ap (λ (z : Notice). Some z) (sym new.1))
]

told_place : (s : ℕ) (S : State) (pages : Map nat_cmp ℕ) (cs : List (ℕ × Request)) (m : Notice) → told_of s S pages cs ≡ Some m → place_of m ≡ S.length
told_place s S pages [] m is = cc
told_place s S pages (c ∷ cs) m is = by (is_upgrade c.1) (nat_eq c.1.session s) (filter (λ x. has pages x.page) (keys (written c.1))) is
  where
    by : (t u : Bool) (names : List Oref) → cond t (Some (Upgrade (epoch_of S + 1) S.length)) (cond u None (invalid_of names S.length)) ≡ Some m → place_of m ≡ S.length
    by true u names e = ap place_of (sym (same_Some (Upgrade (epoch_of S + 1) S.length) m e))
    by false true names e = cc
    by false false [] e = cc
    by false false (x ∷ xs) e = ap place_of (sym (same_Some (Invalid (x ∷ xs) S.length) m e))

answer_place : (t : Bool) (n m : Notice) → is_news n ≡ false → cond t (Some n) None ≡ Some m → is_news m ≡ true → ⊥
answer_place true n m answer e news = let f : false ≡ true = sym answer ∙ ap is_news (same_Some n m e) ∙ news in cc
answer_place false n m answer e news = cc

module _ (b : Base) where
  longer : (T : List Item) (e : Item) → length (entries (T ++ e ∷ [])) ≡ length (entries T) + length (entries (e ∷ []))
  longer T e = ap length (entries-append T (e ∷ [])) ∙ length-append (entries T) (entries (e ∷ []))

  new_below : (T : List Item) (i : Item) (s : ℕ) (pages : Map nat_cmp ℕ) (m : Notice) → notice b s (state b (entries T)) pages i ≡ Some m → is_news m ≡ true → place_of m < length (entries (T ++ i ∷ []))
  new_below T (E e) s pages m is news =
      let place : place_of m ≡ (state b (entries T)).length = told_place s (state b (entries T)) pages (commit_of b (state b (entries T)) e) m is in
      let n : (state b (entries T)).length ≡ length (entries T) = length-state b (entries T) in
      let more : length (entries (T ++ E e ∷ [])) ≡ length (entries T) + 1 = longer T (E e) in
      omega arith
  new_below T (M (the.Fetched n page upto)) s pages m is news = absurd (answer_place (nat_eq n s) (Page page (state b (entries T)).length) m refl is news)
  new_below T (M (the.Granted n page)) s pages m is news = absurd (answer_place (nat_eq n s) (Grant page (state b (entries T)).length) m refl is news)
  new_below T (M (the.Connected n c)) s pages m is news = cc
  new_below T (M (the.Took n k)) s pages m is news = cc
  new_below T (M (the.Drew n t)) s pages m is news = cc
  new_below T (M (the.Forgot t)) s pages m is news = cc
  new_below T (M (the.Refused n q r)) s pages m is news = cc

  moved_sent : (s : ℕ) (S : State) (i : Item) (v : Session) → ((move b s S i v).sent ≡ v.sent) ⊎ ((move b s S i v).sent ≡ push v.sent (notice b s S v.pages i))
  moved_sent s S i v = by (session_lives v)
    where
      quiet : (t : Bool) → (cond t (record (moved b s S v i) { stage = retired (moved b s S v i).stage }) (moved b s S v i)).sent ≡ push v.sent (notice b s S v.pages i)
      quiet true = refl
      quiet false = refl

      by : (t : Bool) → ((cond t (or_retired b (moved b s S v i)) (rested v i)).sent ≡ v.sent) ⊎ ((cond t (or_retired b (moved b s S v i)) (rested v i)).sent ≡ push v.sent (notice b s S v.pages i))
      by true = inr (quiet (is_silent b.silence (moved b s S v i)))
      by false = inl refl

  -- each news that was put into a session's outbox tells of a place that is there
  pub news_below : (s : ℕ) (T : List Item) (v : Session) → session b T s ≡ Some v → (j : ℕ) (m : Notice) → slice_get v.sent j ≡ Some m → is_news m ≡ true → place_of m < length (entries T)
  news_below s = by_each_item (λ T. (v : Session) → session b T s ≡ Some v → (j : ℕ) (m : Notice) → slice_get v.sent j ≡ Some m → is_news m ≡ true → place_of m < length (entries T)) (λ v is j m at news. cc)
      (λ T i ih w is j m at news. elim (came-end b T i s w is) [
        | inl x ↦ let f : None ≡ Some m = ap (λ (z : Session). slice_get z.sent j) (sym x.2) ∙ at in cc
        | inr y ↦
            let there : slice_get (move b s (state b (entries T)) i y.0).sent j ≡ Some m = ap (λ (z : Session). slice_get z.sent j) (sym y.2) ∙ at in
            elim (moved_sent s (state b (entries T)) i y.0) [
              | inl same ↦ up T i m (ih y.0 y.1 j m (ap (λ (ms : List Notice). slice_get ms j) (sym same) ∙ there) news)
              | inr pushed ↦ elim (push_cases y.0.sent (notice b s (state b (entries T)) y.0.pages i) j m (ap (λ (ms : List Notice). slice_get ms j) (sym pushed) ∙ there)) [
                | inl old ↦ up T i m (ih y.0 y.1 j m old news)
                | inr new ↦ new_below T i s y.0.pages m new news
              ]
            ]
      ])
    where
      up : (T : List Item) (i : Item) (m : Notice) → place_of m < length (entries T) → place_of m < length (entries (T ++ i ∷ []))
      up T i m l = let more : length (entries (T ++ i ∷ [])) ≡ length (entries T) + length (entries (i ∷ [])) = longer T i in omega arith
