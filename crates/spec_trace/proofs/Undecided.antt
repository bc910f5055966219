-- A write of a session's own stays current while its transaction is undecided, and behind its commit.
use Rattle.log_entries.specs.declared.entry.Entry.{Entry}
use Rattle.log_entries.specs.declared.request.Request.{Request}
use Rattle.spec_history.proofs.Growth.{length-state, owed-end, sound-beginning, state-end}
use Rattle.spec_trace.proofs.Kept.{Extends, next, pages-extend, right-kept}
use Rattle.spec_history.proofs.LastWrite.{commit_shape}
use Rattle.spec_trace.proofs.Own.{own-right}
use Rattle.spec_history.proofs.Places.{goes, placed}
use Rattle.spec_history.proofs.Settling.{stands-still}
use Rattle.spec_history.proofs.Steps.{FateMoves, Kept}
use Rattle.spec_trace.proofs.Taken.{after-mark, keeps-pages, page-taken, right-taken, took}
use Rattle.spec_trace.proofs.Traces.{entries-append}
use Rattle.spec_trace.specs.Current.{InStep, IsCurrent, IsOwnWrite, NoPageWaits, NoneAborted, OthersOrSame, OthersSince, OthersWrite, PassesItem, RightAt, Takes, commits_in, names_invalid}
use Rattle.spec_history.specs.History.{Aborted, Base, Committed, Fate, IsCommitted, Lives, Open, Known, State, commit_of, objects_at, put, known_in, known_by, state, writers}
use Rattle.spec_history.specs.Outcomes.{MaySettle}
use Rattle.spec_history.specs.Requests.{has_written, written}
use Rattle.spec_trace.specs.Session.{Notice, Page, Session, is_silent, move, moved, or_retired, rested, retired, session, session_lives}
use Rattle.spec_history.specs.Sound.{sound}
use Rattle.spec_trace.specs.Trace.{E, Item, M, entries}
use Rattle.spec_trace.specs.declared.mark.Mark.TheVariants as the
use Rattle.spec_trace.specs.declared.mark.Mark.{Mark}
use Rattle.std.proofs.Common.{Bool, List, [], ap, arith, cond, false, inl, inr, length, refl, subst, sym, true, ℕ, ◌+◌, ◌++◌, ◌≡◌, ◌≤◌, ◌∙◌, ◌∷◌}
use Rattle.std.proofs.lemmas.List.Elements.{All-cons, All-nil}
use Rattle.std.specs.List.{All}
use Rattle.std.specs.Option.{IsSomeAnd, is_some}
use Rattle.std.specs.Ordering.{nat_cmp}
use Rattle.std.specs.Prelude.{None, Option, Some, nat_eq, ◌⊎◌}
use Rattle.std.proofs.lemmas.Cmp.{nat_eq_equiv}
use Rattle.thor_value.specs.FiniteMap.{Map, get, has}
use Rattle.thor_value.specs.declared.names.Oref.{Oref}
use Rattle.thor_value.specs.declared.names.Ts.{Ts}
use Rattle.thor_value.specs.declared.values.Obj.{Obj}

module _ (b : Base) where
  after-entry : (T : List Item) (e : Entry) → entries (T ++ E e ∷ []) ≡ entries T ++ e ∷ []
  after-entry T e = entries-append T (E e ∷ [])

  stands-end : (T : List Item) (e : Entry) (t : Ts) → known_by b (entries (T ++ E e ∷ [])) t ≡ known_in b (put b (state b (entries T)) e) t
  stands-end T e t = ap (λ (H : List Entry). known_by b H t) (after-entry T e) ∙ ap (λ (S : State). known_in b S t) (state-end b (entries T) e)

  sound-there : (T : List Item) (e : Entry) → sound b (entries (T ++ E e ∷ [])) → sound b (entries T ++ e ∷ [])
  sound-there T e sd = subst (sound b) (after-entry T e) sd

  -- ---- own writes

  -- an own write where its transaction stands as it did
  same-own : (H G : List Entry) (s : ℕ) (committed : Ts → Bool) (x : Oref) (o : Obj) (t : Ts) (p : Known) → known_by b G t ≡ Some p → IsOwnWrite b H s committed x o t p → IsOwnWrite b G s committed x o t p
  same-own H G s committed x o t p is h = record { there = is; open' = h.open'; own = h.own; wrote = h.wrote; settled = h.settled }

  pub mark-keeps : (T : List Item) (k : Mark) (s : ℕ) (committed : Ts → Bool) (x : Oref) (o : Obj) (t : Ts) (p : Known) → IsOwnWrite b (entries T) s committed x o t p → IsOwnWrite b (entries (T ++ M k ∷ [])) s committed x o t p
  mark-keeps T k s committed x o t p h = subst (λ (H : List Entry). IsOwnWrite b H s committed x o t p) (sym (after-mark b T k)) h

  pub entry-keeps : (T : List Item) (e : Entry) (s : ℕ) (committed : Ts → Bool) (x : Oref) (o : Obj) (t : Ts) (p : Known) → sound b (entries (T ++ E e ∷ [])) → ¬ MaySettle b t e → IsOwnWrite b (entries T) s committed x o t p → IsOwnWrite b (entries (T ++ E e ∷ [])) s committed x o t p
  entry-keeps T e s committed x o t p sd n h = same-own (entries T) (entries (T ++ E e ∷ [])) s committed x o t p (stands-end T e t ∙ stands-still b (state b (entries T)) e t p (owed-end b (entries T) e (sound-there T e sd)) n h.there) h

  -- how a transaction stands behind one more entry
  goes-end : (T : List Item) (e : Entry) (t : Ts) (p : Known) → sound b (entries (T ++ E e ∷ [])) → known_by b (entries T) t ≡ Some p
      → (q : Known) × (known_by b (entries (T ++ E e ∷ [])) t ≡ Some q) × Kept (commit_of b (state b (entries T)) e) (length (entries T)) p q
  goes-end T e t p sd is =
      let H : List Entry = entries T in
      let sd' : sound b (H ++ e ∷ []) = sound-there T e sd in
      let y = goes b (state b H) e (placed b H (sound-beginning b H (e ∷ []) sd')).began (owed-end b H e sd') t p is in
      (y.0, stands-end T e t ∙ y.1, subst (λ (n : ℕ). Kept (commit_of b (state b H) e) n p y.0) (length-state b H) y.2)

  page-low : (m : Map nat_cmp ℕ) (page n : ℕ) → has m page ≡ true → ((c : ℕ) → get m page ≡ Some c → c ≤ n) → IsSomeAnd (get m page) (λ c. c ≤ n)
  page-low m page n h low = by (get m page) h low
    where
      by : (o : Option ℕ) → is_some o ≡ true → ((c : ℕ) → o ≡ Some c → c ≤ n) → IsSomeAnd o (λ c. c ≤ n)
      by None e f = cc
      by (Some c) e f = f c refl

  page-there : (T : List Item) (s : ℕ) (v : Session) (x : Oref) → session b T s ≡ Some v → session_lives v ≡ true → has v.pages x.page ≡ true → IsSomeAnd (get v.pages x.page) (λ c. c ≤ length (entries T))
  page-there T s v x is live h = page-low v.pages x.page (length (entries T)) h (λ c e. (keeps-pages b s T v is live).below x.page c e)

  -- ---- a transaction that was undecided, by what becomes of it

  by-fate : (T : List Item) (e : Entry) (s : ℕ) (v w : Session) (committed : Ts → Bool) (x : Oref) (o : Obj) (t : Ts) (p q : Known) → PassesItem b T (E e) s v w → InStep v → has v.pages x.page ≡ true
      → IsOwnWrite b (entries T) s committed x o t p → known_by b (entries (T ++ E e ∷ [])) t ≡ Some q → Kept (commit_of b (state b (entries T)) e) (length (entries T)) p q → Lives q.fate
      → (commit_of b (state b (entries T)) e ≡ (length (entries T), p.request) ∷ [] → NoPageWaits v x)
      → ((q.fate ≡ Open) × IsOwnWrite b (entries (T ++ E e ∷ [])) s committed x o t q) ⊎ RightAt b (entries (T ++ E e ∷ [])) s w x o (length (entries T) + 1)
  by-fate T e s v w committed x o t p q ps step page h is k lives none = by p.fate q.fate h.open' refl k.2 lives
    where
      own : q.fate ≡ Open → IsOwnWrite b (entries (T ++ E e ∷ [])) s committed x o t q
      own f = record { there = is; open' = f; own = ap (λ (r : Request). r.session) k.1 ∙ h.own; wrote = ap (λ (r : Request). get (written r) x) k.1 ∙ h.wrote; settled = h.settled }

      right : commit_of b (state b (entries T)) e ≡ (length (entries T), p.request) ∷ [] → RightAt b (entries (T ++ E e ∷ [])) s w x o (length (entries T) + 1)
      right commit = own-right b T e s v w p.request x o ps.before ps.after step commit h.wrote (page-there T s v x ps.before ps.live page) (none commit)

      by : (f g : Fate) → f ≡ Open → q.fate ≡ g → FateMoves (commit_of b (state b (entries T)) e) (length (entries T)) p.request f g → Lives g
          → ((q.fate ≡ Open) × IsOwnWrite b (entries (T ++ E e ∷ [])) s committed x o t q) ⊎ RightAt b (entries (T ++ E e ∷ [])) s w x o (length (entries T) + 1)
      by Open Open i j m l = inl (j, own j)
      by Open (Committed at) i j m l = inr (right m.1)
      by Open Aborted i j m l = absurd l
      by (Committed a) g i j m l = cc
      by Aborted g i j m l = cc

  committed-lives : (f : Fate) → IsCommitted f → Lives f
  committed-lives Open h = absurd h
  committed-lives (Committed at) h = tt
  committed-lives Aborted h = absurd h

  not-open : (f : Fate) → IsCommitted f → f ≡ Open → ⊥
  not-open Open h e = h
  not-open (Committed at) h e = cc
  not-open Aborted h e = h

  -- behind its commit an own write is right
  pub own-committed : (T : List Item) (e : Entry) (s : ℕ) (v w : Session) (committed : Ts → Bool) (x : Oref) (o : Obj) (t : Ts) (p q : Known) → PassesItem b T (E e) s v w → InStep v → has v.pages x.page ≡ true → NoPageWaits v x → sound b (entries (T ++ E e ∷ []))
      → IsOwnWrite b (entries T) s committed x o t p → known_by b (entries (T ++ E e ∷ [])) t ≡ Some q → IsCommitted q.fate → RightAt b (entries (T ++ E e ∷ [])) s w x o (length (entries T) + 1)
  own-committed T e s v w committed x o t p q ps step page none sd h is done =
      let y = goes-end T e t p sd h.there in
      let z : Some y.0 ≡ Some q = sym y.1 ∙ is in
      let same : y.0 ≡ q = cc in
      let k : Kept (commit_of b (state b (entries T)) e) (length (entries T)) p q = subst (λ (r : Known). Kept (commit_of b (state b (entries T)) e) (length (entries T)) p r) same y.2 in
      elim (by-fate T e s v w committed x o t p q ps step page h is k (committed-lives q.fate done) (λ commit. none)) [
        | inl still ↦ absurd (not-open q.fate done still.0)
        | inr right ↦ right
      ]

  pub current-more : (H : List Entry) (s : ℕ) (v : Session) (committed more : Ts → Bool) (x : Oref) (o : Obj) → ((t : Ts) → committed t ≡ true → more t ≡ true) → IsCurrent b H s v committed x o → IsCurrent b H s v more x o
  current-more H s v committed more x o f (inl r) = inl r
  current-more H s v committed more x o f (inr y) = inr (y.0, y.1, record { there = y.2.there; open' = y.2.open'; own = y.2.own; wrote = y.2.wrote; settled = f y.0 y.2.settled })

  -- ---- current copies

  head-of-all : {X : Type 0} (P : X → Type 0) (x : X) (xs : List X) → All P (x ∷ xs) → P x
  head-of-all P x xs h = h 0 x (omega arith)

  -- one commit: it leaves the copy, or it writes it
  one-side : (s n : ℕ) (v : Session) (x : Oref) (o : Obj) (q : Request) → OthersOrSame s v x o ((n, q) ∷ []) → OthersWrite s x ((n, q) ∷ []) ⊎ ((get (written q) x ≡ Some o) × NoPageWaits v x)
  one-side s n v x o q h = by (has_written q x) refl
    where
      alone : (has_written q x ≡ true → nat_eq q.session s ≡ false) → OthersWrite s x ((n, q) ∷ [])
      alone f = All-cons (λ c. has_written c.1 x ≡ true → nat_eq c.1.session s ≡ false) (n, q) [] f (All-nil (λ c. has_written c.1 x ≡ true → nat_eq c.1.session s ≡ false))

      by : (t : Bool) → has_written q x ≡ t → OthersWrite s x ((n, q) ∷ []) ⊎ ((get (written q) x ≡ Some o) × NoPageWaits v x)
      by true e = elim (head-of-all (λ c. has_written c.1 x ≡ true → (nat_eq c.1.session s ≡ false) ⊎ ((get (written c.1) x ≡ Some o) × NoPageWaits v x)) (n, q) [] h e) [
        | inl other ↦ inl (alone (λ g. other))
        | inr same ↦ inr same
      ]
      by false e = inl (alone (λ g. let f : false ≡ true = sym e ∙ g in cc))

  right-entry : (T : List Item) (e : Entry) (s : ℕ) (v w : Session) (committed : Ts → Bool) (x : Oref) (o : Obj) (m : ℕ) → PassesItem b T (E e) s v w → InStep v → has v.pages x.page ≡ true
      → OthersOrSame s v x o (commit_of b (state b (entries T)) e) → RightAt b (entries T) s v x o m → IsCurrent b (entries (T ++ E e ∷ [])) s w committed x o
  right-entry T e s v w committed x o m ps step page a r = elim (commit_shape b (state b (entries T)) e) [
    | inl none ↦ stays (subst (OthersWrite s x) (sym none) (All-nil (λ c. has_written c.1 x ≡ true → nat_eq c.1.session s ≡ false)))
    | inr one ↦
        let is : commit_of b (state b (entries T)) e ≡ (length (entries T), one.0) ∷ [] = subst (λ (n : ℕ). commit_of b (state b (entries T)) e ≡ (n, one.0) ∷ []) (length-state b (entries T)) one.1 in
        elim (one-side s (length (entries T)) v x o one.0 (subst (OthersOrSame s v x o) is a)) [
          | inl others ↦ stays (subst (OthersWrite s x) (sym is) others)
          | inr same ↦ inl (length (entries T) + 1, own-right b T e s v w one.0 x o ps.before ps.after step is same.0 (page-there T s v x ps.before ps.live page) same.1)
        ]
  ]
    where
      stays : OthersWrite s x (commit_of b (state b (entries T)) e) → IsCurrent b (entries (T ++ E e ∷ [])) s w committed x o
      stays others = inl (m, right-kept b T (E e) s v w x o m ps.before ps.after step ps.quiet others r)

  own-entry : (T : List Item) (e : Entry) (s : ℕ) (v w : Session) (committed : Ts → Bool) (x : Oref) (o : Obj) (t : Ts) (p : Known) → PassesItem b T (E e) s v w → InStep v → has v.pages x.page ≡ true
      → sound b (entries (T ++ E e ∷ [])) → NoneAborted b (entries (T ++ E e ∷ [])) committed → OthersOrSame s v x o (commit_of b (state b (entries T)) e) → IsOwnWrite b (entries T) s committed x o t p → IsCurrent b (entries (T ++ E e ∷ [])) s w committed x o
  own-entry T e s v w committed x o t p ps step page sd n a h =
      let y = goes-end T e t p sd h.there in
      elim (by-fate T e s v w committed x o t p y.0 ps step page h y.1 y.2 (n t y.0 y.1 h.settled) none) [
        | inl still ↦ inr (t, y.0, still.1)
        | inr right ↦ inl (length (entries T) + 1, right)
      ]
    where
      -- its own commit comes while no page of x waits
      none : commit_of b (state b (entries T)) e ≡ (length (entries T), p.request) ∷ [] → NoPageWaits v x
      none commit =
          elim (head-of-all (λ c. has_written c.1 x ≡ true → (nat_eq c.1.session s ≡ false) ⊎ ((get (written c.1) x ≡ Some o) × NoPageWaits v x)) (length (entries T), p.request) [] (subst (OthersOrSame s v x o) commit a) (ap (λ (g : Option Obj). is_some g) h.wrote)) [
            | inl other ↦ let e : false ≡ true = sym other ∙ ap (λ (k : ℕ). nat_eq k s) h.own ∙ nat_eq_equiv.refl s in cc
            | inr both ↦ both.1
          ]

  -- a current copy stays so while its client takes no message
  pub current-grown : (T : List Item) (i : Item) (s : ℕ) (v w : Session) (committed : Ts → Bool) (x : Oref) (o : Obj) → PassesItem b T i s v w → InStep v → has v.pages x.page ≡ true
      → sound b (entries (T ++ i ∷ [])) → NoneAborted b (entries (T ++ i ∷ [])) committed → OthersOrSame s v x o (commits_in b (entries T) i)
      → IsCurrent b (entries T) s v committed x o → IsCurrent b (entries (T ++ i ∷ [])) s w committed x o
  current-grown T (E e) s v w committed x o ps step page sd n a (inl r) = right-entry T e s v w committed x o r.0 ps step page a r.1
  current-grown T (E e) s v w committed x o ps step page sd n a (inr y) = own-entry T e s v w committed x o y.0 y.1 ps step page sd n a y.2
  current-grown T (M k) s v w committed x o ps step page sd n a (inl r) = inl (r.0, right-kept b T (M k) s v w x o r.0 ps.before ps.after step ps.quiet (All-nil (λ c. has_written c.1 x ≡ true → nat_eq c.1.session s ≡ false)) r.1)
  current-grown T (M k) s v w committed x o ps step page sd n a (inr y) = inr (y.0, y.1, mark-keeps T k s committed x o y.0 y.1 y.2)

  -- and where it takes one that doesn't name its object
  pub current-taken : (T : List Item) (s : ℕ) (v w : Session) (place : ℕ) (m : Notice) (committed : Ts → Bool) (x : Oref) (o : Obj) → Takes b T s v w place m → names_invalid x m ≡ false → sound b (entries T)
      → IsCurrent b (entries T) s v committed x o → IsCurrent b (entries (T ++ M (the.Took s place) ∷ [])) s w committed x o
  current-taken T s v w place m committed x o h unnamed sd (inl r) = inl (_, right-taken b T s v w place m x o r.0 h unnamed sd r.1)
  current-taken T s v w place m committed x o h unnamed sd (inr y) = inr (y.0, y.1, mark-keeps T (the.Took s place) s committed x o y.0 y.1 y.2)

  pub current-brought : (T : List Item) (s : ℕ) (v w : Session) (place page k : ℕ) (committed : Ts → Bool) (x : Oref) (o : Obj) → Takes b T s v w place (Page page k) → x.page ≡ page → get (objects_at b (entries T) k) x ≡ Some o → OthersSince s k (writers b (entries T) x)
      → IsCurrent b (entries (T ++ M (the.Took s place) ∷ [])) s w committed x o
  current-brought T s v w place page k committed x o h on value others = inl (k, page-taken b T s v w place page k x o h on value others)

  -- ---- pages

  moved-pages : (s : ℕ) (S : State) (i : Item) (v : Session) → Extends v.pages (move b s S i v).pages
  moved-pages s S i v = by (session_lives v)
    where
      quiet : (t : Bool) → Extends v.pages (cond t (record (moved b s S v i) { stage = retired (moved b s S v i).stage }) (moved b s S v i)).pages
      quiet true = pages-extend s S v.pages i
      quiet false = pages-extend s S v.pages i

      by : (t : Bool) → Extends v.pages (cond t (or_retired b (moved b s S v i)) (rested v i)).pages
      by true = quiet (is_silent b.silence (moved b s S v i))
      by false = λ p c is. is

  still-there : (m n : Map nat_cmp ℕ) (page : ℕ) → Extends m n → has m page ≡ true → has n page ≡ true
  still-there m n page f h = by (get m page) refl h
    where
      by : (o : Option ℕ) → get m page ≡ o → is_some o ≡ true → has n page ≡ true
      by None e g = cc
      by (Some c) e g = ap (λ (o : Option ℕ). is_some o) (f page c e)

  pub pages-grown : (T : List Item) (i : Item) (s : ℕ) (v w : Session) (page : ℕ) → PassesItem b T i s v w → has v.pages page ≡ true → has w.pages page ≡ true
  pages-grown T i s v w page h there =
      let S : State = state b (entries T) in
      subst (λ (z : Session). has z.pages page ≡ true) (sym (next b T i s v w h.before h.quiet h.after)) (still-there v.pages (move b s S i v).pages page (moved-pages s S i v) there)

  pub pages-taken : (T : List Item) (s : ℕ) (v w : Session) (place : ℕ) (m : Notice) → Takes b T s v w place m → w.pages ≡ v.pages
  pages-taken T s v w place m h = (took b T s v w place m h).pages
