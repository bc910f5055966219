-- What a client's copies are behind a message that it takes.
use Rattle.log_entries.specs.declared.entry.Entry.{Entry}
use Rattle.log_entries.specs.declared.request.Request.{Request}
use Rattle.spec_history.proofs.Commits.{made_by_commits}
use Rattle.spec_trace.proofs.Before.{no-page-told, push-get}
use Rattle.spec_trace.proofs.Copies.{writers-take}
use Rattle.spec_history.proofs.Growth.{length-state}
use Rattle.spec_trace.proofs.Kept.{Extends, pages-extend}
use Rattle.spec_trace.proofs.Sessions.{at-most-last, bound-at, keeps-order, session-end, waits-by-place}
use Rattle.spec_trace.proofs.Told.{Begins, Went, all-both, all-told, at_end, came, pages-old, went}
use Rattle.spec_history.proofs.Vouched.{plain}
use Rattle.spec_trace.proofs.Traces.{entries-append}
use Rattle.spec_trace.specs.Current.{InStep, IsBefore, IsTold, OthersSince, RightAt, Takes, WasToldOf, names_invalid}
use Rattle.spec_history.specs.History.{Base, State, commit_of, last_write, objects_at, state, writers}
use Rattle.spec_trace.specs.Messages.{InOrder, KeepsOrder, WaitsByPlace}
use Rattle.spec_history.specs.Laws.{NoUpgrades}
use Rattle.spec_history.specs.Requests.{is_upgrade}
use Rattle.spec_trace.specs.Session.{Grant, Invalid, Live, Notice, Page, Retired, Session, Stage, Upgrade, bound, cache, is_silent, meet, move, moved, notice, or_retired, pages_after, place_of, rested, retired, session, session_lives, upto_of}
use Rattle.spec_history.specs.Sound.{sound}
use Rattle.spec_trace.specs.Trace.{E, Item, M, entries}
use Rattle.spec_trace.specs.declared.mark.Mark.TheVariants as the
use Rattle.spec_trace.specs.declared.mark.Mark.{Mark}
use Rattle.std.proofs.Common.{Bool, List, [], ap, arith, cond, false, inl, inr, length, refl, subst, suc, sym, take, true, zero, ℕ, ◌+◌, ◌++◌, ◌≡◌, ◌≤◌, ◌∙◌, ◌∷◌}
use Rattle.std.proofs.Math.Numerals.{suc-eq-add-one}
use Rattle.std.proofs.lemmas.Bool.Decides.{nat_tests}
use Rattle.std.proofs.lemmas.List.Elements.{All-tail}
use Rattle.std.proofs.lemmas.List.{append-nil, length-append}
use Rattle.std.specs.List.{All, filter, fold, slice_get}
use Rattle.std.specs.Option.{IfSome, IsSomeAnd, is_some}
use Rattle.std.specs.Ordering.{eq_by_cmp, is_eq, nat_cmp}
use Rattle.std.specs.Prelude.{None, Option, Some, max, nat_eq, nat_lt, ◌⊎◌}
use Rattle.std.specs.Cmp.{nat_cmp_total}
use Rattle.std.proofs.lemmas.Cmp.{tied_itself, nat_eq_equiv}
use Rattle.std.specs.declared.cmp.Ordering.TheVariants.{Equal}
use Rattle.std.specs.declared.cmp.Ordering.{Ordering}
use Rattle.thor_value.proofs.FiniteMap.{get-insert}
use Rattle.thor_value.specs.FiniteMap.{Map, get, has, insert}
use Rattle.thor_value.specs.declared.names.Oref.{Oref}
use Rattle.thor_value.specs.declared.values.Obj.{Obj}

if-some : {X : Type 0} (o : Option X) (P : X → Type 0) (x : X) → o ≡ Some x → IfSome o P → P x
if-some None P x e h = cc
if-some (Some y) P x e h = let f : y ≡ x = cc in subst P f h

head-of-all : {X : Type 0} (P : X → Type 0) (x : X) (xs : List X) → All P (x ∷ xs) → P x
head-of-all P x xs h = h 0 x (omega arith)

-- ---- the session behind the message

-- w is v behind the message m
pub record Took (v w : Session) (m : Notice) : Type 0 where
  pub upto : upto_of w ≡ bound m
  pub pages : w.pages ≡ v.pages
  pub sent : w.sent ≡ v.sent
  pub began : w.began ≡ v.began
  pub taken : w.taken ≡ v.taken + 1
  pub acked : w.acked ≡ v.acked

module _ (b : Base) where
  pub took : (T : List Item) (s : ℕ) (v w : Session) (place : ℕ) (m : Notice) → Takes b T s v w place m → Took v w m
  took T s v w place m h =
      let S : State = state b (entries T) in
      let i : Item = M (the.Took s place) in
      let e : Some (move b s S i v) ≡ Some w = sym (session-end b T i s ∙ ap (λ (u : Option Session). meet b s S u i) h.before) ∙ h.after in
      let f : move b s S i v ≡ w = cc in
      subst (λ (z : Session). Took v z m) f (by (session_lives v) h.live)
    where
      upto-of : upto_of (record v { taken = v.taken + 1 }) ≡ bound m
      upto-of = ap (λ (n : ℕ). fold (λ k n. bound n) v.began (take n v.sent)) (sym (suc-eq-add-one v.taken)) ∙ bound-at v.began v.sent v.taken m h.message

      counted : cond (nat_eq s s) (v.taken + 1) v.taken ≡ v.taken + 1
      counted = ap (λ (t : Bool). cond t (v.taken + 1) v.taken) (nat_eq_equiv.refl s)

      all : (l : Stage) (n : ℕ) → n ≡ v.taken + 1 → Took v (record v { stage = l; taken = n }) m
      all l n e = record { upto = ap (λ (k : ℕ). fold (λ j n. bound n) v.began (take k v.sent)) e ∙ upto-of; pages = refl; sent = refl; began = refl; taken = e; acked = refl }

      quiet : (t : Bool) → Took v (cond t (record (moved b s (state b (entries T)) v (M (the.Took s place))) { stage = retired (moved b s (state b (entries T)) v (M (the.Took s place))).stage }) (moved b s (state b (entries T)) v (M (the.Took s place)))) m
      quiet true = all Retired (cond (nat_eq s s) (v.taken + 1) v.taken) counted
      quiet false = all Live (cond (nat_eq s s) (v.taken + 1) v.taken) counted

      by : (t : Bool) → t ≡ true → Took v (cond t (or_retired b (moved b s (state b (entries T)) v (M (the.Took s place)))) (rested v (M (the.Took s place)))) m
      by true l = quiet (is_silent b.silence (moved b s (state b (entries T)) v (M (the.Took s place))))
      by false l = cc

  -- ---- no commit lies between

  same-test : (c n k : ℕ) → n ≤ k → (n ≤ c → k ≤ c) → nat_lt c n ≡ nat_lt c k
  same-test c n k l f = grind (arith, nat_tests)

  same-below : (n k : ℕ) (ws : List (ℕ × Request)) → n ≤ k → All (λ c. n ≤ c.0 → k ≤ c.0) ws → filter (λ c. nat_lt c.0 n) ws ≡ filter (λ c. nat_lt c.0 k) ws
  same-below n k [] l h = refl
  same-below n k (c ∷ cs) l h =
      let e : nat_lt c.0 n ≡ nat_lt c.0 k = same-test c.0 n k l (head-of-all (λ c. n ≤ c.0 → k ≤ c.0) c cs h) in
      by (nat_lt c.0 n) (nat_lt c.0 k) e (same-below n k cs l (All-tail (λ c. n ≤ c.0 → k ≤ c.0) c cs h))
    where
      by : (t u : Bool) → t ≡ u → filter (λ c. nat_lt c.0 n) cs ≡ filter (λ c. nat_lt c.0 k) cs → cond t (c ∷ filter (λ c. nat_lt c.0 n) cs) (filter (λ c. nat_lt c.0 n) cs) ≡ cond u (c ∷ filter (λ c. nat_lt c.0 k) cs) (filter (λ c. nat_lt c.0 k) cs)
      by true true e g = ap (λ ds. c ∷ ds) g
      by true false e g = cc
      by false true e g = cc
      by false false e g = g

  value-at : (H : List Entry) (m : ℕ) (x : Oref) → m ≤ length H → get (objects_at b H m) x ≡ last_write x (get b.objects x) (filter (λ c. nat_lt c.0 m) (writers b H x))
  value-at H m x l = (made_by_commits b (take m H)).last x ∙ ap (last_write x (get b.objects x)) (writers-take b m H x l)

  some-page : (o : Option ℕ) (n : ℕ) → IsSomeAnd o (λ c. c ≤ n) → (p : ℕ) × (o ≡ Some p) × (p ≤ n)
  some-page None n h = absurd h
  some-page (Some p) n h = (p, refl, h)

  higher-page : (o : Option ℕ) (n k : ℕ) → n ≤ k → IsSomeAnd o (λ c. c ≤ n) → IsSomeAnd o (λ c. c ≤ k)
  higher-page None n k l h = absurd h
  higher-page (Some p) n k l h = omega arith

  -- a commit of x that the client doesn't know isn't below what the message makes known
  not-between : (v w : Session) (m : Notice) (x : Oref) (n j : ℕ) → Took v w m → InOrder v.began v.sent → upto_of v ≤ n → n ≤ j → slice_get v.sent v.taken ≡ Some m → names_invalid x m ≡ false → IsTold v.sent x j → bound m ≤ j
  not-between v w m x n j k h u l at unnamed told' =
      let old : WaitsByPlace v = waits-by-place v h in
      let waits : v.taken ≤ told'.at = (old.invalid told'.at told'.names j told'.message).1 (le-trans (upto_of v) n j u l) in
      elim (sides v.taken told'.at waits) [
        | inl same ↦
            let both : Some m ≡ Some (Invalid told'.names j) = sym at ∙ ap (slice_get v.sent) same ∙ told'.message in
            let is : m ≡ Invalid told'.names j = cc in
            let named : names_invalid x m ≡ true = ap (names_invalid x) is ∙ told'.named in
            let e : false ≡ true = sym unnamed ∙ named in cc
        | inr behind ↦
            let rise : InOrder w.began w.sent = subst (InOrder w.began) (sym k.sent) (subst (λ (a : ℕ). InOrder a v.sent) (sym k.began) h) in
            let new : WaitsByPlace w = waits-by-place w rise in
            let message : slice_get w.sent told'.at ≡ Some (Invalid told'.names j) = ap (λ (ms : List Notice). slice_get ms told'.at) k.sent ∙ told'.message in
            let later : w.taken ≤ told'.at = subst (λ (t : ℕ). t ≤ told'.at) (sym k.taken) behind in
            subst (λ (t : ℕ). t ≤ j) k.upto ((new.invalid told'.at told'.names j message).0 later)
      ]
    where
      le-trans : (i j k : ℕ) → i ≤ j → j ≤ k → i ≤ k
      le-trans i j k p q = omega arith

      sides : (t i : ℕ) → t ≤ i → (t ≡ i) ⊎ (t + 1 ≤ i)
      sides t i l = grind arith

  none-between : (T : List Item) (s : ℕ) (v w : Session) (m : Notice) (x : Oref) (o : Obj) (n : ℕ) → session b T s ≡ Some v → session_lives v ≡ true → Took v w m → InOrder v.began v.sent → slice_get v.sent v.taken ≡ Some m → names_invalid x m ≡ false
      → NoUpgrades (writers b (entries T) x) → RightAt b (entries T) s v x o n → All (λ c. n ≤ c.0 → bound m ≤ c.0) (writers b (entries T) x)
  none-between T s v w m x o n is live k h at unnamed plain r =
      let page = some-page (get v.pages x.page) n r.cached in
      all-both (λ c. (n ≤ c.0 → nat_eq c.1.session s ≡ false) × (is_upgrade c.1 ≡ false)) (WasToldOf s v x) (λ c. n ≤ c.0 → bound m ≤ c.0) (writers b (entries T) x)
      (λ c p t l. not-between v w m x n c.0 k h r.unknown l at unnamed (t page.0 page.1 (le-trans page.0 n c.0 page.2 l) (p.0 l) p.1))
      (all-both (λ c. n ≤ c.0 → nat_eq c.1.session s ≡ false) (λ c. is_upgrade c.1 ≡ false) (λ c. (n ≤ c.0 → nat_eq c.1.session s ≡ false) × (is_upgrade c.1 ≡ false)) (writers b (entries T) x) (λ c p q. (p, q)) r.others plain)
      (all-told b s T v is live x)
    where
      le-trans : (i j k : ℕ) → i ≤ j → j ≤ k → i ≤ k
      le-trans i j k p q = omega arith

  -- ---- a copy that the message doesn't name

  both-below : (n m k : ℕ) → n ≤ k → m ≤ k → max n m ≤ k
  both-below n m k p q = grind arith

  -- what waits behind the message was read at the place that it makes known, or after it
  waits-behind : (v w : Session) (m : Notice) (page : ℕ) → Took v w m → InOrder v.began v.sent → (i k : ℕ) → w.taken ≤ i → slice_get w.sent i ≡ Some (Page page k) → bound m ≤ k
  waits-behind v w m page t order i k le at =
      let rise : InOrder w.began w.sent = subst (InOrder w.began) (sym t.sent) (subst (λ (a : ℕ). InOrder a v.sent) (sym t.began) order) in
      let new : WaitsByPlace w = waits-by-place w rise in
      subst (λ (j : ℕ). j ≤ k) t.upto (new.waits i (Page page k) at le)

  before-taken : (v w : Session) (m : Notice) (x : Oref) (n : ℕ) → Took v w m → InOrder v.began v.sent → IsBefore v x n → IsBefore w x (max n (bound m))
  before-taken v w m x n t order before i k le at =
      let old : n ≤ k = before i k (earlier v.taken w.taken i t.taken le) (ap (λ (ms : List Notice). slice_get ms i) (sym t.sent) ∙ at) in
      both-below n (bound m) k old (waits-behind v w m x.page t order i k le at)
    where
      earlier : (a b c : ℕ) → b ≡ a + 1 → b ≤ c → a ≤ c
      earlier a b c e l = omega arith

  greater : (n k : ℕ) → ((k ≤ n) × (max n k ≡ n)) ⊎ ((n ≤ k) × (max n k ≡ k))
  greater n k = grind arith

  right-taken-here : (T : List Item) (s : ℕ) (v w : Session) (place : ℕ) (m : Notice) (x : Oref) (o : Obj) (n : ℕ) → Takes b T s v w place m → names_invalid x m ≡ false → NoUpgrades (writers b (entries T) x)
      → RightAt b (entries T) s v x o n → RightAt b (entries T) s w x o (max n (bound m))
  right-taken-here T s v w place m x o n h unnamed plain r =
      let k : Took v w m = took T s v w place m h in
      let order : KeepsOrder v (length (entries T)) = if-some (session b T s) (λ v. KeepsOrder v (length (entries T))) v h.before (keeps-order b T s) in
      let there : bound m ≤ length (entries T) = le-trans (bound m) _ (length (entries T)) (at-most-last v.began v.sent v.taken m order.rise h.message) order.below in
      let pages : get w.pages x.page ≡ get v.pages x.page = ap (λ (p : Map nat_cmp ℕ). get p x.page) k.pages in
      let before : IsBefore w x (max n (bound m)) = before-taken v w m x n k order.rise r.before in
      elim (greater n (bound m)) [
        | inl stays ↦ subst (RightAt b (entries T) s w x o) (sym stays.1) (record {
          unknown = rw k.upto stays.0;
          there = r.there;
          cached = rw pages r.cached;
          value = r.value;
          others = r.others;
          before = subst (IsBefore w x) stays.1 before;
        })
        | inr rises ↦
            let between = none-between T s v w m x o n h.before h.live k order.rise h.message unnamed plain r in
            let same : get (objects_at b (entries T) (bound m)) x ≡ get (objects_at b (entries T) n) x =
            value-at (entries T) (bound m) x there ∙ sym (ap (last_write x (get b.objects x)) (same-below n (bound m) (writers b (entries T) x) rises.0 between)) ∙ sym (value-at (entries T) n x r.there) in
            subst (RightAt b (entries T) s w x o) (sym rises.1) (record {
              unknown = rw k.upto (omega arith);
              there = there;
              cached = rw pages (higher-page (get v.pages x.page) n (bound m) rises.0 r.cached);
              value = same ∙ r.value;
              others = λ i d l g. r.others i d l (le-trans n (bound m) _ rises.0 g);
              before = subst (IsBefore w x) rises.1 before;
            })
      ]
    where
      le-trans : (i j k : ℕ) → i ≤ j → j ≤ k → i ≤ k
      le-trans i j k p q = omega arith

  pub after-mark : (T : List Item) (m : Mark) → entries (T ++ M m ∷ []) ≡ entries T
  after-mark T m = entries-append T (M m ∷ []) ∙ append-nil (entries T)

  -- a copy that a message doesn't name stays right, behind the place that the message makes known
  pub right-taken : (T : List Item) (s : ℕ) (v w : Session) (place : ℕ) (m : Notice) (x : Oref) (o : Obj) (n : ℕ) → Takes b T s v w place m → names_invalid x m ≡ false → sound b (entries T)
      → RightAt b (entries T) s v x o n → RightAt b (entries (T ++ M (the.Took s place) ∷ [])) s w x o (max n (bound m))
  right-taken T s v w place m x o n h unnamed sd r = subst (λ (H : List Entry). RightAt b H s w x o (max n (bound m))) (sym (after-mark T (the.Took s place))) (right-taken-here T s v w place m x o n h unnamed (plain b (entries T) sd x) r)

  later : (n k : ℕ) → n ≤ k → max n k ≡ k
  later n k l = grind arith

  same-number : (n : ℕ) → n ≤ n
  same-number n = omega arith

  -- a copy is what a page brings that was read at its place or after it
  pub brings : (T : List Item) (s : ℕ) (v w : Session) (place page k : ℕ) (x : Oref) (o : Obj) (n : ℕ) → Takes b T s v w place (Page page k) → x.page ≡ page → sound b (entries T) → RightAt b (entries T) s v x o n
      → get (objects_at b (entries T) k) x ≡ Some o
  brings T s v w place page k x o n takes on sd r =
      let low : n ≤ k = r.before v.taken k (same-number v.taken) (takes.message ∙ ap (λ (p : ℕ). Some (Page p k)) (sym on)) in
      let behind = right-taken T s v w place (Page page k) x o n takes refl sd r in
      sym (ap (λ (H : List Entry). get (objects_at b H k) x) (after-mark T (the.Took s place)))
      ∙ sym (ap (λ (j : ℕ). get (objects_at b (entries (T ++ M (the.Took s place) ∷ [])) j) x) (later n k low))
      ∙ behind.value

-- ---- what a page brings

-- a page that is there at a number of entries at most n
abbrev There : Map nat_cmp ℕ → ℕ → ℕ → Type 0
There pages page n = IsSomeAnd (get pages page) (λ c. c ≤ n)

cache-there : (pages : Map nat_cmp ℕ) (page k : ℕ) → ((q c : ℕ) → get pages q ≡ Some c → c ≤ k) → There (cache pages page k) page k
cache-there pages page k h = by (has pages page) refl
  where
    some : (o : Option ℕ) → is_some o ≡ true → ((c : ℕ) → o ≡ Some c → c ≤ k) → IsSomeAnd o (λ c. c ≤ k)
    some None e f = cc
    some (Some c) e f = f c refl

    put : There (insert pages page k) page k
    put =
        let e : get (insert pages page k) page ≡ cond (eq_by_cmp nat_cmp page page) (Some k) (get pages page) = get-insert nat_cmp_total pages page k page in
        let f : nat_cmp page page ≡ Equal = tied_itself nat_cmp_total page in
        let g : get (insert pages page k) page ≡ Some k = e ∙ ap (λ (r : Ordering). cond (is_eq r) (Some k) (get pages page)) f in
        subst (λ (o : Option ℕ). IsSomeAnd o (λ c. c ≤ k)) (sym g) (itself k)
      where
        itself : (n : ℕ) → n ≤ n
        itself n = omega arith

    by : (t : Bool) → has pages page ≡ t → There (cond t pages (insert pages page k)) page k
    by true e = some (get pages page) e (λ c is. h page c is)
    by false e = put

page-there : (b : Base) (s : ℕ) (S : State) (pages : Map nat_cmp ℕ) (i : Item) (page at : ℕ) → ((q c : ℕ) → get pages q ≡ Some c → c ≤ S.length) → notice b s S pages i ≡ Some (Page page at) → There (pages_after s S pages i) page at
page-there b s S pages (E e) page at h is = absurd (no-page-told s S pages (commit_of b S e) page at is)
page-there b s S pages (M (the.Fetched n q upto)) page at h is = by (nat_eq n s) is
  where
    by : (own : Bool) → cond own (Some (Page q S.length)) None ≡ Some (Page page at) → There (cond own (cache pages q S.length) pages) page at
    by true e = let f : q ≡ page = cc in let g : S.length ≡ at = cc in subst (λ (n : ℕ). There (cache pages q S.length) n at) f (subst (λ (n : ℕ). There (cache pages q S.length) q n) g (cache-there pages q S.length h))
    by false e = cc
page-there b s S pages (M (the.Granted n q)) page at h is = absurd (by (nat_eq n s) is)
  where
    by : (own : Bool) → cond own (Some (Grant q S.length)) None ≡ Some (Page page at) → ⊥
    by true e = cc
    by false e = cc
page-there b s S pages (M (the.Took n k)) page at h is = cc
page-there b s S pages (M (the.Connected n c)) page at h is = cc
page-there b s S pages (M (the.Drew n t)) page at h is = cc
page-there b s S pages (M (the.Forgot t)) page at h is = cc
page-there b s S pages (M (the.Refused n q r)) page at h is = cc

-- the pages of a session, where its repository has n entries
pub record HasPages (v : Session) (n : ℕ) : Type 0 where
  pub below : (q c : ℕ) → get v.pages q ≡ Some c → c ≤ n
  sent : (i page at : ℕ) → slice_get v.sent i ≡ Some (Page page at) → There v.pages page at

module _ (b : Base) where
  abbrev pub KeepsPages : ℕ → List Item → Type 0
  KeepsPages s T = (v : Session) → session b T s ≡ Some v → session_lives v ≡ true → HasPages v (length (entries T))

  longer : (T : List Item) (i : Item) → length (entries T) ≤ length (entries (T ++ i ∷ []))
  longer T i =
      let e : entries (T ++ i ∷ []) ≡ entries T ++ entries (i ∷ []) = entries-append T (i ∷ []) in
      rw (e, length-append) (omega arith)

  extended : (m n : Map nat_cmp ℕ) (page at : ℕ) → Extends m n → There m page at → There n page at
  extended m n page at x h = by (get m page) refl h
    where
      by : (o : Option ℕ) → get m page ≡ o → IsSomeAnd o (λ c. c ≤ at) → There n page at
      by None e g = absurd g
      by (Some c) e g = let f : get n page ≡ Some c = x page c e in subst (λ (o : Option ℕ). IsSomeAnd o (λ c. c ≤ at)) (sym f) g

  pages-behind : (s : ℕ) (T : List Item) (i : Item) (v w : Session) → session b T s ≡ Some v → KeepsPages s T → Went b s (state b (entries T)) i v w → HasPages w (length (entries (T ++ i ∷ [])))
  pages-behind s T i v w is h g =
      let S : State = state b (entries T) in
      let n : S.length ≡ length (entries T) = length-state b (entries T) in
      let old : HasPages v (length (entries T)) = h v is g.0 in
      let low : (q c : ℕ) → get v.pages q ≡ Some c → c ≤ S.length = λ q c e. subst (λ (k : ℕ). c ≤ k) (sym n) (old.below q c e) in
      record {
        below = λ q c e. elim (pages-old s S v.pages i q c (ap (λ (p : Map nat_cmp ℕ). get p q) (sym g.1) ∙ e)) [
          | inl before ↦ le-trans c (length (entries T)) _ (old.below q c before) (longer T i)
          | inr now ↦ subst (λ (k : ℕ). k ≤ length (entries (T ++ i ∷ []))) (sym now) (subst (λ (k : ℕ). k ≤ length (entries (T ++ i ∷ []))) (sym n) (longer T i))
        ];
        sent = λ j page at e. subst (λ (p : Map nat_cmp ℕ). There p page at) (sym g.1) (elim (push-get v.sent (notice b s S v.pages i) j (Page page at) (ap (λ (ms : List Notice). slice_get ms j) (sym g.2) ∙ e)) [
          | inl before ↦ extended v.pages (pages_after s S v.pages i) page at (pages-extend s S v.pages i) (old.sent j page at before)
          | inr now ↦ page-there b s S v.pages i page at low now
        ]);
      }
    where
      le-trans : (i j k : ℕ) → i ≤ j → j ≤ k → i ≤ k
      le-trans i j k p q = omega arith

  new-pages : (w : Session) (n : ℕ) → Begins b w → HasPages w n
  new-pages w n h = record {
    below = λ q c e. let f : None ≡ Some c = sym (ap (λ (p : Map nat_cmp ℕ). get p q) h.0) ∙ e in cc;
    sent = λ i page at e. let f : None ≡ Some (Page page at) = sym (ap (λ (ms : List Notice). slice_get ms i) h.1) ∙ e in cc;
  }

  pub keeps-pages : (s : ℕ) (T : List Item) → KeepsPages s T
  keeps-pages s = at_end b (KeepsPages s) (λ v is l. cc) (λ T i h w is l. by T i h w l (came b s (state b (entries T)) (session b T s) i w (sym (session-end b T i s) ∙ is)))
    where
      by : (T : List Item) (i : Item) → KeepsPages s T → (w : Session) → session_lives w ≡ true → Begins b w ⊎ ((v : Session) × (session b T s ≡ Some v) × (w ≡ move b s (state b (entries T)) i v)) → HasPages w (length (entries (T ++ i ∷ [])))
      by T i h w l (inl new) = new-pages w (length (entries (T ++ i ∷ []))) new
      by T i h w l (inr y) =
          let v : Session = y.0 in
          let live : session_lives (move b s (state b (entries T)) i v) ≡ true = ap (λ (z : Session). session_lives z) (sym y.2) ∙ l in
          subst (λ (z : Session). HasPages z (length (entries (T ++ i ∷ [])))) (sym y.2) (pages-behind s T i v (move b s (state b (entries T)) i v) y.1 h (went b s (state b (entries T)) i v live))

  -- what a page brings is right at its place
  pub page-taken : (T : List Item) (s : ℕ) (v w : Session) (place page k : ℕ) (x : Oref) (o : Obj) → Takes b T s v w place (Page page k) → x.page ≡ page → get (objects_at b (entries T) k) x ≡ Some o → OthersSince s k (writers b (entries T) x)
      → RightAt b (entries (T ++ M (the.Took s place) ∷ [])) s w x o k
  page-taken T s v w place page k x o h on value others =
      let t : Took v w (Page page k) = took b T s v w place (Page page k) h in
      let order : KeepsOrder v (length (entries T)) = if-some (session b T s) (λ v. KeepsOrder v (length (entries T))) v h.before (keeps-order b T s) in
      let there : k ≤ length (entries T) = le-trans k _ (length (entries T)) (at-most-last v.began v.sent v.taken (Page page k) order.rise h.message) order.below in
      let pages : HasPages v (length (entries T)) = keeps-pages s T v h.before h.live in
      let cached : There v.pages x.page k = subst (λ (p : ℕ). There v.pages p k) (sym on) (pages.sent v.taken page k h.message) in
      subst (λ (H : List Entry). RightAt b H s w x o k) (sym (after-mark b T (the.Took s place))) (record {
        unknown = rw t.upto (omega arith);
        there = there;
        cached = subst (λ (p : Map nat_cmp ℕ). There p x.page k) (sym t.pages) cached;
        value = value;
        others = others;
        before = λ i j l at. waits-behind b v w (Page page k) x.page t order.rise i j l at;
      })
    where
      le-trans : (i j k : ℕ) → i ≤ j → j ≤ k → i ≤ k
      le-trans i j k p q = omega arith

  there-is : (ms : List Notice) (i : ℕ) (m : Notice) → slice_get ms i ≡ Some m → i + 1 ≤ length ms
  there-is [] i m h = cc
  there-is (x ∷ xs) zero m h = omega arith
  there-is (x ∷ xs) (suc i) m h = let e = there-is xs i m h in omega arith

  below-bound : (m : Notice) → place_of m ≤ bound m
  below-bound (Page p k) = omega arith
  below-bound (Grant p k) = omega arith
  below-bound (Invalid xs k) = omega arith
  below-bound (Upgrade n k) = omega arith

  -- the client stays in step with its session
  pub step-taken : (T : List Item) (s : ℕ) (v w : Session) (place : ℕ) (m : Notice) → Takes b T s v w place m → InStep v → InStep w
  step-taken T s v w place m h step =
      let t : Took v w m = took b T s v w place m h in
      let order : KeepsOrder v (length (entries T)) = if-some (session b T s) (λ v. KeepsOrder v (length (entries T))) v h.before (keeps-order b T s) in
      let waits : upto_of v ≤ place_of m = (waits-by-place v order.rise).waits v.taken m h.message (same v.taken) in
      let count : v.taken + 1 ≤ length v.sent = there-is v.sent v.taken m h.message in
      record {
        taken = rw (t.taken, t.sent) count;
        acked = rw (t.acked, t.upto) (three v.acked (upto_of v) (place_of m) (bound m) step.acked waits (below-bound m));
      }
    where
      same : (n : ℕ) → n ≤ n
      same n = omega arith

      three : (i j k l : ℕ) → i ≤ j → j ≤ k → k ≤ l → i ≤ l
      three i j k l p q r = omega arith
