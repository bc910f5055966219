-- What a client keeps, behind one more item at which it takes no message and which brings it no answer.
use Rattle.law_cache_coherence.specs.Fitting.{Copies, CopiesFit, KeepsUp, Kept, StaysRight, one_if, replies}
use Rattle.log_entries.specs.declared.entry.Entry.{Entry}
use Rattle.log_entries.specs.declared.request.Request.{Request}
use Rattle.spec_history.proofs.Growth.{owed-end, sound-beginning}
use Rattle.spec_history.proofs.Places.{came_end}
use Rattle.spec_history.proofs.Steps as steps
use Rattle.spec_history.specs.History.{Aborted, Base, Committed, Fate, Known, Open, State, commit_of, known_by, state, writers}
use Rattle.spec_history.specs.Requests.{has_written, written}
use Rattle.spec_history.specs.Sound.{sound}
use Rattle.spec_trace.proofs.Exactness.{move-began, move-lives}
use Rattle.spec_trace.proofs.Kept.{Later, meet-moves, move-later, step-kept, writers-end}
use Rattle.spec_trace.proofs.Sessions.{session-end}
use Rattle.spec_trace.proofs.Taken.{after-mark}
use Rattle.spec_trace.proofs.Told.{Went, went}
use Rattle.spec_trace.proofs.Traces.{entries-append}
use Rattle.spec_trace.proofs.Undecided.{current-grown, pages-grown}
use Rattle.spec_trace.specs.Current.{InStep, IsOwnWrite, NoPageWaits, NoneAborted, OthersOrSame, OthersSince, OthersWrite, PassesItem, commits_in, is_taking}
use Rattle.spec_trace.specs.Session.{Grant, Invalid, Notice, Page, Session, Upgrade, acked_after, is_news, is_silent, meet, move, moved, notice, or_retired, push, rested, retired, session, session_lives, taken_after, upto_of, waiting}
use Rattle.spec_trace.specs.Trace.{E, Item, M, entries}
use Rattle.spec_trace.specs.declared.mark.Mark.TheVariants as the
use Rattle.std.proofs.Common.{Bool, List, [], ap, arith, cond, drop, false, inl, inr, length, refl, subst, suc, sym, true, zero, ◌+◌, ◌++◌, ◌∙◌, ◌∷◌, ◌≡◌, ◌≤◌, ℕ}
use Rattle.std.proofs.lemmas.Bool.{eqb-true}
use Rattle.std.proofs.lemmas.List.Elements.{All-append, All-cons, All-nil, All-tail, All-head, All-weaker, filter-append}
use Rattle.std.proofs.lemmas.List.{append-nil}
use Rattle.std.specs.List.{All, filter, slice_get}
use Rattle.std.specs.Option.{is_some}
use Rattle.std.specs.Prelude.{None, Option, Some, nat_eq, not, ◌⊎◌}
use Rattle.thor_value.specs.FiniteMap.{get}
use Rattle.thor_value.specs.declared.names.Oref.{Oref}
use Rattle.thor_value.specs.declared.names.Ts.{Ts}
use Rattle.thor_value.specs.declared.values.Obj.{Obj}

-- a request that the session commits: of a transaction of its own that is undecided, and has committed at its
-- coordinator
pub record IsFinishing (b : Base) (H : List Entry) (committed : Ts → Bool) (q : Request) : Type 0 where
  pub t : Ts
  pub o : Known
  pub there : known_by b H t ≡ Some o
  pub open' : o.fate ≡ Open
  pub request : o.request ≡ q
  pub settled : committed t ≡ true

abbrev pub list_of : Option Notice → List Notice
list_of None = []
list_of (Some m) = m ∷ []

-- the answers among what is sent
abbrev pub answers_in : Option Notice → List Notice
answers_in o = filter (λ m. not (is_news m)) (list_of o)

-- What the item i behind T may be for the client of the session s, which stands as v: it takes nothing,
-- acknowledges no more than is known, commits of the session's own what has committed at its coordinator, and
-- prepares none that has.
pub record IsPassive (b : Base) (T : List Item) (s : ℕ) (v : Session) (committed : Ts → Bool) (i : Item) : Type 0 where
  pub taking : is_taking s i ≡ false
  pub acked : acked_after s v.acked i ≤ upto_of v
  pub commits : All (λ c. nat_eq c.1.session s ≡ true → IsFinishing b (entries T) committed c.1) (commits_in b (entries T) i)
  pub fresh : (t : Ts) (w : Known) → known_by b (entries (T ++ i ∷ [])) t ≡ Some w → w.fate ≡ Open → w.request.session ≡ s → committed t ≡ true → known_by b (entries T) t ≡ None → ⊥

pub there_wrote : (g : Option Obj) → is_some g ≡ true → (d : Obj) × (g ≡ Some d)
there_wrote None e = cc
there_wrote (Some d) e = (d, refl)

module _ (b : Base) where
  -- ---- the session

  pub behind : (T : List Item) (i : Item) (s : ℕ) (v : Session) → session b T s ≡ Some v → is_taking s i ≡ false → session b (T ++ i ∷ []) s ≡ Some (move b s (state b (entries T)) i v)
  behind T i s v is h = session-end b T i s ∙ ap (λ (u : Option Session). meet b s (state b (entries T)) u i) is ∙ meet-moves b s (state b (entries T)) v i h

  pub same_client : (s : ℕ) (S : State) (i : Item) (v : Session) → (move b s S i v).client ≡ v.client
  same_client s S i v = (move-began b s S i v).1

  pub was_live : (s : ℕ) (S : State) (i : Item) (v : Session) → session_lives (move b s S i v) ≡ true → session_lives v ≡ true
  was_live s S i v h = (move-lives b s S i v h).0

  not_taken : (s taken : ℕ) (i : Item) → is_taking s i ≡ false → taken_after s taken i ≡ taken
  not_taken s taken (E e) h = refl
  not_taken s taken (M (the.Took n k)) h = ap (λ (t : Bool). cond t (taken + 1) taken) h
  not_taken s taken (M (the.Fetched n page upto)) h = refl
  not_taken s taken (M (the.Granted n page)) h = refl
  not_taken s taken (M (the.Connected n d)) h = refl
  not_taken s taken (M (the.Drew n t)) h = refl
  not_taken s taken (M (the.Forgot t)) h = refl
  not_taken s taken (M (the.Refused n q r)) h = refl

  same_taken : (s : ℕ) (S : State) (i : Item) (v : Session) → is_taking s i ≡ false → (move b s S i v).taken ≡ v.taken
  same_taken s S i v h = by (session_lives v)
    where
      quiet : (t : Bool) → (cond t (record (moved b s S v i) { stage = retired (moved b s S v i).stage }) (moved b s S v i)).taken ≡ v.taken
      quiet true = not_taken s v.taken i h
      quiet false = not_taken s v.taken i h

      by : (t : Bool) → (cond t (or_retired b (moved b s S v i)) (rested v i)).taken ≡ v.taken
      by true = quiet (is_silent b.silence (moved b s S v i))
      by false = refl

  drop_front : {X : Type 0} (n : ℕ) (xs ys : List X) → n ≤ length xs → drop n (xs ++ ys) ≡ drop n xs ++ ys
  drop_front zero xs ys h = refl
  drop_front (suc n) [] ys h = absurd (omega arith)
  drop_front (suc n) (x ∷ xs) ys h = drop_front n xs ys (omega arith)

  drop_push : (n : ℕ) (sent : List Notice) (o : Option Notice) → n ≤ length sent → drop n (push sent o) ≡ drop n sent ++ list_of o
  drop_push n sent None h = sym (append-nil (drop n sent))
  drop_push n sent (Some m) h = drop_front n sent (m ∷ []) h

  -- what waits behind an item at which nothing is taken
  pub waits_now : (s : ℕ) (S : State) (i : Item) (v : Session) → v.taken ≤ length v.sent → is_taking s i ≡ false → session_lives (move b s S i v) ≡ true → waiting (move b s S i v) ≡ waiting v ++ list_of (notice b s S v.pages i)
  waits_now s S i v l h live =
      let g : Went b s S i v (move b s S i v) = went b s S i v live in
      ap (λ (t : ℕ). drop t (move b s S i v).sent) (same_taken s S i v h) ∙ ap (drop v.taken) g.2 ∙ drop_push v.taken v.sent (notice b s S v.pages i) l

  pub replies_now : (s : ℕ) (S : State) (i : Item) (v : Session) → v.taken ≤ length v.sent → is_taking s i ≡ false → session_lives (move b s S i v) ≡ true → replies (move b s S i v) ≡ replies v ++ answers_in (notice b s S v.pages i)
  replies_now s S i v l h live = ap (filter (λ m. not (is_news m))) (waits_now s S i v l h live) ∙ filter-append (λ m. not (is_news m)) (waiting v) (list_of (notice b s S v.pages i))

  -- ---- what waits

  all_at : (P : Notice → Type 0) (ms : List Notice) (i : ℕ) (m : Notice) → All P ms → slice_get ms i ≡ Some m → P m
  all_at P [] i m a e = cc
  all_at P (x ∷ xs) zero m a e = let same : x ≡ m = cc in subst P same (All-head P x xs a)
  all_at P (x ∷ xs) (suc i) m a e = all_at P xs i m (All-tail P x xs a) e

  -- what holds of each message behind the first n holds of one there
  waiting_at : (P : Notice → Type 0) (n : ℕ) (ms : List Notice) (i : ℕ) (m : Notice) → All P (drop n ms) → n ≤ i → slice_get ms i ≡ Some m → P m
  waiting_at P zero ms i m a le e = all_at P ms i m a e
  waiting_at P (suc n) [] i m a le e = cc
  waiting_at P (suc n) (x ∷ xs) zero m a le e = absurd (omega arith)
  waiting_at P (suc n) (x ∷ xs) (suc i) m a le e = waiting_at P n xs i m a (omega arith) e

  no_page : (ms : List Notice) (i page k : ℕ) → filter (λ m. not (is_news m)) ms ≡ [] → slice_get ms i ≡ Some (Page page k) → ⊥
  no_page [] i page k f e = cc
  no_page (Page p q ∷ ms) i page k f e = cc
  no_page (Grant p q ∷ ms) i page k f e = cc
  no_page (Invalid xs q ∷ ms) zero page k f e = cc
  no_page (Invalid xs q ∷ ms) (suc i) page k f e = no_page ms i page k f e
  no_page (Upgrade n q ∷ ms) zero page k f e = cc
  no_page (Upgrade n q ∷ ms) (suc i) page k f e = no_page ms i page k f e

  no_page_behind : (n : ℕ) (ms : List Notice) (i page k : ℕ) → filter (λ m. not (is_news m)) (drop n ms) ≡ [] → n ≤ i → slice_get ms i ≡ Some (Page page k) → ⊥
  no_page_behind zero ms i page k f le e = no_page ms i page k f e
  no_page_behind (suc n) [] i page k f le e = cc
  no_page_behind (suc n) (x ∷ xs) zero page k f le e = absurd (omega arith)
  no_page_behind (suc n) (x ∷ xs) (suc i) page k f le e = no_page_behind n xs i page k f (omega arith) e

  -- where no answer waits, no page does
  pub waits_no_page : (v : Session) (x : Oref) → replies v ≡ [] → NoPageWaits v x
  waits_no_page v x none i k le at = no_page_behind v.taken v.sent i x.page k none le at

  -- ---- the history

  pub after_entry : (T : List Item) (e : Entry) → entries (T ++ E e ∷ []) ≡ entries T ++ e ∷ []
  after_entry T e = entries-append T (E e ∷ [])

  all_since : (s : ℕ) (x : Oref) (m : ℕ) (cs : List (ℕ × Request)) → OthersWrite s x cs → OthersSince s m (filter (λ c. has_written c.1 x) cs)
  all_since s x m [] h = All-nil (λ c. m ≤ c.0 → nat_eq c.1.session s ≡ false)
  all_since s x m (c ∷ cs) h = by (has_written c.1 x) refl (all_since s x m cs (All-tail (λ c. has_written c.1 x ≡ true → nat_eq c.1.session s ≡ false) c cs h))
    where
      by : (t : Bool) → has_written c.1 x ≡ t → OthersSince s m (filter (λ c. has_written c.1 x) cs) → OthersSince s m (cond t (c ∷ filter (λ c. has_written c.1 x) cs) (filter (λ c. has_written c.1 x) cs))
      by true e rest = All-cons (λ c. m ≤ c.0 → nat_eq c.1.session s ≡ false) c (filter (λ c. has_written c.1 x) cs) (λ l. All-head (λ c. has_written c.1 x ≡ true → nat_eq c.1.session s ≡ false) c cs h e) rest
      by false e rest = rest

  pub since_grown : (T : List Item) (i : Item) (s : ℕ) (x : Oref) (k : ℕ) → OthersWrite s x (commits_in b (entries T) i) → OthersSince s k (writers b (entries T) x) → OthersSince s k (writers b (entries (T ++ i ∷ [])) x)
  since_grown T (E e) s x k a h =
      let more : OthersSince s k (writers b (entries T ++ e ∷ []) x) = subst (OthersSince s k) (sym (writers-end b (entries T) e x)) (All-append (λ c. k ≤ c.0 → nat_eq c.1.session s ≡ false) (writers b (entries T) x) (filter (λ c. has_written c.1 x) (commit_of b (state b (entries T)) e)) h (all_since s x k (commit_of b (state b (entries T)) e) a)) in
      subst (λ (H : List Entry). OthersSince s k (writers b H x)) (sym (after_entry T e)) more
  since_grown T (M m) s x k a h = subst (λ (H : List Entry). OthersSince s k (writers b H x)) (sym (after-mark b T m)) h

  -- one that is undecided behind an entry was so before it
  pub was_open : (cs : List (ℕ × Request)) (n : ℕ) (q : Request) (f g : Fate) → g ≡ Open → steps.FateMoves cs n q f g → f ≡ Open
  was_open cs n q Open g e m = refl
  was_open cs n q (Committed a) Open e m = absurd m
  was_open cs n q (Committed a) (Committed at) e m = cc
  was_open cs n q (Committed a) Aborted e m = absurd m
  was_open cs n q Aborted Open e m = absurd m
  was_open cs n q Aborted (Committed at) e m = absurd m
  was_open cs n q Aborted Aborted e m = cc

  -- news bring no page
  pub news_right : (H : List Entry) (s : ℕ) (committed : Ts → Bool) (o : Option Notice) → answers_in o ≡ [] → All (StaysRight b H s committed) (list_of o)
  news_right H s committed None e = All-nil (StaysRight b H s committed)
  news_right H s committed (Some (Page page k)) e = cc
  news_right H s committed (Some (Grant page k)) e = cc
  news_right H s committed (Some (Invalid names k)) e = All-cons (StaysRight b H s committed) (Invalid names k) [] tt (All-nil (StaysRight b H s committed))
  news_right H s committed (Some (Upgrade number k)) e = All-cons (StaysRight b H s committed) (Upgrade number k) [] tt (All-nil (StaysRight b H s committed))

  -- ---- one passive item

  module _ (T : List Item) (i : Item) (s : ℕ) (v : Session) (committed : Ts → Bool) (there : session b T s ≡ Some v) (p : IsPassive b T s v committed i) (sd : sound b (entries (T ++ i ∷ []))) where
    abbrev now : Session
    now = move b s (state b (entries T)) i v

    pub is_now : session b (T ++ i ∷ []) s ≡ Some now
    is_now = behind T i s v there p.taking

    -- an own write is one before the item
    own_back : (x : Oref) (d : Obj) (t : Ts) (w : Known) → IsOwnWrite b (entries (T ++ i ∷ [])) s committed x d t w → (o : Known) × IsOwnWrite b (entries T) s committed x d t o
    own_back x d t w h = by i refl (p.fresh t w h.there h.open' h.own h.settled)
      where
        by : (j : Item) → i ≡ j → (known_by b (entries T) t ≡ None → ⊥) → (o : Known) × IsOwnWrite b (entries T) s committed x d t o
        by (M m) e none =
            let same : known_by b (entries T) t ≡ Some w = ap (λ (H : List Entry). known_by b H t) (sym (after-mark b T m) ∙ ap (λ (k : Item). entries (T ++ k ∷ [])) (sym e)) ∙ h.there in
            (w, record { there = same; open' = h.open'; own = h.own; wrote = h.wrote; settled = h.settled })
        by (E en) e none =
            let same : entries (T ++ i ∷ []) ≡ entries T ++ en ∷ [] = ap (λ (k : Item). entries (T ++ k ∷ [])) e ∙ after_entry T en in
            let sd' : sound b (entries T ++ en ∷ []) = subst (sound b) same sd in
            let is : known_by b (entries T ++ en ∷ []) t ≡ Some w = ap (λ (H : List Entry). known_by b H t) (sym same) ∙ h.there in
            elim (came_end b (entries T) en (sound-beginning b (entries T) (en ∷ []) sd') (owed-end b (entries T) en sd') t w is) [
              | inl new ↦ absurd (none new.0)
              | inr old ↦ (
                old.0,
                record {
                  there = old.1;
                  open' = was_open (commit_of b (state b (entries T)) en) (length (entries T)) old.0.request old.0.fate w.fate h.open' old.2.2;
                  own = ap (λ (r : Request). r.session) (sym old.2.1) ∙ h.own;
                  wrote = ap (λ (r : Request). get (written r) x) (sym old.2.1) ∙ h.wrote;
                  settled = h.settled;
                },
              )
            ]

    module _ (copies : Copies) (f : CopiesFit b (entries T) s v committed copies) where
      -- what the item commits of the session's own are the copies
      same_or_other : (x : Oref) (o : Obj) → x.repo ≡ b.repo → copies x ≡ Some o → OthersOrSame s v x o (commits_in b (entries T) i)
      same_or_other x o here copy = All-weaker (λ c. nat_eq c.1.session s ≡ true → IsFinishing b (entries T) committed c.1) (λ c. has_written c.1 x ≡ true → (nat_eq c.1.session s ≡ false) ⊎ ((get (written c.1) x ≡ Some o) × NoPageWaits v x)) one (commits_in b (entries T) i) p.commits
        where
          one : (c : ℕ × Request) → (nat_eq c.1.session s ≡ true → IsFinishing b (entries T) committed c.1) → has_written c.1 x ≡ true → (nat_eq c.1.session s ≡ false) ⊎ ((get (written c.1) x ≡ Some o) × NoPageWaits v x)
          one c h wrote = by (nat_eq c.1.session s) refl
            where
              by : (t : Bool) → nat_eq c.1.session s ≡ t → (nat_eq c.1.session s ≡ false) ⊎ ((get (written c.1) x ≡ Some o) × NoPageWaits v x)
              by false e = inl e
              by true e =
                  let g = h e in
                  let d = there_wrote (get (written c.1) x) wrote in
                  let own : g.o.request.session ≡ s = ap (λ (r : Request). r.session) g.request ∙ eqb-true c.1.session s e in
                  let w : IsOwnWrite b (entries T) s committed x d.0 g.t g.o = record { there = g.there; open' = g.open'; own = own; wrote = ap (λ (r : Request). get (written r) x) g.request ∙ d.1; settled = g.settled } in
                  inr (
                    d.1 ∙ ap (λ (z : Obj). Some z) (sym (f.own x o d.0 g.t g.o here w copy)),
                    λ j k le at. (waiting_at (StaysRight b (entries T) s committed) v.taken v.sent j (Page x.page k) f.pages le at x refl).1 d.0 g.t g.o w,
                  )

      -- the item commits nothing of the session's own on a page that waits
      others_write : (x : Oref) → ((d : Obj) (t : Ts) (w : Known) → ¬ IsOwnWrite b (entries T) s committed x d t w) → OthersWrite s x (commits_in b (entries T) i)
      others_write x none = All-weaker (λ c. nat_eq c.1.session s ≡ true → IsFinishing b (entries T) committed c.1) (λ c. has_written c.1 x ≡ true → nat_eq c.1.session s ≡ false) one (commits_in b (entries T) i) p.commits
        where
          one : (c : ℕ × Request) → (nat_eq c.1.session s ≡ true → IsFinishing b (entries T) committed c.1) → has_written c.1 x ≡ true → nat_eq c.1.session s ≡ false
          one c h wrote = by (nat_eq c.1.session s) refl
            where
              by : (t : Bool) → nat_eq c.1.session s ≡ t → nat_eq c.1.session s ≡ false
              by false e = e
              by true e =
                  let g = h e in
                  let d = there_wrote (get (written c.1) x) wrote in
                  let own : g.o.request.session ≡ s = ap (λ (r : Request). r.session) g.request ∙ eqb-true c.1.session s e in
                  absurd (none d.0 g.t g.o (record { there = g.there; open' = g.open'; own = own; wrote = ap (λ (r : Request). get (written r) x) g.request ∙ d.1; settled = g.settled }))

      still_right : (m : Notice) → StaysRight b (entries T) s committed m → StaysRight b (entries (T ++ i ∷ [])) s committed m
      still_right (Page page k) h = λ x on. (since_grown T i s x k (others_write x (h x on).1) (h x on).0, λ d t w own. let o = own_back x d t w own in (h x on).1 d t o.0 o.1)
      still_right (Grant page k) h = tt
      still_right (Invalid names k) h = tt
      still_right (Upgrade number k) h = tt

      pub copies_on : InStep v → session_lives now ≡ true → All (StaysRight b (entries (T ++ i ∷ [])) s committed) (list_of (notice b s (state b (entries T)) v.pages i)) → NoneAborted b (entries (T ++ i ∷ [])) committed → CopiesFit b (entries (T ++ i ∷ [])) s now committed copies
      copies_on step live new none =
          let ps : PassesItem b T i s v now = record { before = there; live = was_live s (state b (entries T)) i v live; quiet = p.taking; after = is_now } in
          record {
            current = λ x o here copy. let c = f.current x o here copy in
                (current-grown b T i s v now committed x o ps step c.1 sd none (same_or_other x o here copy) c.0, pages-grown b T i s v now x.page ps c.1);
            own = λ x o d t w here own copy. let y = own_back x d t w own in f.own x o d t y.0 here y.1 copy;
            pages = subst (All (StaysRight b (entries (T ++ i ∷ [])) s committed)) (sym (waits_now s (state b (entries T)) i v step.taken p.taking live))
                (All-append (StaysRight b (entries (T ++ i ∷ [])) s committed) (waiting v) (list_of (notice b s (state b (entries T)) v.pages i))
                (All-weaker (StaysRight b (entries T) s committed) (StaysRight b (entries (T ++ i ∷ [])) s committed) still_right (waiting v) f.pages)
                new);
          }

    -- the client asks for an answer, or none, and gets what it asks for
    pub goes_on : (kept : Kept) (awaits : Bool) → kept.session ≡ s → session_lives now ≡ true
        → All (StaysRight b (entries (T ++ i ∷ [])) s committed) (list_of (notice b s (state b (entries T)) v.pages i)) → length (replies v ++ answers_in (notice b s (state b (entries T)) v.pages i)) ≤ one_if awaits
        → NoneAborted b (entries (T ++ i ∷ [])) committed → KeepsUp b T committed v kept → KeepsUp b (T ++ i ∷ []) committed now (record kept { awaits = awaits })
    goes_on kept awaits same live new few none h =
        let l : Later v now = move-later b s (state b (entries T)) i v h.step.taken p.taking in
        record {
          known = h.known ∙ sym l.upto;
          step = step-kept b T i s v now there is_now h.step p.taking p.acked;
          asked = subst (λ (ms : List Notice). length ms ≤ one_if awaits) (sym (replies_now s (state b (entries T)) i v h.step.taken p.taking live)) few;
          copies = λ tells. subst (λ (n : ℕ). CopiesFit b (entries (T ++ i ∷ [])) n now committed kept.copies) (sym same)
              (copies_on kept.copies (subst (λ (n : ℕ). CopiesFit b (entries T) n v committed kept.copies) same (h.copies tells)) h.step live new none);
        }

    -- where no answer comes
    pub keeps_on : (kept : Kept) → kept.session ≡ s → session_lives now ≡ true → answers_in (notice b s (state b (entries T)) v.pages i) ≡ []
        → NoneAborted b (entries (T ++ i ∷ [])) committed → KeepsUp b T committed v kept → KeepsUp b (T ++ i ∷ []) committed now kept
    keeps_on kept same live plain none h =
        goes_on kept kept.awaits same live (news_right (entries (T ++ i ∷ [])) s committed (notice b s (state b (entries T)) v.pages i) plain)
        (subst (λ (ms : List Notice). length ms ≤ one_if kept.awaits) (sym (ap (λ (ms : List Notice). replies v ++ ms) plain ∙ append-nil (replies v))) h.asked) none h
