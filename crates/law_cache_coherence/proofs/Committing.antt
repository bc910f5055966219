-- A client whose transaction commits, is prepared, or turns out to have committed.
use Rattle.law_cache_coherence.proofs.Other.{told_plain}
use Rattle.law_cache_coherence.proofs.Passing.{IsFinishing, IsPassive, after_entry, answers_in, behind, keeps_on, replies_now, same_client, waits_no_page, was_live}
use Rattle.law_cache_coherence.specs.Fitting.{Copies, CopiesFit, FitsAt, KeepsUp, Kept, NoneToFinish, SameCopies, StaysRight, one_if, replies, with_writes}
use Rattle.log_entries.specs.declared.entry.Entry.TheVariants.{Decided, Finished, Life, One, Prepared, Upgraded}
use Rattle.log_entries.specs.declared.entry.Entry.{Entry}
use Rattle.log_entries.specs.declared.request.Request.{Request}
use Rattle.spec_history.proofs.Growth.{length-state, owed-end, sound-beginning, state-end}
use Rattle.spec_history.proofs.LastWrite.{commit_here}
use Rattle.spec_history.proofs.Places.{came_end, placed}
use Rattle.spec_history.proofs.Steps as steps
use Rattle.spec_history.specs.History.{Aborted, Base, Committed, Fate, Known, Open, State, commit_of, is_open, known_by, known_in, state}
use Rattle.spec_history.specs.Laws.{Asks}
use Rattle.spec_history.specs.Requests.{has_written, written}
use Rattle.spec_history.specs.Sound.{sound}
use Rattle.client_port.specs.Views.{Calm}
use Rattle.spec_trace.proofs.Kept.{Later, move-later, step-kept}
use Rattle.spec_trace.proofs.Own.{own-right}
use Rattle.spec_trace.proofs.Taken.{keeps-pages}
use Rattle.spec_trace.proofs.Undecided.{current-grown, current-more, pages-grown}
use Rattle.spec_trace.specs.Current.{InStep, IsCurrent, IsOwnWrite, NoPageWaits, NoneAborted, OthersOrSame, PassesItem}
use Rattle.spec_trace.specs.Session.{Grant, Invalid, Notice, Page, Session, Upgrade, acked_after, is_news, move, notice, session, session_lives, upto_of, waiting}
use Rattle.spec_trace.specs.Trace.{E, Item, entries}
use Rattle.spec_trace.specs.Exact.{WritesOnPages}
use Rattle.std.proofs.Common.{Bool, List, [], ap, arith, cond, false, inl, inr, length, refl, subst, sym, true, ◌+◌, ◌++◌, ◌∙◌, ◌∷◌, ◌≡◌, ◌≤◌, ℕ}
use Rattle.std.proofs.lemmas.List.Elements.{All-cons, All-nil, All-weaker}
use Rattle.std.specs.List.{All, filter}
use Rattle.std.specs.Option.{IsSomeAnd, is_some, option_or}
use Rattle.std.specs.Prelude.{None, Option, Some, max, nat_eq, not, ◌⊎◌}
use Rattle.thor_value.specs.FiniteMap.{get, has}
use Rattle.thor_value.specs.declared.names.Oref.{Oref}
use Rattle.thor_value.specs.declared.names.Ts.{Ts}
use Rattle.thor_value.specs.declared.values.Obj.{Obj}

-- where no answer waits, what waits is news, which bring no page
pub news_wait : (b : Base) (H : List Entry) (s : ℕ) (committed : Ts → Bool) (ms : List Notice) → filter (λ m. not (is_news m)) ms ≡ [] → All (StaysRight b H s committed) ms
news_wait b H s committed [] e = All-nil (StaysRight b H s committed)
news_wait b H s committed (Page page k ∷ ms) e = cc
news_wait b H s committed (Grant page k ∷ ms) e = cc
news_wait b H s committed (Invalid names k ∷ ms) e = All-cons (StaysRight b H s committed) (Invalid names k) ms tt (news_wait b H s committed ms e)
news_wait b H s committed (Upgrade number k ∷ ms) e = All-cons (StaysRight b H s committed) (Upgrade number k) ms tt (news_wait b H s committed ms e)

pub no_more : (ms : List Notice) → length ms ≤ 0 → ms ≡ []
no_more [] l = refl
no_more (x ∷ xs) l = absurd (omega arith)

idle_replies : (v : Session) (awaits : Bool) → awaits ≡ false → length (replies v) ≤ one_if awaits → replies v ≡ []
idle_replies v awaits idle l = no_more (replies v) (subst (λ (t : Bool). length (replies v) ≤ one_if t) idle l)

pub some_at : (P : Session → Type 0) (o : Option Session) (v : Session) → o ≡ Some v → IsSomeAnd o P → P v
some_at P None v e h = absurd h
some_at P (Some w) v e h = let f : w ≡ v = cc in subst P f h

-- the request of the first of some commits
abbrev first_of : Request → List (ℕ × Request) → Request
first_of d [] = d
first_of d (c ∷ cs) = c.1

-- ---- a commit

-- The item behind T is the entry e, which commits the request q of the session. Its client holds what q wrote.
module _ (c : ℕ) (b : Base) (T : List Item) (committed : Ts → Bool) (kept : Kept) (e : Entry) (q : Request)
    (sd : sound b (entries (T ++ E e ∷ []))) (none : NoneAborted b (entries (T ++ E e ∷ [])) committed) (h : FitsAt c b Calm T committed kept)
    (commits : commit_of b (state b (entries T)) e ≡ (length (entries T), q) ∷ []) (idle : kept.awaits ≡ false) (settled : NoneToFinish b (entries T) kept.session committed)
    (pages : b.tells ≡ true → WritesOnPages b T kept.session q) where
  abbrev w : Session
  w = move b kept.session (state b (entries T)) (E e) h.v

  there : session b (T ++ E e ∷ []) kept.session ≡ Some w
  there = behind b T (E e) kept.session h.v h.there refl

  plain : answers_in (notice b kept.session (state b (entries T)) h.v.pages (E e)) ≡ []
  plain = told_plain kept.session (state b (entries T)) h.v (commit_of b (state b (entries T)) e)

  -- behind it none is left to finish
  none_open : (x : Oref) (d : Obj) (t : Ts) (p : Known) → IsOwnWrite b (entries (T ++ E e ∷ [])) kept.session committed x d t p → ⊥
  none_open x d t p own =
      let sd' : sound b (entries T ++ e ∷ []) = subst (sound b) (after_entry b T e) sd in
      let is : known_by b (entries T ++ e ∷ []) t ≡ Some p = ap (λ (H : List Entry). known_by b H t) (sym (after_entry b T e)) ∙ own.there in
      elim (came_end b (entries T) e (sound-beginning b (entries T) (e ∷ []) sd') (owed-end b (entries T) e sd') t p is) [
        | inl new ↦
            let one : p.request ≡ q = asked_commits e p.request q new.1.0 commits in
            let here = commit_here b (state b (entries T)) e q (placed b (entries T) (sound-beginning b (entries T) (e ∷ []) sd')) (commits ∙ ap (λ (n : ℕ). (n, q) ∷ []) (sym (length-state b (entries T)))) in
            let now : known_by b (entries T ++ e ∷ []) q.tx ≡ Some here.0 = ap (λ (S : State). known_in b S q.tx) (state-end b (entries T) e) ∙ here.1 in
            let then' : known_by b (entries T ++ e ∷ []) q.tx ≡ Some p = ap (known_by b (entries T ++ e ∷ [])) (ap (λ (r : Request). r.tx) (sym one) ∙ new.1.1) ∙ is in
            let both : Some here.0 ≡ Some p = sym now ∙ then' in
            let same : here.0 ≡ p = cc in
            let f : Committed ((state b (entries T)).length) ≡ Open = sym here.3 ∙ ap (λ (z : Known). z.fate) same ∙ own.open' in cc
        | inr old ↦
            let f : false ≡ true = sym (settled t old.0 old.1 (open_before (commit_of b (state b (entries T)) e) (length (entries T)) old.0.request old.0.fate p.fate own.open' old.2.2) (ap (λ (r : Request). r.session) (sym old.2.1) ∙ own.own)) ∙ own.settled in cc
      ]
    where
      asked_commits : (e : Entry) (r q : Request) → Asks e r → commit_of b (state b (entries T)) e ≡ (length (entries T), q) ∷ [] → r ≡ q
      asked_commits (Life n) r q a k = cc
      asked_commits (One y) r q a k = sym a ∙ ap (first_of y) k
      asked_commits (Prepared y) r q a k = cc
      asked_commits (Decided t c) r q a k = absurd a
      asked_commits (Finished t c) r q a k = absurd a
      asked_commits (Upgraded y) r q a k = sym a ∙ ap (first_of y) k

      open_before : (cs : List (ℕ × Request)) (n : ℕ) (q : Request) (f g : Fate) → g ≡ Open → steps.FateMoves cs n q f g → f ≡ Open
      open_before cs n q Open g e m = refl
      open_before cs n q (Committed a) Open e m = absurd m
      open_before cs n q (Committed a) (Committed at) e m = cc
      open_before cs n q (Committed a) Aborted e m = absurd m
      open_before cs n q Aborted Open e m = absurd m
      open_before cs n q Aborted (Committed at) e m = absurd m
      open_before cs n q Aborted Aborted e m = cc

  module _ (copies : Copies) (become : b.tells ≡ true → SameCopies b copies (with_writes q kept.copies)) (acked : InStep h.v → kept.upto ≡ upto_of h.v → acked_after kept.session h.v.acked (E e) ≤ upto_of h.v) where
    page_of : b.tells ≡ true → (x : Oref) → has_written q x ≡ true → has h.v.pages x.page ≡ true
    page_of tells x wrote = some_at (λ v. has v.pages x.page ≡ true) (session b T kept.session) h.v h.there (pages tells x wrote)

    low_page : (o : Option ℕ) (n : ℕ) → is_some o ≡ true → ((p : ℕ) → o ≡ Some p → p ≤ n) → IsSomeAnd o (λ p. p ≤ n)
    low_page None n e f = cc
    low_page (Some p) n e f = f p refl

    current : b.tells ≡ true → session_lives w ≡ true → KeepsUp b T committed h.v kept → CopiesFit b (entries T) kept.session h.v committed kept.copies
        → (x : Oref) (o : Obj) → x.repo ≡ b.repo → with_writes q kept.copies x ≡ Some o → IsCurrent b (entries (T ++ E e ∷ [])) kept.session w committed x o × (has w.pages x.page ≡ true)
    current tells live k f x o here copy = by (get (written q) x) refl copy
      where
        before : session_lives h.v ≡ true
        before = was_live b kept.session (state b (entries T)) (E e) h.v live

        ps : PassesItem b T (E e) kept.session h.v w
        ps = record { before = h.there; live = before; quiet = refl; after = there }

        wrote : (d : Obj) → get (written q) x ≡ Some d → has_written q x ≡ true
        wrote d e = ap is_some e

        by : (g : Option Obj) → get (written q) x ≡ g → option_or g (kept.copies x) ≡ Some o → IsCurrent b (entries (T ++ E e ∷ [])) kept.session w committed x o × (has w.pages x.page ≡ true)
        by (Some d) g copy =
            let page = page_of tells x (wrote d g) in
            let low = low_page (get h.v.pages x.page) (length (entries T)) page (λ n is. (keeps-pages b kept.session T h.v h.there before).below x.page n is) in
            (inl (length (entries T) + 1, own-right b T e kept.session h.v w q x o h.there there k.step commits (g ∙ copy) low (waits_no_page b h.v x (idle_replies h.v kept.awaits idle k.asked))), pages-grown b T (E e) kept.session h.v w x.page ps page)
        by None g copy =
            let y = f.current x o here copy in (
              current-grown b T (E e) kept.session h.v w committed x o ps k.step y.1 sd none
                  (subst (OthersOrSame kept.session h.v x o) (sym commits) (All-cons (λ c. has_written c.1 x ≡ true → (nat_eq c.1.session kept.session ≡ false) ⊎ ((get (written c.1) x ≡ Some o) × NoPageWaits h.v x)) (length (entries T), q) [] (λ z. let e : false ≡ true = sym (ap is_some g) ∙ z in cc) (All-nil (λ c. has_written c.1 x ≡ true → (nat_eq c.1.session kept.session ≡ false) ⊎ ((get (written c.1) x ≡ Some o) × NoPageWaits h.v x)))))
                  y.0,
              pages-grown b T (E e) kept.session h.v w x.page ps y.1,
            )

    -- the answers that wait are none
    no_answers : session_lives w ≡ true → KeepsUp b T committed h.v kept → replies w ≡ []
    no_answers live k = replies_now b kept.session (state b (entries T)) (E e) h.v k.step.taken refl live ∙ ap (λ (ms : List Notice). ms ++ answers_in (notice b kept.session (state b (entries T)) h.v.pages (E e))) (idle_replies h.v kept.awaits idle k.asked) ∙ plain

    pub fits_committed : FitsAt c b Calm (T ++ E e ∷ []) committed (record kept { copies = copies })
    fits_committed = record {
      v = w;
      there = there;
      own = same_client b kept.session (state b (entries T)) (E e) h.v ∙ h.own;
      keeps = λ _ live.
          let before = was_live b kept.session (state b (entries T)) (E e) h.v live in
          let k : KeepsUp b T committed h.v kept = h.keeps refl before in
          let l : Later h.v w = move-later b kept.session (state b (entries T)) (E e) h.v k.step.taken refl in
          record {
            known = k.known ∙ sym l.upto;
            step = step-kept b T (E e) kept.session h.v w h.there there k.step refl (acked k.step k.known);
            asked = subst (λ (ms : List Notice). length ms ≤ one_if kept.awaits) (sym (no_answers live k)) (none_asked kept.awaits);
            copies = λ tells. record {
              current = λ x o here copy. current tells live k (k.copies tells) x o here (sym (become tells x here) ∙ copy);
              own = λ x o d t p here wrote copy. absurd (none_open x d t p wrote);
              pages = news_wait b (entries (T ++ E e ∷ [])) kept.session committed (waiting w) (no_answers live k);
            };
          };
    }
      where
        none_asked : (t : Bool) → 0 ≤ one_if t
        none_asked t = omega arith

-- ---- a request that is prepared, or a decision to abort

module _ (c : ℕ) (b : Base) (T : List Item) (committed : Ts → Bool) (kept : Kept) (e : Entry)
    (sd : sound b (entries (T ++ E e ∷ []))) (none : NoneAborted b (entries (T ++ E e ∷ [])) committed) (h : FitsAt c b Calm T committed kept)
    (commits : commit_of b (state b (entries T)) e ≡ []) (asks : (r : Request) → Asks e r → committed r.tx ≡ false)
    (acked : InStep h.v → kept.upto ≡ upto_of h.v → acked_after kept.session h.v.acked (E e) ≤ upto_of h.v) where
  unsettled : KeepsUp b T committed h.v kept → IsPassive b T kept.session h.v committed (E e)
  unsettled k = record {
    taking = refl;
    acked = acked k.step k.known;
    commits = subst (All (λ c. nat_eq c.1.session kept.session ≡ true → IsFinishing b (entries T) committed c.1)) (sym commits) (All-nil (λ c. nat_eq c.1.session kept.session ≡ true → IsFinishing b (entries T) committed c.1));
    fresh = λ t w is open' own settled new.
        let sd' : sound b (entries T ++ e ∷ []) = subst (sound b) (after_entry b T e) sd in
        elim (came_end b (entries T) e (sound-beginning b (entries T) (e ∷ []) sd') (owed-end b (entries T) e sd') t w (ap (λ (H : List Entry). known_by b H t) (sym (after_entry b T e)) ∙ is)) [
          | inl x ↦ let f : false ≡ true = sym (asks w.request x.1.0) ∙ ap committed x.1.1 ∙ settled in cc
          | inr old ↦ let f : None ≡ Some old.0 = sym new ∙ old.1 in cc
        ];
  }

  pub fits_undecided : FitsAt c b Calm (T ++ E e ∷ []) committed kept
  fits_undecided = record {
    v = move b kept.session (state b (entries T)) (E e) h.v;
    there = behind b T (E e) kept.session h.v h.there refl;
    own = same_client b kept.session (state b (entries T)) (E e) h.v ∙ h.own;
    keeps = λ _ live.
        let k = h.keeps refl (was_live b kept.session (state b (entries T)) (E e) h.v live) in
        keeps_on b T (E e) kept.session h.v committed h.there (unsettled k) sd kept refl live (told_plain kept.session (state b (entries T)) h.v (commit_of b (state b (entries T)) e)) none k;
  }

-- ---- an entry that commits what is known to have committed at its coordinator

pub is_open_so : (f : Fate) → is_open f ≡ true → f ≡ Open
is_open_so Open e = refl
is_open_so (Committed at) e = cc
is_open_so Aborted e = cc

module _ (c : ℕ) (b : Base) (T : List Item) (committed : Ts → Bool) (kept : Kept) (e : Entry)
    (sd : sound b (entries (T ++ E e ∷ []))) (none : NoneAborted b (entries (T ++ E e ∷ [])) committed) (h : FitsAt c b Calm T committed kept)
    (t : Ts) (o : Known) (is : known_by b (entries T) t ≡ Some o) (open' : o.fate ≡ Open) (done : committed t ≡ true)
    (n : ℕ) (commits : commit_of b (state b (entries T)) e ≡ (n, o.request) ∷ []) (asks : (r : Request) → Asks e r → ⊥)
    (acked : InStep h.v → kept.upto ≡ upto_of h.v → acked_after kept.session h.v.acked (E e) ≤ upto_of h.v) where
  finishing : KeepsUp b T committed h.v kept → IsPassive b T kept.session h.v committed (E e)
  finishing k = record {
    taking = refl;
    acked = acked k.step k.known;
    commits = subst (All (λ c. nat_eq c.1.session kept.session ≡ true → IsFinishing b (entries T) committed c.1)) (sym commits)
        (All-cons (λ c. nat_eq c.1.session kept.session ≡ true → IsFinishing b (entries T) committed c.1) (n, o.request) [] (λ mine. record { t = t; o = o; there = is; open' = open'; request = refl; settled = done }) (All-nil (λ c. nat_eq c.1.session kept.session ≡ true → IsFinishing b (entries T) committed c.1)));
    fresh = λ u w is' open'' own settled new.
        let sd' : sound b (entries T ++ e ∷ []) = subst (sound b) (after_entry b T e) sd in
        elim (came_end b (entries T) e (sound-beginning b (entries T) (e ∷ []) sd') (owed-end b (entries T) e sd') u w (ap (λ (H : List Entry). known_by b H u) (sym (after_entry b T e)) ∙ is')) [
          | inl x ↦ asks w.request x.1.0
          | inr old ↦ let f : None ≡ Some old.0 = sym new ∙ old.1 in cc
        ];
  }

  pub fits_finishing : FitsAt c b Calm (T ++ E e ∷ []) committed kept
  fits_finishing = record {
    v = move b kept.session (state b (entries T)) (E e) h.v;
    there = behind b T (E e) kept.session h.v h.there refl;
    own = same_client b kept.session (state b (entries T)) (E e) h.v ∙ h.own;
    keeps = λ _ live.
        let k = h.keeps refl (was_live b kept.session (state b (entries T)) (E e) h.v live) in
        keeps_on b T (E e) kept.session h.v committed h.there (finishing k) sd kept refl live (told_plain kept.session (state b (entries T)) h.v (commit_of b (state b (entries T)) e)) none k;
  }

-- what a request acknowledges isn't more than is known, where it carries what is known
pub request_acks : (s upto acked known : ℕ) (q : Request) → q.upto ≡ upto → upto ≡ known → acked ≤ known → cond (nat_eq q.session s) (max acked q.upto) acked ≤ known
request_acks s upto acked known q e f l = by (nat_eq q.session s)
  where
    by : (t : Bool) → cond t (max acked q.upto) acked ≤ known
    by true = omega arith
    by false = l

-- ---- a transaction of the client's that turns out to have committed

module _ (c : ℕ) (b : Base) (T : List Item) (committed later : Ts → Bool) (kept : Kept) (t : Ts) (o : Known) (h : FitsAt c b Calm T committed kept)
    (there : known_by b (entries T) t ≡ Some o) (open' : o.fate ≡ Open) (mine : o.request.session ≡ kept.session)
    (only : (u : Ts) → later u ≡ true → (committed u ≡ true) ⊎ (u ≡ t)) (done : later t ≡ true) (more : (u : Ts) → committed u ≡ true → later u ≡ true)
    (idle : kept.awaits ≡ false) (settled : NoneToFinish b (entries T) kept.session committed) (pages : WritesOnPages b T kept.session o.request) where
  -- it alone is left to finish
  the_one : (x : Oref) (d : Obj) (u : Ts) (p : Known) → IsOwnWrite b (entries T) kept.session later x d u p → u ≡ t
  the_one x d u p own = elim (only u own.settled) [
    | inl before ↦ let f : false ≡ true = sym (settled u p own.there own.open' own.own) ∙ before in cc
    | inr e ↦ e
  ]

  pub fits_learnt : (copies : Copies) → (b.tells ≡ true → SameCopies b copies (with_writes o.request kept.copies)) → FitsAt c b Calm T later (record kept { copies = copies })
  fits_learnt copies become = record {
    v = h.v;
    there = h.there;
    own = h.own;
    keeps = λ _ live.
        let k : KeepsUp b T committed h.v kept = h.keeps refl live in
        record {
          known = k.known;
          step = k.step;
          asked = k.asked;
          copies = λ tells. record {
            current = λ x d here copy. current (k.copies tells) x d here (sym (become tells x here) ∙ copy);
            own = λ x z d u p here own copy. written_one x z d u p own (sym (become tells x here) ∙ copy);
            pages = news_wait b (entries T) kept.session later (waiting h.v) (idle_replies h.v kept.awaits idle k.asked);
          };
        };
  }
    where
      current : CopiesFit b (entries T) kept.session h.v committed kept.copies → (x : Oref) (d : Obj) → x.repo ≡ b.repo → with_writes o.request kept.copies x ≡ Some d → IsCurrent b (entries T) kept.session h.v later x d × (has h.v.pages x.page ≡ true)
      current f x d here copy = by (get (written o.request) x) refl copy
        where
          by : (g : Option Obj) → get (written o.request) x ≡ g → option_or g (kept.copies x) ≡ Some d → IsCurrent b (entries T) kept.session h.v later x d × (has h.v.pages x.page ≡ true)
          by (Some z) g copy = (inr (t, o, record { there = there; open' = open'; own = mine; wrote = g ∙ copy; settled = done }), some_at (λ v. has v.pages x.page ≡ true) (session b T kept.session) h.v h.there (pages x (ap is_some g)))
          by None g copy = let y = f.current x d here copy in (current-more b (entries T) kept.session h.v committed later x d more y.0, y.1)

      written_one : (x : Oref) (z d : Obj) (u : Ts) (p : Known) → IsOwnWrite b (entries T) kept.session later x d u p → with_writes o.request kept.copies x ≡ Some z → z ≡ d
      written_one x z d u p own copy =
          let e : u ≡ t = the_one x d u p own in
          let f : Some p ≡ Some o = sym own.there ∙ ap (known_by b (entries T)) e ∙ there in
          let g : p ≡ o = cc in
          let w : get (written o.request) x ≡ Some d = ap (λ (r : Known). get (written r.request) x) (sym g) ∙ own.wrote in
          let i : Some d ≡ Some z = sym (ap (λ (r : Option Obj). option_or r (kept.copies x)) w) ∙ copy in
          cc

-- ---- what is told of outcomes

-- Where more is known to have committed, but nothing of the session's own that is undecided here, all fits still.
pub fits_told : (c : ℕ) (b : Base) (T : List Item) (committed later : Ts → Bool) (kept : Kept) → ((u : Ts) → committed u ≡ true → later u ≡ true)
    → ((u : Ts) (o : Known) → known_by b (entries T) u ≡ Some o → o.fate ≡ Open → o.request.session ≡ kept.session → later u ≡ true → committed u ≡ true)
    → FitsAt c b Calm T committed kept → FitsAt c b Calm T later kept
fits_told c b T committed later kept more own h = record {
  v = h.v;
  there = h.there;
  own = h.own;
  keeps = λ _ live.
      let k : KeepsUp b T committed h.v kept = h.keeps refl live in
      record { known = k.known; step = k.step; asked = k.asked; copies = λ tells. copies (k.copies tells) };
}
  where
    back : (x : Oref) (d : Obj) (u : Ts) (o : Known) → IsOwnWrite b (entries T) kept.session later x d u o → IsOwnWrite b (entries T) kept.session committed x d u o
    back x d u o y = record { there = y.there; open' = y.open'; own = y.own; wrote = y.wrote; settled = own u o y.there y.open' y.own y.settled }

    right : (m : Notice) → StaysRight b (entries T) kept.session committed m → StaysRight b (entries T) kept.session later m
    right (Page page k) r = λ x on. ((r x on).0, λ d u o w. (r x on).1 d u o (back x d u o w))
    right (Grant page k) r = tt
    right (Invalid names k) r = tt
    right (Upgrade number k) r = tt

    copies : CopiesFit b (entries T) kept.session h.v committed kept.copies → CopiesFit b (entries T) kept.session h.v later kept.copies
    copies f = record {
      current = λ x o here copy. let y = f.current x o here copy in (current-more b (entries T) kept.session h.v committed later x o more y.0, y.1);
      own = λ x o d u p here w copy. f.own x o d u p here (back x d u p w) copy;
      pages = All-weaker (StaysRight b (entries T) kept.session committed) (StaysRight b (entries T) kept.session later) right (waiting h.v) f.pages;
    }
