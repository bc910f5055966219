-- A plain repository meets the promise of each call.
use Rattle.log_entries.specs.declared.entry.Entry.TheVariants.{Decided, Finished, Prepared}
use Rattle.log_entries.specs.declared.entry.Entry.{Entry}
use Rattle.log_entries.specs.declared.request.Request.{Request}
use Rattle.spec_history.specs.History.{Base, is_undecided, known_by}
use Rattle.session_outbox.specs.declared.answers.Verdict.{Verdict}
use Rattle.session_outbox.specs.declared.answers.Welcome.{Welcome}
use Rattle.session_outbox.specs.declared.message.Message.{Message}
use Rattle.law_client_views.proofs.Judged.{verdict_marks}
use Rattle.law_client_views.specs.Plain as plain
use Rattle.law_client_views.specs.Plain.{Stepped, left_by, message_of, next_stamp, received, received_by, refuse, requested, answer_of_asked}
use Rattle.client_port.specs.Views.{Calm}
use Rattle.client_port.specs.Works.{Answers, AskWork, CommitWork, ConnectWork, DecideWork, Decides, DrawWork, FetchWork, FinishWork, ForgetWork, GrantWork, IsAbout, IsMarked, PrepareWork, ReceiveWork, RequestRefused, alone_entry, commits_by, is_prepared_by}
use Rattle.spec_trace.specs.Notices.{is_unended, lives, notice_of}
use Rattle.spec_trace.specs.Calls.{Asked, Settled, Undecided, asked, drawn_time, last_drawn, next_page, next_session, welcome}
use Rattle.spec_trace.specs.Exact.{IsDrawn, IsEndedIn, IsGoneIn, most_pages}
use Rattle.spec_trace.specs.Session.{Grant, Invalid, Notice, Page, Session, Upgrade, place_of, session, session_ended, session_lives, waiting}
use Rattle.spec_trace.specs.Trace.{E, Item, M, entries}
use Rattle.spec_trace.specs.Verdict.{verdict}
use Rattle.spec_trace.specs.declared.mark.Mark.TheVariants as the
use Rattle.std.proofs.Common.{Bool, List, [], ap, arith, cond, drop, false, length, refl, subst, sym, true, ◌+◌, ◌++◌, ◌<◌, ◌^◌, ◌∙◌, ◌∷◌, ◌≡◌, ◌≤◌, ℕ}
use Rattle.std.proofs.lemmas.Bool.Decides.{nat_tests}
use Rattle.std.specs.List.{slice_get}
use Rattle.std.specs.Option.{IfSome, IsSomeAnd}
use Rattle.std.specs.Prelude.{Err, None, Ok, Option, Some, max, nat_lt, not, suc, zero}
use Rattle.thor_value.specs.declared.names.Ts.{Ts}
use Rattle.base_reasons.specs.declared.reason.Reason.TheVariants as reasons
use Rattle.repo_refusals.specs.declared.refusal.Refusal.TheVariants as refused
use Rattle.repo_refusals.specs.declared.refusal.Refusal.{Refusal}

below : (n m : ℕ) → nat_lt n m ≡ true → n < m
below n m h = grind (arith, nat_tests)

not_below : (n m : ℕ) → nat_lt n m ≡ false → m ≤ n
not_below n m h = grind (arith, nat_tests)

gone : (o : Option Session) → lives o ≡ false → IsGoneIn o
gone None h = tt
gone (Some v) h = h

ended : (o : Option Session) → is_unended o ≡ false → IsEndedIn o
ended None h = tt
ended (Some v) h = by (session_ended v) h
  where
    by : (t : Bool) → not t ≡ false → t ≡ true
    by true e = refl
    by false e = cc

live_and : (o : Option Session) (P : Session → Type 0) → lives o ≡ true → ((v : Session) → P v) → IsSomeAnd o (λ v. (session_lives v ≡ true) × P v)
live_and None P h p = cc
live_and (Some v) P h p = (h, p v)

-- ---- sessions

-- what the call promises of an answer and a trace
abbrev MeetsConnect : Base → List Item → ℕ → Stepped Welcome → Type 0
MeetsConnect b T c p = ConnectWork c p.0 b T p.1 (left_by p.0)

pub connects : (b : Base) (T : List Item) (c : ℕ) → ConnectWork c (plain.connect b T c).0 b T (plain.connect b T c).1 (left_by (plain.connect b T c).0)
connects b T c = by (nat_lt (next_session T) (2 ^ 32))
  where
    by : (t : Bool) → MeetsConnect b T c (cond t (Ok (record { session = (welcome b T).session; epoch = (welcome b T).epoch; threshold = (welcome b T).threshold; place = (welcome b T).place; upgrades = (welcome b T).upgrades }), T ++ M (the.Connected (next_session T) c) ∷ []) (Err refused.NoMemory, T))
    by true = (record { session = refl; epoch = refl; threshold = refl; place = refl; upgrades = refl }, (refl, refl))
    by false = (tt, (refl, refl))

-- what the call promises of an answer and a trace
abbrev MeetsFetch : Base → List Item → ℕ → ℕ → ℕ → Stepped (Unit {0}) → Type 0
MeetsFetch b T s page upto p = FetchWork s page upto p.0 b T p.1 Calm

pub fetches : (b : Base) (T : List Item) (s page upto : ℕ) → FetchWork s page upto (plain.fetch b T s page upto).0 b T (plain.fetch b T s page upto).1 Calm
fetches b T s page upto = by (lives (session b T s)) refl
  where
    by : (t : Bool) → lives (session b T s) ≡ t → MeetsFetch b T s page upto (cond t (Ok tt, T ++ M (the.Fetched s page upto) ∷ []) (Err (refused.Reason (reasons.Gone s)), T))
    by true e = (e, (refl, refl))
    by false e = (refl, gone (session b T s) e, (refl, refl))

-- what the call promises of an answer and a trace
abbrev MeetsGrant : Base → List Item → ℕ → Stepped (Unit {0}) → Type 0
MeetsGrant b T s p = GrantWork s p.0 b T p.1 Calm

pub grants : (b : Base) (T : List Item) (s : ℕ) → GrantWork s (plain.grant b T s).0 b T (plain.grant b T s).1 Calm
grants b T s = by (lives (session b T s)) refl (nat_lt (next_page b T) most_pages) refl
  where
    by : (t : Bool) → lives (session b T s) ≡ t → (u : Bool) → nat_lt (next_page b T) most_pages ≡ u
        → MeetsGrant b T s (cond t (cond u (Ok tt, T ++ M (the.Granted s (next_page b T)) ∷ []) (refuse T s None (refused.Reason (reasons.Full most_pages)))) (refuse T s None (refused.Reason (reasons.Gone s))))
    by true e true f = (e, below (next_page b T) most_pages f, (refl, refl))
    by true e false f = ((refl, live_and (session b T s) (λ v. most_pages ≤ next_page b T) e (λ v. not_below (next_page b T) most_pages f)), (refl, refl))
    by false e u f = ((refl, gone (session b T s) e), (refl, refl))

spelled : (pages : ℕ → ℕ → List ℕ) (texts : ℕ → List ℕ) (m : Notice) → notice_of (message_of pages texts m) ≡ m
spelled pages texts (Page page k) = refl
spelled pages texts (Grant page k) = refl
spelled pages texts (Invalid names k) = refl
spelled pages texts (Upgrade number k) = refl

pub none_left : (n : ℕ) (xs : List Notice) → slice_get xs n ≡ None → drop n xs ≡ []
none_left zero [] h = refl
none_left zero (x ∷ xs) h = cc
none_left (suc n) [] h = refl
none_left (suc n) (x ∷ xs) h = none_left n xs h

pub is_some_and : (o : Option Session) (P : Session → Type 0) (v : Session) → o ≡ Some v → P v → IsSomeAnd o P
is_some_and o P v e p = subst (λ (q : Option Session). IsSomeAnd q P) (sym e) p

-- what the call promises of an answer and a trace
abbrev MeetsReceive : Base → List Item → ℕ → Stepped (Option Message) → Type 0
MeetsReceive b T s p = ReceiveWork s p.0 b T p.1 Calm

pub receives : (pages : ℕ → ℕ → List ℕ) (texts : ℕ → List ℕ) (b : Base) (T : List Item) (s : ℕ) → ReceiveWork s (plain.receive (message_of pages texts) b T s).0 b T (plain.receive (message_of pages texts) b T s).1 Calm
receives pages texts b T s = by (session b T s) refl
  where
    none : (o : Option Session) → session b T s ≡ o → lives o ≡ false → MeetsReceive b T s (Err (refused.Reason (reasons.Gone s)), T)
    none o e h = (refl, gone (session b T s) (ap lives e ∙ h), (refl, refl))

    message : (v : Session) → session b T s ≡ Some v → session_lives v ≡ true → (m : Option Notice) → slice_get v.sent v.taken ≡ m → MeetsReceive b T s (received (message_of pages texts) T s m)
    message v e l None f = (is_some_and (session b T s) (λ w. waiting w ≡ []) v e (none_left v.taken v.sent f), ap lives e ∙ l, (refl, refl))
    message v e l (Some m) f =
        let same : notice_of (message_of pages texts m) ≡ m = spelled pages texts m in
        (is_some_and (session b T s) (λ w. slice_get w.sent w.taken ≡ Some (notice_of (message_of pages texts m))) v e (f ∙ ap (λ (n : Notice). Some n) (sym same)), ap lives e ∙ l, (ap (λ (n : Notice). T ++ M (the.Took s (place_of n)) ∷ []) (sym same), refl))

    by : (o : Option Session) → session b T s ≡ o → MeetsReceive b T s (received_by (message_of pages texts) T s o)
    by None e = none None e refl
    by (Some v) e = at (session_lives v) refl
      where
        at : (t : Bool) → session_lives v ≡ t → MeetsReceive b T s (cond t (received (message_of pages texts) T s (slice_get v.sent v.taken)) (Err (refused.Reason (reasons.Gone s)), T))
        at true l = message v e l (slice_get v.sent v.taken) refl
        at false l = none (Some v) e l

-- ---- transactions

above_floor : (now last floor : ℕ) → floor < max now (max (last + 1) (floor + 1))
above_floor now last floor = omega arith

-- what the call promises of an answer and a trace
abbrev MeetsDraw : Base → List Item → ℕ → ℕ → Stepped Ts → Type 0
MeetsDraw b T s floor p = DrawWork s floor p.0 b T p.1 Calm

pub draws : (b : Base) (T : List Item) (s now floor : ℕ) → DrawWork s floor (plain.draw b T s now floor).0 b T (plain.draw b T s now floor).1 Calm
draws b T s now floor = by (lives (session b T s)) refl (nat_lt (next_stamp b T now floor).time (2 ^ 62)) refl
  where
    drawn : nat_lt (next_stamp b T now floor).time (2 ^ 62) ≡ true → IsDrawn b T (next_stamp b T now floor)
    drawn f = record { time = (now, floor, refl); below = below (next_stamp b T now floor).time (2 ^ 62) f; repo = refl; life = refl }

    by : (t : Bool) → lives (session b T s) ≡ t → (u : Bool) → nat_lt (next_stamp b T now floor).time (2 ^ 62) ≡ u
        → MeetsDraw b T s floor (cond t (cond u (Ok (next_stamp b T now floor), T ++ M (the.Drew s (next_stamp b T now floor)) ∷ []) (refuse T s None (refused.Reason reasons.ClockEnd))) (refuse T s None (refused.Reason (reasons.Gone s))))
    by true e true f = (e, drawn f, above_floor now (last_drawn b T) floor, (refl, refl))
    by true e false f = (live_and (session b T s) (λ v. (n : ℕ) × (m : ℕ) × (2 ^ 62 ≤ drawn_time n (last_drawn b T) m)) e (λ v. (now, floor, not_below (next_stamp b T now floor).time (2 ^ 62) f)), (refl, refl))
    by false e u f = ((refl, gone (session b T s) e), (refl, refl))

-- a refused request
refused_so : (b : Base) (T : List Item) (s : ℕ) (q : Request) (e : Entry) (r : Refusal) → q.session ≡ s → verdict b T s q ≡ Some r → IsMarked r → RequestRefused e b T s q r (T ++ M (the.Refused s (Some q) r) ∷ []) Calm
refused_so b T s q e (refused.Reason r) h v m = ((h, v), (refl, refl))
refused_so b T s q e (refused.Down n) h v m = absurd m
refused_so b T s q e (refused.Stopped n) h v m = absurd m
refused_so b T s q e (refused.Damaged n k) h v m = absurd m
refused_so b T s q e refused.NoMemory h v m = absurd m

-- what the call promises of an answer and a trace
abbrev MeetsPrepare : Base → List Item → ℕ → Request → Stepped ℕ → Type 0
MeetsPrepare b T s q p = PrepareWork s q p.0 b T p.1 Calm

pub prepares : (b : Base) (T : List Item) (s : ℕ) (q : Request) → q.session ≡ s → PrepareWork s q (plain.prepare b T s q).0 b T (plain.prepare b T s q).1 Calm
prepares b T s q h = by (verdict b T s q) refl (verdict_marks b T s q)
  where
    by : (r : Option Refusal) → verdict b T s q ≡ r → IfSome r (λ k. IsMarked k) → MeetsPrepare b T s q (requested T s q (Prepared q) r)
    by None e m = (e, refl, (refl, refl))
    by (Some r) e m = refused_so b T s q (Prepared q) r h e m

-- what the call promises of an answer and a trace
abbrev MeetsCommit : Base → List Item → ℕ → Request → Stepped ℕ → Type 0
MeetsCommit b T s q p = CommitWork s q p.0 b T p.1 Calm

pub commits : (b : Base) (T : List Item) (s : ℕ) (q : Request) → q.session ≡ s → CommitWork s q (plain.commit_one b T s q).0 b T (plain.commit_one b T s q).1 Calm
commits b T s q h = by (verdict b T s q) refl (verdict_marks b T s q)
  where
    by : (r : Option Refusal) → verdict b T s q ≡ r → IfSome r (λ k. IsMarked k) → MeetsCommit b T s q (requested T s q (alone_entry q) r)
    by None e m = (e, refl, (refl, refl))
    by (Some r) e m = refused_so b T s q (alone_entry q) r h e m

-- what the call promises of an answer and a trace
abbrev MeetsDecide : Base → List Item → ℕ → Ts → Bool → Stepped Verdict → Type 0
MeetsDecide b T s t c p = DecideWork s t c p.0 b T p.1 Calm

pub decides : (b : Base) (T : List Item) (s : ℕ) (t : Ts) (c : Bool) → DecideWork s t c (plain.decide b T s t c).0 b T (plain.decide b T s t c).1 Calm
decides b T s t c = by (is_unended (session b T s)) refl (is_prepared_by s (known_by b (entries T) t)) refl
  where
    decided : Decides true t c (record { tx = t; commit = c }) b T (T ++ E (Decided t c) ∷ []) Calm
    decided = (refl, (refl, refl))

    as_is : Decides false t c (record { tx = t; commit = commits_by b T t }) b T T Calm
    as_is = (λ later. refl, (refl, refl))

    by : (l : Bool) → is_unended (session b T s) ≡ l → (u : Bool) → is_prepared_by s (known_by b (entries T) t) ≡ u
        → MeetsDecide b T s t c (cond l (cond u (Ok (record { tx = t; commit = c }), T ++ E (Decided t c) ∷ []) (Ok (record { tx = t; commit = commits_by b T t }), T)) (Err (refused.Reason (reasons.Gone s)), T))
    by true e true f = (e, refl, subst (λ (u : Bool). Decides u t c (record { tx = t; commit = c }) b T (T ++ E (Decided t c) ∷ []) Calm) (sym f) decided)
    by true e false f = (e, refl, subst (λ (u : Bool). Decides u t c (record { tx = t; commit = commits_by b T t }) b T T Calm) (sym f) as_is)
    by false e u f = (refl, ended (session b T s) e, (refl, refl))

-- what the call promises of an answer and a trace
abbrev MeetsFinish : Base → List Item → Ts → Bool → Stepped (Option ℕ) → Type 0
MeetsFinish b T t c p = FinishWork t c p.0 b T p.1 Calm

pub finishes : (b : Base) (T : List Item) (t : Ts) (c : Bool) → FinishWork t c (plain.finish b T t c).0 b T (plain.finish b T t c).1 Calm
finishes b T t c = by (is_undecided (known_by b (entries T) t)) refl
  where
    by : (u : Bool) → is_undecided (known_by b (entries T) t) ≡ u → MeetsFinish b T t c (cond u (Ok (Some (length (entries T))), T ++ E (Finished t c) ∷ []) (Ok None, T))
    by true e = (e, refl, (refl, refl))
    by false e = (e, (refl, refl))

pub forgets : (b : Base) (T : List Item) (t : Ts) → ForgetWork t (plain.forget T t).0 b T (plain.forget T t).1 Calm
forgets b T t = (refl, refl)

pub asks : (b : Base) (T : List Item) (t : Ts) → AskWork t (plain.ask b T t).0 b T (plain.ask b T t).1 Calm
asks b T t = ((about (asked b T t), λ later. by (asked b T t)), (refl, refl))
  where
    about : (a : Asked) → IsAbout t (answer_of_asked t a)
    about Undecided = tt
    about (Settled c) = refl

    by : (a : Asked) → Answers (answer_of_asked t a) a
    by Undecided = refl
    by (Settled c) = refl
