-- Each call of a plain repository does its work.
use Rattle.log_entries.specs.declared.entry.Entry.TheVariants.{Decided, Finished, Prepared}
use Rattle.log_entries.specs.declared.entry.Entry.{Entry}
use Rattle.log_entries.specs.declared.request.Request.{Request}
use Rattle.spec_history.specs.History.{Base, is_undecided, known_by}
use Rattle.session_outbox.specs.declared.answers.Asked as answer
use Rattle.session_outbox.specs.declared.answers.Verdict.{Verdict}
use Rattle.session_outbox.specs.declared.answers.Welcome.{Welcome}
use Rattle.session_outbox.specs.declared.message.Message.{Message}
use Rattle.model_repository.proofs.Taking.{put_works, taken_works}
use Rattle.model_repository.specs.Reading.{IsAnswer, IsOkStep, IsStep}
use Rattle.model_repository.specs.Sites.{IsPut, IsTaken, trace_in, unsettled_of}
use Rattle.model_reading.specs.declared.item.Item as item
use Rattle.model_repository.specs.declared.site.Site.{Site}
use Rattle.client_port.specs.Views.{Calm, MayCome, Unsettled}
use Rattle.client_port.specs.Works.{AskWork, CommitWork, ConnectWork, DecideWork, DrawWork, FetchWork, FinishWork, ForgetWork, GrantWork, MayHaveLeft, PrepareWork, ReceiveWork, alone_entry, commits_by, is_prepared_by}
use Rattle.law_client_views.proofs.Meeting as meets
use Rattle.law_client_views.proofs.Stopping as stopping
use Rattle.law_client_views.specs.Plain as plain
use Rattle.law_client_views.specs.Plain.{left_by, message_of, requested}
use Rattle.spec_trace.specs.Notices.{is_unended}
use Rattle.spec_trace.specs.Session.{session}
use Rattle.spec_trace.specs.Trace.{E, Item, M, entries}
use Rattle.spec_trace.specs.Verdict.{verdict}
use Rattle.spec_trace.specs.declared.mark.Mark.TheVariants as the
use Rattle.spec_trace.specs.declared.mark.Mark.{Mark}
use Rattle.std.proofs.Common.{Bool, List, [], ap, cond, false, length, refl, subst, sym, true, ◌++◌, ◌∷◌, ◌≡◌, ℕ}
use Rattle.std.specs.Prelude.{Err, IfOk, None, Ok, Option, Result, Some}
use Rattle.thor_value.specs.declared.memory.NoMemory.{NoMemory}
use Rattle.thor_value.specs.declared.names.Ts.{Ts}
use Rattle.base_reasons.specs.declared.reason.Reason.TheVariants as reasons
use Rattle.repo_refusals.specs.declared.refusal.Refusal.TheVariants as refused
use Rattle.repo_refusals.specs.declared.refusal.Refusal.{Refusal}

-- ---- what came last

same_last : (T : List Item) (x y : Item) → T ++ x ∷ [] ≡ T ++ y ∷ [] → x ≡ y
same_last [] x y e = cc
same_last (t ∷ ts) x y e = let tail : ts ++ x ∷ [] ≡ ts ++ y ∷ [] = cc in same_last ts x y tail

not_longer : (T : List Item) (x : Item) → T ++ x ∷ [] ≡ T → ⊥
not_longer [] x e = cc
not_longer (t ∷ ts) x e = let tail : ts ++ x ∷ [] ≡ ts = cc in not_longer ts x tail

no_mark : (T : List Item) (e : Entry) (m : Mark) → T ++ E e ∷ [] ≡ T ++ M m ∷ [] → ⊥
no_mark T e m h = let same : E e ≡ M m = same_last T (E e) (M m) h in cc

same_entry : (T : List Item) (e d : Entry) → T ++ E e ∷ [] ≡ T ++ E d ∷ [] → e ≡ d
same_entry T e d h = let same : E e ≡ E d = same_last T (E e) (E d) h in cc

-- an entry that stopped may come
may_come : (e d : Entry) (valid : Type 0) → e ≡ d → valid → MayHaveLeft d valid (MayCome e)
may_come e d valid same v = (same, v)

module _ (b : Base) (c r : ℕ) (old new : Site) where
  abbrev T : List Item
  T = trace_in old

  abbrev U : Unsettled
  U = unsettled_of c new.left

  -- ---- calls that write no entry

  calm : (x y : Result Welcome Refusal) → x ≡ y → IsAnswer x → left_by y ≡ Calm
  calm (Ok w) y e a = ap left_by (sym e)
  calm (Err k) y e a = absurd a

  pub connects : (plan : Result (Result Welcome Refusal × Option item.Item) NoMemory) (client : ℕ) (result : Result Welcome Refusal) → IsPut plan c old new result → IfOk plan (λ step. IsOkStep old.items.items step (plain.connect b T client))
      → ConnectWork client result b T (trace_in new) U
  connects (Ok step) client result p h =
      put_works (λ x S u. ConnectWork client x b T S u) (Ok step) c r old new result (plain.connect b T client) h.step_is p
      (λ _ _. subst (λ (u : Unsettled). ConnectWork client (plain.connect b T client).0 b T (plain.connect b T client).1 u) (calm step.0 (plain.connect b T client).0 h.step_is.answer h.ok) (meets.connects b T client)) (tt, (refl, refl))
  connects (Err e) client result p h = put_works (λ x S u. ConnectWork client x b T S u) (Err e) c r old new result (plain.connect b T client) tt p (λ step is. cc) (tt, (refl, refl))

  pub fetches : (plan : Result (Result (Unit {0}) Refusal × Option item.Item) NoMemory) (s page upto : ℕ) (result : Result (Unit {0}) Refusal) → IsPut plan c old new result → IfOk plan (λ step. IsStep old.items.items step (plain.fetch b T s page upto))
      → FetchWork s page upto result b T (trace_in new) U
  fetches plan s page upto result p h = put_works (λ x S u. FetchWork s page upto x b T S u) plan c r old new result (plain.fetch b T s page upto) h p (λ _ _. meets.fetches b T s page upto) (stopping.unmarked b T s refused.NoMemory tt)

  pub grants : (plan : Result (Result (Unit {0}) Refusal × Option item.Item) NoMemory) (s : ℕ) (result : Result (Unit {0}) Refusal) → IsPut plan c old new result → IfOk plan (λ step. IsStep old.items.items step (plain.grant b T s))
      → GrantWork s result b T (trace_in new) U
  grants plan s result p h = put_works (λ x S u. GrantWork s x b T S u) plan c r old new result (plain.grant b T s) h p (λ _ _. meets.grants b T s) (refl, refl)

  pub receives : (plan : Result (Result (Option Message) Refusal × Option item.Item) NoMemory) (pages : ℕ → ℕ → List ℕ) (texts : ℕ → List ℕ) (s : ℕ) (result : Result (Option Message) Refusal) → IsPut plan c old new result → IfOk plan (λ step. IsStep old.items.items step (plain.receive (message_of pages texts) b T s))
      → ReceiveWork s result b T (trace_in new) U
  receives plan pages texts s result p h = put_works (λ x S u. ReceiveWork s x b T S u) plan c r old new result (plain.receive (message_of pages texts) b T s) h p (λ _ _. meets.receives pages texts b T s) (stopping.unmarked b T s refused.NoMemory tt)

  pub draws : (plan : Result (Result Ts Refusal × Option item.Item) NoMemory) (s floor : ℕ) (result : Result Ts Refusal) → IsPut plan c old new result → IfOk plan (λ step. (now : ℕ) × IsStep old.items.items step (plain.draw b T s now floor))
      → DrawWork s floor result b T (trace_in new) U
  draws (Ok step) s floor result p h = put_works (λ x S u. DrawWork s floor x b T S u) (Ok step) c r old new result (plain.draw b T s h.0 floor) h.1 p (λ _ _. meets.draws b T s h.0 floor) (refl, refl)
  draws (Err e) s floor result p h = put_works (λ x S u. DrawWork s floor x b T S u) (Err e) c r old new result (plain.draw b T s 0 floor) tt p (λ _ _. meets.draws b T s 0 floor) (refl, refl)

  pub forgets : (plan : Result (Result (Unit {0}) Refusal × Option item.Item) NoMemory) (t : Ts) (result : Result (Unit {0}) Refusal) → IsPut plan c old new result → IfOk plan (λ step. IsStep old.items.items step (plain.forget T t))
      → ForgetWork t result b T (trace_in new) U
  forgets plan t result p h = put_works (λ x S u. ForgetWork t x b T S u) plan c r old new result (plain.forget T t) h p (λ _ _. meets.forgets b T t) (tt, (refl, refl))

  pub asks : (plan : Result (Result answer.Asked Refusal × Option item.Item) NoMemory) (t : Ts) (result : Result answer.Asked Refusal) → IsPut plan c old new result → IfOk plan (λ step. IsStep old.items.items step (plain.ask b T t))
      → AskWork t result b T (trace_in new) U
  asks plan t result p h = put_works (λ x S u. AskWork t x b T S u) plan c r old new result (plain.ask b T t) h p (λ _ _. meets.asks b T t) (tt, (refl, refl))

  -- ---- calls that may write one

  -- a request whose entry was being written was accepted
  requested_so : (s : ℕ) (q : Request) (e d : Entry) (o : Option Refusal) → T ++ E e ∷ [] ≡ (requested T s q d o).1 → (e ≡ d) × (o ≡ None)
  requested_so s q e d None h = (same_entry T e d h, refl)
  requested_so s q e d (Some k) h = absurd (no_mark T e (the.Refused s (Some q) k) h)

  pub prepares : (plan : Result (Result ℕ Refusal × Option item.Item) NoMemory) (s : ℕ) (q : Request) (result : Result ℕ Refusal) → q.session ≡ s → IsTaken plan c r old new result → IfOk plan (λ step. IsStep old.items.items step (plain.prepare b T s q))
      → PrepareWork s q result b T (trace_in new) U
  prepares plan s q result own p h =
      taken_works (λ x S u. PrepareWork s q x b T S u) plan c r old new result (plain.prepare b T s q) h p (λ _ _. meets.prepares b T s q own) (refl, tt)
      (λ e come. let k = requested_so s q e (Prepared q) (verdict b T s q) come in (refl, may_come e (Prepared q) (verdict b T s q ≡ None) k.0 k.1))

  pub commits : (plan : Result (Result ℕ Refusal × Option item.Item) NoMemory) (s : ℕ) (q : Request) (result : Result ℕ Refusal) → q.session ≡ s → IsTaken plan c r old new result → IfOk plan (λ step. IsStep old.items.items step (plain.commit_one b T s q))
      → CommitWork s q result b T (trace_in new) U
  commits plan s q result own p h =
      taken_works (λ x S u. CommitWork s q x b T S u) plan c r old new result (plain.commit_one b T s q) h p (λ _ _. meets.commits b T s q own) (refl, tt)
      (λ e come. let k = requested_so s q e (alone_entry q) (verdict b T s q) come in (refl, may_come e (alone_entry q) (verdict b T s q ≡ None) k.0 k.1))

  decided_so : (s : ℕ) (t : Ts) (k : Bool) (e : Entry) (l u : Bool) → T ++ E e ∷ [] ≡ (cond {A = plain.Stepped Verdict} l (cond u (Ok (record { tx = t; commit = k }), T ++ E (Decided t k) ∷ []) (Ok (record { tx = t; commit = commits_by b T t }), T)) (Err (refused.Reason (reasons.Gone s)), T)).1 → (e ≡ Decided t k) × (u ≡ true)
  decided_so s t k e true true h = (same_entry T e (Decided t k) h, refl)
  decided_so s t k e true false h = absurd (not_longer T (E e) h)
  decided_so s t k e false u h = absurd (not_longer T (E e) h)

  pub decides : (plan : Result (Result Verdict Refusal × Option item.Item) NoMemory) (s : ℕ) (t : Ts) (k : Bool) (result : Result Verdict Refusal) → IsTaken plan c r old new result → IfOk plan (λ step. IsStep old.items.items step (plain.decide b T s t k))
      → DecideWork s t k result b T (trace_in new) U
  decides plan s t k result p h =
      taken_works (λ x S u. DecideWork s t k x b T S u) plan c r old new result (plain.decide b T s t k) h p (λ _ _. meets.decides b T s t k) (refl, tt)
      (λ e come. let z = decided_so s t k e (is_unended (session b T s)) (is_prepared_by s (known_by b (entries T) t)) come in (refl, may_come e (Decided t k) (is_prepared_by s (known_by b (entries T) t) ≡ true) z.0 z.1))

  finished_so : (t : Ts) (k : Bool) (e : Entry) (u : Bool) → T ++ E e ∷ [] ≡ (cond {A = plain.Stepped (Option ℕ)} u (Ok (Some (length (entries T))), T ++ E (Finished t k) ∷ []) (Ok None, T)).1 → (e ≡ Finished t k) × (u ≡ true)
  finished_so t k e true h = (same_entry T e (Finished t k) h, refl)
  finished_so t k e false h = absurd (not_longer T (E e) h)

  pub finishes : (plan : Result (Result (Option ℕ) Refusal × Option item.Item) NoMemory) (t : Ts) (k : Bool) (result : Result (Option ℕ) Refusal) → IsTaken plan c r old new result → IfOk plan (λ step. IsStep old.items.items step (plain.finish b T t k))
      → FinishWork t k result b T (trace_in new) U
  finishes plan t k result p h =
      taken_works (λ x S u. FinishWork t k x b T S u) plan c r old new result (plain.finish b T t k) h p (λ _ _. meets.finishes b T t k) (refl, tt)
      (λ e come. let z = finished_so t k e (is_undecided (known_by b (entries T) t)) come in (refl, may_come e (Finished t k) (is_undecided (known_by b (entries T) t) ≡ true) z.0 z.1))
