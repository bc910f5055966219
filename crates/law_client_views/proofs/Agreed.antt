-- What is kept of the sessions, where it says what the trace says, answers as a port promises.
use Rattle.repo_sessions.specs.Sessions.{Kept, is_live}
use Rattle.spec_history.specs.History.{Base, epoch_of, state}
use Rattle.session_outbox.specs.Messages.{first}
use Rattle.session_outbox.specs.Outbox as outbox
use Rattle.session_outbox.specs.declared.answers.Welcome.{Welcome}
use Rattle.session_outbox.specs.declared.message.Message.{Message}
use Rattle.law_client_views.proofs.Meeting.{is_some_and, none_left}
use Rattle.client_port.specs.Views.{Calm}
use Rattle.client_port.specs.Works.{ConnectWork, FetchWork, GrantWork, ReceiveWork, RefusedUnmarked, behind_taken}
use Rattle.law_repo_sessions.proofs.Answering.{live_answer, next_message, same_place}
use Rattle.law_repo_sessions.proofs.Marked.{live_session}
use Rattle.law_repo_sessions.specs.Agreeing.{SessionsAgree}
use Rattle.spec_trace.specs.Notices.{lives, notice_of}
use Rattle.spec_trace.specs.Calls.{next_page}
use Rattle.spec_trace.specs.Exact.{IsGoneIn, most_pages}
use Rattle.spec_trace.specs.Session.{Session, session, session_lives, waiting}
use Rattle.spec_trace.specs.Trace.{Item, M, entries}
use Rattle.spec_trace.specs.declared.mark.Mark.TheVariants as the
use Rattle.std.proofs.Common.{List, [], ap, false, length, refl, sym, true, ◌+◌, ◌++◌, ◌<◌, ◌∙◌, ◌∷◌, ◌≡◌, ℕ}
use Rattle.std.specs.List.{slice_get}
use Rattle.std.specs.Option.{option_map}
use Rattle.std.specs.Prelude.{None, Ok, Option, Some}
use Rattle.repo_refusals.specs.Window.{window}
use Rattle.base_reasons.specs.declared.reason.Reason.TheVariants as reasons
use Rattle.repo_refusals.specs.declared.refusal.Refusal.TheVariants as refused

pub connects : (b : Base) (T : List Item) (K : Kept) (c : ℕ) (w : Welcome) → SessionsAgree b T K → w.session ≡ K.last + 1 → w.epoch ≡ epoch_of (state b (entries T)) → w.threshold ≡ (window b (entries T)).threshold → w.place ≡ length (entries T) → w.upgrades ≡ (state b (entries T)).texts
    → ConnectWork c (Ok w) b T (T ++ M (the.Connected w.session c) ∷ []) Calm
connects b T K c w a s e t p u = (record { session = s ∙ ap (λ (n : ℕ). n + 1) a.last; epoch = e; threshold = t; place = p; upgrades = u }, (refl, refl))

there : (b : Base) (T : List Item) (K : Kept) (s : ℕ) → SessionsAgree b T K → is_live K s ≡ true → lives (session b T s) ≡ true
there b T K s a h = sym (live_answer b T K s a) ∙ h

pub fetches : (b : Base) (T : List Item) (K : Kept) (s page upto : ℕ) → SessionsAgree b T K → is_live K s ≡ true → FetchWork s page upto (Ok tt) b T (T ++ M (the.Fetched s page upto) ∷ []) Calm
fetches b T K s page upto a h = (there b T K s a h, (refl, refl))

pub grants : (b : Base) (T : List Item) (K : Kept) (s : ℕ) → SessionsAgree b T K → is_live K s ≡ true → next_page b T < most_pages → GrantWork s (Ok tt) b T (T ++ M (the.Granted s (next_page b T)) ∷ []) Calm
grants b T K s a h l = (there b T K s a h, l, (refl, refl))

pub is_gone : (b : Base) (T : List Item) (K : Kept) (s : ℕ) → SessionsAgree b T K → is_live K s ≡ false → RefusedUnmarked b T s (refused.Reason (reasons.Gone s)) T Calm
is_gone b T K s a h = (refl, gone (session b T s) (sym (live_answer b T K s a) ∙ h), (refl, refl))
  where
    gone : (o : Option Session) → lives o ≡ false → IsGoneIn o
    gone None e = tt
    gone (Some v) e = e

pub receives : (b : Base) (T : List Item) (K : Kept) (s : ℕ) (m : Option Message) → SessionsAgree b T K → is_live K s ≡ true → first (outbox.waiting K.waiting s) ≡ m → ReceiveWork s (Ok m) b T (behind_taken T s m) Calm
receives b T K s m a h f = by m f (live_session b (entries T) K s (session b T s) (a.each s) h)
  where
    by : (m : Option Message) → first (outbox.waiting K.waiting s) ≡ m → (v : Session) × (session b T s ≡ Some v) × (session_lives v ≡ true) → ReceiveWork s (Ok m) b T (behind_taken T s m) Calm
    by None f x =
        let next : slice_get x.0.sent x.0.taken ≡ None = sym (next_message b T K s x.0 a x.1 x.2) ∙ ap (option_map notice_of) f in
        (is_some_and (session b T s) (λ v. waiting v ≡ []) x.0 x.1 (none_left x.0.taken x.0.sent next), there b T K s a h, (refl, refl))
    by (Some m) f x =
        let next : slice_get x.0.sent x.0.taken ≡ Some (notice_of m) = sym (next_message b T K s x.0 a x.1 x.2) ∙ ap (option_map notice_of) f in
        (is_some_and (session b T s) (λ v. slice_get v.sent v.taken ≡ Some (notice_of m)) x.0 x.1 next, there b T K s a h, (ap (λ (k : ℕ). T ++ M (the.Took s k) ∷ []) (sym (same_place m)), refl))
