-- A client each of whose transactions commits at one repository fits all that it has seen behind each of its steps, and at the end of
-- each run.
use Rattle.law_atomic_commit.specs.Several.{committed, is_committed_part}
use Rattle.client_cache.specs.Copies.{kept, seen}
use Rattle.law_cache_coherence.proofs.Beginning.{doomed_uncommitted}
use Rattle.law_cache_coherence.proofs.Lending.{Front}
use Rattle.law_cache_coherence.proofs.OwnVerdicts.{others_told}
use Rattle.law_cache_coherence.proofs.Quiet.{grown_back, undecided}
use Rattle.law_cache_coherence.proofs.Stepping.{opened_stays, waiting_fits}
use Rattle.law_cache_coherence.proofs.Telling.{agrees}
use Rattle.law_cache_coherence.proofs.Uncommitted.{grown_on}
use Rattle.law_cache_coherence.proofs.UncommittedCalls.{acted}
use Rattle.law_cache_coherence.proofs.Whole.{ask_all}
use Rattle.law_cache_coherence.specs.Doomed.{IsDoomed, concerns, entry_asked}
use Rattle.law_cache_coherence.specs.Steps.{AllSeenRight, LinksFit}
use Rattle.law_cache_coherence.specs.Verdicts.{OutcomesTold}
use Rattle.client_state.specs.Calling.{is_session_of}
use Rattle.client_state.specs.Moving.{Aborted, Asked, AskedInVain, AskedOwn, CommitRefused, Committed, Connected, Decided, DecideRefused, Drawn, EndsSo, Fetched, Finished, Forgot, Granted, InSession, Moves, PrepareRefused, Prepared, ReceiveRefused, ReceiveStopped, Received, ReceivedNone, Rested, SendsNothing, Settled, Transformed, Unsent}
use Rattle.client_state.specs.Pending.{NonePending, Pending, PendsSo, RefusesToDecide}
use Rattle.client_state.specs.declared.held.Held.{Held}
use Rattle.client_state.specs.declared.link.Link.TheVariants as links
use Rattle.client_state.specs.declared.link.Link.{Link}
use Rattle.client_state.specs.declared.requests.Sending.{Sending}
use Rattle.log_entries.specs.declared.entry.Entry.TheVariants as entry
use Rattle.log_entries.specs.declared.entry.Entry.{Entry}
use Rattle.log_entries.specs.declared.request.Request.{Request}
use Rattle.law_client_steps.proofs.Alone.{still_committed}
use Rattle.law_client_steps.proofs.Asked.{NonePrepared, step_stops, stopped_links, waits_stops}
use Rattle.law_client_steps.proofs.Calls.{asks, step_fits, then_client, then_less}
use Rattle.law_client_steps.proofs.Changes.{HasSession, has_session}
use Rattle.law_client_steps.proofs.Losing.{WasIts, seen_grows}
use Rattle.law_client_steps.proofs.OneStep.{commit_front}
use Rattle.law_client_steps.proofs.Paging.{accepted_lives}
use Rattle.law_client_steps.proofs.Quieting.{from_quiet, settles, stay_quiet, waits_quiet}
use Rattle.law_client_steps.proofs.Running.{new_client}
use Rattle.law_client_steps.proofs.Pended.{asked_stops, none_prepares}
use Rattle.law_client_steps.specs.Acting.{acts_of}
use Rattle.law_client_steps.specs.OneRepository.{BringsWhatStood}
use Rattle.law_client_steps.specs.Owed.{ClientFits, MessageOwed, Owed, SendsOwed, SettledOwed, verdict_of}
use Rattle.law_client_steps.specs.Positions.{Position, Stepped, TurnBy, Waited}
use Rattle.law_client_steps.specs.Quiet.{AreQuiet}
use Rattle.law_client_steps.specs.SingleParts.{FitsAll, HasRepositories, LeadsSingly, PartOwed}
use Rattle.law_client_steps.specs.Undecided.{HasStoppedIn, StopsAlone}
use Rattle.spec_history.proofs.Growth.{sound-beginning}
use Rattle.spec_history.proofs.Listed.{recorded}
use Rattle.spec_history.specs.History.{Known, Open, known_by}
use Rattle.spec_history.specs.Requests.{is_upgrade}
use Rattle.spec_history.specs.Sound.{sound}
use Rattle.session_outbox.specs.declared.answers.Asked as answer
use Rattle.session_outbox.specs.declared.answers.Asked.TheVariants as answers
use Rattle.session_outbox.specs.declared.answers.At.{At}
use Rattle.session_outbox.specs.declared.answers.Verdict.{Verdict}
use Rattle.session_outbox.specs.declared.message.Message.TheVariants.{Grant, Invalid, Page, Upgrade}
use Rattle.session_outbox.specs.declared.message.Message.{Message}
use Rattle.client_port.specs.Growing.{Grew}
use Rattle.client_port.specs.Views as views
use Rattle.client_port.specs.Views.{Calm, Halted, MayCome, Opened, View}
use Rattle.client_port.specs.Works.{Answered, AskWork, CommitWork, Does, alone_entry}
use Rattle.law_client_views.specs.Conditions.{seen_histories}
use Rattle.spec_trace.proofs.Exactness.{exact-beginning}
use Rattle.spec_trace.proofs.Traces.{entries-append}
use Rattle.spec_trace.specs.Exact.{exact}
use Rattle.spec_trace.specs.Notices.{lives}
use Rattle.spec_trace.specs.Session.{Session, session}
use Rattle.spec_trace.specs.Trace.{entries}
use Rattle.spec_trace.specs.Verdict.{verdict_by}
use Rattle.std.proofs.Common.{Bool, List, [], ap, arith, cond, false, inl, inr, refl, subst, suc, sym, true, zero, ◌++◌, ◌∙◌, ◌∷◌, ◌≡◌, ℕ}
use Rattle.std.proofs.lemmas.Bool.Decides.{nat_tests}
use Rattle.std.proofs.lemmas.Option.{same_Some}
use Rattle.std.specs.List.{slice_get}
use Rattle.std.specs.Prelude.{None, Ok, Option, Some, nat_eq, ◌<◌, ◌≤◌, ◌⊎◌}
use Rattle.thor_value.specs.declared.names.Oref.{Oref}
use Rattle.thor_value.specs.declared.names.Ts.{Ts}

within_or_not : (n m : ℕ) → (n < m) ⊎ (m ≤ n)
within_or_not n zero = inr (omega arith)
within_or_not zero (suc m) = inl (omega arith)
within_or_not (suc n) (suc m) = elim (within_or_not n m) [
  | inl l ↦ inl (omega arith)
  | inr l ↦ inr (omega arith)
]

same_number : (n : ℕ) → nat_eq n n ≡ true
same_number n = grind (arith, nat_tests)

-- ---- a port

all_right : (port : View) → HasRepositories port → AllSeenRight port (committed (seen_histories port))
all_right port h = record {
  each = λ r within. record {
    numbered = h.numbered r within;
    owed = h.right.owed r;
    kept = h.right.kept r;
    agrees = λ s. let a = agrees (seen_histories port) h.right.together.atomic r s in record { kept = a.kept; led = λ calm on. a.led };
  };
}

-- the coordinator of what is known is there
coordinated : (port : View) → HasRepositories port → (r : ℕ) → r < port.opened.repos → (t : Ts) (o : Known) → known_by (port.opened.base r) (entries (port.seen r)) t ≡ Some o → t.repo < port.opened.repos
coordinated port h r within t o there =
    let k = recorded (port.opened.base r) (entries (port.seen r)) (h.right.owed r) t o there in
    up t.repo r port.opened.repos (subst (λ (n : ℕ). t.repo ≤ n) (h.numbered r within) (subst (λ (u : Ts). u.repo ≤ (port.opened.base r).repo) k.named k.judged.vouched.participants.least.0)) within
  where
    up : (n m k : ℕ) → n ≤ m → m < k → n < k
    up n m k l p = omega arith

-- nothing has committed outside
none_outside : (port : View) → HasRepositories port → (t : Ts) → port.opened.repos ≤ t.repo → committed (seen_histories port) t ≡ true → ⊥
none_outside port h t low e = let f : false ≡ true = sym (ap (λ (H : List Entry). is_committed_part (known_by (port.opened.base t.repo) H t)) (h.outside t.repo low)) ∙ e in cc

-- ---- from one view to the next

module _ (old new : View) (same : new.opened ≡ old.opened) (one : HasRepositories old) (then_one : HasRepositories new) (grows : (r : ℕ) → r < old.opened.repos → Front (old.seen r) (new.seen r)) where
  abbrev before_it : Ts → Bool
  before_it = committed (seen_histories old)

  abbrev later : Ts → Bool
  later = committed (seen_histories new)

  sound_now : (r : ℕ) → sound (old.opened.base r) (entries (new.seen r))
  sound_now r = subst (λ (o : Opened). sound (o.base r) (entries (new.seen r))) same (then_one.right.owed r)

  more : (t : Ts) → before_it t ≡ true → later t ≡ true
  more t e = elim (within_or_not t.repo old.opened.repos) [
    | inl within ↦
        let g : Front (old.seen t.repo) (new.seen t.repo) = grows t.repo within in
        let split : entries (new.seen t.repo) ≡ entries (old.seen t.repo) ++ entries g.0 = ap entries g.1 ∙ entries-append (old.seen t.repo) g.0 in
        subst (λ (o : Opened). is_committed_part (known_by (o.base t.repo) (entries (new.seen t.repo)) t) ≡ true) (sym same)
        (subst (λ (H : List Entry). is_committed_part (known_by (old.opened.base t.repo) H t) ≡ true) (sym split) (still_committed (old.opened.base t.repo) (entries (old.seen t.repo)) (entries g.0) (subst (sound (old.opened.base t.repo)) split (sound_now t.repo)) t e))
    | inr out ↦ absurd (none_outside old one t out e)
  ]

  -- what is doomed before is doomed behind, so nothing of the client's own has committed
  module _ (doomed : (t : Ts) → t.repo < old.opened.repos → IsDoomed old t → IsDoomed new t) (ls : List Link) (quiet : AreQuiet old ls (λ t. false)) where
    uncommitted : (t : Ts) → t.repo < old.opened.repos → IsDoomed old t → later t ≡ false
    uncommitted t within d = doomed_uncommitted new t (doomed t within d)

    outcomes : (told : Option Ts) → OutcomesTold old ls told before_it later
    outcomes told = record {
      more = more;
      own = λ r s upto waits t o within there calm live is open' mine l.
          let its : is_session_of s (slice_get ls r) ≡ true = ap (is_session_of s) there ∙ same_number s in
          let d : IsDoomed old t = (quiet.each r s within its).doomed calm live t o is open' mine refl in
          let f : false ≡ true = sym (uncommitted t (coordinated old one r within t o is) d) ∙ l in cc;
    }

-- ---- what a step asks for

-- what is asked of a step, with what follows where nothing is ever prepared: it isn't decided to commit, and what is asked about was sent by a call
-- that stopped
abbrev PartMay : (old new : View) (before after : Held) → Moves old new before after → Type 0
PartMay old new before after (Unsent sends) = Unit {0}
PartMay old new before after (Received at m does there takes same) = BringsWhatStood new at.repo m
PartMay old new before after (ReceivedNone at does there waits same fewer) = Unit {0}
PartMay old new before after (ReceiveRefused at k does there loses same) = Unit {0}
PartMay old new before after (ReceiveStopped at k does there outage stops same fewer) = Unit {0}
PartMay old new before after (Prepared s place does of less) = ⊥
PartMay old new before after (PrepareRefused s k does of idle learns same) = ⊥
PartMay old new before after (Committed s place does of session wrote held idle keeps) = Unit {0}
PartMay old new before after (Transformed s place oref made does of session writes here held idle keeps) = Unit {0}
PartMay old new before after (CommitRefused s k does of idle learns same) = Unit {0}
PartMay old new before after (Decided at t v does idle ends) = ⊥
PartMay old new before after (Aborted at t v does less) = Unit {0}
PartMay old new before after (DecideRefused at t commit k does loses same) = commit ≡ false
PartMay old new before after (Finished r t commit result does less) = Unit {0}
PartMay old new before after (Forgot r t result does less) = Unit {0}
PartMay old new before after (AskedOwn r t v does ends) = (at : At) × HasStoppedIn at old before
PartMay old new before after (AskedInVain r t result does leaves same fewer) = Unit {0}

module _ (old new : View) (before after : Held) where
  decides_so : (commit : Bool) (at : At) (t : Ts) (p z : Pending) → RefusesToDecide commit at t p z before after → StopsAlone p old before → commit ≡ false
  decides_so true at t p z h k = absurd (none_prepares old before at t p h.0 k)
  decides_so false at t p z h k = refl

  may : (moves : Moves old new before after) (p z : Pending) → PendsSo old new before after moves p z → StopsAlone p old before → PartOwed old new before after moves → PartMay old new before after moves
  may (Unsent sends) p z h k o = tt
  may (Received at m does there takes same) p z h k o = o
  may (ReceivedNone at does there waits same fewer) p z h k o = tt
  may (ReceiveRefused at e does there loses same) p z h k o = tt
  may (ReceiveStopped at e does there outage stops same fewer) p z h k o = tt
  may (Prepared s place does of less) p z h k o = o
  may (PrepareRefused s e does of idle learns same) p z h k o = o
  may (Committed s place does of session wrote held idle keeps) p z h k o = tt
  may (Transformed s place oref made does of session writes here held idle keeps) p z h k o = tt
  may (CommitRefused s e does of idle learns same) p z h k o = tt
  may (Decided at t v does idle ends) p z h k o = none_prepares old before at t p h.0 k
  may (Aborted at t v does less) p z h k o = tt
  may (DecideRefused at t commit e does loses same) p z h k o = decides_so commit at t p z h k
  may (Finished r t commit result does less) p z h k o = tt
  may (Forgot r t result does less) p z h k o = tt
  may (AskedOwn r t v does ends) p z h k o = (h.0.0, asked_stops old before h.0.0 t p h.0.1 k)
  may (AskedInVain r t result does leaves same fewer) p z h k o = tt

  -- no step prepares anything
  unprepared : (moves : Moves old new before after) → PartOwed old new before after moves → NonePrepared old new before after moves
  unprepared (Unsent sends) o = tt
  unprepared (Received at m does there takes same) o = tt
  unprepared (ReceivedNone at does there waits same fewer) o = tt
  unprepared (ReceiveRefused at e does there loses same) o = tt
  unprepared (ReceiveStopped at e does there outage stops same fewer) o = tt
  unprepared (Prepared s place does of less) o = absurd o
  unprepared (PrepareRefused s e does of idle learns same) o = tt
  unprepared (Committed s place does of session wrote held idle keeps) o = tt
  unprepared (Transformed s place oref made does of session writes here held idle keeps) o = tt
  unprepared (CommitRefused s e does of idle learns same) o = tt
  unprepared (Decided at t v does idle ends) o = tt
  unprepared (Aborted at t v does less) o = tt
  unprepared (DecideRefused at t commit e does loses same) o = tt
  unprepared (Finished r t commit result does less) o = tt
  unprepared (Forgot r t result does less) o = tt
  unprepared (AskedOwn r t v does ends) o = tt
  unprepared (AskedInVain r t result does leaves same fewer) o = tt

no_request : (q : Request) (t : Ts) → concerns t (alone_entry q) ≡ false
no_request q t = by (is_upgrade q)
  where
    by : (x : Bool) → concerns t (cond x (entry.Upgraded q) (entry.One q)) ≡ false
    by true = refl
    by false = refl

-- an entry that is asked for prepares nothing, and isn't a decision to commit
abbrev Nothing : Option Entry → Type 0
Nothing asked = (e : Entry) → asked ≡ Some e → (t : Ts) → concerns t e ≡ false

module _ (old new : View) (before after : Held) where
  alone : (q : Request) → Nothing (Some (alone_entry q))
  alone q e is t = subst (λ (x : Entry). concerns t x ≡ false) (same_Some (alone_entry q) e is) (no_request q t)

  abort : (u : Ts) (x : Bool) → x ≡ false → Nothing (Some (entry.Decided u x))
  abort u x no' e is t = subst (λ (y : Entry). concerns t y ≡ false) (same_Some (entry.Decided u x) e is) (ap (λ (z : Bool). concerns t (entry.Decided u z)) no')

  finish : (u : Ts) (x : Bool) → Nothing (Some (entry.Finished u x))
  finish u x e is t = subst (λ (y : Entry). concerns t y ≡ false) (same_Some (entry.Finished u x) e is) refl

  none : Nothing None
  none e is t = cc

  sends_nothing : (a : SendsNothing old new before after) → Nothing (entry_asked old new (acts_of old new before after (Unsent a)))
  sends_nothing (Rested stays less) = none
  sends_nothing (Connected repo f apart stays fewer) = none
  sends_nothing (Fetched at page left f idle stays fewer) = none
  sends_nothing (Granted at left f idle stays fewer) = none
  sends_nothing (Drawn at answer left f there stays fewer) = none
  sends_nothing (Asked r t result d less) = none
  sends_nothing (Settled r t v sent index d there stays links' fewer) = none

  asks_nothing : (moves : Moves old new before after) → PartMay old new before after moves → Nothing (entry_asked old new (acts_of old new before after moves))
  asks_nothing (Unsent a) o = sends_nothing a
  asks_nothing (Received at m d there takes stays) o = none
  asks_nothing (ReceivedNone at d there waits stays fewer) o = none
  asks_nothing (ReceiveRefused at k d there loses stays) o = none
  asks_nothing (ReceiveStopped at k d there outage stops stays fewer) o = none
  asks_nothing (Prepared s place d of less) o = absurd o
  asks_nothing (PrepareRefused s k d of idle learns stays) o = absurd o
  asks_nothing (Committed s place d of in_it wrote held idle keeps) o = alone s.request
  asks_nothing (Transformed s place oref made d of session writes here held idle keeps) o = alone s.request
  asks_nothing (CommitRefused s k d of idle learns stays) o = alone s.request
  asks_nothing (Decided at t v d idle ends) o = absurd o
  asks_nothing (Aborted at t v d less) o = abort t false refl
  asks_nothing (DecideRefused at t commit k d loses stays) o = abort t commit o
  asks_nothing (Finished r t commit result d less) o = finish t commit
  asks_nothing (Forgot r t result d less) o = none
  asks_nothing (AskedOwn r t v d ends) o = none
  asks_nothing (AskedInVain r t result d leave stays fewer) o = none

-- ---- a step

module _ (old new : View) (before after : Held) (one : HasRepositories old) (then_one : HasRepositories new) (moves : Moves old new before after) (owed : PartMay old new before after moves)
    (fits : ClientFits old (committed (seen_histories old)) before) (quiet : AreQuiet old before.links.items (λ t. false)) where
  abbrev behind : Ts → Bool
  behind = committed (seen_histories new)

  same_opened : new.opened ≡ old.opened
  same_opened = opened_stays old new (acts_of old new before after moves)

  grown : (r : ℕ) → r < old.opened.repos → Front (old.seen r) (new.seen r)
  grown r within = seen_grows old new (acts_of old new before after moves) r

  right : AllSeenRight new behind
  right = all_right new then_one

  now : (r : ℕ) → r < old.opened.repos → r < new.opened.repos
  now r within = subst (λ (o : Opened). r < o.repos) (sym same_opened) within

  was : (r : ℕ) → r < new.opened.repos → r < old.opened.repos
  was r within = subst (λ (o : Opened). r < o.repos) same_opened within

  asks_for : Nothing (entry_asked old new (acts_of old new before after moves))
  asks_for = asks_nothing old new before after moves owed

  doomed : (t : Ts) → t.repo < old.opened.repos → IsDoomed old t → IsDoomed new t
  doomed t within d = acted old new t behind (right.each t.repo (now t.repo within)) d (acts_of old new before after moves) (λ e is. undecided t e (asks_for e is t))

  quiet_now : AreQuiet new after.links.items (λ t. false)
  quiet_now = stay_quiet old new before after (λ t. false) behind moves (λ e t is c. sym (asks_for e is t) ∙ c) right fits.own same_opened quiet

  told : (verdict' : Option Ts) → OutcomesTold old before.links.items verdict' (committed (seen_histories old)) behind
  told verdict' = outcomes old new same_opened one then_one grown doomed before.links.items quiet verdict'

  its : (at : At) → InSession at before → is_session_of at.session (slice_get before.links.items at.repo) ≡ true
  its at in_it = let h : HasSession at (slice_get before.links.items at.repo) = has_session at (slice_get before.links.items at.repo) in_it in ap (is_session_of at.session) h.is ∙ same_number at.session

  settled_fetch : (at : At) → InSession at before → SettledOwed new at.repo (new.seen at.repo) at.session behind
  settled_fetch at in_it inside calm live =
      settles new at.repo at.session (λ t. false) behind (from_quiet old new before after (λ t. false) behind moves (λ e t is c. sym (asks_for e is t) ∙ c) right fits.own same_opened at.repo at.session (was at.repo inside) quiet (WasIts (its at in_it)))
      (λ t e. cc) (λ t e. e) inside calm live

  settled_commit : (s : Sending) (place : ℕ) (d : Does {X = ℕ} old new s.at.repo (Ok place) (CommitWork s.at.session s.request (Ok place))) → InSession s.at before → SettledOwed new s.at.repo d.at s.at.session behind
  settled_commit s place d in_it inside calm live = λ t o is open' mine. by t o (subst (λ (x : Opened). known_by (x.base s.at.repo) (entries d.at) t ≡ Some o) same_opened is) open' mine d.met refl d.answer
    where
      exact_now : exact (old.opened.base s.at.repo) (new.seen s.at.repo)
      exact_now = subst (λ (x : Opened). exact (x.base s.at.repo) (new.seen s.at.repo)) same_opened (then_one.right.kept s.at.repo)

      lives_at : (v : Option Session) → verdict_by (old.opened.base s.at.repo) (entries d.at) s.at.session s.request v ≡ None → lives v ≡ true
      lives_at None e = cc
      lives_at (Some v) e = accepted_lives (old.opened.base s.at.repo) d.at s.at.session s.request v e

      by : (t : Ts) (o : Known) → known_by (old.opened.base s.at.repo) (entries d.at) t ≡ Some o → o.fate ≡ Open → o.request.session ≡ s.at.session → (met : views.Unsettled) → d.met ≡ met
          → Answered {X = ℕ} s.at.repo (Ok place) met d.at (new.seen s.at.repo) (new.unsettled s.at.repo) (CommitWork s.at.session s.request (Ok place) (old.opened.base s.at.repo) d.at (new.seen s.at.repo) (new.unsettled s.at.repo)) → behind t ≡ false
      by t o is open' mine Calm e w =
          let q = quiet.each s.at.repo s.at.session (was s.at.repo inside) (its s.at in_it) in
          let front : Front d.at (new.seen s.at.repo) = commit_front old new s.at.repo s.at.session s.request place d in
          let exact_at : exact (old.opened.base s.at.repo) d.at = exact-beginning (old.opened.base s.at.repo) d.at front.0 (subst (exact (old.opened.base s.at.repo)) front.1 exact_now) in
          let sound_at : sound (old.opened.base s.at.repo) (entries d.at) = sound-beginning (old.opened.base s.at.repo) (entries d.at) (entries front.0) (subst (sound (old.opened.base s.at.repo)) (ap entries front.1 ∙ entries-append d.at front.0) (sound_now old new same_opened one then_one grown s.at.repo)) in
          let reached : Grew (old.opened.base s.at.repo) old.opened.client (old.unsettled s.at.repo) (old.seen s.at.repo) Calm d.at = subst (λ (m : views.Unsettled). Grew (old.opened.base s.at.repo) old.opened.client (old.unsettled s.at.repo) (old.seen s.at.repo) m d.at) e d.called.reached in
          let before_call = grown_back old.opened.client (old.opened.base s.at.repo) s.at.session (old.seen s.at.repo) d.at (old.unsettled s.at.repo) Calm t reached exact_at sound_at q.own (refl, lives_at (session (old.opened.base s.at.repo) d.at s.at.session) w.0, record { o = o; there = is; open' = open'; own = mine }) in
          uncommitted old new same_opened one then_one grown doomed before.links.items quiet t (coordinated old one s.at.repo (was s.at.repo inside) t before_call.2.o before_call.2.there)
          (q.doomed before_call.0 before_call.1 t before_call.2.o before_call.2.there before_call.2.open' before_call.2.own refl)
      by t o is open' mine (MayCome i) e w = absurd w.0
      by t o is open' mine Halted e w = absurd w.0

  sends : (a : SendsNothing old new before after) → SendsOwed old new before after behind a
  sends (Rested stays less) = tt
  sends (Connected repo f apart stays fewer) = tt
  sends (Fetched at page left f idle stays fewer) = settled_fetch at idle.0
  sends (Granted at left f idle stays fewer) = tt
  sends (Drawn at answer left f there stays fewer) = tt
  sends (Asked r t result d less) = tt
  sends (Settled r t v sent index d there stays links' fewer) = tt

  message : (r : ℕ) (m : Message) → BringsWhatStood new r m → MessageOwed new r m
  message r (Page page bytes place) o = o
  message r (Grant page place) o = tt
  message r (Invalid names place) o = λ inside. then_one.short r inside
  message r (Upgrade number text place) o = λ inside. then_one.short r inside

  -- what the try has written, where its session has ended, and elsewhere what was held
  ended : (at : At) → HasStoppedIn at old before → LinksFit old behind before.links.items (seen before.cache.cache)
  ended at h = stopped_links old before (committed (seen_histories old)) behind one.numbered (told None) fits.links at h

  asked : (r : ℕ) (t : Ts) (v : Verdict) → Does {X = answer.Asked} old new r (Ok (answers.Settled v)) (AskWork t (Ok (answers.Settled v))) → (x : Bool) → v.commit ≡ x → EndsSo x before after → (at : At) → HasStoppedIn at old before → ClientFits new behind after
  asked r t v d true is ends at h =
      then_client old new before after (committed (seen_histories old)) behind right fits ends.0 d.called.same (then_less old new before after (committed (seen_histories old)) behind right fits (seen before.cache.cache) ends.1 ends.2
      (ask_all old new r before.links.items (seen before.cache.cache) behind right (ended at h) t (Ok (answers.Settled v)) d))
  asked r t v d false is ends at h = asks old new before after (committed (seen_histories old)) behind right fits r t v d false is ends tt (told None)

by_owed : (old new : View) (before after : Held) (one : HasRepositories old) (then_one : HasRepositories new) (moves : Moves old new before after) (part : PartMay old new before after moves)
    (fits : ClientFits old (committed (seen_histories old)) before) (quiet : AreQuiet old before.links.items (λ t. false)) → Owed old new before after (committed (seen_histories old)) (committed (seen_histories new)) moves → ClientFits new (committed (seen_histories new)) after
by_owed old new before after one then_one moves part fits quiet owed =
    step_fits old new before after (committed (seen_histories old)) (committed (seen_histories new)) moves owed (told old new before after one then_one moves part fits quiet (verdict_of old new before after moves)) (all_right new then_one) fits

module _ (old new : View) (before after : Held) (one : HasRepositories old) (then_one : HasRepositories new) (fits : ClientFits old (committed (seen_histories old)) before) (quiet : AreQuiet old before.links.items (λ t. false)) where
  step : (moves : Moves old new before after) → PartMay old new before after moves → ClientFits new (committed (seen_histories new)) after
  step (Unsent a) o = by_owed old new before after one then_one (Unsent a) o fits quiet (sends old new before after one then_one (Unsent a) o fits quiet a)
  step (Received at m d there takes stays) o = by_owed old new before after one then_one (Received at m d there takes stays) o fits quiet (message old new before after one then_one (Received at m d there takes stays) o fits quiet at.repo m o)
  step (ReceivedNone at d there waits stays fewer) o = by_owed old new before after one then_one (ReceivedNone at d there waits stays fewer) o fits quiet tt
  step (ReceiveRefused at k d there loses stays) o = by_owed old new before after one then_one (ReceiveRefused at k d there loses stays) o fits quiet tt
  step (ReceiveStopped at k d there outage stops stays fewer) o = by_owed old new before after one then_one (ReceiveStopped at k d there outage stops stays fewer) o fits quiet tt
  step (Prepared s place d of less) o = absurd o
  step (PrepareRefused s k d of idle learns stays) o = absurd o
  step (Committed s place d of in_it wrote held idle keeps) o =
      by_owed old new before after one then_one (Committed s place d of in_it wrote held idle keeps) o fits quiet (settled_commit old new before after one then_one (Committed s place d of in_it wrote held idle keeps) o fits quiet s place d in_it)
  step (Transformed s place oref made d of in_it writes here held idle keeps) o =
      by_owed old new before after one then_one (Transformed s place oref made d of in_it writes here held idle keeps) o fits quiet (settled_commit old new before after one then_one (Transformed s place oref made d of in_it writes here held idle keeps) o fits quiet s place d in_it)
  step (CommitRefused s k d of idle learns stays) o = by_owed old new before after one then_one (CommitRefused s k d of idle learns stays) o fits quiet tt
  step (Decided at t v d idle ends) o = absurd o
  step (Aborted at t v d less) o = by_owed old new before after one then_one (Aborted at t v d less) o fits quiet tt
  step (DecideRefused at t commit k d loses stays) o = by_owed old new before after one then_one (DecideRefused at t commit k d loses stays) o fits quiet tt
  step (Finished r t commit result d less) o = by_owed old new before after one then_one (Finished r t commit result d less) o fits quiet tt
  step (Forgot r t result d less) o = by_owed old new before after one then_one (Forgot r t result d less) o fits quiet tt
  step (AskedOwn r t v d ends) o = asked old new before after one then_one (AskedOwn r t v d ends) o fits quiet r t v d v.commit refl ends o.0 o.1
  step (AskedInVain r t result d leave stays fewer) o = by_owed old new before after one then_one (AskedInVain r t result d leave stays fewer) o fits quiet tt

-- ---- a run

-- what is asked about stays so, where nothing is prepared
stops_on : (old new : View) (before after : Held) → HasRepositories new → ClientFits old (committed (seen_histories old)) before → (moves : Moves old new before after) (p z : Pending) → PendsSo old new before after moves p z → StopsAlone p old before → PartOwed old new before after moves
    → StopsAlone z new after
stops_on old new before after then_one fits moves p z h k o =
    step_stops old new before after (opened_stays old new (acts_of old new before after moves)) (committed (seen_histories old)) (committed (seen_histories new)) (all_right new then_one) fits moves (unprepared old new before after moves o) p z h k

turn : (a z : Position) → TurnBy HasRepositories PartOwed a z → FitsAll a → FitsAll z
turn a z (Stepped moves pends o one) f =
    let m : PartMay a.port z.port a.held z.held moves = may a.port z.port a.held z.held moves a.pending z.pending pends f.stops o in
    record {
      there = one;
      fits = step a.port z.port a.held z.held f.there one f.fits f.quiet moves m;
      quiet = quiet_now a.port z.port a.held z.held f.there one moves m f.fits f.quiet;
      stops = stops_on a.port z.port a.held z.held one f.fits moves a.pending z.pending pends f.stops o;
    }
turn a z (Waited same undecided opened grew one) f = record {
  there = one;
  fits = waited;
  stops = subst (λ (h : Held). StopsAlone z.pending z.port h) (sym same) (subst (λ (q : Pending). StopsAlone q z.port a.held) (sym undecided) (waits_stops a.port z.port a.held opened grew (committed (seen_histories a.port)) (committed (seen_histories z.port)) (all_right z.port one) f.fits a.pending f.stops));
  quiet = subst (λ (h : Held). AreQuiet z.port h.links.items (λ t. false)) (sym same) (waits_quiet a.port z.port (committed (seen_histories z.port)) opened grew (all_right z.port one) a.held.links.items (λ t. false) f.quiet);
}
  where
    still_doomed : (t : Ts) → t.repo < a.port.opened.repos → IsDoomed a.port t → IsDoomed z.port t
    still_doomed t within d =
        subst (λ (o : Opened). IsDoomed (record z.port { opened = o }) t) (sym opened)
        (grown_on a.port.opened.client (a.port.opened.base t.repo) (a.port.unsettled t.repo) (z.port.unsettled t.repo) (a.port.seen t.repo) (z.port.seen t.repo) t (grew t.repo within)
        (subst (λ (o : Opened). exact (o.base t.repo) (z.port.seen t.repo)) opened (one.right.kept t.repo)) (subst (λ (o : Opened). sound (o.base t.repo) (entries (z.port.seen t.repo))) opened (one.right.owed t.repo)) (sym (f.there.numbered t.repo within)) d)

    told_so : OutcomesTold a.port a.held.links.items None (committed (seen_histories a.port)) (committed (seen_histories z.port))
    told_so = outcomes a.port z.port opened f.there one (λ r within. ((grew r within).gap, (grew r within).ends)) still_doomed a.held.links.items f.quiet None

    waited : ClientFits z.port (committed (seen_histories z.port)) z.held
    waited = record {
      own = ap (λ (h : Held). h.client) same ∙ f.fits.own ∙ ap (λ (o : Opened). o.client) (sym opened);
      few = one.few;
      links = subst (λ (h : Held). LinksFit z.port (committed (seen_histories z.port)) h.links.items (kept h.cache.cache)) (sym same)
          (waiting_fits a.port z.port (committed (seen_histories z.port)) a.held.links.items (kept a.held.cache.cache) opened grew (all_right z.port one)
          (others_told a.port a.held.links.items (committed (seen_histories a.port)) (committed (seen_histories z.port)) (kept a.held.cache.cache) told_so f.fits.links));
    }

pub running : (a z : Position) (between : List Position) → LeadsSingly a between z → FitsAll a → FitsAll z
running a z [] t f = turn a z t f
running a z (p ∷ ps) t f = running p z ps t.1 (turn a p t.0 f)

pub begins : (p : Position) → HasRepositories p.port → p.held.client ≡ p.port.opened.client → ((n : ℕ) (link : Link) → slice_get p.held.links.items n ≡ Some link → link ≡ links.Apart)
    → ((x : Oref) → kept p.held.cache.cache x ≡ None) → p.pending ≡ NonePending → FitsAll p
begins p one own apart none free = record {
  there = one;
  fits = new_client p.port (committed (seen_histories p.port)) p.held own one.few apart none;
  quiet = record { each = λ r s within its. absurd (by r s (slice_get p.held.links.items r) refl its) };
  stops = subst (λ (q : Pending). StopsAlone q p.port p.held) (sym free) tt;
}
  where
    by : (r s : ℕ) (o : Option Link) → slice_get p.held.links.items r ≡ o → is_session_of s o ≡ true → ⊥
    by r s None is e = cc
    by r s (Some link) is e = let f : false ≡ true = sym (ap (λ (l : Link). is_session_of s (Some l)) (apart r link is)) ∙ e in cc
