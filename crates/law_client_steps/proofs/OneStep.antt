-- A client of a store that has one repository fits it behind each of its steps, and at the end of each run.
use Rattle.law_atomic_commit.specs.Several.{is_committed_part}
use Rattle.client_cache.specs.Copies.{kept, seen}
use Rattle.law_cache_coherence.proofs.Lending.{Front}
use Rattle.law_cache_coherence.proofs.OwnVerdicts.{others_told}
use Rattle.law_cache_coherence.proofs.Stepping.{opened_stays, waiting_fits}
use Rattle.law_cache_coherence.proofs.Whole.{ask_all}
use Rattle.law_cache_coherence.specs.Fitting.{NoneToFinish}
use Rattle.law_cache_coherence.specs.Steps.{AllSeenRight, LinksFit}
use Rattle.law_cache_coherence.specs.Verdicts.{OutcomesTold}
use Rattle.client_state.specs.Moving.{Aborted, Asked, AskedInVain, AskedOwn, CommitRefused, Committed, Connected, Decided, DecideRefused, Drawn, EndsSo, Fetched, Finished, Forgot, Granted, Moves, PrepareRefused, Prepared, ReceiveRefused, ReceiveStopped, Received, ReceivedNone, Rested, SendsNothing, Settled, Transformed, Unsent}
use Rattle.client_state.specs.Pending.{IsAskingFor, NonePending, Pending, PendsSo}
use Rattle.client_state.specs.declared.held.Held.{Held}
use Rattle.client_state.specs.declared.link.Link.TheVariants as links
use Rattle.client_state.specs.declared.link.Link.{Link}
use Rattle.client_state.specs.declared.requests.Sending.{Sending}
use Rattle.log_entries.specs.declared.entry.Entry.TheVariants as entry
use Rattle.log_entries.specs.declared.entry.Entry.{Entry}
use Rattle.log_entries.specs.declared.request.Request.{Request}
use Rattle.law_client_steps.proofs.Alone.{all_right, never_prepared, none_open, of_each, still_committed}
use Rattle.law_client_steps.proofs.Asked.{NonePrepared, step_stops, stopped_links, waits_stops}
use Rattle.law_client_steps.proofs.Calls.{asks, step_fits, then_client, then_less}
use Rattle.law_client_steps.proofs.Losing.{seen_grows}
use Rattle.law_client_steps.proofs.Running.{new_client}
use Rattle.law_client_steps.specs.Acting.{acts_of}
use Rattle.law_client_steps.specs.OneRepository.{BringsWhatStood, FitsOne, HasOneRepository, Leads, StepOwed, committed_there}
use Rattle.law_client_steps.proofs.Pended.{asked_stops, none_prepares}
use Rattle.law_client_steps.specs.Owed.{ClientFits, MessageOwed, Owed, SendsOwed, SettledOwed, verdict_of}
use Rattle.law_client_steps.specs.Positions.{Position, Stepped, TurnBy, Waited}
use Rattle.law_client_steps.specs.Undecided.{HasStoppedIn, StopsAlone}
use Rattle.spec_history.proofs.Growth.{kept_by-parts, sound-beginning}
use Rattle.spec_history.specs.History.{Base, known_by, start, state}
use Rattle.spec_history.specs.Sound.{owes, sound}
use Rattle.session_outbox.specs.declared.answers.Asked as answer
use Rattle.session_outbox.specs.declared.answers.Asked.TheVariants as answers
use Rattle.session_outbox.specs.declared.answers.At.{At}
use Rattle.session_outbox.specs.declared.answers.Verdict.{Verdict}
use Rattle.session_outbox.specs.declared.message.Message.TheVariants.{Grant, Invalid, Page, Upgrade}
use Rattle.session_outbox.specs.declared.message.Message.{Message}
use Rattle.client_port.specs.Views as views
use Rattle.client_port.specs.Views.{Calm, Halted, MayCome, Opened, View}
use Rattle.client_port.specs.Works.{Answered, AskWork, CommitWork, Does, PrepareWork, alone_entry}
use Rattle.spec_trace.proofs.Traces.{entries-append}
use Rattle.spec_trace.specs.Trace.{E, Item, entries}
use Rattle.std.proofs.Common.{Bool, List, [], ap, arith, false, inl, inr, refl, subst, suc, sym, true, zero, ◌++◌, ◌∙◌, ◌∷◌, ◌≡◌, ℕ}
use Rattle.std.specs.List.{slice_get}
use Rattle.std.specs.Prelude.{None, Ok, Option, Some, length, ◌<◌, ◌^◌, ◌≤◌, ◌⊎◌}
use Rattle.thor_value.specs.declared.names.Oref.{Oref}
use Rattle.thor_value.specs.declared.names.Ts.{Ts}

-- ---- what is never shown

first_or_not : (r : ℕ) → (r < 1) ⊎ (1 ≤ r)
first_or_not zero = inl (omega arith)
first_or_not (suc r) = inr (omega arith)

module _ (b : Base) (one : b.repos ≡ 1) (first : b.repo ≡ 0) where
  -- no entry of a sound trace prepares a transaction
  none_prepared : (x y : List Item) (q : Request) → sound b (entries (x ++ E (entry.Prepared q) ∷ y)) → ⊥
  none_prepared x y q sd =
      let split : sound b (entries x ++ entry.Prepared q ∷ entries y) = subst (sound b) (entries-append x (E (entry.Prepared q) ∷ y)) sd in
      never_prepared b one first (state b (entries x)) q (owed (entries x) (entry.Prepared q) (entries y) split)
    where
      owed : (H : List Entry) (e : Entry) (more : List Entry) → sound b (H ++ e ∷ more) → owes b (state b H) e
      owed H e more s = (kept_by-parts b (start b) H (e ∷ more) s).1.0

-- ---- a step

pub commit_front : (old new : View) (r s : ℕ) (q : Request) (place : ℕ) (d : Does {X = ℕ} old new r (Ok place) (CommitWork s q (Ok place))) → Front d.at (new.seen r)
commit_front old new r s q place d = by d.met d.answer
  where
    by : (met : views.Unsettled) → Answered {X = ℕ} r (Ok place) met d.at (new.seen r) (new.unsettled r) (CommitWork s q (Ok place) (old.opened.base r) d.at (new.seen r) (new.unsettled r)) → Front d.at (new.seen r)
    by Calm w = (E (alone_entry q) ∷ [], w.2.0)
    by (MayCome e) w = absurd w.0
    by Halted w = absurd w.0

module _ (old new : View) (same : new.opened ≡ old.opened) (one : HasOneRepository old) (then_one : HasOneRepository new) (grows : Front (old.seen 0) (new.seen 0)) where
  abbrev b : Base
  b = old.opened.base 0

  owed_now : sound b (entries (new.seen 0))
  owed_now = subst (λ (o : Opened). sound (o.base 0) (entries (new.seen 0))) same then_one.owed

  -- what has committed still has
  more : (t : Ts) → committed_there old t ≡ true → committed_there new t ≡ true
  more t e =
      let split : entries (new.seen 0) ≡ entries (old.seen 0) ++ entries grows.0 = ap entries grows.1 ∙ entries-append (old.seen 0) grows.0 in
      subst (λ (o : Opened). is_committed_part (known_by (o.base 0) (entries (new.seen 0)) t) ≡ true) (sym same)
      (subst (λ (H : List Entry). is_committed_part (known_by b H t) ≡ true) (sym split) (still_committed b (entries (old.seen 0)) (entries grows.0) (subst (sound b) split owed_now) t e))

  pub outcomes : (ls : List Link) (verdict : Option Ts) → OutcomesTold old ls verdict (committed_there old) (committed_there new)
  outcomes ls verdict = record {
    more = more;
    own = λ r s upto waits t o within there calm live is open' mine l. absurd (of_each old one (λ n. known_by (old.opened.base n) (entries (old.seen n)) t ≡ Some o → ⊥) (λ k. none_open b one.counted one.numbered (entries (old.seen 0)) one.owed t o k open') r within is);
  }

  module _ (before after : Held) where
    abbrev committed : Ts → Bool
    committed = committed_there old

    abbrev later : Ts → Bool
    later = committed_there new

    right : AllSeenRight new later
    right = all_right new then_one

    -- nothing is left to finish
    settled_now : (r s : ℕ) → SettledOwed new r (new.seen r) s later
    settled_now r s inside calm live = of_each new then_one (λ n. NoneToFinish (new.opened.base n) (entries (new.seen n)) s later) (λ t o is open' mine. absurd (none_open (new.opened.base 0) then_one.counted then_one.numbered (entries (new.seen 0)) then_one.owed t o is open')) r inside

    settled_at : (r s : ℕ) (T : List Item) → Front T (new.seen r) → SettledOwed new r T s later
    settled_at r s T front inside calm live = λ t o is open' mine.
        absurd (none_open (new.opened.base r) (of_each new then_one (λ n. (new.opened.base n).repos ≡ 1) then_one.counted r inside) (of_each new then_one (λ n. (new.opened.base n).repo ≡ 0) then_one.numbered r inside) (entries T) sound_there t o is open')
      where
        sound_there : sound (new.opened.base r) (entries T)
        sound_there =
            let all : sound (new.opened.base r) (entries (new.seen r)) = of_each new then_one (λ n. sound (new.opened.base n) (entries (new.seen n))) then_one.owed r inside in
            sound-beginning (new.opened.base r) (entries T) (entries front.0) (subst (sound (new.opened.base r)) (ap entries front.1 ∙ entries-append T front.0) all)

    sends : (a : SendsNothing old new before after) → SendsOwed old new before after later a
    sends (Rested stays less) = tt
    sends (Connected repo f apart stays fewer) = tt
    sends (Fetched at page left f idle stays fewer) = settled_now at.repo at.session
    sends (Granted at left f idle stays fewer) = tt
    sends (Drawn at answer left f there stays fewer) = tt
    sends (Asked r t result d less) = tt
    sends (Settled r t v sent index d there stays links' fewer) = tt

    message : (r : ℕ) (m : Message) → BringsWhatStood new r m → MessageOwed new r m
    message r (Page page bytes place) o = o
    message r (Grant page place) o = tt
    message r (Invalid names place) o = λ inside. of_each new then_one (λ n. length (entries (new.seen n)) < 2 ^ 64) then_one.short r inside
    message r (Upgrade number text place) o = λ inside. of_each new then_one (λ n. length (entries (new.seen n)) < 2 ^ 64) then_one.short r inside

    -- nothing is prepared
    unprepared : (s : Sending) (place : ℕ) → Does {X = ℕ} old new s.at.repo (Ok place) (PrepareWork s.at.session s.request (Ok place)) → ⊥
    unprepared s place d = by d.met d.answer
      where
        prepares : new.seen s.at.repo ≡ d.at ++ E (entry.Prepared s.request) ∷ [] → (s.at.repo < 1) ⊎ (1 ≤ s.at.repo) → ⊥
        prepares e (inl low) =
            let inside : s.at.repo < new.opened.repos = subst (λ (n : ℕ). s.at.repo < n) (sym then_one.one) low in
            let all : sound (new.opened.base s.at.repo) (entries (new.seen s.at.repo)) = of_each new then_one (λ n. sound (new.opened.base n) (entries (new.seen n))) then_one.owed s.at.repo inside in
            none_prepared (new.opened.base s.at.repo) (of_each new then_one (λ n. (new.opened.base n).repos ≡ 1) then_one.counted s.at.repo inside) (of_each new then_one (λ n. (new.opened.base n).repo ≡ 0) then_one.numbered s.at.repo inside) d.at [] s.request
            (subst (λ (T : List Item). sound (new.opened.base s.at.repo) (entries T)) e all)
        prepares e (inr high) = entered (entries d.at) (sym (entries-append d.at (E (entry.Prepared s.request) ∷ [])) ∙ (ap entries (sym e) ∙ then_one.outside s.at.repo high))
          where
            entered : (H : List Entry) → H ++ entry.Prepared s.request ∷ [] ≡ [] → ⊥
            entered [] k = cc
            entered (x ∷ H) k = cc

        by : (met : views.Unsettled) → Answered {X = ℕ} s.at.repo (Ok place) met d.at (new.seen s.at.repo) (new.unsettled s.at.repo) (PrepareWork s.at.session s.request (Ok place) (old.opened.base s.at.repo) d.at (new.seen s.at.repo) (new.unsettled s.at.repo)) → ⊥
        by Calm w = prepares w.2.0 (first_or_not s.at.repo)
        by (MayCome e) w = absurd w.0
        by Halted w = absurd w.0

    prepares_none : (moves : Moves old new before after) → NonePrepared old new before after moves
    prepares_none (Unsent sends) = tt
    prepares_none (Received at m does there takes same') = tt
    prepares_none (ReceivedNone at does there waits same' fewer) = tt
    prepares_none (ReceiveRefused at k does there loses same') = tt
    prepares_none (ReceiveStopped at k does there outage stops same' fewer) = tt
    prepares_none (Prepared s place does of less) = unprepared s place does
    prepares_none (PrepareRefused s k does of idle learns same') = tt
    prepares_none (Committed s place does of session wrote held idle keeps) = tt
    prepares_none (Transformed s place oref made does of session writes here held idle keeps) = tt
    prepares_none (CommitRefused s k does of idle learns same') = tt
    prepares_none (Decided at t v does idle ends) = tt
    prepares_none (Aborted at t v does less) = tt
    prepares_none (DecideRefused at t commit k does loses same') = tt
    prepares_none (Finished r t commit result does less) = tt
    prepares_none (Forgot r t result does less) = tt
    prepares_none (AskedOwn r t v does ends) = tt
    prepares_none (AskedInVain r t result does leaves same' fewer) = tt

    module _ (fits : ClientFits old committed before) where
      abbrev Stops : Pending → Type 0
      Stops p = StopsAlone p old before

      -- what the try has written is the client's, where its session has ended
      stopped : (at : At) → HasStoppedIn at old before → LinksFit old later before.links.items (seen before.cache.cache)
      stopped at h = stopped_links old before committed later (λ r within. of_each old one (λ n. (old.opened.base n).repo ≡ n) one.numbered r within) (outcomes before.links.items None) fits.links at h

      asked : (r : ℕ) (t : Ts) (v : Verdict) → Does {X = answer.Asked} old new r (Ok (answers.Settled v)) (AskWork t (Ok (answers.Settled v))) → (x : Bool) → v.commit ≡ x → EndsSo x before after → (p : Pending) → IsAskingFor t p → Stops p → ClientFits new later after
      asked r t v d true is ends p asking stops =
          then_client old new before after committed later right fits ends.0 d.called.same (then_less old new before after committed later right fits (seen before.cache.cache) ends.1 ends.2
          (ask_all old new r before.links.items (seen before.cache.cache) later right (stopped asking.0 (asked_stops old before asking.0 t p asking.1 stops)) t (Ok (answers.Settled v)) d))
      asked r t v d false is ends p asking stops = asks old new before after committed later right fits r t v d false is ends tt (outcomes before.links.items None)

      by_owed : (moves : Moves old new before after) → Owed old new before after committed later moves → ClientFits new later after
      by_owed moves owed = step_fits old new before after committed later moves owed (outcomes before.links.items (verdict_of old new before after moves)) right fits

      pub step : (moves : Moves old new before after) (p z : Pending) → PendsSo old new before after moves p z → Stops p → StepOwed old new before after moves → ClientFits new later after
      step (Unsent a) p z h k o = by_owed (Unsent a) (sends a)
      step (Received at m d there takes stays) p z h k o = by_owed (Received at m d there takes stays) (message at.repo m o)
      step (ReceivedNone at d there waits stays fewer) p z h k o = by_owed (ReceivedNone at d there waits stays fewer) tt
      step (ReceiveRefused at e d there loses stays) p z h k o = by_owed (ReceiveRefused at e d there loses stays) tt
      step (ReceiveStopped at e d there outage stops stays fewer) p z h k o = by_owed (ReceiveStopped at e d there outage stops stays fewer) tt
      step (Prepared s place d of less) p z h k o = absurd (unprepared s place d)
      step (PrepareRefused s e d of idle learns stays) p z h k o = by_owed (PrepareRefused s e d of idle learns stays) tt
      step (Committed s place d of in_it wrote held idle keeps) p z h k o = by_owed (Committed s place d of in_it wrote held idle keeps) (settled_at s.at.repo s.at.session d.at (commit_front old new s.at.repo s.at.session s.request place d))
      step (Transformed s place oref made d of session writes here held idle keeps) p z h k o = by_owed (Transformed s place oref made d of session writes here held idle keeps) (settled_at s.at.repo s.at.session d.at (commit_front old new s.at.repo s.at.session s.request place d))
      step (CommitRefused s e d of idle learns stays) p z h k o = by_owed (CommitRefused s e d of idle learns stays) tt
      step (Decided at t v d idle ends) p z h k o = absurd (none_prepares old before at t p h.0 k)
      step (Aborted at t v d less) p z h k o = by_owed (Aborted at t v d less) tt
      step (DecideRefused at t commit e d loses stays) p z h k o = by_owed (DecideRefused at t commit e d loses stays) tt
      step (Finished r t commit result d less) p z h k o = by_owed (Finished r t commit result d less) tt
      step (Forgot r t result d less) p z h k o = by_owed (Forgot r t result d less) tt
      step (AskedOwn r t v d ends) p z h k o = asked r t v d v.commit refl ends p h.0 k
      step (AskedInVain r t result d leave stays fewer) p z h k o = by_owed (AskedInVain r t result d leave stays fewer) tt

-- ---- a run

turn : (a z : Position) → TurnBy HasOneRepository StepOwed a z → FitsOne a → FitsOne z
turn a z (Stepped moves pends o one) f =
    let acts = acts_of a.port z.port a.held z.held moves in
    let same = opened_stays a.port z.port acts in
    let grows = seen_grows a.port z.port acts 0 in
    record {
      only = one;
      fits = step a.port z.port same f.only one grows a.held z.held f.fits moves a.pending z.pending pends f.stops o;
      stops = step_stops a.port z.port a.held z.held same (committed_there a.port) (committed_there z.port) (all_right z.port one) f.fits moves (prepares_none a.port z.port same f.only one grows a.held z.held moves) a.pending z.pending pends f.stops;
    }
turn a z (Waited same undecided opened grew one) f = record {
  only = one;
  fits = waited;
  stops = subst (λ (h : Held). StopsAlone z.pending z.port h) (sym same) (subst (λ (q : Pending). StopsAlone q z.port a.held) (sym undecided) (waits_stops a.port z.port a.held opened grew (committed_there a.port) (committed_there z.port) (all_right z.port one) f.fits a.pending f.stops));
}
  where
    first : 0 < a.port.opened.repos
    first = subst (λ (n : ℕ). 0 < n) (sym f.only.one) (omega arith)

    told : OutcomesTold a.port a.held.links.items None (committed_there a.port) (committed_there z.port)
    told = outcomes a.port z.port opened f.only one ((grew 0 first).gap, (grew 0 first).ends) a.held.links.items None

    waited : ClientFits z.port (committed_there z.port) z.held
    waited = record {
      own = ap (λ (h : Held). h.client) same ∙ f.fits.own ∙ ap (λ (o : Opened). o.client) (sym opened);
      few = subst (λ (o : Opened). o.repos ≤ 8) (sym opened) f.fits.few;
      links = subst (λ (h : Held). LinksFit z.port (committed_there z.port) h.links.items (kept h.cache.cache)) (sym same)
          (waiting_fits a.port z.port (committed_there z.port) a.held.links.items (kept a.held.cache.cache) opened
          grew (all_right z.port one)
          (others_told a.port a.held.links.items (committed_there a.port) (committed_there z.port) (kept a.held.cache.cache) told f.fits.links));
    }

pub running : (a z : Position) (between : List Position) → Leads a between z → FitsOne a → FitsOne z
running a z [] t f = turn a z t f
running a z (p ∷ ps) t f = running p z ps t.1 (turn a p t.0 f)

pub begins : (p : Position) → HasOneRepository p.port → p.held.client ≡ p.port.opened.client → ((n : ℕ) (link : Link) → slice_get p.held.links.items n ≡ Some link → link ≡ links.Apart)
    → ((x : Oref) → kept p.held.cache.cache x ≡ None) → p.pending ≡ NonePending → FitsOne p
begins p one own apart none free = record { only = one; fits = new_client p.port (committed_there p.port) p.held own (subst (λ (n : ℕ). n ≤ 8) (sym one.one) (omega arith)) apart none; stops = subst (λ (q : Pending). StopsAlone q p.port p.held) (sym free) tt }
