-- What a client asks about was sent by a call that stopped: that is kept by each step, and by what others do, where nothing is prepared.
use Rattle.client_cache.specs.Copies.{Contents, changed, kept, seen}
use Rattle.law_cache_coherence.proofs.Ended.{acted_lived, grown_lived}
use Rattle.law_cache_coherence.proofs.OwnVerdicts.{others_told}
use Rattle.law_cache_coherence.proofs.Stepping.{same_there}
use Rattle.law_cache_coherence.specs.Fitting.{Copies, HoldsNone}
use Rattle.law_cache_coherence.specs.Seen.{LinkAt}
use Rattle.law_cache_coherence.specs.Steps.{AllSeenRight, LinksFit}
use Rattle.law_cache_coherence.specs.Verdicts.{OutcomesTold}
use Rattle.client_state.specs.Links.{session_in}
use Rattle.client_state.specs.Moving.{Aborted, Asked, AskedInVain, AskedOwn, CommitRefused, Committed, Connected, Decided, DecideRefused, Drawn, Fetched, Finished, Forgot, Granted, InSession, Moves, PrepareRefused, Prepared, ReceiveRefused, ReceiveStopped, Received, ReceivedNone, Rested, SendsNothing, Settled, Transformed, Unsent}
use Rattle.client_state.specs.Pending.{AsksBehind, HasStopped, IsAsking, IsAskingFor, IsPreparing, IsWrittenIn, NonePending, Pending, PendsSo, RefusesToDecide, SendsPending, StaysAsked, StaysPending}
use Rattle.client_state.specs.declared.held.Held.{Held}
use Rattle.client_state.specs.declared.link.Link.TheVariants as links
use Rattle.client_state.specs.declared.link.Link.{Link}
use Rattle.client_state.specs.declared.requests.Sending.{Sending}
use Rattle.log_entries.specs.declared.request.Request.{Request}
use Rattle.law_client_steps.proofs.Pended.{asked_stops, none_prepares, stops_asked}
use Rattle.law_client_steps.specs.Acting.{acts_of}
use Rattle.law_client_steps.specs.Owed.{ClientFits}
use Rattle.law_client_steps.specs.Undecided.{HasEndedIn, HasStoppedIn, StopsAlone}
use Rattle.session_outbox.specs.declared.answers.At.{At}
use Rattle.paused_eval.proofs.Hands.{seen_split}
use Rattle.client_port.specs.Growing.{Grew}
use Rattle.client_port.specs.Views as views
use Rattle.client_port.specs.Views.{Calm, Halted, MayCome, Opened, View}
use Rattle.client_port.specs.Works.{Answered, CommitWork, Does, MayHaveLeft, alone_entry}
use Rattle.spec_trace.specs.Exact.{exact}
use Rattle.spec_trace.specs.Gaps.{client_in}
use Rattle.spec_trace.specs.Notices.{lives}
use Rattle.spec_trace.specs.Session.{Session, session}
use Rattle.spec_trace.specs.Verdict.{verdict}
use Rattle.std.proofs.Common.{Bool, ap, arith, false, inl, inr, subst, suc, sym, true, ◌∙◌, ◌≡◌, ◌≢◌, ℕ}
use Rattle.std.proofs.lemmas.Bool.{cases_eq}
use Rattle.std.proofs.lemmas.Option.{same_Some}
use Rattle.std.specs.List.{slice_get}
use Rattle.std.specs.Option.{option_map, option_or}
use Rattle.std.specs.Prelude.{Err, None, Option, Some, ◌<◌, ◌⊎◌}
use Rattle.thor_value.specs.declared.names.Oref.{Oref}
use Rattle.thor_value.specs.declared.names.Ts.{Ts}
use Rattle.thor_value.specs.declared.values.Obj.{Obj}
use Rattle.repo_refusals.specs.declared.refusal.Refusal.TheVariants as refused
use Rattle.repo_refusals.specs.declared.refusal.Refusal.{Refusal}

-- ---- sessions of links

-- whether the session is the link's
joined_or_not : (at : At) (o : Option Link) → (session_in at.repo o ≡ Some at) ⊎ (session_in at.repo o ≡ Some at → ⊥)
joined_or_not at None = inr (λ e. cc)
joined_or_not at (Some links.Apart) = inr (λ e. cc)
joined_or_not at (Some (links.Joined s upto waits)) = elim (cases_eq s at.session) [
  | inl e ↦ inl (ap (λ (n : ℕ). Some (record { repo = at.repo; session = n })) e)
  | inr other ↦ inr (λ e. other (ap (λ (a : At). a.session) (same_Some (record { repo = at.repo; session = s }) at e)))
]
joined_or_not at (Some (links.Unsettled sent index)) = inr (λ e. cc)

-- a session that the link isn't in
abbrev other_session : Option Link → ℕ
other_session None = 0
other_session (Some links.Apart) = 0
other_session (Some (links.Joined s upto waits)) = suc s
other_session (Some (links.Unsettled sent index)) = 0

not_joined : (o : Option Link) → session_in 0 o ≡ Some (record { repo = 0; session = other_session o }) → ⊥
not_joined None e = cc
not_joined (Some links.Apart) e = cc
not_joined (Some (links.Joined s upto waits)) e = let f : s ≡ suc s = ap (λ (a : At). a.session) (same_Some (record { repo = 0; session = s }) (record { repo = 0; session = suc s }) e) in absurd (omega (arith, f))
not_joined (Some (links.Unsettled sent index)) e = cc

-- ---- what the try has written

module _ (before after : Held) (keeps : (at : At) → IsWrittenIn at before → IsWrittenIn at after) where
  -- where it has written nothing, it still hasn't
  none_still : ((x : Oref) → changed before.cache.cache x ≡ None) → (x : Oref) → changed after.cache.cache x ≡ None
  none_still none x = by (keeps away (λ y. inl (none y)) x)
    where
      away : At
      away = record { repo = 0; session = other_session (slice_get after.links.items 0) }

      by : (changed after.cache.cache x ≡ None) ⊎ ((x.repo ≡ 0) × InSession away after) → changed after.cache.cache x ≡ None
      by (inl e) = e
      by (inr h) = absurd (not_joined (slice_get after.links.items 0) h.1)

written_none : (at : At) (held : Held) → (InSession at held → ⊥) → IsWrittenIn at held → (x : Oref) → changed held.cache.cache x ≡ None
written_none at held not' written x = by (written x)
  where
    by : (changed held.cache.cache x ≡ None) ⊎ ((x.repo ≡ at.repo) × InSession at held) → changed held.cache.cache x ≡ None
    by (inl e) = e
    by (inr h) = absurd (not' h.1)

-- ---- a call that stopped

not_calm : (old new : View) (r s : ℕ) (q : Request) (k : Refusal) → HasStopped k → Does {X = ℕ} old new r (Err k) (CommitWork s q (Err k)) → new.unsettled r ≡ Calm → ⊥
not_calm old new r s q (refused.Reason z) stopped d calm = absurd stopped
not_calm old new r s q (refused.Down z) stopped d calm = absurd stopped
not_calm old new r s q (refused.Damaged z p) stopped d calm = absurd stopped
not_calm old new r s q refused.NoMemory stopped d calm = absurd stopped
not_calm old new r s q (refused.Stopped z) stopped d calm = by d.met d.answer
  where
    by : (met : views.Unsettled) → Answered {X = ℕ} r (Err (refused.Stopped z)) met d.at (new.seen r) (new.unsettled r) (CommitWork s q (Err (refused.Stopped z)) (old.opened.base r) d.at (new.seen r) (new.unsettled r)) → ⊥
    by Calm w = subst (MayHaveLeft (alone_entry q) (verdict (old.opened.base r) d.at s q ≡ None)) calm w.1
    by (MayCome e) w = absurd w.0
    by Halted w = absurd w.0

-- ---- a step

-- the step prepares nothing
abbrev pub NonePrepared : (old new : View) (before after : Held) → Moves old new before after → Type 0
NonePrepared old new before after (Unsent sends) = Unit {0}
NonePrepared old new before after (Received at m does there takes same) = Unit {0}
NonePrepared old new before after (ReceivedNone at does there waits same fewer) = Unit {0}
NonePrepared old new before after (ReceiveRefused at k does there loses same) = Unit {0}
NonePrepared old new before after (ReceiveStopped at k does there outage stops same fewer) = Unit {0}
NonePrepared old new before after (Prepared s place does of less) = ⊥
NonePrepared old new before after (PrepareRefused s k does of idle learns same) = Unit {0}
NonePrepared old new before after (Committed s place does of session wrote held idle keeps) = Unit {0}
NonePrepared old new before after (Transformed s place oref made does of session writes here held idle keeps) = Unit {0}
NonePrepared old new before after (CommitRefused s k does of idle learns same) = Unit {0}
NonePrepared old new before after (Decided at t v does idle ends) = Unit {0}
NonePrepared old new before after (Aborted at t v does less) = Unit {0}
NonePrepared old new before after (DecideRefused at t commit k does loses same) = Unit {0}
NonePrepared old new before after (Finished r t commit result does less) = Unit {0}
NonePrepared old new before after (Forgot r t result does less) = Unit {0}
NonePrepared old new before after (AskedOwn r t v does ends) = Unit {0}
NonePrepared old new before after (AskedInVain r t result does leaves same fewer) = Unit {0}

-- the session of a link that fits is the client's
own_in : (port : View) (committed : Ts → Bool) (copies : Copies) (at : At) (o : Option Link) → session_in at.repo o ≡ Some at → LinkAt port at.repo committed o copies
    → client_in (port.opened.base at.repo) (port.seen at.repo) at.session ≡ Some port.opened.client
own_in port committed copies at None e f = cc
own_in port committed copies at (Some links.Apart) e f = cc
own_in port committed copies at (Some (links.Joined s upto waits)) e f =
    subst (λ (n : ℕ). client_in (port.opened.base at.repo) (port.seen at.repo) n ≡ Some port.opened.client) (ap (λ (a : At). a.session) (same_Some (record { repo = at.repo; session = s }) at e))
    (ap (λ (v : Option Session). option_map (λ (w : Session). w.client) v) f.there ∙ ap (λ (n : ℕ). Some n) f.own)
own_in port committed copies at (Some (links.Unsettled sent index)) e f = cc

-- The session has ended still, where it is the link's; and what the try has written lies in it.
held_on : (at : At) (new : View) (after : Held) → IsWrittenIn at after
    → (at.repo < new.opened.repos → new.unsettled at.repo ≡ Calm → lives (session (new.opened.base at.repo) (new.seen at.repo) at.session) ≡ true → ⊥) → HasStoppedIn at new after
held_on at new after written ended = elim (joined_or_not at (slice_get after.links.items at.repo)) [
  | inl joined ↦ inr (record { joined = joined; written = written; ended = ended })
  | inr not' ↦ inl (written_none at after not' written)
]

module _ (old new : View) (before after : Held) (same : new.opened ≡ old.opened) (committed later : Ts → Bool) (right : AllSeenRight new later) (fits : ClientFits old committed before) where
  was : (n : ℕ) → n < new.opened.repos → n < old.opened.repos
  was n within = subst (λ (o : Opened). n < o.repos) same within

  own_now : (at : At) → at.repo < old.opened.repos → InSession at before → client_in (old.opened.base at.repo) (old.seen at.repo) at.session ≡ Some old.opened.client
  own_now at within joined = own_in old committed (kept before.cache.cache) at (slice_get before.links.items at.repo) joined (fits.links.each at.repo within)

  module _ (moves : Moves old new before after) where
    stopped_on : (at : At) → ((k : At) → IsWrittenIn k before → IsWrittenIn k after) → HasStoppedIn at old before → HasStoppedIn at new after
    stopped_on at keeps (inl none) = inl (none_still before after keeps none)
    stopped_on at keeps (inr h) = held_on at new after (keeps at h.written) (λ within calm live.
        let y = acted_lived old new at.repo at.session later (right.each at.repo within) (acts_of old new before after moves) (own_now at (was at.repo within) h.joined) calm live in
        h.ended (was at.repo within) y.0 y.1)

    free : (z : Pending) → z ≡ NonePending → StopsAlone z new after
    free z e = subst (λ (q : Pending). StopsAlone q new after) (sym e) tt

    stays : (p z : Pending) → StaysPending p z before after → StopsAlone p old before → StopsAlone z new after
    stays p z (inl e) h = free z e
    stays p z (inr f) h = subst (λ (q : Pending). StopsAlone q new after) (sym f.0) (by p h)
      where
        by : (q : Pending) → StopsAlone q old before → StopsAlone q new after
        by NonePending k = tt
        by (IsPreparing at t rs transaction) k = absurd k
        by (IsAsking sent n) k = stopped_on sent.at f.1 k

    -- an answer had no verdict
    stays_asked : (t : Ts) (p z : Pending) → IsAskingFor t p → StaysAsked p z before after → StopsAlone p old before → StopsAlone z new after
    stays_asked t p z asking (inl e) h = free z e
    stays_asked t p z asking (inr f) h = stops_asked new after asking.0 t z (f.0 ∙ asking.1) (stopped_on asking.0 f.1 (asked_stops old before asking.0 t p asking.1 h))

  asks_behind : (s : Sending) (k : Refusal) (z : Pending) → Does {X = ℕ} old new s.at.repo (Err k) (CommitWork s.at.session s.request (Err k)) → AsksBehind s k z after → StopsAlone z new after
  asks_behind s k z d (inl e) = subst (λ (q : Pending). StopsAlone q new after) (sym e) tt
  asks_behind s k z d (inr f) = stops_asked new after s.at s.request.tx z f.0 (held_on s.at new after f.2 (λ within calm live. not_calm old new s.at.repo s.at.session s.request k f.1 d calm))

  sends_alone : (a : SendsNothing old new before after) (p z : Pending) → SendsPending old new before after a p z → StopsAlone p old before → StopsAlone z new after
  sends_alone (Rested still less) p z h k = stays (Unsent (Rested still less)) p z h k
  sends_alone (Connected repo f apart client fewer) p z h k = free (Unsent (Connected repo f apart client fewer)) z h
  sends_alone (Fetched at page left f idle client fewer) p z h k = free (Unsent (Fetched at page left f idle client fewer)) z h
  sends_alone (Granted at left f idle client fewer) p z h k = free (Unsent (Granted at left f idle client fewer)) z h
  sends_alone (Drawn at answer left f there client fewer) p z h k = free (Unsent (Drawn at answer left f there client fewer)) z h
  sends_alone (Asked r t result d less) p z h k = stays (Unsent (Asked r t result d less)) p z h k
  sends_alone (Settled r t v sent index d there links' client fewer) p z h k = stays (Unsent (Settled r t v sent index d there links' client fewer)) p z h k

  refuses : (moves : Moves old new before after) (commit : Bool) (at : At) (t : Ts) (p z : Pending) → RefusesToDecide commit at t p z before after → StopsAlone p old before → StopsAlone z new after
  refuses moves true at t p z h k = absurd (none_prepares old before at t p h.0 k)
  refuses moves false at t p z h k = stays moves p z h k

  -- where nothing is prepared by it
  pub step_stops : (moves : Moves old new before after) → NonePrepared old new before after moves → (p z : Pending) → PendsSo old new before after moves p z → StopsAlone p old before → StopsAlone z new after
  step_stops (Unsent a) un p z h k = sends_alone a p z h k
  step_stops (Received at m d there takes client) un p z h k = stays (Received at m d there takes client) p z h k
  step_stops (ReceivedNone at d there waits client fewer) un p z h k = stays (ReceivedNone at d there waits client fewer) p z h k
  step_stops (ReceiveRefused at e d there loses client) un p z h k = stays (ReceiveRefused at e d there loses client) p z h k
  step_stops (ReceiveStopped at e d there outage stops client fewer) un p z h k = stays (ReceiveStopped at e d there outage stops client fewer) p z h k
  step_stops (Prepared s place d of less) un p z h k = absurd un
  step_stops (PrepareRefused s e d of idle learns client) un p z h k = stays (PrepareRefused s e d of idle learns client) p z h k
  step_stops (Committed s place d of in_it wrote held idle keeps) un p z h k = free (Committed s place d of in_it wrote held idle keeps) z h
  step_stops (Transformed s place oref made d of in_it writes here held idle keeps) un p z h k = free (Transformed s place oref made d of in_it writes here held idle keeps) z h
  step_stops (CommitRefused s e d of idle learns client) un p z h k = asks_behind s e z d h
  step_stops (Decided at t v d idle ends) un p z h k = absurd (none_prepares old before at t p h.0 k)
  step_stops (Aborted at t v d less) un p z h k = stays (Aborted at t v d less) p z h k
  step_stops (DecideRefused at t commit e d loses client) un p z h k = refuses (DecideRefused at t commit e d loses client) commit at t p z h k
  step_stops (Finished r t commit result d less) un p z h k = stays (Finished r t commit result d less) p z h k
  step_stops (Forgot r t result d less) un p z h k = stays (Forgot r t result d less) p z h k
  step_stops (AskedOwn r t v d ends) un p z h k = free (AskedOwn r t v d ends) z h.1
  step_stops (AskedInVain r t result d leave client fewer) un p z h k = stays_asked (AskedInVain r t result d leave client fewer) t p z h.0 h.1 k

-- what others do keeps it
module _ (old new : View) (held : Held) (same : new.opened ≡ old.opened) (grew : (r : ℕ) → r < old.opened.repos → Grew (old.opened.base r) old.opened.client (old.unsettled r) (old.seen r) (new.unsettled r) (new.seen r))
    (committed later : Ts → Bool) (right : AllSeenRight new later) (fits : ClientFits old committed held) where
  waits_in : (at : At) → HasStoppedIn at old held → HasStoppedIn at new held
  waits_in at (inl none) = inl none
  waits_in at (inr h) = held_on at new held h.written (λ within calm live.
      let low : at.repo < old.opened.repos = subst (λ (o : Opened). at.repo < o.repos) same within in
      let kept_so : exact (old.opened.base at.repo) (new.seen at.repo) = subst (λ (o : Opened). exact (o.base at.repo) (new.seen at.repo)) same (right.each at.repo within).kept in
      let y = grown_lived old.opened.client (old.opened.base at.repo) at.session (old.seen at.repo) (new.seen at.repo) (old.unsettled at.repo) (new.unsettled at.repo) (grew at.repo low) kept_so
      (own_in old committed (kept held.cache.cache) at (slice_get held.links.items at.repo) h.joined (fits.links.each at.repo low)) (calm, subst (λ (o : Opened). lives (session (o.base at.repo) (new.seen at.repo) at.session) ≡ true) same live) in
      h.ended low y.0 y.1)

  pub waits_stops : (p : Pending) → StopsAlone p old held → StopsAlone p new held
  waits_stops NonePending k = tt
  waits_stops (IsPreparing at t rs transaction) k = absurd k
  waits_stops (IsAsking sent n) k = waits_in sent.at k

-- ---- what the client learns of what it asks

-- With this link, which tells of a session there, that isn't live or something is unsettled; without a session none of these
-- copies is of its objects.
abbrev HasEnded : View → ℕ → Option Link → Copies → Type 0
HasEnded port r None copies = Unit {0}
HasEnded port r (Some links.Apart) copies = HoldsNone (port.opened.base r) copies
HasEnded port r (Some (links.Joined s upto waits)) copies = port.unsettled r ≡ Calm → lives (session (port.opened.base r) (port.seen r) s) ≡ true → ⊥
HasEnded port r (Some (links.Unsettled sent index)) copies = HoldsNone (port.opened.base r) copies

ended_at : (port : View) (r : ℕ) (committed later : Ts → Bool) (link : Option Link) (copies left : Copies) → HasEnded port r link left → LinkAt port r committed link copies → LinkAt port r later link left
ended_at port r committed later None copies left e f = tt
ended_at port r committed later (Some links.Apart) copies left e f = e
ended_at port r committed later (Some (links.Joined s upto waits)) copies left e f = record { v = f.v; there = f.there; own = f.own; keeps = λ calm live. absurd (e calm (ap lives f.there ∙ live)) }
ended_at port r committed later (Some (links.Unsettled sent index)) copies left e f = e

same_seen : (c : Contents) (x : Oref) → changed c x ≡ None → seen c x ≡ kept c x
same_seen c x e = seen_split c x ∙ ap (λ (o : Option Obj). option_or o (kept c x)) e

module _ (port : View) (held : Held) (committed later : Ts → Bool) (numbered : (r : ℕ) → r < port.opened.repos → (port.opened.base r).repo ≡ r) (told : OutcomesTold port held.links.items None committed later)
    (fit : LinksFit port committed held.links.items (kept held.cache.cache)) where
  abbrev copies : Contents
  copies = held.cache.cache

  stays_at : (r : ℕ) → r < port.opened.repos → ((x : Oref) → x.repo ≡ r → changed copies x ≡ None) → LinkAt port r later (slice_get held.links.items r) (seen copies)
  stays_at r within none = by (slice_get held.links.items r) ((others_told port held.links.items committed later (kept copies) told fit).each r within)
    where
      by : (o : Option Link) → LinkAt port r later o (kept copies) → LinkAt port r later o (seen copies)
      by None f = tt
      by (Some link) f = same_there port r later link (kept copies) (seen copies) (λ x here. same_seen copies x (none x (here ∙ numbered r within))) f

  ended_there : (at : At) → HasEndedIn at port held → at.repo < port.opened.repos → LinkAt port at.repo later (slice_get held.links.items at.repo) (seen copies)
  ended_there at h within = by (slice_get held.links.items at.repo) h.joined (fit.each at.repo within)
    where
      by : (o : Option Link) → session_in at.repo o ≡ Some at → LinkAt port at.repo committed o (kept copies) → LinkAt port at.repo later o (seen copies)
      by None e f = tt
      by (Some links.Apart) e f = cc
      by (Some (links.Joined s upto waits)) e f = ended_at port at.repo committed later (Some (links.Joined s upto waits)) (kept copies) (seen copies)
          (λ calm live. h.ended within calm (subst (λ (n : ℕ). lives (session (port.opened.base at.repo) (port.seen at.repo) n) ≡ true) (ap (λ (a : At). a.session) (same_Some (record { repo = at.repo; session = s }) at e)) live)) f
      by (Some (links.Unsettled sent index)) e f = cc

  elsewhere : (at : At) → HasEndedIn at port held → (r : ℕ) → r ≢ at.repo → (x : Oref) → x.repo ≡ r → changed copies x ≡ None
  elsewhere at h r other x here = by (h.written x)
    where
      by : (changed copies x ≡ None) ⊎ ((x.repo ≡ at.repo) × InSession at held) → changed copies x ≡ None
      by (inl e) = e
      by (inr g) = absurd (other (sym here ∙ g.0))

  -- what the try has written the client may hold
  pub stopped_links : (at : At) → HasStoppedIn at port held → LinksFit port later held.links.items (seen copies)
  stopped_links at (inl none) = record { each = λ r within. stays_at r within (λ x here. none x) }
  stopped_links at (inr h) = record {
    each = λ r within. elim (cases_eq r at.repo) [
      | inl e ↦ subst (λ (n : ℕ). LinkAt port n later (slice_get held.links.items n) (seen copies)) (sym e) (ended_there at h (subst (λ (n : ℕ). n < port.opened.repos) e within))
      | inr other ↦ stays_at r within (elsewhere at h r other)
    ];
  }
