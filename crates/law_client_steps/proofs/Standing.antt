-- What an accepted request of a fitting client has read is what stands there.
use Rattle.client_cache.specs.Copies.{kept}
use Rattle.law_cache_coherence.proofs.Lending.{Front, answered_front, met_standing, one_more, sound_now}
use Rattle.law_cache_coherence.proofs.Resting.{rests}
use Rattle.law_cache_coherence.proofs.Staying.{moved_stands}
use Rattle.law_cache_coherence.specs.Fitting.{FitsAt, Kept}
use Rattle.law_cache_coherence.specs.Seen.{IsSeenRight, LinkAt, LinkIn}
use Rattle.client_state.specs.Calling.{upto_in}
use Rattle.client_state.specs.Links.{is_reply}
use Rattle.client_state.specs.Moving.{InSession}
use Rattle.client_state.specs.declared.held.Held.{Held}
use Rattle.client_state.specs.declared.link.Link.TheVariants.{Joined}
use Rattle.client_state.specs.declared.link.Link.{Link}
use Rattle.log_entries.specs.declared.entry.Entry.TheVariants.{One, Prepared, Upgraded}
use Rattle.log_entries.specs.declared.entry.Entry.{Entry}
use Rattle.log_entries.specs.declared.request.Request.{Request}
use Rattle.law_client_steps.proofs.Changes.{HasSession, has_session}
use Rattle.law_client_steps.proofs.Paging.{accepted_lives}
use Rattle.law_client_steps.specs.Owed.{ClientFits}
use Rattle.spec_history.proofs.Growth.{sound-beginning}
use Rattle.spec_history.specs.History.{Base, is_life, known_by, state}
use Rattle.spec_history.specs.Requests.{has_read, is_upgrade}
use Rattle.spec_history.specs.Sound.{sound}
use Rattle.session_outbox.specs.declared.answers.At.{At}
use Rattle.client_port.specs.Growing.{Called}
use Rattle.client_port.specs.Views.{Calm, Halted, MayCome, Opened, Unsettled, View}
use Rattle.client_port.specs.Works.{Answered, CommitWork, Does, PrepareWork, alone_entry}
use Rattle.spec_trace.proofs.Sessions.{session-end}
use Rattle.spec_trace.proofs.Traces.{entries-append}
use Rattle.spec_trace.specs.Notices.{is_unended}
use Rattle.spec_trace.specs.Session.{Session, lives_on, meet, session}
use Rattle.spec_trace.specs.Trace.{E, Item, entries}
use Rattle.spec_trace.specs.Verdict.{verdict, verdict_by}
use Rattle.std.proofs.Common.{Bool, [], ap, cond, false, refl, subst, sym, true, ◌++◌, ◌∙◌, ◌∷◌, ◌≡◌, ℕ}
use Rattle.std.specs.List.{slice_get}
use Rattle.std.specs.Prelude.{List, None, Ok, Option, Some, ◌<◌}
use Rattle.thor_value.specs.FiniteMap.{get}
use Rattle.thor_value.specs.declared.names.Oref.{Oref}
use Rattle.thor_value.specs.declared.names.Ts.{Ts}
use Rattle.thor_value.specs.declared.values.Obj.{Obj}

no_life : (q : Request) → is_life (alone_entry q) ≡ false
no_life q = by (is_upgrade q)
  where
    by : (t : Bool) → is_life (cond t (Upgraded q) (One q)) ≡ false
    by true = refl
    by false = refl

module _ (old new : View) (at : At) (q : Request) (held : Held) (committed : Ts → Bool) (seen : IsSeenRight new at.repo committed) (within : at.repo < old.opened.repos) (there : InSession at held) (up : q.upto ≡ upto_in (slice_get held.links.items at.repo))
    (tells : (old.opened.base at.repo).tells ≡ true) (fits : ClientFits old committed held) (x : Oref) (o : Obj) (here : x.repo ≡ at.repo) (read : has_read q x ≡ true) (copy : kept held.cache.cache x ≡ Some o) where
  abbrev b : Base
  b = old.opened.base at.repo

  abbrev Stands : List Item → Type 0
  Stands T = get (state b (entries T)).objects x ≡ Some o

  -- the session hasn't ended behind the entry
  still_there : (T : List Item) (e : Entry) → is_life e ≡ false → new.seen at.repo ≡ T ++ E e ∷ [] → verdict b T at.session q ≡ None → is_unended (session b (new.seen at.repo) at.session) ≡ true
  still_there T e plain behind ok = ap (λ (S : List Item). is_unended (session b S at.session)) behind ∙ by (session b T at.session) refl ok
    where
      on : (v : Session) → lives_on v.client (E e) ≡ true
      on v = ap (λ (t : Bool). cond t false true) plain

      by : (o : Option Session) → session b T at.session ≡ o → verdict_by b (entries T) at.session q o ≡ None → is_unended (session b (T ++ E e ∷ []) at.session) ≡ true
      by None is v = cc
      by (Some v) is accepts =
          ap is_unended (session-end b T (E e) at.session ∙ ap (λ (u : Option Session). meet b at.session (state b (entries T)) u (E e)) is) ∙ moved_stands b at.session (state b (entries T)) (E e) v (accepted_lives b T at.session q v accepts) (on v)

  accepted : (T : List Item) (met : Unsettled) → Called old new at.repo T met → Front T (new.seen at.repo) → met ≡ Calm → new.unsettled at.repo ≡ Calm → is_unended (session b (new.seen at.repo) at.session) ≡ true → verdict b T at.session q ≡ None → known_by b (entries T) q.tx ≡ None → Stands T
  accepted T met called front calm settled on ok once =
      let h : HasSession at (slice_get held.links.items at.repo) = has_session at (slice_get held.links.items at.repo) there in
      let link : LinkIn old at.repo committed (Joined at.session h.upto h.waits) (kept held.cache.cache) = subst (λ (l : Option Link). LinkAt old at.repo committed l (kept held.cache.cache)) h.is (fits.links.each at.repo within) in
      let k : Kept = record { session = at.session; upto = h.upto; awaits = is_reply h.waits; copies = kept held.cache.cache } in
      let now : FitsAt old.opened.client b met T committed k = met_standing old new at.repo committed T met called seen front k link settled on in
      let sd : sound b (entries T) = sound-beginning b (entries T) (entries front.0) (subst (sound b) (ap entries front.1 ∙ entries-append T front.0) (sound_now old new at.repo committed called.same seen)) in
      rests old.opened.client b T committed k q sd once (subst (λ (u : Unsettled). FitsAt old.opened.client b u T committed k) calm now) ok (up ∙ ap upto_in h.is) tells x o
      (here ∙ sym (subst (λ (z : Opened). (z.base at.repo).repo ≡ at.repo) called.same seen.numbered)) read copy

  commits : (place : ℕ) (d : Does {X = ℕ} old new at.repo (Ok place) (CommitWork at.session q (Ok place))) → known_by b (entries d.at) q.tx ≡ None → Stands d.at
  commits place d once = by d.met refl d.answer
    where
      front : Front d.at (new.seen at.repo)
      front = answered_front {X = ℕ} at.repo (Ok place) d.met d.at (new.seen at.repo) (new.unsettled at.repo) (CommitWork at.session q (Ok place) b d.at (new.seen at.repo) (new.unsettled at.repo)) (λ w. one_more d.at (new.seen at.repo) (E (alone_entry q)) w.2.0) d.answer

      by : (m : Unsettled) → d.met ≡ m → Answered {X = ℕ} at.repo (Ok place) m d.at (new.seen at.repo) (new.unsettled at.repo) (CommitWork at.session q (Ok place) b d.at (new.seen at.repo) (new.unsettled at.repo)) → Stands d.at
      by Calm e w = accepted d.at d.met d.called front e w.2.1 (still_there d.at (alone_entry q) (no_life q) w.2.0 w.0) w.0 once
      by (MayCome i) e w = absurd w.0
      by Halted e w = absurd w.0

  prepares : (place : ℕ) (d : Does {X = ℕ} old new at.repo (Ok place) (PrepareWork at.session q (Ok place))) → known_by b (entries d.at) q.tx ≡ None → Stands d.at
  prepares place d once = by d.met refl d.answer
    where
      front : Front d.at (new.seen at.repo)
      front = answered_front {X = ℕ} at.repo (Ok place) d.met d.at (new.seen at.repo) (new.unsettled at.repo) (PrepareWork at.session q (Ok place) b d.at (new.seen at.repo) (new.unsettled at.repo)) (λ w. one_more d.at (new.seen at.repo) (E (Prepared q)) w.2.0) d.answer

      by : (m : Unsettled) → d.met ≡ m → Answered {X = ℕ} at.repo (Ok place) m d.at (new.seen at.repo) (new.unsettled at.repo) (PrepareWork at.session q (Ok place) b d.at (new.seen at.repo) (new.unsettled at.repo)) → Stands d.at
      by Calm e w = accepted d.at d.met d.called front e w.2.1 (still_there d.at (Prepared q) refl w.2.0 w.0) w.0 once
      by (MayCome i) e w = absurd w.0
      by Halted e w = absurd w.0

pub committed_reads : (old new : View) (at : At) (q : Request) (place : ℕ) (held : Held) (committed : Ts → Bool) (d : Does {X = ℕ} old new at.repo (Ok place) (CommitWork at.session q (Ok place))) → IsSeenRight new at.repo committed → at.repo < old.opened.repos
    → InSession at held → q.upto ≡ upto_in (slice_get held.links.items at.repo) → known_by (old.opened.base at.repo) (entries d.at) q.tx ≡ None → (old.opened.base at.repo).tells ≡ true → ClientFits old committed held
    → (x : Oref) (o : Obj) → x.repo ≡ at.repo → has_read q x ≡ true → kept held.cache.cache x ≡ Some o → get (state (old.opened.base at.repo) (entries d.at)).objects x ≡ Some o
committed_reads old new at q place held committed d seen within there up once tells fits x o here read copy = commits old new at q held committed seen within there up tells fits x o here read copy place d once

pub prepared_reads : (old new : View) (at : At) (q : Request) (place : ℕ) (held : Held) (committed : Ts → Bool) (d : Does {X = ℕ} old new at.repo (Ok place) (PrepareWork at.session q (Ok place))) → IsSeenRight new at.repo committed → at.repo < old.opened.repos
    → InSession at held → q.upto ≡ upto_in (slice_get held.links.items at.repo) → known_by (old.opened.base at.repo) (entries d.at) q.tx ≡ None → (old.opened.base at.repo).tells ≡ true → ClientFits old committed held
    → (x : Oref) (o : Obj) → x.repo ≡ at.repo → has_read q x ≡ true → kept held.cache.cache x ≡ Some o → get (state (old.opened.base at.repo) (entries d.at)).objects x ≡ Some o
prepared_reads old new at q place held committed d seen within there up once tells fits x o here read copy = prepares old new at q held committed seen within there up tells fits x o here read copy place d once
