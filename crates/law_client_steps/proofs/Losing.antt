-- A session that was lost is no link's again.
use Rattle.law_cache_coherence.proofs.Leaving.{acts, behind_call}
use Rattle.law_cache_coherence.proofs.Lending.{Front, changes_here, none_more}
use Rattle.law_cache_coherence.proofs.Stepping.{opened_stays}
use Rattle.law_cache_coherence.proofs.Whole.{at_other}
use Rattle.client_state.specs.Calling.{is_session_of, links_asked, links_drawn, links_joined, links_refused}
use Rattle.client_state.specs.Learning.{is_session, links_learnt, without_session}
use Rattle.client_state.specs.Links.{acknowledged, answered, at_repo, changed_at, session_in, stopped, waiting}
use Rattle.client_state.specs.Moving.{Aborted, Asked, AskedInVain, AskedOwn, CommitRefused, Committed, Connected, Decided, DecideRefused, Drawn, EndsSo, Fetched, Finished, Forgot, Granted, LeavesSome, Learns, Loses, Moves, PrepareRefused, Prepared, ReceiveRefused, ReceiveStopped, Received, ReceivedNone, Rested, SendsNothing, Settled, StopsWaiting, Transformed, Unsent}
use Rattle.client_state.specs.Taking.{took}
use Rattle.client_state.specs.declared.held.Held.{Held}
use Rattle.client_state.specs.declared.link.Link.TheVariants.{Apart, Joined, Unsettled}
use Rattle.client_state.specs.declared.link.Link.{Link}
use Rattle.client_state.specs.declared.link.Waits.TheVariants.{Epoch, Idle, Past, Reply}
use Rattle.client_state.specs.declared.link.Waits.{Waits}
use Rattle.law_client_steps.specs.Acting.{acts_of}
use Rattle.law_client_steps.specs.Lost.{HasLost}
use Rattle.law_client_steps.specs.Runs.{Leads, Moment, Stepped, Turn, Waited}
use Rattle.spec_history.specs.History.{Base}
use Rattle.session_outbox.specs.declared.answers.Welcome.{Welcome}
use Rattle.session_outbox.specs.declared.message.Message.TheVariants.{Grant, Invalid, Page, Upgrade}
use Rattle.session_outbox.specs.declared.message.Message.{Message}
use Rattle.client_port.specs.Acting.{Acts}
use Rattle.client_port.specs.Growing.{Grew}
use Rattle.client_port.specs.Views as views
use Rattle.client_port.specs.Views.{Calm, Halted, MayCome, Opened, View}
use Rattle.client_port.specs.Works.{Answered, ConnectWork, Does}
use Rattle.base_reasons.specs.declared.reason.Reason.TheVariants as reasons
use Rattle.spec_trace.proofs.Exactness.{sessions-rise}
use Rattle.spec_trace.specs.Calls.{last_session}
use Rattle.spec_trace.specs.Trace.{Item}
use Rattle.std.proofs.Common.{Bool, List, [], ap, append_assoc, arith, cond, false, inl, inr, refl, subst, sym, true, ◌++◌, ◌∙◌, ◌∷◌, ◌≡◌, ◌≤◌, ℕ}
use Rattle.std.proofs.lemmas.Bool.{cases_eq, eqb-true}
use Rattle.std.specs.List.{slice_get}
use Rattle.std.specs.Option.{option_map}
use Rattle.std.specs.Prelude.{Err, None, Ok, Option, Result, Some, nat_eq, ◌<◌}
use Rattle.thor_value.specs.declared.names.Ts.{Ts}
use Rattle.repo_refusals.specs.declared.refusal.Refusal.TheVariants as refused
use Rattle.repo_refusals.specs.declared.refusal.Refusal.{Refusal}

-- ---- sessions are given with rising numbers

grew_rises : (b : Base) (c : ℕ) (u w : views.Unsettled) (T S : List Item) → Grew b c u T w S → last_session T ≤ last_session S
grew_rises b c u w T S g = subst (λ (x : List Item). last_session T ≤ last_session x) (sym g.ends) (sessions-rise T g.gap)

front_rises : (T S : List Item) → Front T S → last_session T ≤ last_session S
front_rises T S f = subst (λ (x : List Item). last_session T ≤ last_session x) (sym f.1) (sessions-rise T f.0)

-- what is seen of a repository grows
pub seen_grows : (old new : View) → Acts old new → (n : ℕ) → Front (old.seen n) (new.seen n)
seen_grows old new a n = elim (acts (λ e. false) old new a (λ e is. refl)) [
  | inl same ↦ subst (λ (v : View). Front (old.seen n) (v.seen n)) (sym same) (none_more (old.seen n) (old.seen n) refl)
  | inr c ↦ behind_call (λ e. false) old new c n (λ m. Front (old.seen m) (new.seen m)) (λ g. grown (old.opened.base n) (old.unsettled n) (new.unsettled n) (old.seen n) (new.seen n) g)
      (λ g left front. fronts (old.seen n) c.at (new.seen n) (grown (old.opened.base n) (old.unsettled n) c.met (old.seen n) c.at g) front)
]
  where
    grown : (b : Base) (u w : views.Unsettled) (T S : List Item) → Grew b old.opened.client u T w S → Front T S
    grown b u w T S g = (g.gap, g.ends)

    fronts : (T S R : List Item) → Front T S → Front S R → Front T R
    fronts T S R f g = (f.0 ++ g.0, g.1 ∙ ap (λ (U : List Item). U ++ g.0) f.1 ∙ append_assoc T f.0 g.0)

seen_rises : (old new : View) → Acts old new → (n : ℕ) → last_session (old.seen n) ≤ last_session (new.seen n)
seen_rises old new a n = front_rises (old.seen n) (new.seen n) (seen_grows old new a n)

-- The session was the link's before, or the client was told it as it connected there.
pub data From (s : ℕ) (old new : View) (before : Held) (r : ℕ) : Type 0 where
  WasIts : is_session_of s (slice_get before.links.items r) ≡ true → From s old new before r
  IsGiven : (w : Welcome) → Does {X = Welcome} old new r (Ok w) (ConnectWork before.client (Ok w)) → w.session ≡ s → From s old new before r

-- ---- links

module _ (s : ℕ) where
  abbrev Not : Option Link → Type 0
  Not link = is_session_of s link ≡ false

  at_keeps : (links : List Link) (k r : ℕ) (f : Link → Link) → (r ≡ k → (l : Link) → is_session s l ≡ false → is_session s (f l) ≡ false) → Not (slice_get links r) → Not (slice_get (at_repo links k f) r)
  at_keeps links k r f keeps not' = elim (cases_eq r k) [
    | inl e ↦ subst (λ (n : ℕ). Not (slice_get (at_repo links k f) n)) (sym e) (by (slice_get links k) refl e (subst (λ (n : ℕ). Not (slice_get links n)) e not'))
    | inr ne ↦ subst Not (sym (at_other links k r f ne)) not'
  ]
    where
      by : (o : Option Link) → slice_get links k ≡ o → r ≡ k → Not (slice_get links k) → Not (slice_get (at_repo links k f) k)
      by None is e h = subst (λ (ls : List Link). Not (slice_get ls k)) (sym (ap (changed_at links k f) is)) h
      by (Some l) is e h = subst Not (sym (changes_here links k f l is)) (keeps e l (subst Not is h))

  waiting_keeps : (w : Waits) (l : Link) → is_session s l ≡ false → is_session s (waiting w l) ≡ false
  waiting_keeps w Apart h = refl
  waiting_keeps w (Joined n upto waits) h = h
  waiting_keeps w (Unsettled sent index) h = refl

  stopped_keeps : (l : Link) → is_session s l ≡ false → is_session s (stopped l) ≡ false
  stopped_keeps Apart h = refl
  stopped_keeps (Joined n upto waits) h = h
  stopped_keeps (Unsettled sent index) h = refl

  answered_keeps : (place : ℕ) (l : Link) → is_session s l ≡ false → is_session s (answered (acknowledged place l)) ≡ false
  answered_keeps place Apart h = refl
  answered_keeps place (Joined n upto waits) h = h
  answered_keeps place (Unsettled sent index) h = refl

  acknowledged_keeps : (place : ℕ) (l : Link) → is_session s l ≡ false → is_session s (acknowledged place l) ≡ false
  acknowledged_keeps place Apart h = refl
  acknowledged_keeps place (Joined n upto waits) h = h
  acknowledged_keeps place (Unsettled sent index) h = refl

  took_keeps : (m : Message) (l : Link) → is_session s l ≡ false → is_session s (took m l) ≡ false
  took_keeps (Page page bytes place) l h = answered_keeps place l h
  took_keeps (Grant page place) l h = answered_keeps place l h
  took_keeps (Invalid names place) l h = acknowledged_keeps _ l h
  took_keeps (Upgrade number text place) l h = acknowledged_keeps _ l h

  without_keeps : (n : ℕ) (l : Link) → is_session s l ≡ false → is_session s (without_session n l) ≡ false
  without_keeps n l h = by (is_session n l)
    where
      by : (t : Bool) → is_session s (cond t Apart l) ≡ false
      by true = refl
      by false = h

  module _ (links : List Link) (k r : ℕ) (h : Not (slice_get links r)) where
    refused_keeps : (z : Refusal) → Not (slice_get (links_refused z k links) r)
    refused_keeps (refused.Reason (reasons.Gone n)) = at_keeps links k r (without_session n) (λ e. without_keeps n) h
    refused_keeps (refused.Reason (reasons.Epoch m)) = h
    refused_keeps (refused.Reason (reasons.Blocked t)) = h
    refused_keeps (refused.Reason (reasons.TooOld t)) = h
    refused_keeps (refused.Reason (reasons.Stale x p)) = h
    refused_keeps (refused.Reason (reasons.Earlier t x)) = h
    refused_keeps (refused.Reason (reasons.Later t x)) = h
    refused_keeps (refused.Reason (reasons.Full m)) = h
    refused_keeps (refused.Reason reasons.ClockEnd) = h
    refused_keeps (refused.Down m) = h
    refused_keeps (refused.Stopped m) = h
    refused_keeps (refused.Damaged m p) = h
    refused_keeps refused.NoMemory = h

    learnt_keeps : (z : Refusal) → Not (slice_get (links_learnt z k links) r)
    learnt_keeps (refused.Reason (reasons.Gone n)) = at_keeps links k r (without_session n) (λ e. without_keeps n) h
    learnt_keeps (refused.Reason (reasons.Epoch m)) = at_keeps links k r (waiting (Epoch m)) (λ e. waiting_keeps (Epoch m)) h
    learnt_keeps (refused.Reason (reasons.Blocked t)) = h
    learnt_keeps (refused.Reason (reasons.TooOld t)) = h
    learnt_keeps (refused.Reason (reasons.Stale x p)) = at_keeps links k r (waiting (Past p)) (λ e. waiting_keeps (Past p)) h
    learnt_keeps (refused.Reason (reasons.Earlier t x)) = h
    learnt_keeps (refused.Reason (reasons.Later t x)) = h
    learnt_keeps (refused.Reason (reasons.Full m)) = h
    learnt_keeps (refused.Reason reasons.ClockEnd) = h
    learnt_keeps (refused.Down m) = h
    learnt_keeps (refused.Stopped m) = h
    learnt_keeps (refused.Damaged m p) = h
    learnt_keeps refused.NoMemory = h

    asked_keeps : (result : Result (Unit {0}) Refusal) → Not (slice_get (links_asked result k links) r)
    asked_keeps (Ok done) = at_keeps links k r (waiting Reply) (λ e. waiting_keeps Reply) h
    asked_keeps (Err z) = refused_keeps z

    drawn_keeps : (result : Result Ts Refusal) → Not (slice_get (links_drawn result k links) r)
    drawn_keeps (Ok t) = h
    drawn_keeps (Err z) = refused_keeps z

  -- ---- a step

  back : (x y : Bool) → (x ≡ false → y ≡ false) → y ≡ true → x ≡ true
  back true y keeps e = refl
  back false y keeps e = let f : false ≡ true = sym (keeps refl) ∙ e in cc

  module _ (old new : View) (before after : Held) (r : ℕ) (here : is_session_of s (slice_get after.links.items r) ≡ true) where
    abbrev links : List Link
    links = before.links.items

    abbrev Before : Type 0
    Before = From s old new before r

    so : (ls : List Link) → after.links.items ≡ ls → (Not (slice_get links r) → Not (slice_get ls r)) → Before
    so ls e keeps = WasIts (back (is_session_of s (slice_get links r)) (is_session_of s (slice_get ls r)) keeps (subst (λ (xs : List Link). is_session_of s (slice_get xs r) ≡ true) e here))

    same : after.links.items ≡ links → Before
    same e = so links e (λ h. h)

    joins : (repo : ℕ) (result : Result Welcome Refusal) → Does old new repo result (ConnectWork before.client result) → after.links.items ≡ links_joined result repo links → Before
    joins repo (Err k) d e = same e
    joins repo (Ok w) d e = elim (cases_eq r repo) [
      | inl is ↦ by (slice_get links repo) refl is
      | inr ne ↦ so (at_repo links repo (λ l. Joined w.session w.place Idle)) e (λ h. subst Not (sym (at_other links repo r (λ l. Joined w.session w.place Idle) ne)) h)
    ]
      where
        by : (o : Option Link) → slice_get links repo ≡ o → r ≡ repo → Before
        by None none is = same (e ∙ ap (changed_at links repo (λ l. Joined w.session w.place Idle)) none)
        by (Some l) some is =
            let there : is_session_of s (slice_get (at_repo links repo (λ l. Joined w.session w.place Idle)) repo) ≡ true = subst (λ (n : ℕ). is_session_of s (slice_get (at_repo links repo (λ l. Joined w.session w.place Idle)) n) ≡ true) is (subst (λ (xs : List Link). is_session_of s (slice_get xs r) ≡ true) e here) in
            let number : nat_eq w.session s ≡ true = ap (is_session_of s) (sym (changes_here links repo (λ l. Joined w.session w.place Idle) l some)) ∙ there in
            IsGiven w (subst (λ (n : ℕ). Does {X = Welcome} old new n (Ok w) (ConnectWork before.client (Ok w))) (sym is) d) (eqb-true w.session s number)

    stops : (repo : ℕ) → StopsWaiting repo before after → Before
    stops repo stop = WasIts (back (is_session_of s (slice_get links r)) (is_session_of s (slice_get after.links.items r)) by here)
      where
        one : (f : Link → Link) → ((l : Link) → is_session s l ≡ false → is_session s (f l) ≡ false) → (o : Option Link) → Not o → Not (option_map f o)
        one f keeps None n = refl
        one f keeps (Some l) n = keeps l n

        by : Not (slice_get links r) → Not (slice_get after.links.items r)
        by h = elim (cases_eq r repo) [
          | inl e ↦ subst (λ (n : ℕ). Not (slice_get after.links.items n)) (sym e) (subst Not (sym stop.here) (one (waiting Idle) (waiting_keeps Idle) (slice_get links repo) (subst (λ (n : ℕ). Not (slice_get links n)) e h)))
          | inr ne ↦ subst Not (sym (stop.others r ne)) (one stopped stopped_keeps (slice_get links r) h)
        ]

    leaves : LeavesSome before after → Before
    leaves leave = WasIts (back (is_session_of s (slice_get links r)) (is_session_of s (slice_get after.links.items r)) by here)
      where
        apart : (o : Option Link) → session_in r o ≡ None → Not o
        apart None e = refl
        apart (Some Apart) e = refl
        apart (Some (Joined n upto waits)) e = cc
        apart (Some (Unsettled sent index)) e = refl

        by : Not (slice_get links r) → Not (slice_get after.links.items r)
        by h = elim (leave r) [
          | inl e ↦ subst Not (sym e) h
          | inr left ↦ apart (slice_get after.links.items r) left.apart
        ]

    ends : (x : Bool) → EndsSo x before after → Before
    ends true e = same e.1
    ends false e = same e.1

    sends : SendsNothing old new before after → Before
    sends (Rested stays less) = same less.1
    sends (Connected repo f apart stays fewer) = joins repo f.result (f.call refl) f.links
    sends (Fetched at page left f idle stays fewer) = so (links_asked f.result at.repo links) f.links (λ h. asked_keeps links at.repo r h f.result)
    sends (Granted at left f idle stays fewer) = so (links_asked f.result at.repo links) f.links (λ h. asked_keeps links at.repo r h f.result)
    sends (Drawn at answer left f there stays fewer) = so (links_drawn f.result at.repo links) f.links (λ h. drawn_keeps links at.repo r h f.result)
    sends (Asked n t result d less) = same less.1
    sends (Settled n t v sent index d there e stays fewer) = so (at_repo links n (λ l. Apart)) e (λ h. at_keeps links n r (λ l. Apart) (λ e l was. refl) h)

    pub steps : Moves old new before after → Before
    steps (Unsent a) = sends a
    steps (Received at m d there takes stays) = so (at_repo links at.repo (took m)) takes.links (λ h. at_keeps links at.repo r (took m) (λ e. took_keeps m) h)
    steps (ReceivedNone at d there (inl e) stays fewer) = same e
    steps (ReceivedNone at d there (inr e) stays fewer) = so (at_repo links at.repo (waiting Idle)) e (λ h. at_keeps links at.repo r (waiting Idle) (λ e. waiting_keeps Idle) h)
    steps (ReceiveRefused at k d there loses stays) = so (links_refused k at.repo links) loses.links (λ h. refused_keeps links at.repo r h k)
    steps (ReceiveStopped at k d there outage stop stays fewer) = stops at.repo stop
    steps (Prepared x place d of less) = same less.1
    steps (PrepareRefused x k d of idle learns stays) = so (links_learnt k x.at.repo links) learns.links (λ h. learnt_keeps links x.at.repo r h k)
    steps (Committed x place d of in_it wrote held idle keeps) = same keeps.1
    steps (Transformed x place oref made d of session writes here held idle keeps) = same keeps.1
    steps (CommitRefused x k d of idle learns stays) = so (links_learnt k x.at.repo links) learns.links (λ h. learnt_keeps links x.at.repo r h k)
    steps (Decided at t v d idle e) = ends v.commit e
    steps (Aborted at t v d less) = same less.1
    steps (DecideRefused at t commit k d loses stays) = so (links_refused k at.repo links) loses.links (λ h. refused_keeps links at.repo r h k)
    steps (Finished n t commit result d less) = same less.1
    steps (Forgot n t result d less) = same less.1
    steps (AskedOwn n t v d e) = ends v.commit e
    steps (AskedInVain n t result d leave stays fewer) = leaves leave

-- a session that was given isn't given again
given_once : (old new : View) (before : Held) (r s : ℕ) → s ≤ last_session (old.seen r) → is_session_of s (slice_get before.links.items r) ≡ false → From s old new before r → ⊥
given_once old new before r s given gone (WasIts e) = let f : false ≡ true = sym gone ∙ e in cc
given_once old new before r s given gone (IsGiven w d is) = by d.met d.answer
  where
    by : (m : views.Unsettled) → Answered {X = Welcome} r (Ok w) m d.at (new.seen r) (new.unsettled r) (ConnectWork before.client (Ok w) (old.opened.base r) d.at (new.seen r) (new.unsettled r)) → ⊥
    by Calm a =
        let up : last_session (old.seen r) ≤ last_session d.at = grew_rises (old.opened.base r) old.opened.client (old.unsettled r) d.met (old.seen r) d.at d.called.reached in
        let number = a.0.session in
        absurd (omega (arith, number, is))
    by (MayCome i) a = absurd a.0
    by Halted a = absurd a.0

-- ---- a run

turn_lost : (a z : Moment) (r s : ℕ) → Turn a z → r < a.port.opened.repos → HasLost r s a → HasLost r s z
turn_lost a z r s (Stepped moves owed told right) within lost = record {
  given = rises (last_session (a.port.seen r)) (last_session (z.port.seen r)) lost.given (seen_rises a.port z.port (acts_of a.port z.port a.held z.held moves) r);
  gone = by (is_session_of s (slice_get z.held.links.items r)) refl;
}
  where
    by : (x : Bool) → is_session_of s (slice_get z.held.links.items r) ≡ x → x ≡ false
    by false e = refl
    by true e = absurd (given_once a.port z.port a.held r s lost.given lost.gone (steps s a.port z.port a.held z.held r e moves))

    rises : (n m : ℕ) → s ≤ n → n ≤ m → s ≤ m
    rises n m l k = omega arith
turn_lost a z r s (Waited same opened grew told right) within lost = record {
  given = rises (last_session (a.port.seen r)) (last_session (z.port.seen r)) lost.given (grew_rises (a.port.opened.base r) a.port.opened.client (a.port.unsettled r) (z.port.unsettled r) (a.port.seen r) (z.port.seen r) (grew r within));
  gone = subst (λ (x : Held). is_session_of s (slice_get x.links.items r) ≡ false) (sym same) lost.gone;
}
  where
    rises : (n m : ℕ) → s ≤ n → n ≤ m → s ≤ m
    rises n m l k = omega arith

same_opened : (a z : Moment) → Turn a z → z.port.opened ≡ a.port.opened
same_opened a z (Stepped moves owed told right) = opened_stays a.port z.port (acts_of a.port z.port a.held z.held moves)
same_opened a z (Waited same opened grew told right) = opened

pub ever_lost : (a z : Moment) (between : List Moment) (r s : ℕ) → Leads a between z → r < a.port.opened.repos → HasLost r s a → HasLost r s z
ever_lost a z [] r s t within lost = turn_lost a z r s t within lost
ever_lost a z (m ∷ ms) r s t within lost = ever_lost m z ms r s t.1 (subst (λ (o : Opened). r < o.repos) (sym (same_opened a m t.0)) within) (turn_lost a m r s t.0 within lost)

-- ---- how it is lost

gone_here : (links : List Link) (r s : ℕ) → is_session_of s (slice_get (at_repo links r (without_session s)) r) ≡ false
gone_here links r s = by (slice_get links r) refl
  where
    none : (l : Link) (t : Bool) → is_session s l ≡ t → is_session s (cond t Apart l) ≡ false
    none l true e = refl
    none l false e = e

    by : (o : Option Link) → slice_get links r ≡ o → is_session_of s (slice_get (at_repo links r (without_session s)) r) ≡ false
    by None is = subst (λ (ls : List Link). is_session_of s (slice_get ls r) ≡ false) (sym (ap (changed_at links r (without_session s)) is)) (ap (is_session_of s) is)
    by (Some l) is = subst (λ (o : Option Link). is_session_of s o ≡ false) (sym (changes_here links r (without_session s) l is)) (none l (is_session s l) refl)

pub learnt_lost : (before after : Held) (r s : ℕ) → Learns (refused.Reason (reasons.Gone s)) r before after → is_session_of s (slice_get after.links.items r) ≡ false
learnt_lost before after r s learns = subst (λ (ls : List Link). is_session_of s (slice_get ls r) ≡ false) (sym learns.links) (gone_here before.links.items r s)

pub called_lost : (before after : Held) (r s : ℕ) → Loses (refused.Reason (reasons.Gone s)) r before after → is_session_of s (slice_get after.links.items r) ≡ false
called_lost before after r s loses = subst (λ (ls : List Link). is_session_of s (slice_get ls r) ≡ false) (sym loses.links) (gone_here before.links.items r s)
