-- Links behind calls that send transactions, and behind those that name no session.
use Rattle.law_cache_coherence.proofs.Lending.{Front, agrees_now, answered_front, fits_now, met_fits, none_aborted_now, none_more, one_more, own_now, sound_now, unmarked_front}
use Rattle.law_cache_coherence.proofs.Staying.{when_live}
use Rattle.law_cache_coherence.proofs.Working as works
use Rattle.law_cache_coherence.specs.Fitting.{Agrees, Copies, FitsAt, Kept, NoneToFinish, SameCopies, with_writes}
use Rattle.law_cache_coherence.specs.Seen.{IsSeenRight, LinkIn}
use Rattle.client_state.specs.Links.{is_reply}
use Rattle.client_state.specs.declared.link.Link.TheVariants.{Apart, Joined, Unsettled as unsettled}
use Rattle.client_state.specs.declared.link.Link.{Link}
use Rattle.client_state.specs.declared.link.Waits.{Waits}
use Rattle.log_entries.specs.declared.entry.Entry.TheVariants.{Decided, Finished, Prepared}
use Rattle.log_entries.specs.declared.entry.Entry.{Entry}
use Rattle.log_entries.specs.declared.request.Request.{Request}
use Rattle.spec_history.specs.History.{Base, is_undecided, known_by}
use Rattle.spec_history.specs.Sound.{sound}
use Rattle.session_outbox.specs.declared.answers.Asked as answer
use Rattle.session_outbox.specs.declared.answers.Verdict.{Verdict}
use Rattle.client_port.specs.Growing.{Called}
use Rattle.client_port.specs.Views.{Calm, Halted, MayCome, Unsettled, View}
use Rattle.client_port.specs.Works.{Answered, AskWork, CommitWork, DecideWork, Decides, Does, FinishWork, ForgetWork, OutageWith, PrepareWork, RequestRefused, alone_entry, is_prepared_by}
use Rattle.spec_trace.specs.Current.{NoneAborted}
use Rattle.spec_trace.proofs.Sessions.{ended_is_gone}
use Rattle.spec_trace.specs.Notices.{lives}
use Rattle.spec_trace.specs.Session.{session}
use Rattle.spec_trace.specs.Trace.{E, Item, M, entries}
use Rattle.spec_trace.specs.declared.mark.Mark.TheVariants as the
use Rattle.spec_trace.specs.Exact.{WritesOnPages}
use Rattle.std.proofs.Common.{Bool, List, false, refl, subst, sym, true, ◌∙◌, ◌≡◌, ℕ}
use Rattle.std.specs.Prelude.{Err, None, Ok, Option, Result, Some}
use Rattle.thor_value.specs.declared.names.Ts.{Ts}
use Rattle.repo_refusals.specs.declared.refusal.Refusal.TheVariants as refused
use Rattle.repo_refusals.specs.declared.refusal.Refusal.{Refusal}

-- ---- the trace at the call is a front of the one behind it

module _ (b : Base) (at after : List Item) (u : Unsettled) where
  request_front : (e : Entry) (s : ℕ) (q : Request) (k : Refusal) → RequestRefused e b at s q k after u → Front at after
  request_front e s q (refused.Reason k) w = one_more at after (M (the.Refused s (Some q) (refused.Reason k))) w.1.0
  request_front e s q (refused.Down n) w = none_more at after w.0
  request_front e s q (refused.Stopped n) w = none_more at after w.0
  request_front e s q (refused.Damaged n k) w = none_more at after w.0
  request_front e s q refused.NoMemory w = none_more at after w.0

  outage_front : (e : Entry) (valid : Type 0) (k : Refusal) → OutageWith e valid at k after u → Front at after
  outage_front e valid (refused.Reason k) w = absurd w
  outage_front e valid (refused.Down n) w = none_more at after w.0
  outage_front e valid (refused.Stopped n) w = none_more at after w.0
  outage_front e valid (refused.Damaged n k) w = none_more at after w.0
  outage_front e valid refused.NoMemory w = none_more at after w.0

  prepare_front : (s : ℕ) (q : Request) (result : Result ℕ Refusal) → PrepareWork s q result b at after u → Front at after
  prepare_front s q (Ok place) w = one_more at after (E (Prepared q)) w.2.0
  prepare_front s q (Err k) w = request_front (Prepared q) s q k w

  commit_front : (s : ℕ) (q : Request) (result : Result ℕ Refusal) → CommitWork s q result b at after u → Front at after
  commit_front s q (Ok place) w = one_more at after (E (alone_entry q)) w.2.0
  commit_front s q (Err k) w = request_front (alone_entry q) s q k w

  decides_front : (t : Ts) (k : Bool) (v : Verdict) (x : Bool) → Decides x t k v b at after u → Front at after
  decides_front t k v true w = one_more at after (E (Decided t k)) w.1.0
  decides_front t k v false w = none_more at after w.1.0

  decide_front : (s : ℕ) (t : Ts) (k : Bool) (result : Result Verdict Refusal) → DecideWork s t k result b at after u → Front at after
  decide_front s t k (Ok v) w = decides_front t k v (is_prepared_by s (known_by b (entries at) t)) w.2
  decide_front s t k (Err (refused.Reason z)) w = unmarked_front b at after u s (refused.Reason z) (w.0, ended_is_gone (session b at s) w.1, w.2)
  decide_front s t k (Err (refused.Down n)) w = none_more at after w.0
  decide_front s t k (Err (refused.Stopped n)) w = none_more at after w.0
  decide_front s t k (Err (refused.Damaged n z)) w = none_more at after w.0
  decide_front s t k (Err refused.NoMemory) w = none_more at after w.0

  finish_front : (t : Ts) (k : Bool) (result : Result (Option ℕ) Refusal) → FinishWork t k result b at after u → Front at after
  finish_front t k (Ok (Some place)) w = one_more at after (E (Finished t k)) w.2.0
  finish_front t k (Ok None) w = none_more at after w.1.0
  finish_front t k (Err z) w = outage_front (Finished t k) (is_undecided (known_by b (entries at) t) ≡ true) z w

  forget_front : (t : Ts) (result : Result (Unit {0}) Refusal) → ForgetWork t result b at after u → Front at after
  forget_front t (Ok done) w = one_more at after (M (the.Forgot t)) w.0
  forget_front t (Err z) w = none_more at after w.1.0

  ask_front : (t : Ts) (result : Result answer.Asked Refusal) → AskWork t result b at after u → Front at after
  ask_front t (Ok a) w = none_more at after w.1.0
  ask_front t (Err z) w = none_more at after w.1.0

-- ---- what is kept, behind a call

module _ (old new : View) (r : ℕ) (committed : Ts → Bool) (seen : IsSeenRight new r committed) (at : List Item) (met : Unsettled) (called : Called old new r at met) (front : Front at (new.seen r))
    (keeping : Kept) (h : FitsAt old.opened.client (old.opened.base r) (old.unsettled r) (old.seen r) committed keeping) where
  abbrev Fits : Unsettled → List Item → Kept → Type 0
  Fits x T k = FitsAt old.opened.client (old.opened.base r) x T committed k

  abbrev While : Type 0 → Type 0
  While fits = new.unsettled r ≡ Calm → lives (session (old.opened.base r) (new.seen r) keeping.session) ≡ true → fits

  here : While (Fits met at keeping)
  here = met_fits old new r committed at met called seen front keeping h

  calm_here : met ≡ Calm → While (Fits Calm at keeping)
  calm_here e calm live = subst (λ (x : Unsettled). Fits x at keeping) e (here calm live)

  -- what fits while the session is live fits
  so : (left : Copies) → While (Fits (new.unsettled r) (new.seen r) (record keeping { copies = left })) → Fits (new.unsettled r) (new.seen r) (record keeping { copies = left })
  so left f = when_live old.opened.client (old.opened.base r) (new.unsettled r) (new.seen r) committed (record keeping { copies = left }) (own_now old new r committed at met called seen front keeping h) f

  stays : (m : Unsettled) → met ≡ m → new.seen r ≡ at → new.unsettled r ≡ m → Fits (new.unsettled r) (new.seen r) keeping
  stays m e a k = so keeping.copies (λ calm live. subst (λ (T : List Item). Fits (new.unsettled r) T keeping) (sym a) (subst (λ (x : Unsettled). Fits x at keeping) (e ∙ sym k) (here calm live)))

  -- by each answer what is kept stays
  any_fits : {X : Type 0} (result : Result X Refusal) (work : Type 0) (m : Unsettled) → met ≡ m → Answered r result m at (new.seen r) (new.unsettled r) work → (work → Agrees (old.opened.base r) (entries (new.seen r)) keeping.session committed → Fits Calm at keeping → Fits (new.unsettled r) (new.seen r) keeping) → Fits (new.unsettled r) (new.seen r) keeping
  any_fits result work Calm e a f = so keeping.copies (λ calm live. f a (agrees_now old new r committed called.same seen keeping.session calm live) (calm_here e calm live))
  any_fits result work (MayCome d) e a f = stays (MayCome d) e a.1 a.2
  any_fits result work Halted e a f = stays Halted e a.1 a.2

  -- a call that is answered Ok has done its work
  ok_fits : {X : Type 0} (x : X) (work : Type 0) (left : Copies) (m : Unsettled) → met ≡ m → Answered {X = X} r (Ok x) m at (new.seen r) (new.unsettled r) work → (work → While (Fits Calm at keeping → Fits (new.unsettled r) (new.seen r) (record keeping { copies = left }))) → Fits (new.unsettled r) (new.seen r) (record keeping { copies = left })
  ok_fits x work left Calm e a f = so left (λ calm live. f a calm live (calm_here e calm live))
  ok_fits x work left (MayCome d) e a f = absurd a.0
  ok_fits x work left Halted e a f = absurd a.0

-- ---- calls of a session

module _ (old new : View) (r s upto : ℕ) (waits : Waits) (committed : Ts → Bool) (copies : Copies) (seen : IsSeenRight new r committed) (h : LinkIn old r committed (Joined s upto waits) copies) where
  abbrev b : Base
  b = old.opened.base r

  abbrev after : List Item
  after = new.seen r

  abbrev u : Unsettled
  u = new.unsettled r

  abbrev held : Copies → Kept
  held k = record { session = s; upto = upto; awaits = is_reply waits; copies = k }

  module _ (at : List Item) (met : Unsettled) (called : Called old new r at met) where
    sd : sound b (entries after)
    sd = sound_now old new r committed called.same seen

    none : NoneAborted b (entries after) committed
    none = none_aborted_now old new r committed called.same seen

    then_so : (left : Copies) → FitsAt old.opened.client b u after committed (held left) → LinkIn new r committed (Joined s upto waits) left
    then_so left fits = fits_now old new r committed called.same seen (Some (Joined s upto waits)) left fits

    module _ (q : Request) where
      prepare_done : (result : Result ℕ Refusal) → q.upto ≡ upto → committed q.tx ≡ false → PrepareWork s q result b at after u → FitsAt old.opened.client b Calm at committed (held copies) → FitsAt old.opened.client b u after committed (held copies)
      prepare_done (Ok place) up open' w calm = works.prepared old.opened.client b committed at after u (held copies) sd none calm q place up open' w
      prepare_done (Err k) up open' w calm = works.request_fits old.opened.client b committed at after u (held copies) sd none calm (Prepared q) q k w

  pub link_prepared : (q : Request) (result : Result ℕ Refusal) → Does old new r result (PrepareWork s q result) → q.upto ≡ upto → committed q.tx ≡ false → LinkIn new r committed (Joined s upto waits) copies
  link_prepared q result d up open' =
      let work : Type 0 = PrepareWork s q result b d.at after u in
      let front : Front d.at after = answered_front r result d.met d.at after u work (prepare_front b d.at after u s q result) d.answer in
      then_so d.at d.met d.called copies (any_fits old new r committed seen d.at d.met d.called front (held copies) h result work d.met refl d.answer (λ w agree calm. prepare_done d.at d.met d.called q result up open' w calm))

  -- by whatever session the call was made

  pub prepared_by_any : (n : ℕ) (q : Request) (result : Result ℕ Refusal) → Does old new r result (PrepareWork n q result) → (q.session ≡ s → q.upto ≡ upto) → ((place : ℕ) → result ≡ Ok place → committed q.tx ≡ false) → LinkIn new r committed (Joined s upto waits) copies
  prepared_by_any n q result d up open' =
      let work : Type 0 = PrepareWork n q result b d.at after u in
      let front : Front d.at after = answered_front r result d.met d.at after u work (prepare_front b d.at after u n q result) d.answer in
      then_so d.at d.met d.called copies (any_fits old new r committed seen d.at d.met d.called front (held copies) h result work d.met refl d.answer (λ w agree calm. by result refl d.at d.met d.called w calm))
    where
      by : (x : Result ℕ Refusal) → result ≡ x → (at : List Item) (met : Unsettled) (called : Called old new r at met) → PrepareWork n q x b at after u → FitsAt old.opened.client b Calm at committed (held copies) → FitsAt old.opened.client b u after committed (held copies)
      by (Ok place) is at met called w calm = works.prepared_any old.opened.client b committed at after u (held copies) (sd at met called) (none at met called) calm n q place up (open' place is) w
      by (Err k) is at met called w calm = works.request_any old.opened.client b committed at after u (held copies) (sd at met called) (none at met called) calm n (Prepared q) q k w

  pub uncommitted_by_any : (n : ℕ) (q : Request) (k : Refusal) → Does {X = ℕ} old new r (Err k) (CommitWork n q (Err k)) → LinkIn new r committed (Joined s upto waits) copies
  uncommitted_by_any n q k d =
      let work : Type 0 = CommitWork n q (Err k) b d.at after u in
      let front : Front d.at after = answered_front {X = ℕ} r (Err k) d.met d.at after u work (commit_front b d.at after u n q (Err k)) d.answer in
      then_so d.at d.met d.called copies (any_fits old new r committed seen d.at d.met d.called front (held copies) h {X = ℕ} (Err k) work d.met refl d.answer
      (λ w agree calm. works.request_any old.opened.client b committed d.at after u (held copies) (sd d.at d.met d.called) (none d.at d.met d.called) calm n (alone_entry q) q k w))

  pub given_up_by_any : (n : ℕ) (t : Ts) (v : Verdict) → Does {X = Verdict} old new r (Ok v) (DecideWork n t false (Ok v)) → LinkIn new r committed (Joined s upto waits) copies
  given_up_by_any n t v d =
      let work : Type 0 = DecideWork n t false (Ok v) b d.at after u in
      let front : Front d.at after = answered_front {X = Verdict} r (Ok v) d.met d.at after u work (decide_front b d.at after u n t false (Ok v)) d.answer in
      then_so d.at d.met d.called copies (ok_fits old new r committed seen d.at d.met d.called front (held copies) h v work copies d.met refl d.answer
      (λ w u' live calm. works.given_up_any old.opened.client b committed d.at after u (held copies) (sd d.at d.met d.called) (none d.at d.met d.called) calm n t v w))

  pub undecided_by_any : (n : ℕ) (t : Ts) (k : Bool) (z : Refusal) → Does {X = Verdict} old new r (Err z) (DecideWork n t k (Err z)) → LinkIn new r committed (Joined s upto waits) copies
  undecided_by_any n t k z d =
      let work : Type 0 = DecideWork n t k (Err z) b d.at after u in
      let front : Front d.at after = answered_front {X = Verdict} r (Err z) d.met d.at after u work (decide_front b d.at after u n t k (Err z)) d.answer in
      then_so d.at d.met d.called copies (any_fits old new r committed seen d.at d.met d.called front (held copies) h {X = Verdict} (Err z) work d.met refl d.answer
      (λ w agree calm. works.undecided_any old.opened.client b committed d.at after u (held copies) (sd d.at d.met d.called) (none d.at d.met d.called) calm n t k z w))

  pub told_by_any : (n : ℕ) (t : Ts) (v : Verdict) → (v.commit ≡ true → committed t ≡ true) → Does {X = Verdict} old new r (Ok v) (DecideWork n t true (Ok v)) → LinkIn new r committed (Joined s upto waits) copies
  told_by_any n t v told d =
      let work : Type 0 = DecideWork n t true (Ok v) b d.at after u in
      let front : Front d.at after = answered_front {X = Verdict} r (Ok v) d.met d.at after u work (decide_front b d.at after u n t true (Ok v)) d.answer in
      then_so d.at d.met d.called copies (ok_fits old new r committed seen d.at d.met d.called front (held copies) h v work copies d.met refl d.answer
      (λ w u' live calm. works.told_any old.opened.client b committed d.at after u (held copies) (sd d.at d.met d.called) (none d.at d.met d.called) calm n t v told w))

  pub link_committed : (q : Request) (place : ℕ) (left : Copies) (d : Does {X = ℕ} old new r (Ok place) (CommitWork s q (Ok place))) → q.upto ≡ upto → is_reply waits ≡ false → (u ≡ Calm → lives (session b after s) ≡ true → NoneToFinish b (entries d.at) s committed) → (FitsAt old.opened.client b Calm d.at committed (held copies) → b.tells ≡ true → WritesOnPages b d.at s q)
      → (b.tells ≡ true → SameCopies b left (with_writes q copies)) → LinkIn new r committed (Joined s upto waits) left
  link_committed q place left d up idle settled pages become =
      let work : Type 0 = CommitWork s q (Ok place) b d.at after u in
      let front : Front d.at after = answered_front {X = ℕ} r (Ok place) d.met d.at after u work (commit_front b d.at after u s q (Ok place)) d.answer in
      then_so d.at d.met d.called left (ok_fits old new r committed seen d.at d.met d.called front (held copies) h place work left d.met refl d.answer
      (λ w u' live calm. works.committed_one old.opened.client b committed d.at after u (held copies) (sd d.at d.met d.called) (none d.at d.met d.called) calm q place left up idle (settled u' live) (pages calm) become w))

  pub link_uncommitted : (q : Request) (k : Refusal) → Does {X = ℕ} old new r (Err k) (CommitWork s q (Err k)) → LinkIn new r committed (Joined s upto waits) copies
  link_uncommitted q k d =
      let work : Type 0 = CommitWork s q (Err k) b d.at after u in
      let front : Front d.at after = answered_front {X = ℕ} r (Err k) d.met d.at after u work (commit_front b d.at after u s q (Err k)) d.answer in
      then_so d.at d.met d.called copies (any_fits old new r committed seen d.at d.met d.called front (held copies) h {X = ℕ} (Err k) work d.met refl d.answer
      (λ w agree calm. works.request_fits old.opened.client b committed d.at after u (held copies) (sd d.at d.met d.called) (none d.at d.met d.called) calm (alone_entry q) q k w))

  pub link_given_up : (t : Ts) (v : Verdict) → Does {X = Verdict} old new r (Ok v) (DecideWork s t false (Ok v)) → LinkIn new r committed (Joined s upto waits) copies
  link_given_up t v d =
      let work : Type 0 = DecideWork s t false (Ok v) b d.at after u in
      let front : Front d.at after = answered_front {X = Verdict} r (Ok v) d.met d.at after u work (decide_front b d.at after u s t false (Ok v)) d.answer in
      then_so d.at d.met d.called copies (ok_fits old new r committed seen d.at d.met d.called front (held copies) h v work copies d.met refl d.answer
      (λ w u' live calm. works.given_up old.opened.client b committed d.at after u (held copies) (sd d.at d.met d.called) (none d.at d.met d.called) calm t v w))

  pub link_undecided : (t : Ts) (k : Bool) (z : Refusal) → Does {X = Verdict} old new r (Err z) (DecideWork s t k (Err z)) → LinkIn new r committed (Joined s upto waits) copies
  link_undecided t k z d =
      let work : Type 0 = DecideWork s t k (Err z) b d.at after u in
      let front : Front d.at after = answered_front {X = Verdict} r (Err z) d.met d.at after u work (decide_front b d.at after u s t k (Err z)) d.answer in
      then_so d.at d.met d.called copies (any_fits old new r committed seen d.at d.met d.called front (held copies) h {X = Verdict} (Err z) work d.met refl d.answer
      (λ w agree calm. works.undecided old.opened.client b committed d.at after u (held copies) (sd d.at d.met d.called) (none d.at d.met d.called) calm t k z w))

  -- ---- calls that name no session

  joined_finished : (t : Ts) (k : Bool) (result : Result (Option ℕ) Refusal) → Does old new r result (FinishWork t k result) → LinkIn new r committed (Joined s upto waits) copies
  joined_finished t k result d =
      let work : Type 0 = FinishWork t k result b d.at after u in
      let front : Front d.at after = answered_front r result d.met d.at after u work (finish_front b d.at after u t k result) d.answer in
      then_so d.at d.met d.called copies (any_fits old new r committed seen d.at d.met d.called front (held copies) h result work d.met refl d.answer
      (λ w agree calm. works.finished old.opened.client b committed d.at after u (held copies) (sd d.at d.met d.called) (none d.at d.met d.called) calm t k result agree w))

  joined_forgotten : (t : Ts) (result : Result (Unit {0}) Refusal) → Does old new r result (ForgetWork t result) → LinkIn new r committed (Joined s upto waits) copies
  joined_forgotten t result d =
      let work : Type 0 = ForgetWork t result b d.at after u in
      let front : Front d.at after = answered_front r result d.met d.at after u work (forget_front b d.at after u t result) d.answer in
      then_so d.at d.met d.called copies (any_fits old new r committed seen d.at d.met d.called front (held copies) h result work d.met refl d.answer
      (λ w agree calm. works.forgotten old.opened.client b committed d.at after u (held copies) (sd d.at d.met d.called) (none d.at d.met d.called) calm t result w))

  joined_asked : (t : Ts) (result : Result answer.Asked Refusal) → Does old new r result (AskWork t result) → LinkIn new r committed (Joined s upto waits) copies
  joined_asked t result d =
      let work : Type 0 = AskWork t result b d.at after u in
      let front : Front d.at after = answered_front r result d.met d.at after u work (ask_front b d.at after u t result) d.answer in
      then_so d.at d.met d.called copies (any_fits old new r committed seen d.at d.met d.called front (held copies) h result work d.met refl d.answer
      (λ w agree calm. works.asked old.opened.client b committed d.at after u (held copies) (sd d.at d.met d.called) (none d.at d.met d.called) calm t result w))

module _ (old new : View) (r : ℕ) (committed : Ts → Bool) (copies : Copies) where
  pub link_finished : (t : Ts) (k : Bool) (result : Result (Option ℕ) Refusal) (link : Link) → Does old new r result (FinishWork t k result) → IsSeenRight new r committed → LinkIn old r committed link copies → LinkIn new r committed link copies
  link_finished t k result Apart d seen h = fits_now old new r committed d.called.same seen (Some Apart) copies h
  link_finished t k result (Joined s upto waits) d seen h = joined_finished old new r s upto waits committed copies seen h t k result d
  link_finished t k result (unsettled sent i) d seen h = fits_now old new r committed d.called.same seen (Some (unsettled sent i)) copies h

  pub link_forgotten : (t : Ts) (result : Result (Unit {0}) Refusal) (link : Link) → Does old new r result (ForgetWork t result) → IsSeenRight new r committed → LinkIn old r committed link copies → LinkIn new r committed link copies
  link_forgotten t result Apart d seen h = fits_now old new r committed d.called.same seen (Some Apart) copies h
  link_forgotten t result (Joined s upto waits) d seen h = joined_forgotten old new r s upto waits committed copies seen h t result d
  link_forgotten t result (unsettled sent i) d seen h = fits_now old new r committed d.called.same seen (Some (unsettled sent i)) copies h

  pub link_asked : (t : Ts) (result : Result answer.Asked Refusal) (link : Link) → Does old new r result (AskWork t result) → IsSeenRight new r committed → LinkIn old r committed link copies → LinkIn new r committed link copies
  link_asked t result Apart d seen h = fits_now old new r committed d.called.same seen (Some Apart) copies h
  link_asked t result (Joined s upto waits) d seen h = joined_asked old new r s upto waits committed copies seen h t result d
  link_asked t result (unsettled sent i) d seen h = fits_now old new r committed d.called.same seen (Some (unsettled sent i)) copies h
