-- What each call's work makes of what a client keeps.
use Rattle.law_cache_coherence.proofs.Asking.{fits_begun, fits_fetched, fits_granted, fits_marked}
use Rattle.law_cache_coherence.proofs.Committing.{fits_committed, fits_finishing, fits_undecided, is_open_so, request_acks, some_at}
use Rattle.law_cache_coherence.proofs.Growing.{grown_one}
use Rattle.law_cache_coherence.proofs.Taking.{fits_taken}
use Rattle.law_cache_coherence.specs.Fitting.{Agrees, Copies, FitsAt, HoldsNone, Kept, NoneToFinish, SameCopies, awaits_behind, behind_message, with_writes}
use Rattle.log_entries.specs.declared.entry.Entry.TheVariants.{Decided, Finished, One, Prepared, Upgraded}
use Rattle.log_entries.specs.declared.entry.Entry.{Entry}
use Rattle.log_entries.specs.declared.request.Request.{Request}
use Rattle.spec_history.proofs.Growth.{length-state}
use Rattle.spec_history.specs.History.{Base, Known, commit_of, is_undecided, is_open, commit_by, known_by, state}
use Rattle.spec_history.specs.Requests.{is_upgrade}
use Rattle.spec_history.specs.Sound.{sound}
use Rattle.session_outbox.specs.declared.answers.Asked as answer
use Rattle.session_outbox.specs.declared.answers.Verdict.{Verdict}
use Rattle.session_outbox.specs.declared.answers.Welcome.{Welcome}
use Rattle.session_outbox.specs.declared.message.Message.{Message}
use Rattle.client_port.specs.Views.{Calm, Halted, MayCome, Unsettled}
use Rattle.client_port.specs.Works.{AskWork, CommitWork, ConnectWork, DecideWork, Decides, DrawWork, FetchWork, FinishWork, ForgetWork, GrantWork, IsAsMet, IsBehind, IsHalted, MayHaveLeft, OutageWith, PrepareWork, ReceiveWork, RefusedMarked, RefusedUnmarked, RequestRefused, is_prepared_by}
use Rattle.spec_trace.proofs.Sessions.{ended_is_gone}
use Rattle.spec_trace.specs.Notices.{lives, notice_of}
use Rattle.spec_trace.proofs.Taken.{after-mark}
use Rattle.spec_trace.specs.Calls.{next_page}
use Rattle.spec_trace.specs.Current.{InStep, NoneAborted}
use Rattle.spec_trace.specs.Session.{acked_after, bound, place_of, session, session_lives, upto_of}
use Rattle.spec_trace.specs.Trace.{E, Item, M, entries}
use Rattle.spec_trace.specs.declared.mark.Mark.TheVariants as the
use Rattle.spec_trace.specs.declared.mark.Mark.{Mark}
use Rattle.spec_trace.specs.Exact.{WritesOnPages}
use Rattle.std.proofs.Common.{Bool, List, [], ap, arith, cond, false, refl, subst, sym, true, ◌++◌, ◌∙◌, ◌∷◌, ◌≡◌, ◌≢◌, ◌≤◌, ℕ}
use Rattle.std.proofs.lemmas.Bool.{eqb-true}
use Rattle.std.specs.List.{slice_get}
use Rattle.std.specs.Prelude.{Err, None, Ok, Option, Result, Some, max, nat_eq, ◌&&◌}
use Rattle.thor_value.specs.declared.names.Ts.{Ts}
use Rattle.repo_refusals.specs.declared.refusal.Refusal.TheVariants as refused
use Rattle.repo_refusals.specs.declared.refusal.Refusal.{Refusal}

module _ (c : ℕ) (b : Base) (committed : Ts → Bool) where
  -- ---- answers that change nothing

  pub as_met : (at after : List Item) (u : Unsettled) (kept : Kept) → IsAsMet at after u → FitsAt c b Calm at committed kept → FitsAt c b u after committed kept
  as_met at after u kept w h = subst (λ (x : Unsettled). FitsAt c b x after committed kept) (sym w.1) (subst (λ (T : List Item). FitsAt c b Calm T committed kept) (sym w.0) h)

  -- nothing is said of copies while the repository is down
  halted : (T : List Item) (kept : Kept) → FitsAt c b Calm T committed kept → FitsAt c b Halted T committed kept
  halted T kept h = record { v = h.v; there = h.there; own = h.own; keeps = λ f g. cc }

  as_halted : (at after : List Item) (u : Unsettled) (kept : Kept) → IsHalted at after u → FitsAt c b Calm at committed kept → FitsAt c b u after committed kept
  as_halted at after u kept w h = subst (λ (x : Unsettled). FitsAt c b x after committed kept) (sym w.1) (subst (λ (T : List Item). FitsAt c b Halted T committed kept) (sym w.0) (halted at kept h))

  pub then_fits : (at after : List Item) (u : Unsettled) (i : Item) (kept : Kept) → IsBehind at i after u → FitsAt c b Calm (at ++ i ∷ []) committed kept → FitsAt c b u after committed kept
  then_fits at after u i kept w h = subst (λ (x : Unsettled). FitsAt c b x after committed kept) (sym w.1) (subst (λ (T : List Item). FitsAt c b Calm T committed kept) (sym w.0) h)

  -- what holds behind the item holds of the trace behind it
  sound_behind : (at after : List Item) (u : Unsettled) (i : Item) → IsBehind at i after u → sound b (entries after) → sound b (entries (at ++ i ∷ []))
  sound_behind at after u i w sd = subst (λ (T : List Item). sound b (entries T)) w.0 sd

  none_behind : (at after : List Item) (u : Unsettled) (i : Item) → IsBehind at i after u → NoneAborted b (entries after) committed → NoneAborted b (entries (at ++ i ∷ [])) committed
  none_behind at after u i w none = subst (λ (T : List Item). NoneAborted b (entries T) committed) w.0 none

  module _ (at after : List Item) (u : Unsettled) (kept : Kept) (sd : sound b (entries after)) (none : NoneAborted b (entries after) committed) (h : FitsAt c b Calm at committed kept) where
    sound_at : (m : Mark) → IsBehind at (M m) after u → sound b (entries at)
    sound_at m w = subst (sound b) (after-mark b at m) (sound_behind at after u (M m) w sd)

    none_at : (m : Mark) → IsBehind at (M m) after u → NoneAborted b (entries at) committed
    none_at m w = subst (λ H. NoneAborted b H committed) (after-mark b at m) (none_behind at after u (M m) w none)

    -- a refusal's mark, of whatever session
    refused_mark : (s : ℕ) (q : Option Request) (r : Refusal) → IsBehind at (M (the.Refused s q r)) after u → FitsAt c b u after committed kept
    refused_mark s q r w = then_fits at after u (M (the.Refused s q r)) kept w (fits_marked c b at committed kept (the.Refused s q r) (sound_at (the.Refused s q r) w) (none_at (the.Refused s q r) w) h refl refl refl)

    pub unmarked_any : (s : ℕ) (r : Refusal) → RefusedUnmarked b at s r after u → FitsAt c b u after committed kept
    unmarked_any s (refused.Reason r) w = as_met at after u kept w.2 h
    unmarked_any s (refused.Down n) w = as_halted at after u kept w.1 h
    unmarked_any s (refused.Stopped n) w = as_halted at after u kept w.1 h
    unmarked_any s (refused.Damaged n k) w = as_halted at after u kept w.1 h
    unmarked_any s refused.NoMemory w = as_halted at after u kept w.1 h

    pub unmarked_fits : (r : Refusal) → RefusedUnmarked b at kept.session r after u → FitsAt c b u after committed kept
    unmarked_fits r w = unmarked_any kept.session r w

    pub marked_fits : (r : Refusal) → RefusedMarked b at kept.session r after u → FitsAt c b u after committed kept
    marked_fits (refused.Reason r) w = refused_mark kept.session None (refused.Reason r) w.1
    marked_fits (refused.Down n) w = as_halted at after u kept w h
    marked_fits (refused.Stopped n) w = as_halted at after u kept w h
    marked_fits (refused.Damaged n k) w = as_halted at after u kept w h
    marked_fits refused.NoMemory w = as_halted at after u kept w h

    -- a call that stopped
    stopped : (e : Entry) (valid : Type 0) → (after ≡ at) × MayHaveLeft e valid u → FitsAt c b u after committed kept
    stopped e valid w = subst (λ (T : List Item). FitsAt c b u T committed kept) (sym w.0) (by u w.1)
      where
        by : (x : Unsettled) → MayHaveLeft e valid x → FitsAt c b x at committed kept
        by Calm l = absurd l
        by (MayCome d) l = record { v = h.v; there = h.there; own = h.own; keeps = λ f g. cc }
        by Halted l = halted at kept h

    pub request_any : (s : ℕ) (e : Entry) (q : Request) (r : Refusal) → RequestRefused e b at s q r after u → FitsAt c b u after committed kept
    request_any s e q (refused.Reason r) w = refused_mark s (Some q) (refused.Reason r) w.1
    request_any s e q (refused.Down n) w = as_halted at after u kept w h
    request_any s e q (refused.Stopped n) w = stopped e _ w
    request_any s e q (refused.Damaged n k) w = as_halted at after u kept w h
    request_any s e q refused.NoMemory w = stopped e _ w

    pub request_fits : (e : Entry) (q : Request) (r : Refusal) → RequestRefused e b at kept.session q r after u → FitsAt c b u after committed kept
    request_fits e q r w = request_any kept.session e q r w

    pub outage_fits : (e : Entry) (valid : Type 0) (r : Refusal) → OutageWith e valid at r after u → FitsAt c b u after committed kept
    outage_fits e valid (refused.Reason r) w = absurd w
    outage_fits e valid (refused.Down n) w = as_halted at after u kept w h
    outage_fits e valid (refused.Stopped n) w = stopped e valid w
    outage_fits e valid (refused.Damaged n k) w = as_halted at after u kept w h
    outage_fits e valid refused.NoMemory w = stopped e valid w

    -- ---- sessions

    pub fetched : (page : ℕ) → kept.awaits ≡ false → NoneToFinish b (entries at) kept.session committed → FetchWork kept.session page kept.upto (Ok tt) b at after u → FitsAt c b u after committed (record kept { awaits = true })
    fetched page idle settled w =
        let m = the.Fetched kept.session page kept.upto in
        then_fits at after u (M m) (record kept { awaits = true }) w.1 (fits_fetched c b at committed kept (sound_at m w.1) (none_at m w.1) h page idle settled)

    pub granted : kept.awaits ≡ false → GrantWork kept.session (Ok tt) b at after u → FitsAt c b u after committed (record kept { awaits = true })
    granted idle w =
        let m = the.Granted kept.session (next_page b at) in
        then_fits at after u (M m) (record kept { awaits = true }) w.2 (fits_granted c b at committed kept (sound_at m w.2) (none_at m w.2) h (next_page b at) idle)

    pub none_came : ReceiveWork kept.session (Ok None) b at after u → FitsAt c b u after committed kept
    none_came w = as_met at after u kept w.2 h

    live_there : lives (session b at kept.session) ≡ true → session_lives h.v ≡ true
    live_there l = ap lives (sym h.there) ∙ l

    pub received : (m : Message) (copies : Copies) → (b.tells ≡ true → SameCopies b copies (behind_message b (entries at) (notice_of m) kept.copies)) → ReceiveWork kept.session (Ok (Some m)) b at after u
        → FitsAt c b u after committed (record { session = kept.session; upto = bound (notice_of m); awaits = awaits_behind (notice_of m) kept.awaits; copies = copies })
    received m copies become w =
        let i = the.Took kept.session (place_of (notice_of m)) in
        then_fits at after u (M i) (record { session = kept.session; upto = bound (notice_of m); awaits = awaits_behind (notice_of m) kept.awaits; copies = copies }) w.2
        (fits_taken c b at committed kept (sound_at i w.2) h (live_there w.1) (notice_of m) (some_at (λ v. slice_get v.sent v.taken ≡ Some (notice_of m)) (session b at kept.session) h.v h.there w.0) copies become)

    pub drawn : (floor : ℕ) (t : Ts) → DrawWork kept.session floor (Ok t) b at after u → FitsAt c b u after committed kept
    drawn floor t w =
        let m = the.Drew kept.session t in
        then_fits at after u (M m) kept w.3 (fits_marked c b at committed kept m (sound_at m w.3) (none_at m w.3) h refl refl refl)

    -- ---- transactions

    -- a request of whatever session, which acknowledges what is known where it is this one's
    pub prepared_any : (s : ℕ) (q : Request) (place : ℕ) → (q.session ≡ kept.session → q.upto ≡ kept.upto) → committed q.tx ≡ false → PrepareWork s q (Ok place) b at after u → FitsAt c b u after committed kept
    prepared_any s q place upto open' w =
        then_fits at after u (E (Prepared q)) kept w.2
        (fits_undecided c b at committed kept (Prepared q) (sound_behind at after u (E (Prepared q)) w.2 sd) (none_behind at after u (E (Prepared q)) w.2 none) h refl (λ r a. ap (λ (z : Request). committed z.tx) (sym a) ∙ open')
        (λ step known. by (nat_eq q.session kept.session) refl step known))
      where
        by : (t : Bool) → nat_eq q.session kept.session ≡ t → InStep h.v → kept.upto ≡ upto_of h.v → cond t (max h.v.acked q.upto) h.v.acked ≤ upto_of h.v
        by true e step known = let l : h.v.acked ≤ upto_of h.v = step.acked in let f : q.upto ≡ upto_of h.v = upto (eqb-true q.session kept.session e) ∙ known in omega arith
        by false e step known = step.acked

    request_ack : (q : Request) → q.upto ≡ kept.upto → InStep h.v → kept.upto ≡ upto_of h.v → acked_after kept.session h.v.acked (E (Prepared q)) ≤ upto_of h.v
    request_ack q e step known = request_acks kept.session kept.upto h.v.acked (upto_of h.v) q e known step.acked

    pub prepared : (q : Request) (place : ℕ) → q.upto ≡ kept.upto → committed q.tx ≡ false → PrepareWork kept.session q (Ok place) b at after u → FitsAt c b u after committed kept
    prepared q place upto open' w =
        then_fits at after u (E (Prepared q)) kept w.2 (fits_undecided c b at committed kept (Prepared q) (sound_behind at after u (E (Prepared q)) w.2 sd) (none_behind at after u (E (Prepared q)) w.2 none) h refl (λ r a. ap (λ (z : Request). committed z.tx) (sym a) ∙ open') (request_ack q upto))

    pub committed_one : (q : Request) (place : ℕ) (copies : Copies) → q.upto ≡ kept.upto → kept.awaits ≡ false → NoneToFinish b (entries at) kept.session committed → (b.tells ≡ true → WritesOnPages b at kept.session q)
        → (b.tells ≡ true → SameCopies b copies (with_writes q kept.copies)) → CommitWork kept.session q (Ok place) b at after u → FitsAt c b u after committed (record kept { copies = copies })
    committed_one q place copies upto idle settled pages become w = by (is_upgrade q) w.2
      where
        one : (e : Entry) → commit_of b (state b (entries at)) e ≡ ((state b (entries at)).length, q) ∷ [] → (InStep h.v → kept.upto ≡ upto_of h.v → acked_after kept.session h.v.acked (E e) ≤ upto_of h.v) → IsBehind at (E e) after u → FitsAt c b u after committed (record kept { copies = copies })
        one e is acked x =
            then_fits at after u (E e) (record kept { copies = copies }) x
            (fits_committed c b at committed kept e q (sound_behind at after u (E e) x sd) (none_behind at after u (E e) x none) h (is ∙ ap (λ (n : ℕ). (n, q) ∷ []) (length-state b (entries at))) idle settled pages copies become acked)

        by : (t : Bool) → IsBehind at (E (cond t (Upgraded q) (One q))) after u → FitsAt c b u after committed (record kept { copies = copies })
        by true x = one (Upgraded q) refl (request_ack q upto) x
        by false x = one (One q) refl (request_ack q upto) x

    both : (x y : Bool) → (x && y) ≡ true → (x ≡ true) × (y ≡ true)
    both true true e = (refl, refl)
    both true false e = cc
    both false y e = cc

    -- a decision to commit what the session prepared here
    pub decided : (t : Ts) (o : Known) (v : Verdict) (copies : Copies) → known_by b (entries at) t ≡ Some o → is_prepared_by kept.session (Some o) ≡ true → kept.awaits ≡ false → NoneToFinish b (entries at) kept.session committed → WritesOnPages b at kept.session o.request
        → (b.tells ≡ true → SameCopies b copies (with_writes o.request kept.copies)) → DecideWork kept.session t true (Ok v) b at after u → FitsAt c b u after committed (record kept { copies = copies })
    decided t o v copies is mine idle settled pages become w =
        let p : is_prepared_by kept.session (known_by b (entries at) t) ≡ true = ap (is_prepared_by kept.session) is ∙ mine in
        let x : IsBehind at (E (Decided t true)) after u = (subst (λ (z : Bool). Decides z t true v b at after u) p w.2).1 in
        let is_open' : is_open o.fate ≡ true = (both (nat_eq o.request.session kept.session) (is_open o.fate) mine).1 in
        let commits : commit_of b (state b (entries at)) (Decided t true) ≡ ((state b (entries at)).length, o.request) ∷ [] = ap (λ (k : Option Known). commit_by (state b (entries at)) true k) is ∙ ap (λ (z : Bool). cond z (((state b (entries at)).length, o.request) ∷ []) []) is_open' in
        then_fits at after u (E (Decided t true)) (record kept { copies = copies }) x
        (fits_committed c b at committed kept (Decided t true) o.request (sound_behind at after u (E (Decided t true)) x sd) (none_behind at after u (E (Decided t true)) x none) h (commits ∙ ap (λ (n : ℕ). (n, o.request) ∷ []) (length-state b (entries at))) idle settled (λ tells. pages) copies become (λ step known. step.acked))

    -- a decision to abort, in whatever session
    pub given_up_any : (s : ℕ) (t : Ts) (v : Verdict) → DecideWork s t false (Ok v) b at after u → FitsAt c b u after committed kept
    given_up_any s t v w = by (is_prepared_by s (known_by b (entries at) t)) w.2
      where
        nothing : (o : Option Known) → commit_by (state b (entries at)) false o ≡ []
        nothing None = refl
        nothing (Some o) = refl

        by : (x : Bool) → Decides x t false v b at after u → FitsAt c b u after committed kept
        by true x =
            then_fits at after u (E (Decided t false)) kept x.1
            (fits_undecided c b at committed kept (Decided t false) (sound_behind at after u (E (Decided t false)) x.1 sd) (none_behind at after u (E (Decided t false)) x.1 none) h (nothing (known_by b (entries at) t)) (λ r a. absurd a) (λ step known. step.acked))
        by false x = as_met at after u kept x.1 h

    pub given_up : (t : Ts) (v : Verdict) → DecideWork kept.session t false (Ok v) b at after u → FitsAt c b u after committed kept
    given_up t v w = given_up_any kept.session t v w

    pub undecided_any : (s : ℕ) (t : Ts) (k : Bool) (r : Refusal) → DecideWork s t k (Err r) b at after u → FitsAt c b u after committed kept
    undecided_any s t k (refused.Reason r) w = unmarked_any s (refused.Reason r) (w.0, ended_is_gone (session b at s) w.1, w.2)
    undecided_any s t k (refused.Down n) w = outage_fits (Decided t k) (is_prepared_by s (known_by b (entries at) t) ≡ true) (refused.Down n) w
    undecided_any s t k (refused.Stopped n) w = outage_fits (Decided t k) (is_prepared_by s (known_by b (entries at) t) ≡ true) (refused.Stopped n) w
    undecided_any s t k (refused.Damaged n p) w = outage_fits (Decided t k) (is_prepared_by s (known_by b (entries at) t) ≡ true) (refused.Damaged n p) w
    undecided_any s t k refused.NoMemory w = outage_fits (Decided t k) (is_prepared_by s (known_by b (entries at) t) ≡ true) refused.NoMemory w

    pub undecided : (t : Ts) (k : Bool) (r : Refusal) → DecideWork kept.session t k (Err r) b at after u → FitsAt c b u after committed kept
    undecided t k r w = undecided_any kept.session t k r w

    -- a decision to commit what is known to have committed, in whatever session: what this one's commits wrote is held
    pub told_any : (s : ℕ) (t : Ts) (v : Verdict) → (v.commit ≡ true → committed t ≡ true) → DecideWork s t true (Ok v) b at after u → FitsAt c b u after committed kept
    told_any s t v told w = by (known_by b (entries at) t) refl w.2
      where
        commits : (o : Known) → known_by b (entries at) t ≡ Some o → is_open o.fate ≡ true → commit_of b (state b (entries at)) (Decided t true) ≡ ((state b (entries at)).length, o.request) ∷ []
        commits o is open' = ap (λ (k : Option Known). commit_by (state b (entries at)) true k) is ∙ ap (λ (z : Bool). cond z (((state b (entries at)).length, o.request) ∷ []) []) open'

        so : (o : Known) → known_by b (entries at) t ≡ Some o → (x : Bool) → is_prepared_by s (Some o) ≡ x → Decides x t true v b at after u → FitsAt c b u after committed kept
        so o is true mine x =
            let e = Decided t true in
            let open' : is_open o.fate ≡ true = (both (nat_eq o.request.session s) (is_open o.fate) mine).1 in
            then_fits at after u (E e) kept x.1 (fits_finishing c b at committed kept e (sound_behind at after u (E e) x.1 sd) (none_behind at after u (E e) x.1 none) h t o is (is_open_so o.fate open') (told x.0) (state b (entries at)).length (commits o is open') (λ r a. a) (λ step known. step.acked))
        so o is false mine x = as_met at after u kept x.1 h

        by : (k : Option Known) → known_by b (entries at) t ≡ k → Decides (is_prepared_by s (known_by b (entries at) t)) t true v b at after u → FitsAt c b u after committed kept
        by None is x = as_met at after u kept (subst (λ (k : Option Known). Decides (is_prepared_by s k) t true v b at after u) is x).1 h
        by (Some o) is x = so o is (is_prepared_by s (Some o)) refl (subst (λ (k : Option Known). Decides (is_prepared_by s k) t true v b at after u) is x)

    -- ---- calls that name no session

    -- whoever finishes a transaction does it as another would
    pub finished : (t : Ts) (k : Bool) (r : Result (Option ℕ) Refusal) → Agrees b (entries after) kept.session committed → FinishWork t k r b at after u → FitsAt c b u after committed kept
    finished t k (Ok (Some place)) agrees w =
        let e = Finished t k in
        let agrees' : Agrees b (entries (at ++ E e ∷ [])) kept.session committed = subst (λ (T : List Item). Agrees b (entries T) kept.session committed) w.2.0 agrees in
        then_fits at after u (E e) kept w.2 (grown_one c b committed kept Calm Calm at (E e) (nobody, refl) tt (sound_behind at after u (E e) w.2 sd) agrees' h)
      where
        nobody : None ≢ Some c
        nobody f = cc
    finished t k (Ok None) agrees w = as_met at after u kept w.1 h
    finished t k (Err r) agrees w = outage_fits (Finished t k) (is_undecided (known_by b (entries at) t) ≡ true) r w

    pub forgotten : (t : Ts) (r : Result (Unit {0}) Refusal) → ForgetWork t r b at after u → FitsAt c b u after committed kept
    forgotten t (Ok done) w = then_fits at after u (M (the.Forgot t)) kept w (fits_marked c b at committed kept (the.Forgot t) (sound_at (the.Forgot t) w) (none_at (the.Forgot t) w) h refl refl refl)
    forgotten t (Err r) w = as_halted at after u kept w.1 h

    pub asked : (t : Ts) (r : Result answer.Asked Refusal) → AskWork t r b at after u → FitsAt c b u after committed kept
    asked t (Ok a) w = as_met at after u kept w.1 h
    asked t (Err r) w = as_halted at after u kept w.1 h

  pub connected : (at after : List Item) (u : Unsettled) (w : Welcome) (copies : Copies) → HoldsNone b copies → ConnectWork c (Ok w) b at after u → FitsAt c b u after committed (record { session = w.session; upto = w.place; awaits = false; copies = copies })
  connected at after u w copies none x = then_fits at after u (M (the.Connected w.session c)) (record { session = w.session; upto = w.place; awaits = false; copies = copies }) x.1 (fits_begun c b at committed w.session w.place copies x.0.place none)
