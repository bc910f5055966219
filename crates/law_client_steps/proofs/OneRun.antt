-- The small run over a store's only repository is one: each step is a client's, and meets what is asked of it.
use Rattle.client_cache.specs.Copies.{changed, kept, seen}
use Rattle.law_cache_coherence.specs.Examples.{no_copy}
use Rattle.law_cache_coherence.specs.Fitting.{with_writes}
use Rattle.client_state.specs.Calling.{links_joined, upto_in}
use Rattle.client_state.specs.Links.{NoneAwaits, at_repo, awaits_reply, session_in, waiting}
use Rattle.client_state.specs.Moving.{AskedOwn, CommitRefused, Committed, Connected, Drawn, Granted, InSession, Moves, Received, Unsent}
use Rattle.client_state.specs.Pending.{IsWrittenIn, NonePending}
use Rattle.client_state.specs.Taking.{took}
use Rattle.client_state.specs.Writing.{HoldsWritten}
use Rattle.client_state.specs.declared.calls.Drew.TheVariants as drew
use Rattle.client_state.specs.declared.held.Held.{Held}
use Rattle.client_state.specs.declared.link.Link.TheVariants.{Apart, Joined}
use Rattle.client_state.specs.declared.link.Link.{Link}
use Rattle.client_state.specs.declared.link.Waits.TheVariants.{Idle, Reply}
use Rattle.client_state.specs.declared.link.Waits.{Waits}
use Rattle.client_state.specs.declared.requests.Sending.{Sending}
use Rattle.log_entries.specs.declared.entry.Entry.TheVariants.{Life, One}
use Rattle.law_client_steps.proofs.OneAmong.{among}
use Rattle.law_client_steps.proofs.OneStep.{begins}
use Rattle.law_client_steps.proofs.Trying.{sees_kept, sees_written}
use Rattle.law_client_steps.specs.OneExample.{HoldsOnTheWay, HoldsThis, asking, position_after, behind_it, made, restarted, seeing, stopped, stopping, whole}
use Rattle.law_client_steps.specs.OneRepository.{FitsOne, HasOneRepository, Leads}
use Rattle.law_client_steps.specs.Positions.{Stepped, Waited}
use Rattle.law_client_steps.specs.SingleParts.{LeadsSingly}
use Rattle.spec_history.proofs.Decided.{decides_sound}
use Rattle.spec_history.proofs.Growth.{sound-beginning}
use Rattle.spec_history.specs.Examples.{at, box, only, z}
use Rattle.spec_history.specs.History.{Base}
use Rattle.spec_history.specs.Requests.{written}
use Rattle.spec_history.specs.Sound.{sound}
use Rattle.session_outbox.specs.declared.answers.Asked as answer
use Rattle.session_outbox.specs.declared.answers.Asked.TheVariants as answers
use Rattle.session_outbox.specs.declared.answers.At.{At}
use Rattle.session_outbox.specs.declared.answers.Verdict.{Verdict}
use Rattle.session_outbox.specs.declared.answers.Welcome.{Welcome}
use Rattle.session_outbox.specs.declared.message.Message.TheVariants as messages
use Rattle.session_outbox.specs.declared.message.Message.{Message}
use Rattle.paused_eval.specs.Copies.{AreAmong, last_of}
use Rattle.client_port.specs.Growing.{Called, Grew}
use Rattle.client_port.specs.Views.{Calm, Halted, MayCome}
use Rattle.client_port.specs.Works.{AskWork, CommitWork, ConnectWork, Does, DrawWork, GrantWork, ReceiveWork}
use Rattle.spec_trace.proofs.Exactness.{exact-beginning, exact-end}
use Rattle.spec_trace.proofs.Traces.{entries-append}
use Rattle.spec_trace.specs.Calls.{welcome}
use Rattle.spec_trace.specs.Exact.{ItemIsExact, exact}
use Rattle.spec_trace.specs.Trace.{E, Item, M, entries}
use Rattle.spec_trace.specs.declared.mark.Mark.TheVariants as the
use Rattle.spec_trace.proofs.WrittenPages.{one_granted, one_paged}
use Rattle.std.proofs.Common.{rules, Bool, List, [], ap, arith, cond, drop, false, inl, inr, refl, subst, suc, sym, take, true, zero, ◌++◌, ◌<◌, ◌^◌, ◌∙◌, ◌∷◌, ◌≡◌, ◌≢◌, ℕ}
use Rattle.std.proofs.lemmas.Bool.{cases_eq, eqb-true}
use Rattle.std.proofs.lemmas.List.{append-nil}
use Rattle.std.proofs.lemmas.Map.Views.{tells_apart}
use Rattle.std.proofs.lemmas.Option.{same_Some}
use Rattle.std.specs.List.{slice_get}
use Rattle.std.specs.Option.{is_some, option_or}
use Rattle.std.specs.Prelude.{Err, None, Ok, Option, Some, length, nat_eq, ◌||◌, ◌≤◌, ◌⊎◌}
use Rattle.thor_value.proofs.FiniteMap.{get-insert}
use Rattle.thor_value.proofs.NameOrders.{oref_exact, oref_total}
use Rattle.thor_value.specs.FiniteMap.{empty, get}
use Rattle.thor_value.specs.Names.{same_oref}
use Rattle.thor_value.specs.declared.names.Oref.{Oref}
use Rattle.thor_value.specs.declared.names.Ts.{Ts}
use Rattle.thor_value.specs.declared.values.Obj.{Obj}
use Rattle.repo_refusals.specs.declared.refusal.Refusal.TheVariants as refused

-- ---- what is seen

has_page : exact only (take 5 whole)
has_page = search rules

second_page : 1 < 2
second_page = omega arith

creates : ItemIsExact only (take 5 whole) (E (One made))
creates = record {
  accepted = refl;
  client = refl;
  upto = omega arith;
  granted = one_granted only (take 5 whole) made z (box 7) refl second_page;
  paged = one_paged only (take 5 whole) made z (box 7) refl refl;
}

exact_made : exact only (take 6 whole)
exact_made = exact-end only (take 5 whole) (E (One made)) has_page creates

connects_later : ItemIsExact only (take 6 whole) (M (the.Connected 2 2))
connects_later = search rules

exact_whole : exact only whole
exact_whole = exact-end only (take 6 whole) (M (the.Connected 2 2)) exact_made connects_later

sound_whole : sound only (entries whole)
sound_whole = (decides_sound only (entries whole)).0 refl

outside : (T : List Item) (r : ℕ) (b : Bool) → nat_eq r 0 ≡ b → 1 ≤ r → entries (cond b T []) ≡ []
outside T r true is l = absurd (none r (eqb-true r 0 is) l)
  where
    none : (n : ℕ) → n ≡ 0 → 1 ≤ n → ⊥
    none n e l = omega arith
outside T r false is l = refl

one_at : (T more : List Item) → T ++ more ≡ whole → length (entries T) < 2 ^ 64 → HasOneRepository (seeing T)
one_at T more e short = record {
  outside = λ r l. outside T r (nat_eq r 0) refl l;
  one = refl;
  numbered = refl;
  counted = refl;
  owed = sound-beginning only (entries T) (entries more) (subst (sound only) (ap entries (sym e) ∙ entries-append T more) sound_whole);
  kept = exact-beginning only T more (subst (exact only) (sym e) exact_whole);
  short = short;
}

still : (b : Base) (T : List Item) → Grew b 1 Calm T Calm T
still b T = record { gap = []; gains = tt; ends = sym (append-nil T) }

-- a call of client 1
called : (T S : List Item) → Called (seeing T) (seeing S) 0 T Calm
called T S = record {
  same = refl;
  reached = still only T;
  others = λ n other. by n (nat_eq n 0) refl other;
  alone = λ e. cc;
  alone_others = λ e. cc;
}
  where
    by : (n : ℕ) (t : Bool) → nat_eq n 0 ≡ t → n ≢ 0 → Grew only 1 Calm (cond t T []) Calm (cond t S [])
    by n true e other = absurd (other (eqb-true n 0 e))
    by n false e other = still only []

-- the trace behind the restart
exact_restarted : exact only restarted
exact_restarted = exact-end only (take 6 whole) (E (Life 2)) exact_made tt

sound_restarted : sound only (entries restarted)
sound_restarted = (decides_sound only (entries restarted)).0 refl

one_restarted : HasOneRepository (seeing restarted)
one_restarted = record {
  outside = λ r l. outside restarted r (nat_eq r 0) refl l;
  one = refl;
  numbered = refl;
  counted = refl;
  owed = sound_restarted;
  kept = exact_restarted;
  short = omega arith;
}

one_stopping : HasOneRepository stopping
one_stopping =
    let so = one_at (take 5 whole) (drop 5 whole) refl (omega arith) in
    record { outside = λ r l. outside (take 5 whole) r (nat_eq r 0) refl l; one = refl; numbered = refl; counted = refl; owed = so.owed; kept = so.kept; short = so.short }

-- a call of client 1 that stops
met_stopping : Called (seeing (take 5 whole)) stopping 0 (take 5 whole) Calm
met_stopping = record {
  same = refl;
  reached = still only (take 5 whole);
  others = λ n other. by n (nat_eq n 0) refl other;
  alone = λ e. cc;
  alone_others = λ e. cc;
}
  where
    by : (n : ℕ) (t : Bool) → nat_eq n 0 ≡ t → n ≢ 0 → Grew only 1 Calm (cond t (take 5 whole) []) (cond t (MayCome (One made)) Calm) (cond t (take 5 whole) [])
    by n true e other = absurd (other (eqb-true n 0 e))
    by n false e other = still only []

abbrev verdict : Verdict
verdict = record { tx = at 1; commit = true }

-- ---- the steps

abbrev there : At
there = record { repo = 0; session = 1 }

module _ (link : Link) (held : Held) (h : HoldsThis link no_copy held) where
  none_after : (copies : Oref → Option Obj) → AreAmong copies (kept held.cache.cache)
  none_after copies x = inr (h.copies_are x)

module _ (waits : Waits) (copies : Oref → Option Obj) (held : Held) (h : HoldsThis (Joined 1 1 waits) copies held) where
  in_session : InSession there held
  in_session = ap (λ (ls : List Link). session_in 0 (slice_get ls 0)) h.links

none_awaits : (copies : Oref → Option Obj) (held : Held) → HoldsThis (Joined 1 1 Idle) copies held → NoneAwaits 8 held.links.items
none_awaits copies held h = subst (NoneAwaits 8) (sym h.links) by
  where
    by : NoneAwaits 8 (Joined 1 1 Idle ∷ [])
    by zero l low is = ap awaits_reply (sym (same_Some (Joined 1 1 Idle) l is))
    by (suc n) l low is = cc

abbrev welcomed : Welcome
welcomed = record { session = (welcome only (take 1 whole)).session; epoch = (welcome only (take 1 whole)).epoch; threshold = (welcome only (take 1 whole)).threshold; place = (welcome only (take 1 whole)).place; upgrades = (welcome only (take 1 whole)).upgrades }

module _ (first joined drawn waits taken last : Held) (h : HoldsOnTheWay first joined drawn waits taken last) where
  connects : Moves (seeing (take 1 whole)) (seeing (take 2 whole)) first joined
  connects = Unsent (Connected 0 (record { result = Ok welcomed; call = λ e. subst (λ (c : ℕ). Does {X = Welcome} (seeing (take 1 whole)) (seeing (take 2 whole)) 0 (Ok welcomed) (ConnectWork c (Ok welcomed))) (sym h.begins.client) does; links = h.connects.links ∙ ap (links_joined (Ok welcomed) 0) (sym h.begins.links) })
      (λ link is. sym (same_Some Apart link (sym (ap (λ (ls : List Link). slice_get ls 0) h.begins.links) ∙ is))) (h.connects.client ∙ sym h.begins.client) (none_after (Joined 1 1 Idle) joined h.connects (kept first.cache.cache)))
    where
      does : Does {X = Welcome} (seeing (take 1 whole)) (seeing (take 2 whole)) 0 (Ok welcomed) (ConnectWork 1 (Ok welcomed))
      does = record { at = take 1 whole; met = Calm; called = called (take 1 whole) (take 2 whole); answer = (record { session = refl; epoch = refl; threshold = refl; place = refl; upgrades = refl }, (refl, refl)) }

  draws : Moves (seeing (take 2 whole)) (seeing (take 3 whole)) joined drawn
  draws = Unsent (Drawn there (Ok (drew.Ts (at 1))) joined.cache.cache (record { floor = 0; result = Ok (at 1); call = λ e. does; told = refl; links = h.draws.links ∙ sym h.connects.links; kept_so = λ x. refl })
      (in_session Idle no_copy joined h.connects) (h.draws.client ∙ sym h.connects.client) (none_after (Joined 1 1 Idle) drawn h.draws (kept joined.cache.cache)))
    where
      does : Does {X = Ts} (seeing (take 2 whole)) (seeing (take 3 whole)) 0 (Ok (at 1)) (DrawWork 1 0 (Ok (at 1)))
      does = record { at = take 2 whole; met = Calm; called = called (take 2 whole) (take 3 whole); answer = (refl, record { time = (1, 0, refl); below = omega arith; repo = refl; life = refl }, omega arith, (refl, refl)) }

  asks : Moves (seeing (take 3 whole)) (seeing (take 4 whole)) drawn waits
  asks = Unsent (Granted there drawn.cache.cache (record { result = Ok tt; call = λ e. does; links = h.asks.links ∙ ap (λ (ls : List Link). at_repo ls 0 (waiting Reply)) (sym h.draws.links); kept_so = λ x. refl })
      (in_session Idle no_copy drawn h.draws, none_awaits no_copy drawn h.draws) (h.asks.client ∙ sym h.draws.client) (none_after (Joined 1 1 Reply) waits h.asks (kept drawn.cache.cache)))
    where
      does : Does {X = Unit {0}} (seeing (take 3 whole)) (seeing (take 4 whole)) 0 (Ok tt) (GrantWork 1 (Ok tt))
      does = record { at = take 3 whole; met = Calm; called = called (take 3 whole) (take 4 whole); answer = (refl, omega arith, (refl, refl)) }

  takes : Moves (seeing (take 4 whole)) (seeing (take 5 whole)) waits taken
  takes = Received there (messages.Grant 1 1) does (in_session Reply no_copy waits h.asks)
      (record { left = taken.cache.cache; links = h.takes.links ∙ ap (λ (ls : List Link). at_repo ls 0 (took (messages.Grant 1 1))) (sym h.asks.links); brought = λ x. h.takes.copies_are x ∙ sym (by _ (h.asks.copies_are x)); fewer = λ x. inl refl }) (h.takes.client ∙ sym h.asks.client)
    where
      does : Does {X = Option Message} (seeing (take 4 whole)) (seeing (take 5 whole)) 0 (Ok (Some (messages.Grant 1 1))) (ReceiveWork 1 (Ok (Some (messages.Grant 1 1))))
      does = record { at = take 4 whole; met = Calm; called = called (take 4 whole) (take 5 whole); answer = (refl, refl, (refl, refl)) }

      by : {o : Option Obj} (t : Bool) → o ≡ None → cond t None o ≡ None
      by true e = refl
      by false e = e

  at_z : (x : Oref) → get (written made) x ≡ cond (same_oref x z) (Some (box 7)) None
  at_z x = get-insert oref_total empty z (box 7) x

  none_away : (x : Oref) → x.repo ≢ 0 → get (written made) x ≡ None
  none_away x away = by (same_oref x z) refl
    where
      by : (t : Bool) → same_oref x z ≡ t → get (written made) x ≡ None
      by true e = absurd (away (ap (λ (y : Oref). y.repo) (tells_apart oref_exact x z e)))
      by false e = at_z x ∙ ap (λ (t : Bool). cond t (Some (box 7)) None) e

  -- what the try has written lies at the repository
  seen_written : (x : Oref) → seen taken.cache.cache x ≡ with_writes made (kept taken.cache.cache) x
  seen_written x = elim (cases_eq x.repo 0) [
    | inl here ↦ sees_written taken.cache.cache made 0 h.wrote x here
    | inr away ↦ sees_kept taken.cache.cache made 0 h.wrote x away ∙ ap (λ (o : Option Obj). option_or o (kept taken.cache.cache x)) (sym (none_away x away))
  ]

  -- what its request writes it creates
  held : HoldsWritten made taken.cache.cache
  held x wrote new = by (same_oref x z) refl
    where
      by : (t : Bool) → same_oref x z ≡ t → is_some (kept taken.cache.cache x) ≡ true
      by true e = let f : false ≡ true = sym new ∙ ap (λ (t : Bool). t || false) e in cc
      by false e = let f : false ≡ true = ap is_some (sym (at_z x ∙ ap (λ (t : Bool). cond t (Some (box 7)) None) e)) ∙ wrote in cc

  written_seen : (x : Oref) → seen taken.cache.cache x ≡ with_writes made no_copy x
  written_seen x = seen_written x ∙ ap (λ (o : Option Obj). option_or (get (written made) x) o) (h.takes.copies_are x)

  abbrev sending : Sending
  sending = record { at = there; request = made }

  commits : Moves (seeing (take 5 whole)) (seeing (take 6 whole)) taken last
  commits = Committed sending 1 does (record { session = refl; upto = λ e. sym (ap (λ (ls : List Link). upto_in (slice_get ls 0)) h.takes.links) }) (in_session Idle no_copy taken h.takes) h.wrote held (none_awaits no_copy taken h.takes)
      (h.commits.client ∙ sym h.takes.client, h.commits.links ∙ sym h.takes.links, λ x. inl (h.commits.copies_are x ∙ sym (written_seen x)))
    where
      does : Does {X = ℕ} (seeing (take 5 whole)) (seeing (take 6 whole)) 0 (Ok 1) (CommitWork 1 made (Ok 1))
      does = record { at = take 5 whole; met = Calm; called = called (take 5 whole) (take 6 whole); answer = (refl, refl, (refl, refl)) }

  others : (n : ℕ) → n < 1 → Grew only 1 Calm (cond (nat_eq n 0) (take 6 whole) []) Calm (cond (nat_eq n 0) (take 7 whole) [])
  others n low = by (nat_eq n 0)
    where
      by : (t : Bool) → Grew only 1 Calm (cond t (take 6 whole) []) Calm (cond t (take 7 whole) [])
      by true = record { gap = M (the.Connected 2 2) ∷ []; gains = (Calm, ((λ e. cc), refl), tt); ends = refl }
      by false = still only []

  pub run : Leads (position_after 1 first) (position_after 2 joined ∷ position_after 3 drawn ∷ position_after 4 waits ∷ position_after 5 taken ∷ position_after 6 last ∷ []) (position_after 7 last)
  unfolding connects draws asks takes commits
  run = (
    Stepped connects refl tt (one_at (take 2 whole) (drop 2 whole) refl (omega arith)),
    (
      Stepped draws refl tt (one_at (take 3 whole) (drop 3 whole) refl (omega arith)),
      (
        Stepped asks refl tt (one_at (take 4 whole) (drop 4 whole) refl (omega arith)),
        (
          Stepped takes (inl refl) tt (one_at (take 5 whole) (drop 5 whole) refl (omega arith)),
          (
            Stepped commits refl tt (one_at (take 6 whole) (drop 6 whole) refl (omega arith)),
            Waited refl refl refl others (one_at (take 7 whole) (drop 7 whole) refl (omega arith)),
          ),
        ),
      ),
    ),
  )

  pub run_singly : LeadsSingly (position_after 1 first) (position_after 2 joined ∷ position_after 3 drawn ∷ position_after 4 waits ∷ position_after 5 taken ∷ position_after 6 last ∷ []) (position_after 7 last)
  unfolding connects draws asks takes commits
  run_singly = (
    Stepped connects refl tt (among (take 2 whole) (one_at (take 2 whole) (drop 2 whole) refl (omega arith))),
    (
      Stepped draws refl tt (among (take 3 whole) (one_at (take 3 whole) (drop 3 whole) refl (omega arith))),
      (
        Stepped asks refl tt (among (take 4 whole) (one_at (take 4 whole) (drop 4 whole) refl (omega arith))),
        (
          Stepped takes (inl refl) tt (among (take 5 whole) (one_at (take 5 whole) (drop 5 whole) refl (omega arith))),
          (
            Stepped commits refl tt (among (take 6 whole) (one_at (take 6 whole) (drop 6 whole) refl (omega arith))),
            Waited refl refl refl others (among (take 7 whole) (one_at (take 7 whole) (drop 7 whole) refl (omega arith))),
          ),
        ),
      ),
    ),
  )

  -- the same where the commit stops: what the try has written lies in the session
  written_in : IsWrittenIn there taken
  written_in x = by (nat_eq 0 x.repo) refl
    where
      by : (t : Bool) → nat_eq 0 x.repo ≡ t → (changed taken.cache.cache x ≡ None) ⊎ ((x.repo ≡ 0) × InSession there taken)
      by true e = inr (sym (eqb-true 0 x.repo e), in_session Idle no_copy taken h.takes)
      by false e = inl (h.wrote x ∙ ap (λ (t : Bool). cond t (last_of made.writes x) None) e)

  stops : Moves (seeing (take 5 whole)) stopping taken taken
  stops = CommitRefused sending (refused.Stopped 0) does (record { session = refl; upto = λ e. sym (ap (λ (ls : List Link). upto_in (slice_get ls 0)) h.takes.links) }) (none_awaits no_copy taken h.takes)
      (record { left = taken.cache.cache; links = refl; kept_so = λ x. refl; fewer = λ x. inl refl }) refl
    where
      does : Does {X = ℕ} (seeing (take 5 whole)) stopping 0 (Err (refused.Stopped 0)) (CommitWork 1 made (Err (refused.Stopped 0)))
      does = record { at = take 5 whole; met = Calm; called = met_stopping; answer = (refl, (refl, refl)) }

  -- the client is told that it has committed
  told : Moves (seeing restarted) (seeing restarted) taken last
  told = AskedOwn 0 (at 1) verdict does (h.commits.client ∙ sym h.takes.client, h.commits.links ∙ sym h.takes.links, λ x. inl (h.commits.copies_are x ∙ sym (written_seen x)))
    where
      does : Does {X = answer.Asked} (seeing restarted) (seeing restarted) 0 (Ok (answers.Settled verdict)) (AskWork (at 1) (Ok (answers.Settled verdict)))
      does = record { at = restarted; met = Calm; called = called restarted restarted; answer = ((refl, λ later. refl), (refl, refl)) }

  comes : (n : ℕ) → n < 1 → Grew only 1 (cond (nat_eq n 0) (MayCome (One made)) Calm) (cond (nat_eq n 0) (take 5 whole) []) Calm (cond (nat_eq n 0) restarted [])
  comes n low = by (nat_eq n 0)
    where
      by : (t : Bool) → Grew only 1 (cond t (MayCome (One made)) Calm) (cond t (take 5 whole) []) Calm (cond t restarted [])
      by true = record { gap = E (One made) ∷ E (Life 2) ∷ []; gains = (Halted, inl (refl, refl), (Calm, refl, tt)); ends = refl }
      by false = still only []

  pub run_stopped : Leads (position_after 5 taken) (stopped taken ∷ behind_it taken asking ∷ []) (behind_it last NonePending)
  unfolding stops told
  run_stopped = (Stepped stops (inr (refl, tt, written_in)) tt one_stopping, (Waited refl refl refl comes one_restarted, Stepped told ((there, refl), refl) tt one_restarted))

  pub starts : FitsOne (position_after 1 first)
  starts = begins (position_after 1 first) (one_at (take 1 whole) (drop 1 whole) refl (omega arith)) h.begins.client (λ n link is. apart n link (ap (λ (ls : List Link). slice_get ls n) (sym h.begins.links) ∙ is)) h.begins.copies_are refl
    where
      apart : (n : ℕ) (link : Link) → slice_get (Apart ∷ []) n ≡ Some link → link ≡ Apart
      apart zero link is = sym (same_Some Apart link is)
      apart (suc n) link is = cc
