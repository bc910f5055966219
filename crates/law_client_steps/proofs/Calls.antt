-- A client that fits does so behind each of its steps.
use Rattle.client_cache.specs.Copies.{Contents, kept, seen}
use Rattle.client_cache.specs.Pages.{on, page_of, same_name, same_page}
use Rattle.law_cache_coherence.proofs.AnySession.{decided_by_any, given_up_in_any, prepared_in_any, uncommitted_in_any, undecided_in_any}
use Rattle.law_cache_coherence.proofs.Learned.{fewer_fit}
use Rattle.law_cache_coherence.proofs.Lending.{changes_here, exact_now, numbered_now, sound_now}
use Rattle.law_cache_coherence.proofs.OwnVerdicts.{others_told, own_told}
use Rattle.law_cache_coherence.proofs.Whole.{all_inside, ask_all, as_it_is, at_other, committed_inside, connect_all, draw_all, fetch_inside, finish_all, forget_all, grant_inside, message_inside, none_all, refused_all}
use Rattle.law_cache_coherence.specs.Fitting.{Copies, HoldsNone, NoneToFinish, with_writes}
use Rattle.law_cache_coherence.specs.Links.{Becomes, BringsContent}
use Rattle.law_cache_coherence.specs.Seen.{LinkAt, LinkIn}
use Rattle.law_cache_coherence.specs.Steps.{AllSeenRight, LinksFit}
use Rattle.law_cache_coherence.specs.Verdicts.{OutcomesTold}
use Rattle.client_state.specs.Calling.{Connects, Fetches, is_session_of, links_joined, links_refused, upto_in}
use Rattle.client_state.specs.Learning.{links_learnt}
use Rattle.client_state.specs.Links.{NoneAwaits, at_repo, awaits_reply, changed_at, is_reply, session_in, stopped, waiting, without_messages}
use Rattle.client_state.specs.Sending.{IsOfSession}
use Rattle.client_state.specs.Taking.{took}
use Rattle.client_state.specs.Writing.{HoldsWritten}
use Rattle.client_state.specs.declared.held.Held.{Held}
use Rattle.client_state.specs.declared.link.Link.TheVariants.{Apart, Joined, Unsettled}
use Rattle.client_state.specs.declared.link.Link.{Link}
use Rattle.client_state.specs.declared.link.Waits.TheVariants.{Epoch, Idle, Past, Reply}
use Rattle.client_state.specs.declared.link.Waits.{Waits}
use Rattle.client_state.specs.declared.requests.Sending.{Sending}
use Rattle.log_entries.specs.declared.entry.Entry.{Entry}
use Rattle.law_client_steps.proofs.Changes.{HasSession, changes_one, fewer_all, has_session, learn_all, lose_all, same_awaits, same_links}
use Rattle.client_state.specs.Moving.{Aborted, Asked, AskedInVain, AskedOwn, CommitRefused, Committed, Connected, CopiesTaken, Decided, DecideRefused, Drawn, EndsSo, Fetched, Finished, Forgot, Granted, HasLeft, InSession, IsApart, Moves, PrepareRefused, Prepared, ReceiveRefused, ReceiveStopped, Received, ReceivedNone, Rested, SendsNothing, Settled, StopsWaiting, Transformed, Unsent}
use Rattle.law_client_steps.proofs.Granting.{news_below}
use Rattle.law_client_steps.proofs.Paging.{made_elsewhere, made_written, writes_on_pages}
use Rattle.law_client_steps.proofs.Trying.{sees_kept, sees_written}
use Rattle.law_client_steps.specs.Owed.{ClientFits, MessageOwed, Owed, SendsOwed, SettledOwed, VerdictOwed, if_commit, verdict_of, with_made}
use Rattle.spec_history.proofs.Listed.{some_and}
use Rattle.spec_history.specs.History.{Base}
use Rattle.spec_history.specs.Sound.{sound}
use Rattle.session_outbox.specs.declared.answers.Asked as answer
use Rattle.session_outbox.specs.declared.answers.Asked.TheVariants as answers
use Rattle.session_outbox.specs.declared.answers.At.{At}
use Rattle.session_outbox.specs.declared.answers.Verdict.{Verdict}
use Rattle.session_outbox.specs.declared.answers.Welcome.{Welcome}
use Rattle.session_outbox.specs.declared.message.Message.TheVariants.{Grant, Invalid, Page, Upgrade}
use Rattle.session_outbox.specs.declared.message.Message.{Message}
use Rattle.paused_eval.specs.Copies.{AreAmong}
use Rattle.client_port.specs.Acting.{Committed as has_committed, Connected as has_connected}
use Rattle.client_port.specs.Views as views
use Rattle.client_port.specs.Views.{Calm, Halted, MayCome, Opened, View}
use Rattle.client_port.specs.Works.{Answered, AskWork, CommitWork, DecideWork, Does, IsOutage, ReceiveWork, RefusedUnmarked, alone_entry}
use Rattle.spec_trace.proofs.Taken.{after-mark}
use Rattle.spec_trace.specs.Exact.{exact}
use Rattle.spec_trace.specs.Notices.{lives, notice_of}
use Rattle.spec_trace.specs.Session.{Notice, Session, is_news, place_of, session, waiting as waits_for}
use Rattle.spec_trace.specs.Trace.{E, Item, entries}
use Rattle.spec_trace.specs.Verdict.{verdict}
use Rattle.spec_trace.specs.declared.mark.Mark.TheVariants as the
use Rattle.std.proofs.Common.{Bool, List, [], ap, arith, cond, false, inl, inr, refl, subst, sym, true, ◌+◌, ◌++◌, ◌∙◌, ◌∷◌, ◌≡◌, ◌≢◌, ℕ}
use Rattle.std.proofs.lemmas.Bool.Decides.{nat_tests}
use Rattle.std.proofs.lemmas.Bool.{cases_eq}
use Rattle.std.proofs.lemmas.Option.{same_Some}
use Rattle.std.specs.List.{filter, list_any, slice_get}
use Rattle.std.specs.Option.{IsSomeAnd, option_map}
use Rattle.std.specs.Prelude.{Err, None, Ok, Option, Result, Some, length, nat_eq, not, ◌&&◌, ◌<◌, ◌^◌, ◌≤◌, ◌⊎◌}
use Rattle.thor_value.specs.declared.names.Oref.{Oref}
use Rattle.thor_value.specs.declared.names.Ts.{Ts}
use Rattle.thor_value.specs.declared.values.Obj.{Obj}
use Rattle.repo_refusals.specs.declared.refusal.Refusal.TheVariants as refused
use Rattle.repo_refusals.specs.declared.refusal.Refusal.{Refusal}

-- ---- what a message brings is its repository's

apart_test : (m r : ℕ) → m ≢ r → nat_eq m r ≡ false
apart_test m r other = grind (arith, nat_tests, other)

same_test : (m r : ℕ) → m ≡ r → nat_eq m r ≡ true
same_test m r e = grind (arith, nat_tests)

off_page : (repo page : ℕ) (x : Oref) → x.repo ≢ repo → same_page (on repo page) (page_of x) ≡ false
off_page repo page x away = ap (λ (t : Bool). t && nat_eq page x.page) (apart_test repo x.repo (λ e. away (sym e)))

-- the copies behind a message: those of the repository changed, the others as they were
abbrev taken_at : ℕ → Contents → Contents → Copies
taken_at repo old left x = cond (nat_eq x.repo repo) (kept left x) (kept old x)

module _ (repo : ℕ) (old left : Contents) where
  changed_here : (x : Oref) → x.repo ≡ repo → taken_at repo old left x ≡ kept left x
  changed_here x here = ap (λ (t : Bool). cond t (kept left x) (kept old x)) (same_test x.repo repo here)

  stays_away : (x : Oref) → x.repo ≢ repo → taken_at repo old left x ≡ kept old x
  stays_away x away = ap (λ (t : Bool). cond t (kept left x) (kept old x)) (apart_test x.repo repo away)

  module _ (port : View) where
    abbrev objects_in : (m : Message) → MessageOwed port repo m → ℕ → Option Obj
    objects_in (Page page bytes place) owed = owed.objects
    objects_in (Grant page place) owed = λ slot. None
    objects_in (Invalid names place) owed = λ slot. None
    objects_in (Upgrade number text place) owed = λ slot. None

    brings_in : (m : Message) (owed : MessageOwed port repo m) → (port.opened.base repo).tells ≡ true → BringsContent (port.opened.base repo) (entries (port.seen repo)) (objects_in m owed) m
    brings_in (Page page bytes place) owed tells = owed.brings tells
    brings_in (Grant page place) owed tells = tt
    brings_in (Invalid names place) owed tells = tt
    brings_in (Upgrade number text place) owed tells = tt

    short_in : (m : Message) → MessageOwed port repo m → repo < port.opened.repos → is_news (notice_of m) ≡ true → length (entries (port.seen repo)) < 2 ^ 64
    short_in (Page page bytes place) owed inside news = cc
    short_in (Grant page place) owed inside news = cc
    short_in (Invalid names place) owed inside news = owed inside
    short_in (Upgrade number text place) owed inside news = owed inside

    becomes : (m : Message) (owed : MessageOwed port repo m) → CopiesTaken repo m old left → Becomes repo (objects_in m owed) m (kept old) (taken_at repo old left)
    becomes (Page page bytes place) owed brought = λ x here. changed_here x here ∙ brought owed.objects owed.spelled x
    becomes (Grant page place) owed brought = λ x here. changed_here x here ∙ brought x
    becomes (Invalid names place) owed brought = λ x here. changed_here x here ∙ brought x
    becomes (Upgrade number text place) owed brought = λ x here. changed_here x here ∙ brought x

    -- of what lies elsewhere nothing comes
    away_among : (m : Message) → MessageOwed port repo m → CopiesTaken repo m old left → (x : Oref) → x.repo ≢ repo → (kept left x ≡ kept old x) ⊎ (kept left x ≡ None)
    away_among (Page page bytes place) owed brought x away = inl (brought owed.objects owed.spelled x ∙ ap (λ (t : Bool). cond t (owed.objects x.slot) (kept old x)) (off_page repo page x away))
    away_among (Grant page place) owed brought x away = inl (brought x ∙ ap (λ (t : Bool). cond t None (kept old x)) (off_page repo page x away))
    away_among (Invalid names place) owed brought x away = by (list_any (λ y. same_name y x) names) (brought x)
      where
        by : (t : Bool) → kept left x ≡ cond t None (kept old x) → (kept left x ≡ kept old x) ⊎ (kept left x ≡ None)
        by true e = inr e
        by false e = inl e
    away_among (Upgrade number text place) owed brought x away = inl (brought x)

    taken_among : (m : Message) → MessageOwed port repo m → CopiesTaken repo m old left → AreAmong (taken_at repo old left) (kept left)
    taken_among m owed brought x = elim (cases_eq x.repo repo) [
      | inl here ↦ inl (sym (changed_here x here))
      | inr away ↦ elim (away_among m owed brought x away) [
        | inl same ↦ inl (same ∙ sym (stays_away x away))
        | inr none ↦ inr none
      ]
    ]

-- ---- links behind a receive

-- a repository out of order has settled nothing
out_of_order : (r s : ℕ) (k : Refusal) (b : Base) (met : views.Unsettled) (at after : List Item) (u : views.Unsettled) → IsOutage k → Answered {X = Option Message} r (Err k) met at after u (RefusedUnmarked b at s k after u) → u ≡ Calm → ⊥
out_of_order r s k b (MayCome e) at after u outage a calm = let f : MayCome e ≡ Calm = sym a.2 ∙ calm in cc
out_of_order r s k b Halted at after u outage a calm = let f : Halted ≡ Calm = sym a.2 ∙ calm in cc
out_of_order r s (refused.Reason z) b Calm at after u outage a calm = absurd outage
out_of_order r s (refused.Down n) b Calm at after u outage a calm = let f : Halted ≡ Calm = sym a.1.1 ∙ calm in cc
out_of_order r s (refused.Stopped n) b Calm at after u outage a calm = let f : Halted ≡ Calm = sym a.1.1 ∙ calm in cc
out_of_order r s (refused.Damaged n p) b Calm at after u outage a calm = let f : Halted ≡ Calm = sym a.1.1 ∙ calm in cc
out_of_order r s refused.NoMemory b Calm at after u outage a calm = let f : Halted ≡ Calm = sym a.1.1 ∙ calm in cc

some_at : (P : Session → Type 0) (o : Option Session) (v : Session) → o ≡ Some v → IsSomeAnd o P → P v
some_at P None v e h = absurd h
some_at P (Some w) v e h = subst P (same_Some w v e) h

module _ (port : View) (committed : Ts → Bool) (r s upto : ℕ) (waits : Waits) (copies : Copies) where
  -- where no message waits none is an answer
  none_waits : IsSomeAnd (session (port.opened.base r) (port.seen r) s) (λ v. waits_for v ≡ []) → LinkIn port r committed (Joined s upto waits) copies → LinkIn port r committed (Joined s upto Idle) copies
  none_waits none h = record {
    v = h.v;
    there = h.there;
    own = h.own;
    keeps = λ calm live. let y = h.keeps calm live in record {
      known = y.known;
      step = y.step;
      asked = subst (λ (ms : List Notice). length (filter (λ m. not (is_news m)) ms) ≤ 0) (sym (some_at (λ v. waits_for v ≡ []) (session (port.opened.base r) (port.seen r) s) h.v h.there none)) (omega arith);
      copies = y.copies;
    };
  }

  -- where something is unsettled nothing is said of answers
  not_calm : (what : Waits) → (port.unsettled r ≡ Calm → ⊥) → LinkIn port r committed (Joined s upto waits) copies → LinkIn port r committed (Joined s upto what) copies
  not_calm what never h = record { v = h.v; there = h.there; own = h.own; keeps = λ calm live. absurd (never calm) }

still_reply : (waits : Waits) → is_reply (without_messages waits) ≡ is_reply waits
still_reply Idle = refl
still_reply Reply = refl
still_reply (Past place) = refl
still_reply (Epoch n) = refl

-- ---- a step

module _ (old new : View) (before after : Held) (committed later : Ts → Bool) (right : AllSeenRight new later) (fits : ClientFits old committed before) where
  abbrev links : List Link
  links = before.links.items

  abbrev copies : Copies
  copies = kept before.cache.cache

  abbrev Then : Type 0
  Then = LinksFit new later after.links.items (kept after.cache.cache)

  numbered : (n : ℕ) → n < new.opened.repos → (new.opened.base n).repo ≡ n
  numbered n within = (right.each n within).numbered

  pub then_client : after.client ≡ before.client → new.opened ≡ old.opened → Then → ClientFits new later after
  then_client same opened all = record {
    own = same ∙ fits.own ∙ ap (λ (o : Opened). o.client) (sym opened);
    few = subst (λ (o : Opened). o.repos ≤ 8) (sym opened) fits.few;
    links = all;
  }

  then_fewer : (left : Copies) → AreAmong left (kept after.cache.cache) → LinksFit new later after.links.items left → Then
  then_fewer left fewer fit = fewer_all new later after.links.items left (kept after.cache.cache) fewer fit

  -- the links stay
  pub then_less : (left : Copies) → after.links.items ≡ links → AreAmong left (kept after.cache.cache) → LinksFit new later links left → Then
  then_less left same fewer fit = then_fewer left fewer (same_links new later links after.links.items left same fit)

  below : new.opened ≡ old.opened → (n : ℕ) → n < new.opened.repos → n < 8
  below opened n within =
      let few : old.opened.repos ≤ 8 = fits.few in
      let l : n < old.opened.repos = subst (λ (o : Opened). n < o.repos) opened within in
      omega arith

  quiet : new.opened ≡ old.opened → NoneAwaits 8 links → (r : ℕ) (link : Link) → r < new.opened.repos → slice_get links r ≡ Some link → awaits_reply link ≡ false
  quiet opened idle r link within is = idle r link (below opened r within) is

  -- ---- what sends nothing

  module _ (fit : LinksFit old later links copies) where
    joined_none : (repo : ℕ) (result : Result Welcome Refusal) → slice_get links repo ≡ None → links_joined result repo links ≡ links
    joined_none repo (Ok w) none = ap (changed_at links repo (λ link. Joined w.session w.place Idle)) none
    joined_none repo (Err k) none = refl

    connects : (repo : ℕ) → Connects true old new repo old.opened.client links after.links.items → IsApart repo before → LinksFit new later after.links.items copies
    connects repo f apart = by (slice_get links repo) refl
      where
        by : (o : Option Link) → slice_get links repo ≡ o → LinksFit new later after.links.items copies
        by None is =
            same_links new later links after.links.items copies (f.links ∙ joined_none repo f.result is)
            (as_it_is old new repo links copies later right fit (has_connected repo old.opened.client f.result (f.call refl)) refl (λ link e seen h. let no : None ≡ Some link = sym is ∙ e in cc))
        by (Some link) is = connect_all old new repo links after.links.items copies later f right (is ∙ ap (λ (l : Link). Some l) (apart link is)) fit

    sends : (a : SendsNothing old new before after) → SendsOwed old new before after later a → ClientFits new later after
    sends (Rested same less) owed = then_client less.0 (ap (λ (v : View). v.opened) same) (then_less copies less.1 less.2 (subst (λ (v : View). LinksFit v later links copies) (sym same) fit))
    sends (Connected repo f apart same fewer) owed =
        let g : Connects true old new repo old.opened.client links after.links.items = subst (λ (c : ℕ). Connects true old new repo c links after.links.items) fits.own f in
        then_client same (g.call refl).called.same (then_fewer copies fewer (connects repo g apart))
    sends (Fetched at page left f idle same fewer) owed =
        let h : HasSession at (slice_get links at.repo) = has_session at (slice_get links at.repo) idle.0 in
        let g : Fetches true old new at page h.upto links after.links.items before.cache.cache left = subst (λ (n : ℕ). Fetches true old new at page n links after.links.items before.cache.cache left) (ap upto_in h.is) f in
        let opened = (g.call refl).called.same in
        then_client same opened (then_fewer (kept left) fewer
        (fetch_inside old new at page h.upto links after.links.items before.cache.cache left h.waits later g right h.is (λ inside. quiet opened idle.1 at.repo (Joined at.session h.upto h.waits) inside h.is) owed fit))
    sends (Granted at left f idle same fewer) owed =
        let h : HasSession at (slice_get links at.repo) = has_session at (slice_get links at.repo) idle.0 in
        let opened = (f.call refl).called.same in
        then_client same opened (then_fewer (kept left) fewer
        (grant_inside old new at h.upto links after.links.items before.cache.cache left h.waits later f right h.is (λ inside. quiet opened idle.1 at.repo (Joined at.session h.upto h.waits) inside h.is) fit))
    sends (Drawn at answer left f there same fewer) owed =
        let h : HasSession at (slice_get links at.repo) = has_session at (slice_get links at.repo) there in
        then_client same (f.call refl).called.same (then_fewer (kept left) fewer (draw_all old new at h.upto answer links after.links.items before.cache.cache left h.waits later f right h.is fit))
    sends (Asked r t result d less) owed = then_client less.0 d.called.same (then_less copies less.1 less.2 (ask_all old new r links copies later right fit t result d))
    sends (Settled r t v sent index d there links' same fewer) owed =
        then_client same d.called.same (then_fewer copies fewer (same_links new later (at_repo links r (λ l. Apart)) after.links.items copies links'
        (changes_one new later r links (at_repo links r (λ l. Apart)) before.cache.cache before.cache.cache numbered (λ n other. at_other links r n (λ l. Apart) other) (λ x away. refl) (ask_all old new r links copies later right fit t (Ok (answers.Settled v)) d)
        (λ within h. subst (λ (o : Option Link). LinkAt new r later o copies) (sym (changes_here links r (λ l. Apart) (Unsettled sent index) there)) (subst (λ (o : Option Link). LinkAt new r later o copies) there h)))))

    -- ---- what is received

    none_came : (at : At) (h : HasSession at (slice_get links at.repo)) → Does {X = Option Message} old new at.repo (Ok None) (ReceiveWork at.session (Ok None)) → LinksFit new later links copies
        → (after.links.items ≡ links) ⊎ (after.links.items ≡ at_repo links at.repo (waiting Idle)) → LinksFit new later after.links.items copies
    none_came at h d all (inl same) = same_links new later links after.links.items copies same all
    none_came at h d all (inr idle) =
        same_links new later (at_repo links at.repo (waiting Idle)) after.links.items copies idle
        (changes_one new later at.repo links (at_repo links at.repo (waiting Idle)) before.cache.cache before.cache.cache numbered (λ n other. at_other links at.repo n (waiting Idle) other) (λ x away. refl) all
        (λ within g. subst (λ (o : Option Link). LinkAt new at.repo later o copies) (sym (changes_here links at.repo (waiting Idle) (Joined at.session h.upto h.waits) h.is))
        (none_waits new later at.repo at.session h.upto h.waits copies (nothing d.at d.met d.answer) (subst (λ (o : Option Link). LinkAt new at.repo later o copies) h.is g))))
      where
        nothing : (T : List Item) (met : views.Unsettled) → Answered {X = Option Message} at.repo (Ok None) met T (new.seen at.repo) (new.unsettled at.repo) (ReceiveWork at.session (Ok None) (old.opened.base at.repo) T (new.seen at.repo) (new.unsettled at.repo))
            → IsSomeAnd (session (new.opened.base at.repo) (new.seen at.repo) at.session) (λ v. waits_for v ≡ [])
        nothing T Calm a = subst (λ (o : Opened). IsSomeAnd (session (o.base at.repo) (new.seen at.repo) at.session) (λ v. waits_for v ≡ [])) (sym d.called.same) (subst (λ (S : List Item). IsSomeAnd (session (old.opened.base at.repo) S at.session) (λ v. waits_for v ≡ [])) (sym a.2.0) a.0)
        nothing T (MayCome e) a = absurd a.0
        nothing T Halted a = absurd a.0

    -- there is a place behind that of news
    news_low : (at : At) (m : Message) → Does {X = Option Message} old new at.repo (Ok (Some m)) (ReceiveWork at.session (Ok (Some m))) → MessageOwed new at.repo m → at.repo < new.opened.repos → is_news (notice_of m) ≡ true → place_of (notice_of m) + 1 < 2 ^ 64
    news_low at m d owed inside news = by d.met d.answer
      where
        short : length (entries (new.seen at.repo)) < 2 ^ 64
        short = short_in at.repo before.cache.cache before.cache.cache new m owed inside news

        by : (met : views.Unsettled) → Answered {X = Option Message} at.repo (Ok (Some m)) met d.at (new.seen at.repo) (new.unsettled at.repo) (ReceiveWork at.session (Ok (Some m)) (old.opened.base at.repo) d.at (new.seen at.repo) (new.unsettled at.repo)) → place_of (notice_of m) + 1 < 2 ^ 64
        by Calm w =
            let v = some_and (session (old.opened.base at.repo) d.at at.session) (λ v. slice_get v.sent v.taken ≡ Some (notice_of m)) w.0 in
            let low : place_of (notice_of m) < length (entries d.at) = news_below (old.opened.base at.repo) at.session d.at v.0 v.1 v.0.taken (notice_of m) v.2 news in
            let same : entries (new.seen at.repo) ≡ entries d.at = ap entries w.2.0 ∙ after-mark (old.opened.base at.repo) d.at (the.Took at.session (place_of (notice_of m))) in
            let most : length (entries d.at) < 2 ^ 64 = subst (λ (H : List Entry). length H < 2 ^ 64) same short in
            omega arith
        by (MayCome e) w = absurd w.0
        by Halted w = absurd w.0

    stops : (at : At) (k : Refusal) → Does {X = Option Message} old new at.repo (Err k) (ReceiveWork at.session (Err k)) → IsOutage k → StopsWaiting at.repo before after → LinksFit new later links copies → LinksFit new later after.links.items copies
    stops at k d outage stop all = record {
      each = λ n within. elim (cases_eq n at.repo) [
        | inl e ↦ subst (λ (m : ℕ). LinkAt new m later (slice_get after.links.items m) copies) (sym e) (here (subst (λ (m : ℕ). m < new.opened.repos) e within))
        | inr ne ↦ subst (λ (o : Option Link). LinkAt new n later o copies) (sym (stop.others n ne)) (other n (slice_get links n) (all.each n within))
      ];
    }
      where
        never : new.unsettled at.repo ≡ Calm → ⊥
        never calm = out_of_order at.repo at.session k (old.opened.base at.repo) d.met d.at (new.seen at.repo) (new.unsettled at.repo) outage d.answer calm

        one : (link : Option Link) → LinkAt new at.repo later link copies → LinkAt new at.repo later (option_map (waiting Idle) link) copies
        one None h = h
        one (Some Apart) h = h
        one (Some (Joined s upto waits)) h = not_calm new later at.repo s upto waits copies Idle never h
        one (Some (Unsettled sent index)) h = h

        here : at.repo < new.opened.repos → LinkAt new at.repo later (slice_get after.links.items at.repo) copies
        here within = subst (λ (o : Option Link). LinkAt new at.repo later o copies) (sym stop.here) (one (slice_get links at.repo) (all.each at.repo within))

        other : (n : ℕ) (link : Option Link) → LinkAt new n later link copies → LinkAt new n later (option_map stopped link) copies
        other n None h = h
        other n (Some Apart) h = h
        other n (Some (Joined s upto waits)) h = same_awaits new later n s upto waits (without_messages waits) copies (still_reply waits) h
        other n (Some (Unsettled sent index)) h = h

    -- ---- requests

    acknowledges : (s : Sending) → IsOfSession links s → (upto : ℕ) (waits : Waits) → slice_get links s.at.repo ≡ Some (Joined s.request.session upto waits) → s.request.upto ≡ upto
    acknowledges s of upto waits is = of.upto (ap (is_session_of s.at.session) is ∙ same_test s.request.session s.at.session of.session) ∙ ap upto_in is

    module _ (s : Sending) (place : ℕ) (d : Does {X = ℕ} old new s.at.repo (Ok place) (CommitWork s.at.session s.request (Ok place))) (of : IsOfSession links s) (its : InSession s.at before) (idle_all : NoneAwaits 8 links) (held : HoldsWritten s.request before.cache.cache) where
      abbrev base : Base
      base = old.opened.base s.at.repo

      -- the trace behind the call, which ends with the request's entry
      accepted : verdict base d.at s.at.session s.request ≡ None × (new.seen s.at.repo ≡ d.at ++ E (alone_entry s.request) ∷ [])
      accepted = by d.met d.answer
        where
          by : (met : views.Unsettled) → Answered {X = ℕ} s.at.repo (Ok place) met d.at (new.seen s.at.repo) (new.unsettled s.at.repo) (CommitWork s.at.session s.request (Ok place) base d.at (new.seen s.at.repo) (new.unsettled s.at.repo))
              → verdict base d.at s.at.session s.request ≡ None × (new.seen s.at.repo ≡ d.at ++ E (alone_entry s.request) ∷ [])
          by Calm w = (w.0, w.2.0)
          by (MayCome e) w = absurd w.0
          by Halted w = absurd w.0

      -- where the repository is there
      module _ (inside_now : s.at.repo < new.opened.repos) where
        exact_behind : exact base (d.at ++ E (alone_entry s.request) ∷ [])
        exact_behind = subst (exact base) accepted.1 (exact_now old new s.at.repo later d.called.same (right.each s.at.repo inside_now))

        sound_behind : sound base (entries (d.at ++ E (alone_entry s.request) ∷ []))
        sound_behind = subst (λ (T : List Item). sound base (entries T)) accepted.1 (sound_now old new s.at.repo later d.called.same (right.each s.at.repo inside_now))

        number : base.repo ≡ s.at.repo
        number = numbered_now old new s.at.repo later d.called.same (right.each s.at.repo inside_now)

        commits_there : (made : Copies) → SettledOwed new s.at.repo d.at s.at.session later → ((x : Oref) → x.repo ≡ s.at.repo → made x ≡ with_writes s.request copies x) → ((x : Oref) → x.repo ≢ s.at.repo → made x ≡ copies x) → LinksFit new later links made
        commits_there made settled wrote elsewhere =
            let h : HasSession s.at (slice_get links s.at.repo) = has_session s.at (slice_get links s.at.repo) its in
            let up : s.request.upto ≡ h.upto = acknowledges s of h.upto h.waits (h.is ∙ ap (λ (n : ℕ). Some (Joined n h.upto h.waits)) (sym of.session)) in
            committed_inside old new s.at h.upto h.waits links copies later right h.is fit made elsewhere s.request place d up (λ inside. quiet d.called.same idle_all s.at.repo (Joined s.at.session h.upto h.waits) inside h.is) (subst (λ (o : Opened). s.at.repo < new.opened.repos → new.unsettled s.at.repo ≡ Calm → lives (session (o.base s.at.repo) (new.seen s.at.repo) s.at.session) ≡ true → NoneToFinish (o.base s.at.repo) (entries d.at) s.at.session later) d.called.same settled)
            (λ fits tells. writes_on_pages base d.at s.request exact_behind sound_behind s.at.session of.session) (λ tells x here. wrote x (here ∙ number))

      -- elsewhere nothing is asked
      commits : (made : Copies) → SettledOwed new s.at.repo d.at s.at.session later → ((x : Oref) → x.repo ≡ s.at.repo → made x ≡ with_writes s.request copies x) → ((x : Oref) → x.repo ≢ s.at.repo → made x ≡ copies x) → LinksFit new later links made
      commits made settled wrote elsewhere =
          all_inside old new s.at.repo later links links copies made right (λ n other. refl) elsewhere fit (has_committed s.at.repo s.at.session s.request (Ok place) d) refl
          (λ inside seen h. (commits_there inside made settled wrote elsewhere).each s.at.repo inside)

    leaves : (n : ℕ) → LinkAt new n later (slice_get links n) copies → AreAmong copies (kept after.cache.cache) → n < new.opened.repos → (slice_get after.links.items n ≡ slice_get links n) ⊎ HasLeft n after → LinkAt new n later (slice_get after.links.items n) (kept after.cache.cache)
    leaves n h fewer within (inl same) = subst (λ (o : Option Link). LinkAt new n later o (kept after.cache.cache)) (sym same) (one (slice_get links n) h)
      where
        one : (o : Option Link) → LinkAt new n later o copies → LinkAt new n later o (kept after.cache.cache)
        one None h = h
        one (Some link) h = fewer_fit new n later link copies (kept after.cache.cache) fewer h
    leaves n h fewer within (inr left) = by (slice_get after.links.items n) left.apart
      where
        none : HoldsNone (new.opened.base n) (kept after.cache.cache)
        none x here = left.none x (here ∙ numbered n within)

        by : (o : Option Link) → session_in n o ≡ None → LinkAt new n later o (kept after.cache.cache)
        by None e = tt
        by (Some Apart) e = none
        by (Some (Joined s upto waits)) e = cc
        by (Some (Unsettled sent index)) e = none

  -- ---- verdicts

  decides : (at : At) (t : Ts) (v : Verdict) → Does {X = Verdict} old new at.repo (Ok v) (DecideWork at.session t true (Ok v)) → (x : Bool) → v.commit ≡ x → EndsSo x before after → VerdictOwed x old committed later t before → OutcomesTold old links (if_commit x t) committed later → ClientFits new later after
  decides at t v d true is ends owed told =
      then_client ends.0 d.called.same (then_less (seen before.cache.cache) ends.1 ends.2
      (decided_by_any old new at.repo at.session t v links (seen before.cache.cache) later d right (λ e. owed.told) (own_told old links committed later t copies (seen before.cache.cache) told owed fits.links)))
  decides at t v d false is ends owed told =
      then_client ends.0 d.called.same (then_less copies ends.1 ends.2
      (decided_by_any old new at.repo at.session t v links copies later d right (λ e. let f : false ≡ true = sym is ∙ e in cc) (others_told old links committed later copies told fits.links)))

  pub asks : (r : ℕ) (t : Ts) (v : Verdict) → Does {X = answer.Asked} old new r (Ok (answers.Settled v)) (AskWork t (Ok (answers.Settled v))) → (x : Bool) → v.commit ≡ x → EndsSo x before after → VerdictOwed x old committed later t before → OutcomesTold old links (if_commit x t) committed later → ClientFits new later after
  asks r t v d true is ends owed told =
      then_client ends.0 d.called.same (then_less (seen before.cache.cache) ends.1 ends.2
      (ask_all old new r links (seen before.cache.cache) later right (own_told old links committed later t copies (seen before.cache.cache) told owed fits.links) t (Ok (answers.Settled v)) d))
  asks r t v d false is ends owed told =
      then_client ends.0 d.called.same (then_less copies ends.1 ends.2 (ask_all old new r links copies later right (others_told old links committed later copies told fits.links) t (Ok (answers.Settled v)) d))

  -- ---- all steps

  fit_later : OutcomesTold old links None committed later → LinksFit old later links copies
  fit_later told = others_told old links committed later copies told fits.links

  step : (moves : Moves old new before after) → Owed old new before after committed later moves → OutcomesTold old links (verdict_of old new before after moves) committed later → ClientFits new later after
  step (Unsent a) owed told = sends (fit_later told) a owed
  step (Received at m d there takes same) owed told =
      let h : HasSession at (slice_get links at.repo) = has_session at (slice_get links at.repo) there in
      let held : Contents = before.cache.cache in
      then_client same d.called.same (then_fewer (kept takes.left) takes.fewer (fewer_all new later after.links.items (taken_at at.repo held takes.left) (kept takes.left) (taken_among at.repo held takes.left new m owed takes.brought)
      (same_links new later (at_repo links at.repo (took m)) after.links.items (taken_at at.repo held takes.left) takes.links
      (message_inside old new at h.upto h.waits links copies later right h.is (fit_later told) (taken_at at.repo held takes.left) (stays_away at.repo held takes.left) m (objects_in at.repo held takes.left new m owed) d (news_low (fit_later told) at m d owed)
      (brings_in at.repo held takes.left new m owed) (becomes at.repo held takes.left new m owed takes.brought)))))
  step (ReceivedNone at d there waits same fewer) owed told =
      let h : HasSession at (slice_get links at.repo) = has_session at (slice_get links at.repo) there in
      then_client same d.called.same (then_fewer copies fewer (none_came (fit_later told) at h d (none_all old new at h.upto h.waits links copies later right h.is (fit_later told) d) waits))
  step (ReceiveRefused at k d there loses same) owed told =
      let h : HasSession at (slice_get links at.repo) = has_session at (slice_get links at.repo) there in
      then_client same d.called.same (then_fewer (kept loses.left) loses.fewer (same_links new later (links_refused k at.repo links) after.links.items (kept loses.left) loses.links
      (lose_all new later at.repo links before.cache.cache loses.left numbered (refused_all old new at h.upto h.waits links copies later right h.is (fit_later told) k d) k loses.kept_so)))
  step (ReceiveStopped at k d there outage stop same fewer) owed told =
      let h : HasSession at (slice_get links at.repo) = has_session at (slice_get links at.repo) there in
      then_client same d.called.same (then_fewer copies fewer (stops (fit_later told) at k d outage stop (refused_all old new at h.upto h.waits links copies later right h.is (fit_later told) k d)))
  step (Prepared s place d of less) owed told =
      then_client less.0 d.called.same (then_less copies less.1 less.2 (prepared_in_any old new s.at.repo links copies later right (fit_later told) s.at.session s.request (Ok place) d (acknowledges (fit_later told) s of) (λ p is inside. owed inside)))
  step (PrepareRefused s k d of idle learns same) owed told =
      then_client same d.called.same (then_fewer (kept learns.left) learns.fewer (same_links new later (links_learnt k s.at.repo links) after.links.items (kept learns.left) learns.links
      (learn_all new later s.at.repo links before.cache.cache learns.left numbered (prepared_in_any old new s.at.repo links copies later right (fit_later told) s.at.session s.request (Err k) d (acknowledges (fit_later told) s of) (λ p is inside. cc)) k
      (λ link within is. quiet d.called.same idle s.at.repo link within is) learns.kept_so)))
  step (Committed s place d of in_it wrote held idle keeps) owed told =
      then_client keeps.0 d.called.same (then_less (seen before.cache.cache) keeps.1 keeps.2 (commits (fit_later told) s place d of in_it idle held (seen before.cache.cache) owed
      (λ x here. sees_written before.cache.cache s.request s.at.repo wrote x here) (λ x away. sees_kept before.cache.cache s.request s.at.repo wrote x away)))
  step (Transformed s place oref made d of session writes here held idle keeps) owed told =
      then_client keeps.0 d.called.same (then_less (with_made oref made before) keeps.1 keeps.2 (commits (fit_later told) s place d of session idle held (with_made oref made before) owed
      (λ x there. made_written s.request oref made writes copies x) (made_elsewhere oref made s.at.repo here copies)))
  step (CommitRefused s k d of idle learns same) owed told =
      then_client same d.called.same (then_fewer (kept learns.left) learns.fewer (same_links new later (links_learnt k s.at.repo links) after.links.items (kept learns.left) learns.links
      (learn_all new later s.at.repo links before.cache.cache learns.left numbered (uncommitted_in_any old new s.at.repo links copies later right (fit_later told) s.at.session s.request k d) k
      (λ link within is. quiet d.called.same idle s.at.repo link within is) learns.kept_so)))
  step (Decided at t v d idle ends) owed told = decides at t v d v.commit refl ends owed told
  step (Aborted at t v d less) owed told = then_client less.0 d.called.same (then_less copies less.1 less.2 (given_up_in_any old new at.repo links copies later right (fit_later told) at.session t v d))
  step (DecideRefused at t commit k d loses same) owed told =
      then_client same d.called.same (then_fewer (kept loses.left) loses.fewer (same_links new later (links_refused k at.repo links) after.links.items (kept loses.left) loses.links
      (lose_all new later at.repo links before.cache.cache loses.left numbered (undecided_in_any old new at.repo links copies later right (fit_later told) at.session t commit k d) k loses.kept_so)))
  step (Finished r t commit result d less) owed told = then_client less.0 d.called.same (then_less copies less.1 less.2 (finish_all old new r links copies later right (fit_later told) t commit result d))
  step (Forgot r t result d less) owed told = then_client less.0 d.called.same (then_less copies less.1 less.2 (forget_all old new r links copies later right (fit_later told) t result d))
  step (AskedOwn r t v d ends) owed told = asks r t v d v.commit refl ends owed told
  step (AskedInVain r t result d leave same fewer) owed told =
      let all : LinksFit new later links copies = ask_all old new r links copies later right (fit_later told) t result d in
      then_client same d.called.same (record { each = λ n within. leaves (fit_later told) n (all.each n within) fewer within (leave n) })

pub step_fits : (old new : View) (before after : Held) (committed later : Ts → Bool) (moves : Moves old new before after) → Owed old new before after committed later moves → OutcomesTold old before.links.items (verdict_of old new before after moves) committed later
    → AllSeenRight new later → ClientFits old committed before → ClientFits new later after
step_fits old new before after committed later moves owed told right fits = step old new before after committed later right fits moves owed told
