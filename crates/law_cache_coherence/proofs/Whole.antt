-- All links behind a call.
use Rattle.client_cache.specs.Copies.{Contents, kept}
use Rattle.law_cache_coherence.proofs.Handing.{link_asked, link_committed, link_finished, link_forgotten, link_given_up, link_prepared, link_undecided}
use Rattle.law_cache_coherence.proofs.Learned.{commit_learned, prepare_learned}
use Rattle.law_cache_coherence.proofs.Lending.{changes_here, connected, drew, fetched, granted, received_message, received_none, received_refused}
use Rattle.law_cache_coherence.proofs.Stepping.{all_fit}
use Rattle.law_cache_coherence.specs.Fitting.{Copies, FitsAt, NoneToFinish, SameCopies, with_writes}
use Rattle.law_cache_coherence.specs.Links.{Becomes, BringsContent}
use Rattle.law_cache_coherence.specs.Seen.{IsSeenRight, LinkAt, LinkIn, called_at}
use Rattle.law_cache_coherence.specs.Steps.{AllSeenRight, LinksFit, OthersStay}
use Rattle.client_state.specs.Calling.{Connects, CopiesBehind, CopiesLost, CopiesRefused, Draws, Fetches, Grants, is_session_of, links_asked, links_drawn, links_joined, links_refused}
use Rattle.client_state.specs.Learning.{links_learnt, without_session}
use Rattle.client_state.specs.Links.{at_repo, changed_at, is_reply, waiting}
use Rattle.client_state.specs.Taking.{took}
use Rattle.client_state.specs.declared.calls.Drew.{Drew}
use Rattle.client_state.specs.declared.link.Link.TheVariants.{Apart, Joined}
use Rattle.client_state.specs.declared.link.Link.{Link}
use Rattle.client_state.specs.declared.link.Waits.TheVariants.{Epoch, Idle, Past, Reply}
use Rattle.client_state.specs.declared.link.Waits.{Waits}
use Rattle.log_entries.specs.declared.request.Request.{Request}
use Rattle.session_outbox.specs.declared.answers.Asked as answer
use Rattle.session_outbox.specs.declared.answers.At.{At}
use Rattle.session_outbox.specs.declared.answers.Verdict.{Verdict}
use Rattle.session_outbox.specs.declared.answers.Welcome.{Welcome}
use Rattle.session_outbox.specs.declared.message.Message.{Message}
use Rattle.client_port.specs.Acting.{Acts, Asked, Committed, Connected, Decided, Drew as drew_so, Fetched, Finished, Forgot, Granted, Prepared, Received}
use Rattle.client_port.specs.Views.{Calm, View}
use Rattle.client_port.specs.Works.{AskWork, CommitWork, DecideWork, Does, FinishWork, ForgetWork, PrepareWork, ReceiveWork}
use Rattle.base_reasons.specs.declared.reason.Reason.TheVariants as reasons
use Rattle.spec_trace.specs.Notices.{lives, notice_of}
use Rattle.spec_trace.specs.Session.{is_news, place_of, session}
use Rattle.spec_trace.specs.Trace.{entries}
use Rattle.spec_trace.specs.Exact.{WritesOnPages}
use Rattle.std.proofs.Common.{Bool, List, [], ap, arith, cond, false, refl, subst, suc, sym, true, zero, ◌+◌, ◌<◌, ◌^◌, ◌∙◌, ◌∷◌, ◌≡◌, ◌≢◌, ℕ}
use Rattle.std.proofs.lemmas.Bool.Decides.{nat_tests}
use Rattle.std.proofs.lemmas.Option.{same_Some}
use Rattle.std.specs.List.{slice_get}
use Rattle.std.specs.Prelude.{Err, None, Ok, Option, Result, Some, nat_eq, slice_set, ◌&&◌}
use Rattle.thor_value.specs.declared.memory.NoMemory.{NoMemory}
use Rattle.thor_value.specs.declared.names.Oref.{Oref}
use Rattle.thor_value.specs.declared.names.Ts.{Ts}
use Rattle.thor_value.specs.declared.values.Obj.{Obj}
use Rattle.repo_refusals.specs.declared.refusal.Refusal.TheVariants as refused
use Rattle.repo_refusals.specs.declared.refusal.Refusal.{Refusal}

-- ---- links and copies of others

set_other : (xs : List Link) (r n : ℕ) (l : Link) → n ≢ r → slice_get (slice_set xs r l) n ≡ slice_get xs n
set_other [] r n l other = refl
set_other (x ∷ xs) zero zero l other = absurd (other refl)
set_other (x ∷ xs) zero (suc n) l other = refl
set_other (x ∷ xs) (suc r) zero l other = refl
set_other (x ∷ xs) (suc r) (suc n) l other = set_other xs r n l (λ e. other (ap suc e))

pub at_other : (xs : List Link) (r n : ℕ) (f : Link → Link) → n ≢ r → slice_get (at_repo xs r f) n ≡ slice_get xs n
at_other xs r n f other = by (slice_get xs r)
  where
    by : (o : Option Link) → slice_get (changed_at xs r f o) n ≡ slice_get xs n
    by None = refl
    by (Some l) = set_other xs r n (f l) other

apart_test : (m r : ℕ) → m ≢ r → nat_eq m r ≡ false
apart_test m r other = grind (arith, nat_tests, other)

module _ (r : ℕ) (before : List Link) where
  pub refused_other : (k : Refusal) (n : ℕ) → n ≢ r → slice_get (links_refused k r before) n ≡ slice_get before n
  refused_other (refused.Reason (reasons.Gone s)) n other = at_other before r n (without_session s) other
  refused_other (refused.Reason (reasons.Epoch m)) n other = refl
  refused_other (refused.Reason (reasons.Blocked t)) n other = refl
  refused_other (refused.Reason (reasons.TooOld t)) n other = refl
  refused_other (refused.Reason (reasons.Stale x p)) n other = refl
  refused_other (refused.Reason (reasons.Earlier t x)) n other = refl
  refused_other (refused.Reason (reasons.Later t x)) n other = refl
  refused_other (refused.Reason (reasons.Full m)) n other = refl
  refused_other (refused.Reason reasons.ClockEnd) n other = refl
  refused_other (refused.Down m) n other = refl
  refused_other (refused.Stopped m) n other = refl
  refused_other (refused.Damaged m p) n other = refl
  refused_other refused.NoMemory n other = refl

  pub learnt_other : (k : Refusal) (n : ℕ) → n ≢ r → slice_get (links_learnt k r before) n ≡ slice_get before n
  learnt_other (refused.Reason (reasons.Gone s)) n other = at_other before r n (without_session s) other
  learnt_other (refused.Reason (reasons.Epoch m)) n other = at_other before r n (waiting (Epoch m)) other
  learnt_other (refused.Reason (reasons.Blocked t)) n other = refl
  learnt_other (refused.Reason (reasons.TooOld t)) n other = refl
  learnt_other (refused.Reason (reasons.Stale x p)) n other = at_other before r n (waiting (Past p)) other
  learnt_other (refused.Reason (reasons.Earlier t x)) n other = refl
  learnt_other (refused.Reason (reasons.Later t x)) n other = refl
  learnt_other (refused.Reason (reasons.Full m)) n other = refl
  learnt_other (refused.Reason reasons.ClockEnd) n other = refl
  learnt_other (refused.Down m) n other = refl
  learnt_other (refused.Stopped m) n other = refl
  learnt_other (refused.Damaged m p) n other = refl
  learnt_other refused.NoMemory n other = refl

  module _ (copies left : Contents) (x : Oref) (away : x.repo ≢ r) where
    lost_other : (s : ℕ) → CopiesLost s r before copies left → kept left x ≡ kept copies x
    lost_other s lost = lost x ∙ ap (λ (t : Bool). cond (is_session_of s (slice_get before r) && t) None (kept copies x)) (apart_test x.repo r away) ∙ by (is_session_of s (slice_get before r))
      where
        by : (t : Bool) → cond (t && false) None (kept copies x) ≡ kept copies x
        by true = refl
        by false = refl

    pub copies_other : (k : Refusal) → CopiesRefused k r before copies left → kept left x ≡ kept copies x
    copies_other (refused.Reason (reasons.Gone s)) h = lost_other s h
    copies_other (refused.Reason (reasons.Epoch m)) h = h x
    copies_other (refused.Reason (reasons.Blocked t)) h = h x
    copies_other (refused.Reason (reasons.TooOld t)) h = h x
    copies_other (refused.Reason (reasons.Stale y p)) h = h x
    copies_other (refused.Reason (reasons.Earlier t y)) h = h x
    copies_other (refused.Reason (reasons.Later t y)) h = h x
    copies_other (refused.Reason (reasons.Full m)) h = h x
    copies_other (refused.Reason reasons.ClockEnd) h = h x
    copies_other (refused.Down m) h = h x
    copies_other (refused.Stopped m) h = h x
    copies_other (refused.Damaged m p) h = h x
    copies_other refused.NoMemory h = h x

    pub behind_other : {X : Type 0} (result : Result X Refusal) → CopiesBehind result r before copies left → kept left x ≡ kept copies x
    behind_other (Ok y) h = h x
    behind_other (Err k) h = copies_other k h

  pub asked_other : (result : Result (Unit {0}) Refusal) (n : ℕ) → n ≢ r → slice_get (links_asked result r before) n ≡ slice_get before n
  asked_other (Ok done) n other = at_other before r n (waiting Reply) other
  asked_other (Err k) n other = refused_other k n other

  pub drawn_other : (result : Result Ts Refusal) (n : ℕ) → n ≢ r → slice_get (links_drawn result r before) n ≡ slice_get before n
  drawn_other (Ok t) n other = refl
  drawn_other (Err k) n other = refused_other k n other

  pub joined_other : (result : Result Welcome Refusal) (n : ℕ) → n ≢ r → slice_get (links_joined result r before) n ≡ slice_get before n
  joined_other (Ok w) n other = at_other before r n (λ l. Joined w.session w.place Idle) other
  joined_other (Err k) n other = refl

-- ---- all links

-- of a call of the repository r
module _ (old new : View) (r : ℕ) (committed : Ts → Bool) (before after : List Link) (copies left : Copies) (seen : AllSeenRight new committed)
    (links : (n : ℕ) → n ≢ r → slice_get after n ≡ slice_get before n) (same : (x : Oref) → x.repo ≢ r → left x ≡ copies x) (fit : LinksFit old committed before copies) where
  others : OthersStay new (Some r) before after copies left
  others = record {
    links = λ n other. links n (λ e. other (ap Some (sym e)));
    copies_stay = λ n inside other x here. same x (λ e. other (ap Some (sym e ∙ here ∙ (seen.each n inside).numbered)));
  }

  pub all_inside : (acts : Acts old new) → called_at old new acts ≡ Some r → (r < new.opened.repos → IsSeenRight new r committed → LinkAt old r committed (slice_get before r) copies → LinkAt new r committed (slice_get after r) left) → LinksFit new committed after left
  all_inside acts is there =
      all_fit old new acts committed before after copies left seen (subst (λ (c : Option ℕ). OthersStay new c before after copies left) (sym is) others)
      (λ n e inside h. let m : n ≡ r = same_Some n r (sym e ∙ is) in subst (λ (k : ℕ). k < new.opened.repos → IsSeenRight new k committed → LinkAt old k committed (slice_get before k) copies → LinkAt new k committed (slice_get after k) left) (sym m) there inside (seen.each n inside) h) fit

  pub all_behind : (acts : Acts old new) → called_at old new acts ≡ Some r → (IsSeenRight new r committed → LinkAt old r committed (slice_get before r) copies → LinkAt new r committed (slice_get after r) left) → LinksFit new committed after left
  all_behind acts is there = all_inside acts is (λ inside right h. there right h)

-- a link that is there
link_there : (port : View) (r : ℕ) (committed : Ts → Bool) (links : List Link) (copies : Copies) (link : Link) → slice_get links r ≡ Some link → LinkAt port r committed (slice_get links r) copies → LinkIn port r committed link copies
link_there port r committed links copies link is h = subst (λ (o : Option Link). LinkAt port r committed o copies) is h

pub connect_all : (old new : View) (repo : ℕ) (before after : List Link) (copies : Copies) (committed : Ts → Bool) → Connects true old new repo old.opened.client before after → AllSeenRight new committed → slice_get before repo ≡ Some Apart
    → LinksFit old committed before copies → LinksFit new committed after copies
connect_all old new repo before after copies committed f seen there fit =
    all_behind old new repo committed before after copies copies seen (λ n other. ap (λ (ls : List Link). slice_get ls n) f.links ∙ joined_other repo before f.result n other) (λ x away. refl) fit
    (Connected repo old.opened.client f.result (f.call refl)) refl (λ right h. connected old new repo before after copies committed f right there (link_there old repo committed before copies Apart there h))

pub fetch_inside : (old new : View) (at : At) (page upto : ℕ) (before after : List Link) (copies left : Contents) (waits : Waits) (committed : Ts → Bool) → Fetches true old new at page upto before after copies left → AllSeenRight new committed
    → slice_get before at.repo ≡ Some (Joined at.session upto waits) → (at.repo < new.opened.repos → is_reply waits ≡ false) → (at.repo < new.opened.repos → new.unsettled at.repo ≡ Calm → lives (session (new.opened.base at.repo) (new.seen at.repo) at.session) ≡ true → NoneToFinish (new.opened.base at.repo) (entries (new.seen at.repo)) at.session committed) → LinksFit old committed before (kept copies) → LinksFit new committed after (kept left)
fetch_inside old new at page upto before after copies left waits committed f seen there idle settled fit =
    all_inside old new at.repo committed before after (kept copies) (kept left) seen (λ n other. ap (λ (ls : List Link). slice_get ls n) f.links ∙ asked_other at.repo before f.result n other) (λ x away. behind_other at.repo before copies left x away f.result f.kept_so) fit
    (Fetched at.repo at.session page upto f.result (f.call refl)) refl (λ inside right h. fetched old new at upto before after copies left waits committed page f right there (idle inside) (settled inside) (link_there old at.repo committed before (kept copies) (Joined at.session upto waits) there h))

pub fetch_all : (old new : View) (at : At) (page upto : ℕ) (before after : List Link) (copies left : Contents) (waits : Waits) (committed : Ts → Bool) → Fetches true old new at page upto before after copies left → AllSeenRight new committed
    → slice_get before at.repo ≡ Some (Joined at.session upto waits) → is_reply waits ≡ false → NoneToFinish (new.opened.base at.repo) (entries (new.seen at.repo)) at.session committed → LinksFit old committed before (kept copies) → LinksFit new committed after (kept left)
fetch_all old new at page upto before after copies left waits committed f seen there idle settled fit = fetch_inside old new at page upto before after copies left waits committed f seen there (λ inside. idle) (λ inside calm live. settled) fit

pub grant_inside : (old new : View) (at : At) (upto : ℕ) (before after : List Link) (copies left : Contents) (waits : Waits) (committed : Ts → Bool) → Grants true old new at before after copies left → AllSeenRight new committed
    → slice_get before at.repo ≡ Some (Joined at.session upto waits) → (at.repo < new.opened.repos → is_reply waits ≡ false) → LinksFit old committed before (kept copies) → LinksFit new committed after (kept left)
grant_inside old new at upto before after copies left waits committed f seen there idle fit =
    all_inside old new at.repo committed before after (kept copies) (kept left) seen (λ n other. ap (λ (ls : List Link). slice_get ls n) f.links ∙ asked_other at.repo before f.result n other) (λ x away. behind_other at.repo before copies left x away f.result f.kept_so) fit
    (Granted at.repo at.session f.result (f.call refl)) refl (λ inside right h. granted old new at upto before after copies left waits committed f right there (idle inside) (link_there old at.repo committed before (kept copies) (Joined at.session upto waits) there h))

pub grant_all : (old new : View) (at : At) (upto : ℕ) (before after : List Link) (copies left : Contents) (waits : Waits) (committed : Ts → Bool) → Grants true old new at before after copies left → AllSeenRight new committed
    → slice_get before at.repo ≡ Some (Joined at.session upto waits) → is_reply waits ≡ false → LinksFit old committed before (kept copies) → LinksFit new committed after (kept left)
grant_all old new at upto before after copies left waits committed f seen there idle fit = grant_inside old new at upto before after copies left waits committed f seen there (λ inside. idle) fit

pub draw_all : (old new : View) (at : At) (upto : ℕ) (answer : Result Drew NoMemory) (before after : List Link) (copies left : Contents) (waits : Waits) (committed : Ts → Bool) → Draws true old new at answer before after copies left → AllSeenRight new committed
    → slice_get before at.repo ≡ Some (Joined at.session upto waits) → LinksFit old committed before (kept copies) → LinksFit new committed after (kept left)
draw_all old new at upto answer before after copies left waits committed f seen there fit =
    all_behind old new at.repo committed before after (kept copies) (kept left) seen (λ n other. ap (λ (ls : List Link). slice_get ls n) f.links ∙ drawn_other at.repo before f.result n other) (λ x away. behind_other at.repo before copies left x away f.result f.kept_so) fit
    (drew_so at.repo at.session f.floor f.result (f.call refl)) refl (λ right h. drew old new at upto before after copies left waits committed answer f right there (link_there old at.repo committed before (kept copies) (Joined at.session upto waits) there h))

-- ---- requests that are refused

module _ (old new : View) (at : At) (upto : ℕ) (waits : Waits) (committed : Ts → Bool) (before : List Link) (copies left : Contents) (q : Request) (k : Refusal) where
  pub commit_all : Does {X = ℕ} old new at.repo (Err k) (CommitWork at.session q (Err k)) → AllSeenRight new committed → slice_get before at.repo ≡ Some (Joined at.session upto waits) → is_reply waits ≡ false → CopiesRefused k at.repo before copies left
      → LinksFit old committed before (kept copies) → LinksFit new committed (links_learnt k at.repo before) (kept left)
  commit_all d seen there idle lost fit =
      all_behind old new at.repo committed before (links_learnt k at.repo before) (kept copies) (kept left) seen (λ n other. learnt_other at.repo before k n other) (λ x away. copies_other at.repo before copies left x away k lost) fit
      (Committed at.repo at.session q (Err k) d) refl (λ right h. commit_learned old new at upto waits committed before copies left q k d right there idle lost (link_there old at.repo committed before (kept copies) (Joined at.session upto waits) there h))

  pub prepare_all : Does {X = ℕ} old new at.repo (Err k) (PrepareWork at.session q (Err k)) → AllSeenRight new committed → q.upto ≡ upto → committed q.tx ≡ false → slice_get before at.repo ≡ Some (Joined at.session upto waits) → is_reply waits ≡ false → CopiesRefused k at.repo before copies left
      → LinksFit old committed before (kept copies) → LinksFit new committed (links_learnt k at.repo before) (kept left)
  prepare_all d seen up open' there idle lost fit =
      all_behind old new at.repo committed before (links_learnt k at.repo before) (kept copies) (kept left) seen (λ n other. learnt_other at.repo before k n other) (λ x away. copies_other at.repo before copies left x away k lost) fit
      (Prepared at.repo at.session q (Err k) d) refl (λ right h. prepare_learned old new at upto waits committed before copies left q k d right up open' there idle lost (link_there old at.repo committed before (kept copies) (Joined at.session upto waits) there h))

-- ---- calls that leave links and copies as they are

module _ (old new : View) (r : ℕ) (links : List Link) (copies : Copies) (committed : Ts → Bool) (seen : AllSeenRight new committed) (fit : LinksFit old committed links copies) where
  pub as_inside : (acts : Acts old new) → called_at old new acts ≡ Some r → ((link : Link) → slice_get links r ≡ Some link → r < new.opened.repos → IsSeenRight new r committed → LinkIn old r committed link copies → LinkIn new r committed link copies) → LinksFit new committed links copies
  as_inside acts is stays = all_inside old new r committed links links copies copies seen (λ n other. refl) (λ x away. refl) fit acts is (λ inside right h. by (slice_get links r) refl inside right h)
    where
      by : (o : Option Link) → slice_get links r ≡ o → r < new.opened.repos → IsSeenRight new r committed → LinkAt old r committed o copies → LinkAt new r committed o copies
      by None e inside right h = h
      by (Some link) e inside right h = stays link e inside right h

  pub as_it_is : (acts : Acts old new) → called_at old new acts ≡ Some r → ((link : Link) → slice_get links r ≡ Some link → IsSeenRight new r committed → LinkIn old r committed link copies → LinkIn new r committed link copies) → LinksFit new committed links copies
  as_it_is acts is stays = as_inside acts is (λ link e inside right h. stays link e right h)

  pub finish_all : (t : Ts) (commit : Bool) (result : Result (Option ℕ) Refusal) → Does old new r result (FinishWork t commit result) → LinksFit new committed links copies
  finish_all t commit result d = as_it_is (Finished r t commit result d) refl (λ link e right h. link_finished old new r committed copies t commit result link d right h)

  pub forget_all : (t : Ts) (result : Result (Unit {0}) Refusal) → Does old new r result (ForgetWork t result) → LinksFit new committed links copies
  forget_all t result d = as_it_is (Forgot r t result d) refl (λ link e right h. link_forgotten old new r committed copies t result link d right h)

  pub ask_all : (t : Ts) (result : Result answer.Asked Refusal) → Does old new r result (AskWork t result) → LinksFit new committed links copies
  ask_all t result d = as_it_is (Asked r t result d) refl (λ link e right h. link_asked old new r committed copies t result link d right h)

module _ (old new : View) (at : At) (upto : ℕ) (waits : Waits) (links : List Link) (copies : Copies) (committed : Ts → Bool) (seen : AllSeenRight new committed) (there : slice_get links at.repo ≡ Some (Joined at.session upto waits)) (fit : LinksFit old committed links copies) where
  in_session : (acts : Acts old new) → called_at old new acts ≡ Some at.repo → (IsSeenRight new at.repo committed → LinkIn old at.repo committed (Joined at.session upto waits) copies → LinkIn new at.repo committed (Joined at.session upto waits) copies) → LinksFit new committed links copies
  in_session acts is stays = as_it_is old new at.repo links copies committed seen fit acts is (λ link e right h.
      let same : Joined at.session upto waits ≡ link = same_Some (Joined at.session upto waits) link (sym there ∙ e) in
      subst (λ (l : Link). LinkIn old at.repo committed l copies → LinkIn new at.repo committed l copies) same (stays right) h)

  pub prepared_all : (q : Request) (result : Result ℕ Refusal) → Does old new at.repo result (PrepareWork at.session q result) → q.upto ≡ upto → committed q.tx ≡ false → LinksFit new committed links copies
  prepared_all q result d up open' = in_session (Prepared at.repo at.session q result d) refl (λ right h. link_prepared old new at.repo at.session upto waits committed copies right h q result d up open')

  pub abort_all : (t : Ts) (v : Verdict) → Does {X = Verdict} old new at.repo (Ok v) (DecideWork at.session t false (Ok v)) → LinksFit new committed links copies
  abort_all t v d = in_session (Decided at.repo at.session t false (Ok v) d) refl (λ right h. link_given_up old new at.repo at.session upto waits committed copies right h t v d)

  pub undecided_all : (t : Ts) (commit : Bool) (k : Refusal) → Does {X = Verdict} old new at.repo (Err k) (DecideWork at.session t commit (Err k)) → LinksFit new committed links copies
  undecided_all t commit k d = in_session (Decided at.repo at.session t commit (Err k) d) refl (λ right h. link_undecided old new at.repo at.session upto waits committed copies right h t commit k d)

  pub none_all : Does {X = Option Message} old new at.repo (Ok None) (ReceiveWork at.session (Ok None)) → LinksFit new committed links copies
  none_all d = in_session (Received at.repo at.session (Ok None) d) refl (λ right h. received_none old new at upto waits committed copies d right h)

  pub refused_all : (k : Refusal) → Does {X = Option Message} old new at.repo (Err k) (ReceiveWork at.session (Err k)) → LinksFit new committed links copies
  refused_all k d = in_session (Received at.repo at.session (Err k) d) refl (λ right h. received_refused old new at upto waits committed copies k d right h)

  -- ---- calls that change links or copies of the repository alone

  module _ (left : Copies) (away : (x : Oref) → x.repo ≢ at.repo → left x ≡ copies x) where
    pub message_inside : (m : Message) (objects : ℕ → Option Obj) → Does {X = Option Message} old new at.repo (Ok (Some m)) (ReceiveWork at.session (Ok (Some m))) → (at.repo < new.opened.repos → is_news (notice_of m) ≡ true → place_of (notice_of m) + 1 < 2 ^ 64)
        → ((new.opened.base at.repo).tells ≡ true → BringsContent (new.opened.base at.repo) (entries (new.seen at.repo)) objects m) → Becomes at.repo objects m copies left → LinksFit new committed (at_repo links at.repo (took m)) left
    message_inside m objects d small brings becomes =
        all_inside old new at.repo committed links (at_repo links at.repo (took m)) copies left seen (λ n other. at_other links at.repo n (took m) other) away fit
        (Received at.repo at.session (Ok (Some m)) d) refl
        (λ inside right h. subst (λ (o : Option Link). LinkAt new at.repo committed o left) (sym (changes_here links at.repo (took m) (Joined at.session upto waits) there))
        (received_message old new at upto waits committed copies m objects left d right (small inside) brings becomes (link_there old at.repo committed links copies (Joined at.session upto waits) there h)))

    joined_so : (acts : Acts old new) → called_at old new acts ≡ Some at.repo → (at.repo < new.opened.repos → IsSeenRight new at.repo committed → LinkIn old at.repo committed (Joined at.session upto waits) copies → LinkIn new at.repo committed (Joined at.session upto waits) left) → LinksFit new committed links left
    joined_so acts is keeps =
        all_inside old new at.repo committed links links copies left seen (λ n other. refl) away fit acts is
        (λ inside right h. subst (λ (o : Option Link). LinkAt new at.repo committed o left) (sym there) (keeps inside right (link_there old at.repo committed links copies (Joined at.session upto waits) there h)))

    pub committed_inside : (q : Request) (place : ℕ) (d : Does {X = ℕ} old new at.repo (Ok place) (CommitWork at.session q (Ok place))) → q.upto ≡ upto → (at.repo < new.opened.repos → is_reply waits ≡ false) → (at.repo < new.opened.repos → new.unsettled at.repo ≡ Calm → lives (session (old.opened.base at.repo) (new.seen at.repo) at.session) ≡ true → NoneToFinish (old.opened.base at.repo) (entries d.at) at.session committed)
        → (FitsAt old.opened.client (old.opened.base at.repo) Calm d.at committed (record { session = at.session; upto = upto; awaits = is_reply waits; copies = copies }) → (old.opened.base at.repo).tells ≡ true → WritesOnPages (old.opened.base at.repo) d.at at.session q)
        → ((old.opened.base at.repo).tells ≡ true → SameCopies (old.opened.base at.repo) left (with_writes q copies)) → LinksFit new committed links left
    committed_inside q place d up idle settled pages become = joined_so (Committed at.repo at.session q (Ok place) d) refl (λ inside right h. link_committed old new at.repo at.session upto waits committed copies right h q place left d up (idle inside) (settled inside) pages become)
