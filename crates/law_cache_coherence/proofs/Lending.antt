-- Links behind calls on a port that shows what its calls do.
use Rattle.client_cache.specs.Copies.{Contents, kept}
use Rattle.law_cache_coherence.proofs.Asking.{same_number}
use Rattle.law_cache_coherence.proofs.Growing.{agrees_before, grown}
use Rattle.law_cache_coherence.proofs.Linked.{become, outlives_while, tells_took}
use Rattle.law_cache_coherence.proofs.Staying.{clients_stay, is_own, lives_stands, when_live}
use Rattle.law_cache_coherence.proofs.Working as works
use Rattle.law_cache_coherence.specs.Fitting.{Agrees, Copies, FitsAt, HoldsNone, Kept, NoneToFinish, SameCopies, awaits_behind}
use Rattle.law_cache_coherence.specs.Links.{Becomes, BringsContent, FitsOrNone}
use Rattle.law_cache_coherence.specs.Seen.{IsSeenRight, LinkAt, LinkIn}
use Rattle.client_state.specs.Calling.{Connects, CopiesBehind, CopiesLost, CopiesRefused, CopiesStay, Draws, Fetches, Grants, is_session_of, links_asked, links_drawn, links_joined, links_refused}
use Rattle.client_state.specs.Learning.{without_session}
use Rattle.client_state.specs.Links.{at_repo, changed_at, is_reply, waiting}
use Rattle.client_state.specs.Taking.{took}
use Rattle.client_state.specs.declared.calls.Drew.{Drew}
use Rattle.client_state.specs.declared.link.Link.TheVariants.{Apart, Joined}
use Rattle.client_state.specs.declared.link.Link.{Link}
use Rattle.client_state.specs.declared.link.Waits.TheVariants.{Idle, Reply}
use Rattle.client_state.specs.declared.link.Waits.{Waits}
use Rattle.log_entries.specs.declared.entry.Entry.{Entry}
use Rattle.spec_history.proofs.Growth.{sound-beginning}
use Rattle.spec_history.specs.History.{Base}
use Rattle.spec_history.specs.Sound.{sound}
use Rattle.session_outbox.specs.declared.answers.At.{At}
use Rattle.session_outbox.specs.declared.answers.Welcome.{Welcome}
use Rattle.session_outbox.specs.declared.message.Message.{Message}
use Rattle.client_port.specs.Growing.{Called}
use Rattle.client_port.specs.Views.{Calm, Halted, MayCome, Opened, Unsettled, View}
use Rattle.client_port.specs.Works.{Answered, ConnectWork, Does, DrawWork, FetchWork, GrantWork, IsDown, ReceiveWork, RefusedMarked, RefusedUnmarked}
use Rattle.base_reasons.specs.declared.reason.Reason.TheVariants as reasons
use Rattle.base_reasons.specs.declared.reason.Reason.{Reason}
use Rattle.spec_trace.proofs.Exactness.{exact-beginning}
use Rattle.spec_trace.proofs.Taken.{after-mark}
use Rattle.spec_trace.proofs.Traces.{entries-append}
use Rattle.spec_trace.specs.Calls.{next_page}
use Rattle.spec_trace.specs.Current.{NoneAborted}
use Rattle.spec_trace.specs.Exact.{exact}
use Rattle.spec_trace.specs.Gaps.{client_in}
use Rattle.spec_trace.specs.Notices.{lives, notice_of, is_unended}
use Rattle.spec_trace.specs.Session.{bound, is_news, place_of, session}
use Rattle.spec_trace.specs.Trace.{Item, M, entries}
use Rattle.spec_trace.specs.declared.mark.Mark.TheVariants as the
use Rattle.std.proofs.Common.{Bool, List, [], ap, append_assoc, cond, false, refl, subst, sym, true, ◌+◌, ◌++◌, ◌<◌, ◌^◌, ◌∙◌, ◌∷◌, ◌≡◌, ◌≢◌, ℕ}
use Rattle.std.proofs.lemmas.List.{append-nil}
use Rattle.std.specs.List.{slice_get}
use Rattle.std.specs.Prelude.{Err, None, Ok, Option, Result, Some, nat_eq, slice_set, suc, zero, ◌&&◌}
use Rattle.thor_value.specs.declared.memory.NoMemory.{NoMemory}
use Rattle.thor_value.specs.declared.names.Ts.{Ts}
use Rattle.thor_value.specs.declared.values.Obj.{Obj}
use Rattle.repo_refusals.specs.declared.refusal.Refusal.TheVariants as refused
use Rattle.repo_refusals.specs.declared.refusal.Refusal.{Refusal}

-- ---- links

set_here : (xs : List Link) (r : ℕ) (old new : Link) → slice_get xs r ≡ Some old → slice_get (slice_set xs r new) r ≡ Some new
set_here [] r old new e = cc
set_here (x ∷ xs) zero old new e = refl
set_here (x ∷ xs) (suc r) old new e = set_here xs r old new e

-- a link that changes
pub changes_here : (xs : List Link) (r : ℕ) (f : Link → Link) (old : Link) → slice_get xs r ≡ Some old → slice_get (at_repo xs r f) r ≡ Some (f old)
changes_here xs r f old e = ap (λ (o : Option Link). slice_get (changed_at xs r f o) r) e ∙ set_here xs r old (f old) e

-- ---- what is seen

module _ (old new : View) (n : ℕ) (committed : Ts → Bool) (same : new.opened ≡ old.opened) (seen : IsSeenRight new n committed) where
  -- what is right by the view behind the call, with what was opened by the one before it
  pub sound_now : sound (old.opened.base n) (entries (new.seen n))
  sound_now = subst (λ (o : Opened). sound (o.base n) (entries (new.seen n))) same seen.owed

  pub exact_now : exact (old.opened.base n) (new.seen n)
  exact_now = subst (λ (o : Opened). exact (o.base n) (new.seen n)) same seen.kept

  pub none_aborted_now : NoneAborted (old.opened.base n) (entries (new.seen n)) committed
  none_aborted_now = subst (λ (o : Opened). NoneAborted (o.base n) (entries (new.seen n)) committed) same (seen.agrees 0).kept

  agrees_standing : (s : ℕ) → new.unsettled n ≡ Calm → is_unended (session (old.opened.base n) (new.seen n) s) ≡ true → Agrees (old.opened.base n) (entries (new.seen n)) s committed
  agrees_standing s = subst (λ (o : Opened). new.unsettled n ≡ Calm → is_unended (session (o.base n) (new.seen n) s) ≡ true → Agrees (o.base n) (entries (new.seen n)) s committed) same (λ calm on. record { kept = (seen.agrees s).kept; led = (seen.agrees s).led calm on })

  pub agrees_now : (s : ℕ) → new.unsettled n ≡ Calm → lives (session (old.opened.base n) (new.seen n) s) ≡ true → Agrees (old.opened.base n) (entries (new.seen n)) s committed
  agrees_now s calm live = agrees_standing s calm (lives_stands (session (old.opened.base n) (new.seen n) s) live)

  pub numbered_now : (old.opened.base n).repo ≡ n
  numbered_now = subst (λ (o : Opened). (o.base n).repo ≡ n) same seen.numbered

  -- a link that fits by what was opened before fits
  pub fits_now : (link : Option Link) (copies : Copies) → LinkAt (record new { opened = old.opened }) n committed link copies → LinkAt new n committed link copies
  fits_now link copies h = subst (λ (o : Opened). LinkAt (record new { opened = o }) n committed link copies) (sym same) h

pub others_fit : (old new : View) (r n : ℕ) (at : List Item) (met : Unsettled) (committed : Ts → Bool) (link : Link) (copies : Copies) → Called old new r at met → n ≢ r → IsSeenRight new n committed → LinkIn old n committed link copies → LinkIn new n committed link copies
others_fit old new r n at met committed link copies called other seen h =
    fits_now old new n committed called.same seen (Some link) copies
    (outlives_while old.opened.client (old.opened.base n) committed link copies (old.unsettled n) (new.unsettled n) (old.seen n) (new.seen n) (called.others n other) (exact_now old new n committed called.same seen) (sound_now old new n committed called.same seen) (agrees_now old new n committed called.same seen) h)

-- ---- the trace at the call is a front of the one behind it

abbrev pub Front : List Item → List Item → Type 0
Front at after = (more : List Item) × (after ≡ at ++ more)

pub none_more : (at after : List Item) → after ≡ at → Front at after
none_more at after e = ([], e ∙ sym (append-nil at))

pub one_more : (at after : List Item) (i : Item) → after ≡ at ++ i ∷ [] → Front at after
one_more at after i e = (i ∷ [], e)

pub answered_front : {X : Type 0} (r : ℕ) (result : Result X Refusal) (met : Unsettled) (at after : List Item) (u : Unsettled) (work : Type 0) → (work → Front at after) → Answered r result met at after u work → Front at after
answered_front r result Calm at after u work f h = f h
answered_front r result (MayCome e) at after u work f h = none_more at after h.1
answered_front r result Halted at after u work f h = none_more at after h.1

module _ (b : Base) (at after : List Item) (u : Unsettled) (s : ℕ) where
  pub unmarked_front : (k : Refusal) → RefusedUnmarked b at s k after u → Front at after
  unmarked_front (refused.Reason k) w = none_more at after w.2.0
  unmarked_front (refused.Down n) w = none_more at after w.1.0
  unmarked_front (refused.Stopped n) w = none_more at after w.1.0
  unmarked_front (refused.Damaged n k) w = none_more at after w.1.0
  unmarked_front refused.NoMemory w = none_more at after w.1.0

  marked_front : (k : Refusal) → RefusedMarked b at s k after u → Front at after
  marked_front (refused.Reason k) w = one_more at after (M (the.Refused s None (refused.Reason k))) w.1.0
  marked_front (refused.Down n) w = none_more at after w.0
  marked_front (refused.Stopped n) w = none_more at after w.0
  marked_front (refused.Damaged n k) w = none_more at after w.0
  marked_front refused.NoMemory w = none_more at after w.0

  fetch_front : (page upto : ℕ) (result : Result (Unit {0}) Refusal) → FetchWork s page upto result b at after u → Front at after
  fetch_front page upto (Ok done) w = one_more at after (M (the.Fetched s page upto)) w.1.0
  fetch_front page upto (Err k) w = unmarked_front k w

  grant_front : (result : Result (Unit {0}) Refusal) → GrantWork s result b at after u → Front at after
  grant_front (Ok done) w = one_more at after (M (the.Granted s (next_page b at))) w.2.0
  grant_front (Err k) w = marked_front k w

  draw_front : (floor : ℕ) (result : Result Ts Refusal) → DrawWork s floor result b at after u → Front at after
  draw_front floor (Ok t) w = one_more at after (M (the.Drew s t)) w.3.0
  draw_front floor (Err k) w = marked_front k w

-- ---- a call of a session

-- the same copies of the repository's objects fit
pub same_copies : (c : ℕ) (b : Base) (u : Unsettled) (T : List Item) (committed : Ts → Bool) (kept' : Kept) (copies : Copies) → SameCopies b copies kept'.copies → FitsAt c b u T committed kept' → FitsAt c b u T committed (record kept' { copies = copies })
same_copies c b u T committed k copies same h = record {
  v = h.v;
  there = h.there;
  own = h.own;
  keeps = λ calm live. let y = h.keeps calm live in record {
    known = y.known;
    step = y.step;
    asked = y.asked;
    copies = λ tells. let z = y.copies tells in record {
      current = λ x o here is. z.current x o here (sym (same x here) ∙ is);
      own = λ x o d t w here own is. z.own x o d t w here own (sym (same x here) ∙ is);
      pages = z.pages;
    };
  };
}

module _ (old new : View) (r : ℕ) (committed : Ts → Bool) (at : List Item) (met : Unsettled) (called : Called old new r at met) (seen : IsSeenRight new r committed) where
  abbrev c : ℕ
  c = old.opened.client

  abbrev b : Base
  b = old.opened.base r

  abbrev after : List Item
  after = new.seen r

  abbrev u : Unsettled
  u = new.unsettled r

  sd : sound b (entries after)
  sd = sound_now old new r committed called.same seen

  split : (f : Front at after) → entries after ≡ entries at ++ entries f.0
  split f = ap entries f.1 ∙ entries-append at f.0

  -- what is kept fits the trace at the call
  pub met_standing : Front at after → (kept' : Kept) → FitsAt c b (old.unsettled r) (old.seen r) committed kept' → u ≡ Calm → is_unended (session b after kept'.session) ≡ true → FitsAt c b met at committed kept'
  met_standing f k h calm on =
      let here : sound b (entries at ++ entries f.0) = subst (sound b) (split f) sd in
      grown c b committed k (old.unsettled r) met (old.seen r) at called.reached (exact-beginning b at f.0 (subst (exact b) f.1 (exact_now old new r committed called.same seen))) (sound-beginning b (entries at) (entries f.0) here)
      (agrees_before b (entries at) (entries f.0) k.session committed here (subst (λ H. Agrees b H k.session committed) (split f) (agrees_standing old new r committed called.same seen k.session calm on))) h

  pub met_fits : Front at after → (kept' : Kept) → FitsAt c b (old.unsettled r) (old.seen r) committed kept' → u ≡ Calm → lives (session b after kept'.session) ≡ true → FitsAt c b met at committed kept'
  met_fits f k h calm live = met_standing f k h calm (lives_stands (session b after k.session) live)

  -- the session is the client's behind the call
  pub own_now : Front at after → (kept' : Kept) → FitsAt c b (old.unsettled r) (old.seen r) committed kept' → client_in b after kept'.session ≡ Some c
  own_now f k h =
      let behind : after ≡ old.seen r ++ (called.reached.gap ++ f.0) = f.1 ∙ ap (λ (T : List Item). T ++ f.0) called.reached.ends ∙ append_assoc (old.seen r) called.reached.gap f.0 in
      subst (λ (T : List Item). client_in b T k.session ≡ Some c) (sym behind) (clients_stay c b k.session (old.seen r) (called.reached.gap ++ f.0) (subst (exact b) behind (exact_now old new r committed called.same seen)) (is_own c b (old.unsettled r) (old.seen r) committed k h))

  module _ (s upto : ℕ) (waits : Waits) (before : List Link) (copies left : Contents) (there : slice_get before r ≡ Some (Joined s upto waits)) (mine : client_in b after s ≡ Some c) where
    -- while the session is live and nothing is unsettled
    abbrev While : Type 0 → Type 0
    While fits = u ≡ Calm → lives (session b after s) ≡ true → fits

    abbrev holding : Bool → Copies → Kept
    holding awaits copies' = record { session = s; upto = upto; awaits = awaits; copies = copies' }

    stay : CopiesStay copies left → SameCopies b (kept left) (kept copies)
    stay h x here = h x

    -- the session is gone
    apart : CopiesLost s r before copies left → HoldsNone b (kept left)
    apart lost x here = lost x ∙ ap (λ (o : Option Link). cond (is_session_of s o && nat_eq x.repo r) None (kept copies x)) there ∙ ap (λ (t : Bool). cond (t && nat_eq x.repo r) None (kept copies x)) (same_number s) ∙ ap (λ (t : Bool). cond t None (kept copies x)) here_so
      where
        here_so : nat_eq x.repo r ≡ true
        here_so = ap (λ (n : ℕ). nat_eq n r) (here ∙ numbered_now old new r committed called.same seen) ∙ same_number r

    gone_link : slice_get (at_repo before r (without_session s)) r ≡ Some Apart
    gone_link = changes_here before r (without_session s) (Joined s upto waits) there ∙ ap (λ (t : Bool). Some (cond t Apart (Joined s upto waits))) (same_number s)

    -- what holds of the link behind the call
    abbrev Then : Option Link → Type 0
    Then link = LinkAt (record new { opened = old.opened }) r committed link (kept left)

    lost_fits : CopiesLost s r before copies left → Then (slice_get (at_repo before r (without_session s)) r)
    lost_fits lost = subst Then (sym gone_link) (apart lost)

    stays_fits : CopiesStay copies left → FitsAt c b u after committed (holding (is_reply waits) (kept copies)) → Then (slice_get before r)
    stays_fits h fits = subst Then (sym there) (same_copies c b u after committed (holding (is_reply waits) (kept copies)) (kept left) (stay h) fits)

    asked_fits : CopiesStay copies left → FitsAt c b u after committed (holding true (kept copies)) → Then (slice_get (at_repo before r (waiting Reply)) r)
    asked_fits h fits = subst Then (sym (changes_here before r (waiting Reply) (Joined s upto waits) there)) (same_copies c b u after committed (holding true (kept copies)) (kept left) (stay h) fits)

    -- a refusal of a call that sends nothing of a transaction, which names this session where it is gone
    refused_fits : (k : Refusal) → ((n : ℕ) → k ≡ refused.Reason (reasons.Gone n) → n ≡ s) → CopiesRefused k r before copies left → FitsAt c b u after committed (holding (is_reply waits) (kept copies)) → Then (slice_get (links_refused k r before) r)
    refused_fits (refused.Reason (reasons.Gone n)) own h fits = subst (λ (m : ℕ). CopiesLost m r before copies left → Then (slice_get (at_repo before r (without_session m)) r)) (sym (own n refl)) lost_fits h
    refused_fits (refused.Reason (reasons.Epoch n)) own h fits = stays_fits h fits
    refused_fits (refused.Reason (reasons.Blocked t)) own h fits = stays_fits h fits
    refused_fits (refused.Reason (reasons.TooOld t)) own h fits = stays_fits h fits
    refused_fits (refused.Reason (reasons.Stale x k)) own h fits = stays_fits h fits
    refused_fits (refused.Reason (reasons.Earlier t x)) own h fits = stays_fits h fits
    refused_fits (refused.Reason (reasons.Later t x)) own h fits = stays_fits h fits
    refused_fits (refused.Reason (reasons.Full n)) own h fits = stays_fits h fits
    refused_fits (refused.Reason reasons.ClockEnd) own h fits = stays_fits h fits
    refused_fits (refused.Down n) own h fits = stays_fits h fits
    refused_fits (refused.Stopped n) own h fits = stays_fits h fits
    refused_fits (refused.Damaged n k) own h fits = stays_fits h fits
    refused_fits refused.NoMemory own h fits = stays_fits h fits

    unmarked_own : (k : Refusal) → RefusedUnmarked b at s k after u → (n : ℕ) → k ≡ refused.Reason (reasons.Gone n) → n ≡ s
    unmarked_own (refused.Reason k) w n e = let both : refused.Reason (reasons.Gone s) ≡ refused.Reason (reasons.Gone n) = ap (λ (z : Reason). refused.Reason z) (sym w.0) ∙ e in cc
    unmarked_own (refused.Down m) w n e = cc
    unmarked_own (refused.Stopped m) w n e = cc
    unmarked_own (refused.Damaged m k) w n e = cc
    unmarked_own refused.NoMemory w n e = cc

    marked_own : (k : Refusal) → RefusedMarked b at s k after u → (n : ℕ) → k ≡ refused.Reason (reasons.Gone n) → n ≡ s
    marked_own (refused.Reason (reasons.Gone m)) w n e = let same : m ≡ n = cc in sym same ∙ w.0.0
    marked_own (refused.Reason (reasons.Epoch m)) w n e = cc
    marked_own (refused.Reason (reasons.Blocked t)) w n e = cc
    marked_own (refused.Reason (reasons.TooOld t)) w n e = cc
    marked_own (refused.Reason (reasons.Stale x k)) w n e = cc
    marked_own (refused.Reason (reasons.Earlier t x)) w n e = cc
    marked_own (refused.Reason (reasons.Later t x)) w n e = cc
    marked_own (refused.Reason (reasons.Full m)) w n e = cc
    marked_own (refused.Reason reasons.ClockEnd) w n e = cc
    marked_own (refused.Down m) w n e = cc
    marked_own (refused.Stopped m) w n e = cc
    marked_own (refused.Damaged m k) w n e = cc
    marked_own refused.NoMemory w n e = cc

    -- a repository that is down answers so
    module _ {X : Type 0} (links_of : Result X Refusal → ℕ → List Link → List Link) (down_links : (n : ℕ) → links_of (Err (refused.Down n)) r before ≡ before) (waits_here : While (FitsAt c b met at committed (holding (is_reply waits) (kept copies)))) where
      down_fits : (result : Result X Refusal) (m : Unsettled) → met ≡ m → IsDown r result → after ≡ at → u ≡ m → CopiesBehind result r before copies left → Then (slice_get (links_of result r before) r)
      down_fits (Ok x) m e d a k h = absurd d
      down_fits (Err (refused.Reason z)) m e d a k h = absurd d
      down_fits (Err (refused.Down n)) m e d a k h =
          subst (λ (ls : List Link). Then (slice_get ls r)) (sym (down_links n))
          (stays_fits h (when_live c b u after committed (holding (is_reply waits) (kept copies)) mine (λ calm live.
          subst (λ (T : List Item). FitsAt c b u T committed (holding (is_reply waits) (kept copies))) (sym a) (subst (λ (x : Unsettled). FitsAt c b x at committed (holding (is_reply waits) (kept copies))) (e ∙ sym k) (waits_here calm live)))))
      down_fits (Err (refused.Stopped n)) m e d a k h = absurd d
      down_fits (Err (refused.Damaged n z)) m e d a k h = absurd d
      down_fits (Err refused.NoMemory) m e d a k h = absurd d

      answer_fits : (result : Result X Refusal) (work : Type 0) (m : Unsettled) → met ≡ m → Answered r result m at after u work → CopiesBehind result r before copies left → (met ≡ Calm → work → Then (slice_get (links_of result r before) r)) → Then (slice_get (links_of result r before) r)
      answer_fits result work Calm e a h f = f e a
      answer_fits result work (MayCome d) e a h f = down_fits result (MayCome d) e a.0 a.1 a.2 h
      answer_fits result work Halted e a h f = down_fits result Halted e a.0 a.1 a.2 h

    none : NoneAborted b (entries after) committed
    none = none_aborted_now old new r committed called.same seen

    -- the calls, each by its answer
    module _ (waits_here : While (FitsAt c b met at committed (holding (is_reply waits) (kept copies)))) where
      calm_here : met ≡ Calm → While (FitsAt c b Calm at committed (holding (is_reply waits) (kept copies)))
      calm_here e calm live = subst (λ (x : Unsettled). FitsAt c b x at committed (holding (is_reply waits) (kept copies))) e (waits_here calm live)

      behind_so : (awaits : Bool) → While (FitsAt c b u after committed (holding awaits (kept copies))) → FitsAt c b u after committed (holding awaits (kept copies))
      behind_so awaits f = when_live c b u after committed (holding awaits (kept copies)) mine f

      idle_here : is_reply waits ≡ false → FitsAt c b Calm at committed (holding (is_reply waits) (kept copies)) → FitsAt c b Calm at committed (holding false (kept copies))
      idle_here idle h = subst (λ (t : Bool). FitsAt c b Calm at committed (holding t (kept copies))) idle h

      fetch_done : (page : ℕ) → is_reply waits ≡ false → While (NoneToFinish b (entries after) s committed) → (result : Result (Unit {0}) Refusal) → met ≡ Calm → FetchWork s page upto result b at after u → CopiesBehind result r before copies left → Then (slice_get (links_asked result r before) r)
      fetch_done page idle settled (Ok done) calm w k =
          let same : entries after ≡ entries at = ap entries w.1.0 ∙ after-mark b at (the.Fetched s page upto) in
          asked_fits k (behind_so true (λ u' live. works.fetched c b committed at after u (holding false (kept copies)) sd none (idle_here idle (calm_here calm u' live)) page refl (subst (λ (H : List Entry). NoneToFinish b H s committed) same (settled u' live)) w))
      fetch_done page idle settled (Err z) calm w k = refused_fits z (unmarked_own z w) k (behind_so (is_reply waits) (λ u' live. works.unmarked_fits c b committed at after u (holding (is_reply waits) (kept copies)) sd none (calm_here calm u' live) z w))

      grant_done : is_reply waits ≡ false → (result : Result (Unit {0}) Refusal) → met ≡ Calm → GrantWork s result b at after u → CopiesBehind result r before copies left → Then (slice_get (links_asked result r before) r)
      grant_done idle (Ok done) calm w k = asked_fits k (behind_so true (λ u' live. works.granted c b committed at after u (holding false (kept copies)) sd none (idle_here idle (calm_here calm u' live)) refl w))
      grant_done idle (Err z) calm w k = refused_fits z (marked_own z w) k (behind_so (is_reply waits) (λ u' live. works.marked_fits c b committed at after u (holding (is_reply waits) (kept copies)) sd none (calm_here calm u' live) z w))

      draw_done : (floor : ℕ) (result : Result Ts Refusal) → met ≡ Calm → DrawWork s floor result b at after u → CopiesBehind result r before copies left → Then (slice_get (links_drawn result r before) r)
      draw_done floor (Ok t) calm w k = stays_fits k (behind_so (is_reply waits) (λ u' live. works.drawn c b committed at after u (holding (is_reply waits) (kept copies)) sd none (calm_here calm u' live) floor t w))
      draw_done floor (Err z) calm w k = refused_fits z (marked_own z w) k (behind_so (is_reply waits) (λ u' live. works.marked_fits c b committed at after u (holding (is_reply waits) (kept copies)) sd none (calm_here calm u' live) z w))

-- ---- the calls

module _ (old new : View) (at : At) (upto : ℕ) (before after : List Link) (copies left : Contents) (waits : Waits) (committed : Ts → Bool) where
  abbrev repo : ℕ
  repo = at.repo

  pub fetched : (page : ℕ) → Fetches true old new at page upto before after copies left → IsSeenRight new at.repo committed → slice_get before at.repo ≡ Some (Joined at.session upto waits) → is_reply waits ≡ false
      → (new.unsettled at.repo ≡ Calm → lives (session (new.opened.base at.repo) (new.seen at.repo) at.session) ≡ true → NoneToFinish (new.opened.base at.repo) (entries (new.seen at.repo)) at.session committed)
      → LinkIn old at.repo committed (Joined at.session upto waits) (kept copies) → LinkAt new at.repo committed (slice_get after at.repo) (kept left)
  fetched page f seen there idle settled h =
      let d : Does old new repo f.result (FetchWork at.session page upto f.result) = f.call refl in
      let front : Front d.at (new.seen repo) = answered_front repo f.result d.met d.at (new.seen repo) (new.unsettled repo) (FetchWork at.session page upto f.result (old.opened.base repo) d.at (new.seen repo) (new.unsettled repo)) (fetch_front (old.opened.base repo) d.at (new.seen repo) (new.unsettled repo) at.session page upto f.result) d.answer in
      let here = met_fits old new repo committed d.at d.met d.called seen front (record { session = at.session; upto = upto; awaits = is_reply waits; copies = kept copies }) h in
      let mine = own_now old new repo committed d.at d.met d.called seen front (record { session = at.session; upto = upto; awaits = is_reply waits; copies = kept copies }) h in
      let settled' : new.unsettled repo ≡ Calm → lives (session (old.opened.base repo) (new.seen repo) at.session) ≡ true → NoneToFinish (old.opened.base repo) (entries (new.seen repo)) at.session committed = subst (λ (o : Opened). new.unsettled repo ≡ Calm → lives (session (o.base repo) (new.seen repo) at.session) ≡ true → NoneToFinish (o.base repo) (entries (new.seen repo)) at.session committed) d.called.same settled in
      fits_now old new repo committed d.called.same seen (slice_get after repo) (kept left)
      (subst (λ (ls : List Link). LinkAt (record new { opened = old.opened }) repo committed (slice_get ls repo) (kept left)) (sym f.links)
      (answer_fits old new repo committed d.at d.met d.called seen at.session upto waits before copies left there mine links_asked (λ n. refl) here f.result (FetchWork at.session page upto f.result (old.opened.base repo) d.at (new.seen repo) (new.unsettled repo)) d.met refl d.answer f.kept_so
      (λ calm work. fetch_done old new repo committed d.at d.met d.called seen at.session upto waits before copies left there mine here page idle settled' f.result calm work f.kept_so)))

  pub granted : Grants true old new at before after copies left → IsSeenRight new at.repo committed → slice_get before at.repo ≡ Some (Joined at.session upto waits) → is_reply waits ≡ false
      → LinkIn old at.repo committed (Joined at.session upto waits) (kept copies) → LinkAt new at.repo committed (slice_get after at.repo) (kept left)
  granted f seen there idle h =
      let d : Does old new repo f.result (GrantWork at.session f.result) = f.call refl in
      let front : Front d.at (new.seen repo) = answered_front repo f.result d.met d.at (new.seen repo) (new.unsettled repo) (GrantWork at.session f.result (old.opened.base repo) d.at (new.seen repo) (new.unsettled repo)) (grant_front (old.opened.base repo) d.at (new.seen repo) (new.unsettled repo) at.session f.result) d.answer in
      let here = met_fits old new repo committed d.at d.met d.called seen front (record { session = at.session; upto = upto; awaits = is_reply waits; copies = kept copies }) h in
      let mine = own_now old new repo committed d.at d.met d.called seen front (record { session = at.session; upto = upto; awaits = is_reply waits; copies = kept copies }) h in
      fits_now old new repo committed d.called.same seen (slice_get after repo) (kept left)
      (subst (λ (ls : List Link). LinkAt (record new { opened = old.opened }) repo committed (slice_get ls repo) (kept left)) (sym f.links)
      (answer_fits old new repo committed d.at d.met d.called seen at.session upto waits before copies left there mine links_asked (λ n. refl) here f.result (GrantWork at.session f.result (old.opened.base repo) d.at (new.seen repo) (new.unsettled repo)) d.met refl d.answer f.kept_so
      (λ calm work. grant_done old new repo committed d.at d.met d.called seen at.session upto waits before copies left there mine here idle f.result calm work f.kept_so)))

  pub drew : (answer : Result Drew NoMemory) → Draws true old new at answer before after copies left → IsSeenRight new at.repo committed → slice_get before at.repo ≡ Some (Joined at.session upto waits)
      → LinkIn old at.repo committed (Joined at.session upto waits) (kept copies) → LinkAt new at.repo committed (slice_get after at.repo) (kept left)
  drew answer f seen there h =
      let d : Does old new repo f.result (DrawWork at.session f.floor f.result) = f.call refl in
      let front : Front d.at (new.seen repo) = answered_front repo f.result d.met d.at (new.seen repo) (new.unsettled repo) (DrawWork at.session f.floor f.result (old.opened.base repo) d.at (new.seen repo) (new.unsettled repo)) (draw_front (old.opened.base repo) d.at (new.seen repo) (new.unsettled repo) at.session f.floor f.result) d.answer in
      let here = met_fits old new repo committed d.at d.met d.called seen front (record { session = at.session; upto = upto; awaits = is_reply waits; copies = kept copies }) h in
      let mine = own_now old new repo committed d.at d.met d.called seen front (record { session = at.session; upto = upto; awaits = is_reply waits; copies = kept copies }) h in
      fits_now old new repo committed d.called.same seen (slice_get after repo) (kept left)
      (subst (λ (ls : List Link). LinkAt (record new { opened = old.opened }) repo committed (slice_get ls repo) (kept left)) (sym f.links)
      (answer_fits old new repo committed d.at d.met d.called seen at.session upto waits before copies left there mine links_drawn (λ n. refl) here f.result (DrawWork at.session f.floor f.result (old.opened.base repo) d.at (new.seen repo) (new.unsettled repo)) d.met refl d.answer f.kept_so
      (λ calm work. draw_done old new repo committed d.at d.met d.called seen at.session upto waits before copies left there mine here f.floor f.result calm work f.kept_so)))

-- a client that is apart
module _ (old new : View) (repo : ℕ) (before : List Link) (copies : Copies) (committed : Ts → Bool) (there : slice_get before repo ≡ Some Apart) (none : LinkIn old repo committed Apart copies) where
  abbrev Joins : Result Welcome Refusal → Type 0
  Joins result = LinkAt (record new { opened = old.opened }) repo committed (slice_get (links_joined result repo before) repo) copies

  still_apart : (k : Refusal) → Joins (Err k)
  still_apart k = subst (λ (o : Option Link). LinkAt (record new { opened = old.opened }) repo committed o copies) (sym there) none

  joins : (met : Unsettled) (at : List Item) (result : Result Welcome Refusal) → Answered repo result met at (new.seen repo) (new.unsettled repo) (ConnectWork old.opened.client result (old.opened.base repo) at (new.seen repo) (new.unsettled repo)) → Joins result
  joins Calm at (Ok w) a = subst (λ (o : Option Link). LinkAt (record new { opened = old.opened }) repo committed o copies) (sym (changes_here before repo (λ l. Joined w.session w.place Idle) Apart there)) (works.connected old.opened.client (old.opened.base repo) committed at (new.seen repo) (new.unsettled repo) w copies none a)
  joins (MayCome e) at (Ok w) a = absurd a.0
  joins Halted at (Ok w) a = absurd a.0
  joins Calm at (Err k) a = still_apart k
  joins (MayCome e) at (Err k) a = still_apart k
  joins Halted at (Err k) a = still_apart k

pub connected : (old new : View) (repo : ℕ) (before after : List Link) (copies : Copies) (committed : Ts → Bool) → Connects true old new repo old.opened.client before after → IsSeenRight new repo committed → slice_get before repo ≡ Some Apart
    → LinkIn old repo committed Apart copies → LinkAt new repo committed (slice_get after repo) copies
connected old new repo before after copies committed f seen there none =
    let d : Does old new repo f.result (ConnectWork old.opened.client f.result) = f.call refl in
    fits_now old new repo committed d.called.same seen (slice_get after repo) copies
    (subst (λ (ls : List Link). LinkAt (record new { opened = old.opened }) repo committed (slice_get ls repo) copies) (sym f.links) (joins old new repo before copies committed there none d.met d.at f.result d.answer))

-- ---- a client that takes a message

module _ (old new : View) (r s upto : ℕ) (waits : Waits) (committed : Ts → Bool) (copies : Copies) (seen : IsSeenRight new r committed) (h : LinkIn old r committed (Joined s upto waits) copies) where
  abbrev base : Base
  base = old.opened.base r

  abbrev keeping : Kept
  keeping = record { session = s; upto = upto; awaits = is_reply waits; copies = copies }

  abbrev Behind : Link → Copies → Type 0
  Behind link left = LinkAt (record new { opened = old.opened }) r committed (Some link) left

  module _ (at : List Item) (met : Unsettled) (called : Called old new r at met) (front : Front at (new.seen r)) where
    abbrev WhileLive : Type 0 → Type 0
    WhileLive fits = new.unsettled r ≡ Calm → lives (session base (new.seen r) s) ≡ true → fits

    here : WhileLive (FitsAt old.opened.client base met at committed keeping)
    here = met_fits old new r committed at met called seen front keeping h

    -- what fits while the session is live fits
    so : (upto' : ℕ) (awaits : Bool) (left : Copies) → WhileLive (FitsAt old.opened.client base (new.unsettled r) (new.seen r) committed (record { session = s; upto = upto'; awaits = awaits; copies = left })) → FitsAt old.opened.client base (new.unsettled r) (new.seen r) committed (record { session = s; upto = upto'; awaits = awaits; copies = left })
    so upto' awaits left f = when_live old.opened.client base (new.unsettled r) (new.seen r) committed (record { session = s; upto = upto'; awaits = awaits; copies = left }) (own_now old new r committed at met called seen front keeping h) f

    there_sound : sound base (entries (new.seen r))
    there_sound = sound_now old new r committed called.same seen

    there_none : NoneAborted base (entries (new.seen r)) committed
    there_none = none_aborted_now old new r committed called.same seen

    -- what was met stays
    stays : (m : Unsettled) → met ≡ m → new.seen r ≡ at → new.unsettled r ≡ m → Behind (Joined s upto waits) copies
    stays m e a k = so upto (is_reply waits) copies (λ calm live. subst (λ (T : List Item). FitsAt old.opened.client base (new.unsettled r) T committed keeping) (sym a) (subst (λ (x : Unsettled). FitsAt old.opened.client base x at committed keeping) (e ∙ sym k) (here calm live)))

    calm_here' : met ≡ Calm → WhileLive (FitsAt old.opened.client base Calm at committed keeping)
    calm_here' e calm live = subst (λ (x : Unsettled). FitsAt old.opened.client base x at committed keeping) e (here calm live)

    none_done : (m : Unsettled) → met ≡ m → Answered {X = Option Message} r (Ok None) m at (new.seen r) (new.unsettled r) (ReceiveWork s (Ok None) base at (new.seen r) (new.unsettled r)) → Behind (Joined s upto waits) copies
    none_done Calm e w = so upto (is_reply waits) copies (λ calm live. works.none_came old.opened.client base committed at (new.seen r) (new.unsettled r) keeping there_sound there_none (calm_here' e calm live) w)
    none_done (MayCome d) e w = absurd w.0
    none_done Halted e w = absurd w.0

    refused_done : (z : Refusal) (m : Unsettled) → met ≡ m → Answered {X = Option Message} r (Err z) m at (new.seen r) (new.unsettled r) (ReceiveWork s (Err z) base at (new.seen r) (new.unsettled r)) → Behind (Joined s upto waits) copies
    refused_done z Calm e w = so upto (is_reply waits) copies (λ calm live. works.unmarked_fits old.opened.client base committed at (new.seen r) (new.unsettled r) keeping there_sound there_none (calm_here' e calm live) z w)
    refused_done z (MayCome d) e w = stays (MayCome d) e w.1 w.2
    refused_done z Halted e w = stays Halted e w.1 w.2

    module _ (m : Message) (objects : ℕ → Option Obj) (left : Copies) (top : is_news (notice_of m) ≡ true → place_of (notice_of m) + 1 < 2 ^ 64) (content : base.tells ≡ true → BringsContent base (entries (new.seen r)) objects m) (be : Becomes base.repo objects m copies left) where
      message_done : (x : Unsettled) → met ≡ x → Answered {X = Option Message} r (Ok (Some m)) x at (new.seen r) (new.unsettled r) (ReceiveWork s (Ok (Some m)) base at (new.seen r) (new.unsettled r)) → Behind (took m (Joined s upto waits)) left
      message_done Calm e w =
          let same : entries (new.seen r) ≡ entries at = ap entries w.2.0 ∙ after-mark base at (the.Took s (place_of (notice_of m))) in
          let content' : base.tells ≡ true → BringsContent base (entries at) objects m = λ tells. subst (λ (H : List Entry). BringsContent base H objects m) same (content tells) in
          subst (FitsOrNone old.opened.client base (new.unsettled r) (new.seen r) committed left) (sym (tells_took m s upto waits left top))
          (so (bound (notice_of m)) (awaits_behind (notice_of m) (is_reply waits)) left (λ calm live. works.received old.opened.client base committed at (new.seen r) (new.unsettled r) keeping there_sound there_none (calm_here' e calm live) m left (λ tells. become base (entries at) objects m copies left (content' tells) be) w))
      message_done (MayCome d) e w = absurd w.0
      message_done Halted e w = absurd w.0

-- the trace at the call is a front of the one behind it
receive_front : (b : Base) (at after : List Item) (u : Unsettled) (s : ℕ) (result : Result (Option Message) Refusal) → ReceiveWork s result b at after u → Front at after
receive_front b at after u s (Ok None) w = none_more at after w.2.0
receive_front b at after u s (Ok (Some m)) w = one_more at after (M (the.Took s (place_of (notice_of m)))) w.2.0
receive_front b at after u s (Err z) w = unmarked_front b at after u s z w

front_of : (old new : View) (at : At) (result : Result (Option Message) Refusal) (d : Does old new at.repo result (ReceiveWork at.session result)) → Front d.at (new.seen at.repo)
front_of old new at result d =
    answered_front at.repo result d.met d.at (new.seen at.repo) (new.unsettled at.repo) (ReceiveWork at.session result (old.opened.base at.repo) d.at (new.seen at.repo) (new.unsettled at.repo))
    (receive_front (old.opened.base at.repo) d.at (new.seen at.repo) (new.unsettled at.repo) at.session result) d.answer

module _ (old new : View) (at : At) (upto : ℕ) (waits : Waits) (committed : Ts → Bool) (copies : Copies) where
  pub received_none : Does {X = Option Message} old new at.repo (Ok None) (ReceiveWork at.session (Ok None)) → IsSeenRight new at.repo committed → LinkIn old at.repo committed (Joined at.session upto waits) copies → LinkIn new at.repo committed (Joined at.session upto waits) copies
  received_none d seen h = fits_now old new at.repo committed d.called.same seen (Some (Joined at.session upto waits)) copies (none_done old new at.repo at.session upto waits committed copies seen h d.at d.met d.called (front_of old new at (Ok None) d) d.met refl d.answer)

  pub received_refused : (z : Refusal) → Does {X = Option Message} old new at.repo (Err z) (ReceiveWork at.session (Err z)) → IsSeenRight new at.repo committed → LinkIn old at.repo committed (Joined at.session upto waits) copies → LinkIn new at.repo committed (Joined at.session upto waits) copies
  received_refused z d seen h = fits_now old new at.repo committed d.called.same seen (Some (Joined at.session upto waits)) copies (refused_done old new at.repo at.session upto waits committed copies seen h d.at d.met d.called (front_of old new at (Err z) d) z d.met refl d.answer)

  pub received_message : (m : Message) (objects : ℕ → Option Obj) (left : Copies) → Does {X = Option Message} old new at.repo (Ok (Some m)) (ReceiveWork at.session (Ok (Some m))) → IsSeenRight new at.repo committed → (is_news (notice_of m) ≡ true → place_of (notice_of m) + 1 < 2 ^ 64)
      → ((new.opened.base at.repo).tells ≡ true → BringsContent (new.opened.base at.repo) (entries (new.seen at.repo)) objects m) → Becomes at.repo objects m copies left → LinkIn old at.repo committed (Joined at.session upto waits) copies → LinkIn new at.repo committed (took m (Joined at.session upto waits)) left
  received_message m objects left d seen top content be h =
      let same = d.called.same in
      let content' : (old.opened.base at.repo).tells ≡ true → BringsContent (old.opened.base at.repo) (entries (new.seen at.repo)) objects m = subst (λ (o : Opened). (o.base at.repo).tells ≡ true → BringsContent (o.base at.repo) (entries (new.seen at.repo)) objects m) same content in
      let be' : Becomes (old.opened.base at.repo).repo objects m copies left = subst (λ (n : ℕ). Becomes n objects m copies left) (sym (numbered_now old new at.repo committed same seen)) be in
      fits_now old new at.repo committed same seen (Some (took m (Joined at.session upto waits))) left
      (message_done old new at.repo at.session upto waits committed copies seen h d.at d.met d.called (front_of old new at (Ok (Some m)) d) m objects left top content' be' d.met refl d.answer)
