-- A client asks only the repository that decides what it has sent.
use Rattle.base_reasons.specs.declared.reason.Reason.TheVariants as reasons
use Rattle.client_cache.specs.Copies.{Contents}
use Rattle.client_items.specs.declared.news.News.{News}
use Rattle.client_port.specs.Views.{View}
use Rattle.client_state.proofs.Stopping.{at_here, at_other}
use Rattle.client_state.specs.Calling.{links_asked, links_drawn, links_joined, links_refused}
use Rattle.client_state.specs.Handing.{ByAsking, ByLink, ByPreparing, IsSentBy}
use Rattle.client_state.specs.Learning.{is_session, links_learnt, without_session}
use Rattle.client_state.specs.Links.{at_repo, stopped, waiting}
use Rattle.client_state.specs.Moving.{Aborted, Asked, AskedInVain, AskedOwn, CommitRefused, Committed, Connected, DecideRefused, Decided, Drawn, EndsSo, Fetched, Finished, Forgot, Granted, IsApart, Moves, PrepareRefused, Prepared, ReceiveRefused, ReceiveStopped, Received, ReceivedNone, Rested, SendsNothing, Settled, StopsWaiting, Transformed, Unsent}
use Rattle.client_state.specs.Participants.{first_in, sent_of}
use Rattle.client_state.specs.Pending.{IsAsking, NonePending, Pending, PendsSo, SendsPending, StaysPending}
use Rattle.client_state.specs.Stepping.{AsksAgain, AsksInVain, AsksOwn, AsksWhereStopped, CommitsInVain, DecidesAll, HoldsUnknown, KeepsSent, PreparesFirst, PreparesNext, PreparesSo, Present, RefusesItem, RefusesTransform, SendsAlone, StepsSo, TriesSo}
use Rattle.client_state.specs.Taking.{took}
use Rattle.client_state.specs.Written.{LeavesApart, LeavesSo}
use Rattle.client_state.specs.declared.duties.Duties.{Duties}
use Rattle.client_state.specs.declared.held.Held.{Held}
use Rattle.client_state.specs.declared.link.Link.TheVariants.{Apart, Joined, Unsettled}
use Rattle.client_state.specs.declared.link.Link.{Link}
use Rattle.client_state.specs.declared.link.Waits.TheVariants as waits
use Rattle.client_state.specs.declared.link.Waits.{Waits}
use Rattle.client_state.specs.declared.requests.Sending.{Sending}
use Rattle.client_state.specs.declared.transaction.Sent.{Sent}
use Rattle.client_state.specs.declared.transaction.Transaction.{Transaction}
use Rattle.law_two_phase_clients.proofs.Preparing.{starts_there}
use Rattle.law_two_phase_clients.specs.Coordinating.{AsksCoordinators, IsDecidedAt, LinksAt, PendsAt}
use Rattle.repo_refusals.specs.declared.refusal.Refusal.TheVariants as refused
use Rattle.repo_refusals.specs.declared.refusal.Refusal.{Refusal}
use Rattle.session_outbox.specs.declared.answers.At.{At}
use Rattle.session_outbox.specs.declared.answers.Welcome.{Welcome}
use Rattle.session_outbox.specs.declared.message.Message.TheVariants.{Grant, Invalid, Page, Upgrade}
use Rattle.session_outbox.specs.declared.message.Message.{Message}
use Rattle.std.proofs.Common.{Bool, List, ap, cond, false, inl, inr, subst, sym, true, ℕ, ◌≡◌, ◌∙◌}
use Rattle.std.proofs.lemmas.Bool.{cases_eq}
use Rattle.std.proofs.lemmas.Option.{same_Some}
use Rattle.std.specs.Option.{option_map}
use Rattle.std.specs.Prelude.{Err, None, Ok, Option, Result, Some, slice_get, ◌⊎◌}
use Rattle.thor_value.specs.declared.names.Ts.{Ts}

-- ---- links

-- no link comes to keep what was sent by it
abbrev KeepsNoMore : (Link → Link) → Type 0
KeepsNoMore f = (l : Link) (sent : Sent) (index : ℕ) → f l ≡ Unsettled sent index → l ≡ Unsettled sent index

mapped : (f : Link → Link) → KeepsNoMore f → (o : Option Link) (sent : Sent) (index : ℕ) → option_map f o ≡ Some (Unsettled sent index) → o ≡ Some (Unsettled sent index)
mapped f keeps None sent index h = cc
mapped f keeps (Some l) sent index h = ap Some (keeps l sent index (same_Some (f l) (Unsettled sent index) h))

at_repo_keeps : (f : Link → Link) → KeepsNoMore f → (links after : List Link) (r : ℕ) → after ≡ at_repo links r f → LinksAt links → LinksAt after
at_repo_keeps f keeps links after r is kept n sent index there = elim (cases_eq n r) [
  | inl e ↦ kept n sent index (subst (λ (m : ℕ). slice_get links m ≡ Some (Unsettled sent index)) (sym e) (mapped f keeps (slice_get links r) sent index (sym (at_here f links r) ∙ (ap (λ (ls : List Link). slice_get ls r) (sym is) ∙ subst (λ (m : ℕ). slice_get after m ≡ Some (Unsettled sent index)) e there))))
  | inr away ↦ kept n sent index (sym (at_other f links r n away) ∙ (ap (λ (ls : List Link). slice_get ls n) (sym is) ∙ there))
]

same_keeps : (links after : List Link) → after ≡ links → LinksAt links → LinksAt after
same_keeps links after is kept = subst LinksAt (sym is) kept

wait_keeps : (w : Waits) → KeepsNoMore (waiting w)
wait_keeps w Apart sent index h = h
wait_keeps w (Joined s upto v) sent index h = cc
wait_keeps w (Unsettled x n) sent index h = h

apart_keeps : KeepsNoMore (λ l. Apart)
apart_keeps l sent index h = cc

joined_keeps : (s upto : ℕ) (w : Waits) → KeepsNoMore (λ l. Joined s upto w)
joined_keeps s upto w l sent index h = cc

stopped_keeps : KeepsNoMore stopped
stopped_keeps Apart sent index h = h
stopped_keeps (Joined s upto v) sent index h = cc
stopped_keeps (Unsettled x n) sent index h = h

without_by : (b : Bool) (l : Link) (sent : Sent) (index : ℕ) → cond b Apart l ≡ Unsettled sent index → l ≡ Unsettled sent index
without_by true l sent index h = cc
without_by false l sent index h = h

without_keeps : (n : ℕ) → KeepsNoMore (without_session n)
without_keeps n l sent index h = without_by (is_session n l) l sent index h

took_keeps : (m : Message) → KeepsNoMore (took m)
took_keeps (Page page bytes place) Apart sent index h = h
took_keeps (Page page bytes place) (Joined s upto v) sent index h = cc
took_keeps (Page page bytes place) (Unsettled x n) sent index h = h
took_keeps (Grant page place) Apart sent index h = h
took_keeps (Grant page place) (Joined s upto v) sent index h = cc
took_keeps (Grant page place) (Unsettled x n) sent index h = h
took_keeps (Invalid names place) Apart sent index h = h
took_keeps (Invalid names place) (Joined s upto v) sent index h = cc
took_keeps (Invalid names place) (Unsettled x n) sent index h = h
took_keeps (Upgrade number text place) Apart sent index h = h
took_keeps (Upgrade number text place) (Joined s upto v) sent index h = cc
took_keeps (Upgrade number text place) (Unsettled x n) sent index h = h

refused_keeps : (k : Refusal) (repo : ℕ) (links after : List Link) → after ≡ links_refused k repo links → LinksAt links → LinksAt after
refused_keeps (refused.Reason (reasons.Gone session)) repo links after is kept = at_repo_keeps (without_session session) (without_keeps session) links after repo is kept
refused_keeps (refused.Reason (reasons.Epoch n)) repo links after is kept = same_keeps links after is kept
refused_keeps (refused.Reason (reasons.Blocked tx)) repo links after is kept = same_keeps links after is kept
refused_keeps (refused.Reason (reasons.TooOld threshold)) repo links after is kept = same_keeps links after is kept
refused_keeps (refused.Reason (reasons.Stale oref place)) repo links after is kept = same_keeps links after is kept
refused_keeps (refused.Reason (reasons.Earlier tx oref)) repo links after is kept = same_keeps links after is kept
refused_keeps (refused.Reason (reasons.Later tx oref)) repo links after is kept = same_keeps links after is kept
refused_keeps (refused.Reason (reasons.Full limit)) repo links after is kept = same_keeps links after is kept
refused_keeps (refused.Reason reasons.ClockEnd) repo links after is kept = same_keeps links after is kept
refused_keeps (refused.Down n) repo links after is kept = same_keeps links after is kept
refused_keeps (refused.Stopped n) repo links after is kept = same_keeps links after is kept
refused_keeps (refused.Damaged n place) repo links after is kept = same_keeps links after is kept
refused_keeps refused.NoMemory repo links after is kept = same_keeps links after is kept

learnt_keeps : (k : Refusal) (repo : ℕ) (links after : List Link) → after ≡ links_learnt k repo links → LinksAt links → LinksAt after
learnt_keeps (refused.Reason (reasons.Gone session)) repo links after is kept = at_repo_keeps (without_session session) (without_keeps session) links after repo is kept
learnt_keeps (refused.Reason (reasons.Epoch n)) repo links after is kept = at_repo_keeps (waiting (waits.Epoch n)) (wait_keeps (waits.Epoch n)) links after repo is kept
learnt_keeps (refused.Reason (reasons.Blocked tx)) repo links after is kept = same_keeps links after is kept
learnt_keeps (refused.Reason (reasons.TooOld threshold)) repo links after is kept = same_keeps links after is kept
learnt_keeps (refused.Reason (reasons.Stale oref place)) repo links after is kept = at_repo_keeps (waiting (waits.Past place)) (wait_keeps (waits.Past place)) links after repo is kept
learnt_keeps (refused.Reason (reasons.Earlier tx oref)) repo links after is kept = same_keeps links after is kept
learnt_keeps (refused.Reason (reasons.Later tx oref)) repo links after is kept = same_keeps links after is kept
learnt_keeps (refused.Reason (reasons.Full limit)) repo links after is kept = same_keeps links after is kept
learnt_keeps (refused.Reason reasons.ClockEnd) repo links after is kept = same_keeps links after is kept
learnt_keeps (refused.Down n) repo links after is kept = same_keeps links after is kept
learnt_keeps (refused.Stopped n) repo links after is kept = same_keeps links after is kept
learnt_keeps (refused.Damaged n place) repo links after is kept = same_keeps links after is kept
learnt_keeps refused.NoMemory repo links after is kept = same_keeps links after is kept

joined_links : (result : Result Welcome Refusal) (repo : ℕ) (links after : List Link) → after ≡ links_joined result repo links → LinksAt links → LinksAt after
joined_links (Ok w) repo links after is kept = at_repo_keeps (λ l. Joined w.session w.place waits.Idle) (joined_keeps w.session w.place waits.Idle) links after repo is kept
joined_links (Err k) repo links after is kept = same_keeps links after is kept

asked_links : (result : Result (Unit {0}) Refusal) (repo : ℕ) (links after : List Link) → after ≡ links_asked result repo links → LinksAt links → LinksAt after
asked_links (Ok done) repo links after is kept = at_repo_keeps (waiting waits.Reply) (wait_keeps waits.Reply) links after repo is kept
asked_links (Err k) repo links after is kept = refused_keeps k repo links after is kept

drawn_links : (result : Result Ts Refusal) (repo : ℕ) (links after : List Link) → after ≡ links_drawn result repo links → LinksAt links → LinksAt after
drawn_links (Ok t) repo links after is kept = same_keeps links after is kept
drawn_links (Err k) repo links after is kept = refused_keeps k repo links after is kept

module _ (old new : View) (before after : Held) (kept : LinksAt before.links.items) where
  ends_links : (commit : Bool) → EndsSo commit before after → LinksAt after.links.items
  ends_links true h = same_keeps before.links.items after.links.items h.1 kept
  ends_links false h = same_keeps before.links.items after.links.items h.1 kept

  stops_links : (repo : ℕ) → StopsWaiting repo before after → LinksAt after.links.items
  stops_links repo h n sent index there = elim (cases_eq n repo) [
    | inl e ↦ kept n sent index (subst (λ (m : ℕ). slice_get before.links.items m ≡ Some (Unsettled sent index)) (sym e) (mapped (waiting waits.Idle) (wait_keeps waits.Idle) (slice_get before.links.items repo) sent index (sym h.here ∙ subst (λ (m : ℕ). slice_get after.links.items m ≡ Some (Unsettled sent index)) e there)))
    | inr away ↦ kept n sent index (mapped stopped stopped_keeps (slice_get before.links.items n) sent index (sym (h.others n away) ∙ there))
  ]

  apart_links : (r index : ℕ) (sent : Sent) → IsDecidedAt r sent → LeavesApart r index sent before after → LinksAt after.links.items
  apart_links r index sent at leaves n x i there = by (leaves n)
    where
      by : (slice_get after.links.items n ≡ slice_get before.links.items n) ⊎ (IsApart n after ⊎ ((n ≡ r) × KeepsSent n sent index after)) → IsDecidedAt n x
      by (inl same) = kept n x i (sym same ∙ there)
      by (inr (inl apart)) = absurd (let no : Unsettled x i ≡ Apart = apart (Unsettled x i) there in cc)
      by (inr (inr h)) = let is : Unsettled x i ≡ Unsettled sent index = h.1 (Unsettled x i) there in let same : x ≡ sent = cc in subst (λ (s : Sent). IsDecidedAt n s) (sym same) (subst (λ (m : ℕ). IsDecidedAt m sent) (sym h.0) at)

  sends_links : SendsNothing old new before after → LinksAt after.links.items
  sends_links (Rested same less) = same_keeps before.links.items after.links.items less.1 kept
  sends_links (Connected repo connects apart same fewer) = joined_links connects.result repo before.links.items after.links.items connects.links kept
  sends_links (Fetched at page left fetches idle same fewer) = asked_links fetches.result at.repo before.links.items after.links.items fetches.links kept
  sends_links (Granted at left grants idle same fewer) = asked_links grants.result at.repo before.links.items after.links.items grants.links kept
  sends_links (Drawn at answer left draws there same fewer) = drawn_links draws.result at.repo before.links.items after.links.items draws.links kept
  sends_links (Asked r t result does less) = same_keeps before.links.items after.links.items less.1 kept
  sends_links (Settled r t v sent index does there links same fewer) = at_repo_keeps (λ l. Apart) apart_keeps before.links.items after.links.items r links kept

  none_links : (at : At) → (after.links.items ≡ before.links.items) ⊎ (after.links.items ≡ at_repo before.links.items at.repo (waiting waits.Idle)) → LinksAt after.links.items
  none_links at (inl same) = same_keeps before.links.items after.links.items same kept
  none_links at (inr set) = at_repo_keeps (waiting waits.Idle) (wait_keeps waits.Idle) before.links.items after.links.items at.repo set kept

  module _ (item : Present) (a z : Pending) (came : News) (pending : PendsAt a) where
    asked_at_it : (r : ℕ) (t : Ts) (sent : Sent) (n : ℕ) → AsksOwn a r t sent n → IsDecidedAt r sent
    asked_at_it r t sent n own = let p : sent.ts.repo ≡ first_in sent.participants = subst PendsAt own.was pending in record { tx = p ∙ sym own.coordinator; first = sym own.coordinator }

    all_links : (n : Moves old new before after) (tries : TriesSo item old new before after n a z came) → LeavesSo item old new before after n a z came tries → LinksAt after.links.items
    all_links (Unsent sends) tries leaves = sends_links sends
    all_links (Received at m does there takes same) tries leaves = at_repo_keeps (took m) (took_keeps m) before.links.items after.links.items at.repo takes.links kept
    all_links (ReceivedNone at does there stays same fewer) tries leaves = none_links at stays
    all_links (ReceiveRefused at k does there loses same) tries leaves = refused_keeps k at.repo before.links.items after.links.items loses.links kept
    all_links (ReceiveStopped at k does there outage stops same fewer) tries leaves = stops_links at.repo stops
    all_links (Prepared s place does of less) tries leaves = same_keeps before.links.items after.links.items less.1 kept
    all_links (PrepareRefused s k does of idle learns same) tries leaves = learnt_keeps k s.at.repo before.links.items after.links.items learns.links kept
    all_links (Committed s place does of session wrote held idle keeps) tries leaves = same_keeps before.links.items after.links.items keeps.1 kept
    all_links (Transformed s place oref made does of session writes here held idle keeps) tries leaves = same_keeps before.links.items after.links.items keeps.1 kept
    all_links (CommitRefused s k does of idle learns same) tries leaves = learnt_keeps k s.at.repo before.links.items after.links.items learns.links kept
    all_links (Decided at t v does idle ends) tries leaves = ends_links v.commit ends
    all_links (Aborted at t v does less) tries leaves = same_keeps before.links.items after.links.items less.1 kept
    all_links (DecideRefused at t commit k does loses same) tries leaves = refused_keeps k at.repo before.links.items after.links.items loses.links kept
    all_links (Finished r t commit result does less) tries leaves = same_keeps before.links.items after.links.items less.1 kept
    all_links (Forgot r t result does less) tries leaves = same_keeps before.links.items after.links.items less.1 kept
    all_links (AskedOwn r t v does ends) tries leaves = ends_links v.commit ends
    all_links (AskedInVain r t result does left same fewer) tries leaves = apart_links r item.who.index tries.0 (asked_at_it r t tries.0 tries.1 tries.2) leaves

-- ---- what is undecided

module _ (item : Present) (before after : Held) (a z : Pending) (pending : PendsAt a) where
  none_pends : z ≡ NonePending → PendsAt z
  none_pends is = subst PendsAt (sym is) tt

  stays_pends : StaysPending a z before after → PendsAt z
  stays_pends (inl none) = none_pends none
  stays_pends (inr h) = subst PendsAt (sym h.0) pending

  sends_pends : (old new : View) (n : SendsNothing old new before after) → SendsPending old new before after n a z → PendsAt z
  sends_pends old new (Rested same less) h = stays_pends h
  sends_pends old new (Connected repo connects apart same fewer) h = none_pends h
  sends_pends old new (Fetched at page left fetches idle same fewer) h = none_pends h
  sends_pends old new (Granted at left grants idle same fewer) h = none_pends h
  sends_pends old new (Drawn at answer left draws there same fewer) h = none_pends h
  sends_pends old new (Asked r t result does less) h = stays_pends h
  sends_pends old new (Settled r t v sent index does there links same fewer) h = stays_pends h

  prepares_pends : (links : List Link) (c : Contents) (s : Sending) → PreparesSo item links c s a z → PendsAt z
  prepares_pends links c s (PreparesFirst left sends holds now) = subst PendsAt (sym now) (starts_there item links c s left sends)
  prepares_pends links c s (PreparesNext at rs left sends holds now) = let was : s.request.tx.repo ≡ at.repo = subst PendsAt sends.was pending in subst PendsAt (sym now) was

  -- what was sent alone goes to its coordinator
  alone_at : (links : List Link) (c : Contents) (s : Sending) (left : Transaction) → SendsAlone item links c s left → s.request.tx.repo ≡ first_in left.participants
  alone_at links c s left alone = sym (ap (λ (x : Transaction). first_in x.participants) alone.sends.sends.rest ∙ alone.sends.starts.coordinator)

  asks_pends : (k : Refusal) (t : Ts) (at : At) (left : Transaction) → t.repo ≡ first_in left.participants → AsksWhereStopped k (sent_of t at left) z → PendsAt z
  asks_pends (refused.Reason r) t at left first h = none_pends h
  asks_pends (refused.Down r) t at left first h = none_pends h
  asks_pends (refused.Stopped r) t at left first h = subst PendsAt (sym h) first
  asks_pends (refused.Damaged r n) t at left first h = none_pends h
  asks_pends refused.NoMemory t at left first h = none_pends h

  commits_pends : (client : ℕ) (links : List Link) (c : Contents) (s : Sending) (k : Refusal) → CommitsInVain item client links c s k z → PendsAt z
  commits_pends client links c s k (RefusesItem left alone asks) = asks_pends k s.request.tx s.at left (alone_at links c s left alone) asks
  commits_pends client links c s k (RefusesTransform sends none) = none_pends none

  decides_pends : (at : At) (t : Ts) (transaction : Transaction) → DecidesAll a at t transaction → z ≡ IsAsking (sent_of t at transaction) 0 → PendsAt z
  decides_pends at t transaction all asks = let was : t.repo ≡ at.repo = subst PendsAt all.was pending in subst PendsAt (sym asks) (was ∙ sym (ap first_in all.all))

  vain_pends : (r : ℕ) (t : Ts) (sent : Sent) (n : ℕ) (came : News) → AsksOwn a r t sent n → AsksInVain item after r sent n z came → PendsAt z
  vain_pends r t sent n came own (AsksAgain asks left still) = let was : sent.ts.repo ≡ first_in sent.participants = subst PendsAt own.was pending in subst PendsAt (sym asks) was
  vain_pends r t sent n came own (HoldsUnknown none most unknown kept) = none_pends none

  all_pends : (old new : View) (came : News) (n : Moves old new before after) → PendsSo old new before after n a z → TriesSo item old new before after n a z came → PendsAt z
  all_pends old new came (Unsent sends) h tries = sends_pends old new sends h
  all_pends old new came (Received at m does there takes same) h tries = stays_pends h
  all_pends old new came (ReceivedNone at does there stays same fewer) h tries = stays_pends h
  all_pends old new came (ReceiveRefused at k does there loses same) h tries = stays_pends h
  all_pends old new came (ReceiveStopped at k does there outage stops same fewer) h tries = stays_pends h
  all_pends old new came (Prepared s place does of less) h tries = prepares_pends before.links.items before.cache.cache s tries.0
  all_pends old new came (PrepareRefused s k does of idle learns same) h tries = stays_pends h
  all_pends old new came (Committed s place does of session wrote held idle keeps) h tries = none_pends h
  all_pends old new came (Transformed s place oref made does of session writes here held idle keeps) h tries = none_pends h
  all_pends old new came (CommitRefused s k does of idle learns same) h tries = commits_pends before.client before.links.items before.cache.cache s k tries.0
  all_pends old new came (Decided at t v does idle ends) h tries = none_pends h.1
  all_pends old new came (Aborted at t v does less) h tries = stays_pends h
  all_pends old new came (DecideRefused at t true k does loses same) h tries = decides_pends at t tries.0 tries.1 tries.2
  all_pends old new came (DecideRefused at t false k does loses same) h tries = stays_pends h
  all_pends old new came (Finished r t commit result does less) h tries = stays_pends h
  all_pends old new came (Forgot r t result does less) h tries = stays_pends h
  all_pends old new came (AskedOwn r t v does ends) h tries = none_pends h.1
  all_pends old new came (AskedInVain r t result does left same fewer) h tries = vain_pends r t tries.0 tries.1 came tries.2 tries.3

pub stays : (item : Present) (old new : View) (before after : Held) (a z : Pending) (d e : Duties) (came : News) (step : StepsSo item old new before after a z d e came) → LeavesSo item old new before after step.moves a z came step.tries → AsksCoordinators a before.links.items → AsksCoordinators z after.links.items
stays item old new before after a z d e came step leaves asks = record {
  pending = all_pends item before after a z asks.pending old new came step.moves step.pends step.tries;
  kept = all_links old new before after asks.kept item a z came asks.pending step.moves step.tries leaves;
}

pub told : (a : Pending) (links : List Link) (r : ℕ) (sent : Sent) → IsSentBy a links r sent → AsksCoordinators a links → r ≡ sent.ts.repo
told a links r sent (ByAsking n was first) asks = let p : sent.ts.repo ≡ first_in sent.participants = subst PendsAt was asks.pending in first ∙ sym p
told a links r sent (ByPreparing rs transaction was is here) asks = let p : sent.ts.repo ≡ sent.at.repo = subst PendsAt was asks.pending in here ∙ sym p
told a links r sent (ByLink index there) asks = sym (asks.kept r sent index there).tx
