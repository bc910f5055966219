-- What is left to be sent of a try's transaction is what the try has written.
use Rattle.base_reasons.specs.declared.reason.Reason.TheVariants as reasons
use Rattle.client_cache.specs.Copies.{Contents, changed}
use Rattle.client_cache.specs.Pages.{same_name}
use Rattle.client_items.specs.declared.news.News.{News}
use Rattle.client_port.specs.Views.{View}
use Rattle.client_port.specs.Works.{IsOutage}
use Rattle.client_state.proofs.Stopping.{at_here, at_other}
use Rattle.client_state.specs.Calling.{is_session_of, links_refused}
use Rattle.client_state.specs.Drawing.{DrawsSo, PreparesOut}
use Rattle.client_state.specs.Learning.{is_session, without_session}
use Rattle.client_state.specs.Links.{at_repo, stopped, waiting}
use Rattle.client_state.specs.Moving.{Aborted, Asked, AskedInVain, AskedOwn, CommitRefused, Committed, Connected, DecideRefused, Decided, Drawn, Fetched, Finished, Forgot, Granted, Moves, PrepareRefused, Prepared, ReceiveRefused, ReceiveStopped, Received, ReceivedNone, Rested, SendsNothing, Settled, StopsWaiting, Transformed, Unsent}
use Rattle.client_state.specs.Participants.{sent_of}
use Rattle.client_state.specs.Pending.{IsAsking, IsPreparing, NonePending, Pending, PendsSo, SendsPending, StaysPending}
use Rattle.client_state.specs.Sending.{AreApart, IsFirstOfItsOwn}
use Rattle.client_state.specs.Stepping.{AsksAgain, AsksInVain, AsksWhereStopped, CommitsInVain, HoldsUnknown, PreparesFirst, PreparesNext, PreparesSo, Present, RefusesItem, RefusesTransform, SendsMore, StepsSo, TriesSo, one_more}
use Rattle.client_state.specs.Taking.{WrittenWithout, took}
use Rattle.client_state.specs.Writing.{FirstOf, WritesStay, shares_write}
use Rattle.client_state.specs.Written.{WhileUndecided, WritesSo, WrittenRefused, WrittenTaken, is_sent_to, is_undecided}
use Rattle.client_state.specs.declared.duties.Duties.{Duties}
use Rattle.client_state.specs.declared.held.Held.{Held}
use Rattle.client_state.specs.declared.link.Link.TheVariants.{Apart, Joined, Unsettled}
use Rattle.client_state.specs.declared.link.Link.{Link}
use Rattle.client_state.specs.declared.link.Waits.TheVariants as waits
use Rattle.client_state.specs.declared.link.Waits.{Waits}
use Rattle.client_state.specs.declared.requests.Sending.{Sending}
use Rattle.client_state.specs.declared.transaction.Sent.{Sent}
use Rattle.client_state.specs.declared.transaction.Share.{Share}
use Rattle.client_state.specs.declared.transaction.Transaction.{Transaction}
use Rattle.law_two_phase_clients.specs.Leaving.{AreLeft, EndsRefused, IsLeft, LeftWritten, NamesLieThere, TakesThere}
use Rattle.paused_eval.specs.Copies.{last_of}
use Rattle.repo_refusals.specs.declared.refusal.Refusal.TheVariants as refused
use Rattle.repo_refusals.specs.declared.refusal.Refusal.{Refusal}
use Rattle.session_outbox.specs.declared.answers.At.{At}
use Rattle.session_outbox.specs.declared.message.Message.TheVariants as messages
use Rattle.session_outbox.specs.declared.message.Message.{Message}
use Rattle.std.proofs.Common.{Bool, List, [], ap, arith, cond, false, inl, inr, nat_eq, refl, subst, suc, sym, true, zero, ℕ, ◌+◌, ◌++◌, ◌≡◌, ◌≢◌, ◌∙◌, ◌∷◌}
use Rattle.std.proofs.lemmas.Bool.{cases_eq, eqb-true}
use Rattle.std.proofs.lemmas.Option.{same_Some}
use Rattle.std.specs.List.{list_any}
use Rattle.std.specs.Option.{option_map}
use Rattle.std.specs.Prelude.{None, Option, Some, slice_get, ◌&&◌, ◌||◌, ◌⊎◌}
use Rattle.thor_value.specs.declared.names.Oref.{Oref}
use Rattle.thor_value.specs.declared.names.Ts.{Ts}

-- ---- sessions

-- by a step no session comes at a repository
abbrev NoSession : (Link → Link) → Type 0
NoSession f = (n : ℕ) (l : Link) → is_session n (f l) ≡ true → is_session n l ≡ true

still_in : (f : Link → Link) → NoSession f → (n : ℕ) (o : Option Link) → is_session_of n (option_map f o) ≡ true → is_session_of n o ≡ true
still_in f keeps n None h = h
still_in f keeps n (Some l) h = keeps n l h

-- Each session behind the step was there before.
abbrev SessionsStay : List Link → List Link → Type 0
SessionsStay links after = (n r : ℕ) → is_session_of n (slice_get after r) ≡ true → is_session_of n (slice_get links r) ≡ true

at_repo_stays : (f : Link → Link) → NoSession f → (links after : List Link) (k : ℕ) → after ≡ at_repo links k f → SessionsStay links after
at_repo_stays f keeps links after k is n r h = elim (cases_eq r k) [
  | inl e ↦ subst (λ (m : ℕ). is_session_of n (slice_get links m) ≡ true) (sym e) (still_in f keeps n (slice_get links k) (ap (is_session_of n) (sym (at_here f links k)) ∙ (ap (λ (ls : List Link). is_session_of n (slice_get ls k)) (sym is) ∙ subst (λ (m : ℕ). is_session_of n (slice_get after m) ≡ true) e h)))
  | inr away ↦ ap (is_session_of n) (sym (at_other f links k r away)) ∙ (ap (λ (ls : List Link). is_session_of n (slice_get ls r)) (sym is) ∙ h)
]

same_stays : (links after : List Link) → after ≡ links → SessionsStay links after
same_stays links after is n r h = ap (λ (ls : List Link). is_session_of n (slice_get ls r)) (sym is) ∙ h

wait_stays : (w : Waits) → NoSession (waiting w)
wait_stays w n Apart h = h
wait_stays w n (Joined s upto v) h = h
wait_stays w n (Unsettled x i) h = h

stopped_stays : NoSession stopped
stopped_stays n Apart h = h
stopped_stays n (Joined s upto v) h = h
stopped_stays n (Unsettled x i) h = h

apart_stays : NoSession (λ l. Apart)
apart_stays n l h = cc

without_by : (b : Bool) (n : ℕ) (l : Link) → is_session n (cond b Apart l) ≡ true → is_session n l ≡ true
without_by true n l h = cc
without_by false n l h = h

without_stays : (s : ℕ) → NoSession (without_session s)
without_stays s n l h = without_by (is_session s l) n l h

took_stays : (m : Message) → NoSession (took m)
took_stays (messages.Page page bytes place) n Apart h = h
took_stays (messages.Page page bytes place) n (Joined s upto v) h = h
took_stays (messages.Page page bytes place) n (Unsettled x i) h = h
took_stays (messages.Grant page place) n Apart h = h
took_stays (messages.Grant page place) n (Joined s upto v) h = h
took_stays (messages.Grant page place) n (Unsettled x i) h = h
took_stays (messages.Invalid names place) n Apart h = h
took_stays (messages.Invalid names place) n (Joined s upto v) h = h
took_stays (messages.Invalid names place) n (Unsettled x i) h = h
took_stays (messages.Upgrade number text place) n Apart h = h
took_stays (messages.Upgrade number text place) n (Joined s upto v) h = h
took_stays (messages.Upgrade number text place) n (Unsettled x i) h = h

refused_stays : (k : Refusal) (repo : ℕ) (links after : List Link) → after ≡ links_refused k repo links → SessionsStay links after
refused_stays (refused.Reason (reasons.Gone session)) repo links after is = at_repo_stays (without_session session) (without_stays session) links after repo is
refused_stays (refused.Reason (reasons.Epoch n)) repo links after is = same_stays links after is
refused_stays (refused.Reason (reasons.Blocked tx)) repo links after is = same_stays links after is
refused_stays (refused.Reason (reasons.TooOld threshold)) repo links after is = same_stays links after is
refused_stays (refused.Reason (reasons.Stale oref place)) repo links after is = same_stays links after is
refused_stays (refused.Reason (reasons.Earlier tx oref)) repo links after is = same_stays links after is
refused_stays (refused.Reason (reasons.Later tx oref)) repo links after is = same_stays links after is
refused_stays (refused.Reason (reasons.Full limit)) repo links after is = same_stays links after is
refused_stays (refused.Reason reasons.ClockEnd) repo links after is = same_stays links after is
refused_stays (refused.Down n) repo links after is = same_stays links after is
refused_stays (refused.Stopped n) repo links after is = same_stays links after is
refused_stays (refused.Damaged n place) repo links after is = same_stays links after is
refused_stays refused.NoMemory repo links after is = same_stays links after is

stops_stays : (repo : ℕ) (before after : Held) → StopsWaiting repo before after → SessionsStay before.links.items after.links.items
stops_stays repo before after h n r there = elim (cases_eq r repo) [
  | inl e ↦ subst (λ (m : ℕ). is_session_of n (slice_get before.links.items m) ≡ true) (sym e) (still_in (waiting waits.Idle) (wait_stays waits.Idle) n (slice_get before.links.items repo) (ap (is_session_of n) (sym h.here) ∙ subst (λ (m : ℕ). is_session_of n (slice_get after.links.items m) ≡ true) e there))
  | inr away ↦ still_in stopped stopped_stays n (slice_get before.links.items r) (ap (is_session_of n) (sym (h.others r away)) ∙ there)
]

-- ---- what the try has written at a repository of which the session is still there

-- What the try has written at the repository stays while this session is the one of its link.
abbrev StaysThere : ℕ → ℕ → List Link → Contents → Contents → Type 0
StaysThere session r after old new = is_session_of session (slice_get after r) ≡ true → (x : Oref) → x.repo ≡ r → changed new x ≡ changed old x

gone_there : (s n : ℕ) (o : Option Link) → is_session_of s o ≡ true → is_session_of n (option_map (without_session s) o) ≡ true → ⊥
gone_there s n None is h = cc
gone_there s n (Some l) is h = let no : false ≡ true = sym (ap (λ (b : Bool). is_session n (cond b Apart l)) is) ∙ h in cc

lost_there : (s n repo r : ℕ) (links after : List Link) (old new : Contents) → after ≡ at_repo links repo (without_session s) → ((x : Oref) → changed new x ≡ cond (is_session_of s (slice_get links repo) && nat_eq x.repo repo) None (changed old x)) → StaysThere n r after old new
lost_there s n repo r links after old new is lost h x here = by (is_session_of s (slice_get links repo)) refl (nat_eq x.repo repo) refl
  where
    by : (a : Bool) → is_session_of s (slice_get links repo) ≡ a → (b : Bool) → nat_eq x.repo repo ≡ b → changed new x ≡ changed old x
    by true was true at = absurd (let e : r ≡ repo = sym here ∙ eqb-true x.repo repo at in gone_there s n (slice_get links repo) was (ap (is_session_of n) (sym (at_here (without_session s) links repo)) ∙ (ap (λ (ls : List Link). is_session_of n (slice_get ls repo)) (sym is) ∙ subst (λ (m : ℕ). is_session_of n (slice_get after m) ≡ true) e h)))
    by true was false at = lost x ∙ (ap (λ (b : Bool). cond (is_session_of s (slice_get links repo) && b) None (changed old x)) at ∙ ap (λ (a : Bool). cond (a && false) None (changed old x)) was)
    by false was b at = lost x ∙ ap (λ (a : Bool). cond (a && nat_eq x.repo repo) None (changed old x)) was

refused_there : (k : Refusal) (n repo r : ℕ) (links after : List Link) (old new : Contents) → after ≡ links_refused k repo links → WrittenRefused k repo links old new → StaysThere n r after old new
refused_there (refused.Reason (reasons.Gone session)) n repo r links after old new is wrote = lost_there session n repo r links after old new is wrote
refused_there (refused.Reason (reasons.Epoch e)) n repo r links after old new is wrote = λ h x here. wrote x
refused_there (refused.Reason (reasons.Blocked tx)) n repo r links after old new is wrote = λ h x here. wrote x
refused_there (refused.Reason (reasons.TooOld threshold)) n repo r links after old new is wrote = λ h x here. wrote x
refused_there (refused.Reason (reasons.Stale oref place)) n repo r links after old new is wrote = λ h x here. wrote x
refused_there (refused.Reason (reasons.Earlier tx oref)) n repo r links after old new is wrote = λ h x here. wrote x
refused_there (refused.Reason (reasons.Later tx oref)) n repo r links after old new is wrote = λ h x here. wrote x
refused_there (refused.Reason (reasons.Full limit)) n repo r links after old new is wrote = λ h x here. wrote x
refused_there (refused.Reason reasons.ClockEnd) n repo r links after old new is wrote = λ h x here. wrote x
refused_there (refused.Down e) n repo r links after old new is wrote = λ h x here. wrote x
refused_there (refused.Stopped e) n repo r links after old new is wrote = λ h x here. wrote x
refused_there (refused.Damaged e place) n repo r links after old new is wrote = λ h x here. wrote x
refused_there refused.NoMemory n repo r links after old new is wrote = λ h x here. wrote x

without_there : (names : List Oref) (at r : ℕ) (old new : Contents) → at ≢ r → ((x : Oref) → list_any (λ y. same_name y x) names ≡ true → x.repo ≡ at) → WrittenWithout names old new → (x : Oref) → x.repo ≡ r → changed new x ≡ changed old x
without_there names at r old new away there wrote x here = by (list_any (λ y. same_name y x) names) refl
  where
    by : (b : Bool) → list_any (λ y. same_name y x) names ≡ b → changed new x ≡ changed old x
    by true named = absurd (away (sym (there x named) ∙ here))
    by false named = wrote x ∙ ap (λ (b : Bool). cond b None (changed old x)) named

taken_by : (b : Bool) (m : Message) (at r : ℕ) (old new : Contents) → (at ≡ r → b ≡ false) → NamesLieThere at m → WrittenTaken b m old new → (x : Oref) → x.repo ≡ r → changed new x ≡ changed old x
taken_by b (messages.Page page bytes place) at r old new unsent there wrote x here = wrote x
taken_by b (messages.Grant page place) at r old new unsent there wrote x here = wrote x
taken_by true (messages.Invalid names place) at r old new unsent there wrote x here = elim (cases_eq at r) [
  | inl e ↦ absurd (let no : true ≡ false = unsent e in cc)
  | inr away ↦ without_there names at r old new away there wrote x here
]
taken_by false (messages.Invalid names place) at r old new unsent there wrote x here = wrote x
taken_by b (messages.Upgrade number text place) at r old new unsent there wrote x here = wrote x

outage_kept : (k : Refusal) (repo : ℕ) (links : List Link) (old new : Contents) → IsOutage k → WrittenRefused k repo links old new → WritesStay old new
outage_kept (refused.Reason r) repo links old new out wrote = absurd out
outage_kept (refused.Down e) repo links old new out wrote = wrote
outage_kept (refused.Stopped e) repo links old new out wrote = wrote
outage_kept (refused.Damaged e place) repo links old new out wrote = wrote
outage_kept refused.NoMemory repo links old new out wrote = wrote

-- ---- what is left stays

module _ (a : Pending) (links after : List Link) (old new : Contents) (sessions : SessionsStay links after) (stays : (s : Share) → IsLeft a links old s → StaysThere s.session s.repo after old new) where
  one_left : (s : Share) → IsLeft a links old s → IsLeft a after new s
  one_left s left = record { unsent = left.unsent; wrote = λ there x here. stays s left there x here ∙ left.wrote (sessions s.session s.repo there) x here }

  all_left : (shares : List Share) → AreLeft a links old shares → AreLeft a after new shares
  all_left shares left = record { apart = left.apart; each = λ n s there. one_left s (left.each n s there) }

-- while something is undecided
module _ (links after : List Link) (old new : Contents) (sessions : SessionsStay links after) where
  left_on : (a : Pending) → WhileUndecided a ((s : Share) → IsLeft a links old s → StaysThere s.session s.repo after old new) → LeftWritten a links old → LeftWritten a after new
  left_on NonePending stays left = tt
  left_on (IsPreparing at t rs transaction) stays left = all_left (IsPreparing at t rs transaction) links after old new sessions (stays refl) transaction.shares.items left
  left_on (IsAsking sent n) stays left = tt

-- ---- a share is sent

first_writes : (p : ℕ) (shares : List Share) (s : Share) (x : Oref) → FirstOf x.repo p shares → slice_get shares p ≡ Some s → shares_write shares x ≡ last_of s.writes x
first_writes p [] s x f there = cc
first_writes zero (t ∷ ts) s x f there = ap (λ (b : Bool). cond b (last_of t.writes x) (shares_write ts x)) f.0 ∙ ap (λ (u : Share). last_of u.writes x) (same_Some t s there)
first_writes (suc p) (t ∷ ts) s x f there = ap (λ (b : Bool). cond b (last_of t.writes x) (shares_write ts x)) (f.1 zero (omega arith)) ∙ first_writes p ts s x (f.0, λ n l. f.1 (suc n) (omega (arith, l))) there

module _ (first : Share) (rest : List Share) (apart : AreApart (first ∷ rest)) where
  first_at : (n : ℕ) (s : Share) → slice_get rest n ≡ Some s → FirstOf s.repo (suc n) (first ∷ rest)
  first_at n s there = subst (IsFirstOfItsOwn (suc n) (first ∷ rest)) there (apart (suc n))

  rest_by : (n : ℕ) (o : Option Share) → slice_get rest n ≡ o → IsFirstOfItsOwn n rest o
  rest_by n None there = tt
  rest_by n (Some s) there = let f : FirstOf s.repo (suc n) (first ∷ rest) = first_at n s there in (f.0, λ m l. f.1 (suc m) (omega (arith, l)))

  rest_apart : AreApart rest
  rest_apart n = rest_by n (slice_get rest n) refl

  other_repo : (n : ℕ) (s : Share) → slice_get rest n ≡ Some s → nat_eq first.repo s.repo ≡ false
  other_repo n s there = (first_at n s there).1 zero (omega arith)

  rest_writes : (c : Contents) → ((x : Oref) → changed c x ≡ shares_write (first ∷ rest) x) → (n : ℕ) (s : Share) → slice_get rest n ≡ Some s → (x : Oref) → x.repo ≡ s.repo → changed c x ≡ last_of s.writes x
  rest_writes c wrote n s there x here = wrote x ∙ first_writes (suc n) (first ∷ rest) s x (subst (λ (r : ℕ). FirstOf r (suc n) (first ∷ rest)) (sym here) (first_at n s there)) there

sent_more : (r m : ℕ) (rs : List ℕ) → list_any (λ n. nat_eq n r) rs ≡ false → nat_eq m r ≡ false → list_any (λ n. nat_eq n r) (rs ++ m ∷ []) ≡ false
sent_more r m [] h e = ap (λ (b : Bool). b || false) e
sent_more r m (k ∷ rs) h e = by (nat_eq k r) refl h (λ g. sent_more r m rs g e)
  where
    by : (b : Bool) → nat_eq k r ≡ b → (nat_eq k r || list_any (λ n. nat_eq n r) rs) ≡ false → (list_any (λ n. nat_eq n r) rs ≡ false → list_any (λ n. nat_eq n r) (rs ++ m ∷ []) ≡ false) → (nat_eq k r || list_any (λ n. nat_eq n r) (rs ++ m ∷ [])) ≡ false
    by true is g rest = let no : true ≡ false = sym (ap (λ (b : Bool). b || list_any (λ n. nat_eq n r) rs) is) ∙ g in cc
    by false is g rest = ap (λ (b : Bool). b || list_any (λ n. nat_eq n r) (rs ++ m ∷ [])) is ∙ rest (sym (ap (λ (b : Bool). b || list_any (λ n. nat_eq n r) rs) is) ∙ g)

or_false : (a b : Bool) → (a || b) ≡ false → (a ≡ false) × (b ≡ false)
or_false true b h = cc
or_false false b h = (refl, h)

module _ (item : Present) (links after : List Link) (c d : Contents) (s : Sending) (a z : Pending) (same : after ≡ links) (stays : WritesStay c d) where
  prepares_left : (so : PreparesSo item links c s a z) (drawn left : Option Ts) → PreparesOut item links c s a z so drawn left → LeftWritten a links c → LeftWritten z after d
  prepares_left (PreparesFirst left sends holds now) drawn now_drawn out was = subst (λ (p : Pending). LeftWritten p after d) (sym now) (record {
    apart = rest_apart share left.shares.items apart;
    each = λ n x there. record {
      unsent = ap (λ (b : Bool). b || false) (ap (λ (r : ℕ). nat_eq r x.repo) at_is ∙ other_repo share left.shares.items apart n x there);
      wrote = λ session y here. stays y ∙ rest_writes share left.shares.items apart c (λ o. sends.wrote o ∙ ap (λ (ss : List Share). shares_write ss o) sends.sends.taken) n x there y here;
    };
  })
    where
      share : Share
      share = sends.sends.share

      apart : AreApart (share ∷ left.shares.items)
      apart = subst AreApart sends.sends.taken out.1

      at_is : s.at.repo ≡ share.repo
      at_is = ap (λ (x : Sending). x.at.repo) sends.sends.sent
  prepares_left (PreparesNext at rs left sends holds now) drawn now_drawn out was = subst (λ (p : Pending). LeftWritten p after d) (sym now) (record {
    apart = rest_apart share left.shares.items apart;
    each = λ n x there.
        let l : IsLeft (IsPreparing at s.request.tx rs sends.transaction) links c x = old.each (suc n) x (ap (λ (ss : List Share). slice_get ss (suc n)) sends.sends.taken ∙ there) in
        let u : (nat_eq at.repo x.repo ≡ false) × (list_any (λ m. nat_eq m x.repo) rs ≡ false) = or_false (nat_eq at.repo x.repo) (list_any (λ m. nat_eq m x.repo) rs) l.unsent in
        record {
          unsent = ap (λ (b : Bool). b || list_any (λ m. nat_eq m x.repo) (rs ++ s.at.repo ∷ [])) u.0 ∙ sent_more x.repo s.at.repo rs u.1 (ap (λ (r : ℕ). nat_eq r x.repo) at_is ∙ other_repo share left.shares.items apart n x there);
          wrote = λ session y here. stays y ∙ l.wrote (ap (λ (ls : List Link). is_session_of x.session (slice_get ls x.repo)) (sym same) ∙ session) y here;
        };
  })
    where
      share : Share
      share = sends.sends.share

      old : AreLeft (IsPreparing at s.request.tx rs sends.transaction) links c sends.transaction.shares.items
      old = subst (λ (p : Pending). LeftWritten p links c) sends.was was

      apart : AreApart (share ∷ left.shares.items)
      apart = subst AreApart sends.sends.taken old.apart

      at_is : s.at.repo ≡ share.repo
      at_is = ap (λ (x : Sending). x.at.repo) sends.sends.sent

-- ---- a step

module _ (item : Present) (old new : View) (before after : Held) (a z : Pending) (came : News) (left : LeftWritten a before.links.items before.cache.cache) where
  none_left : z ≡ NonePending → LeftWritten z after.links.items after.cache.cache
  none_left is = subst (λ (p : Pending). LeftWritten p after.links.items after.cache.cache) (sym is) tt

  asking_left : (sent : Sent) (n : ℕ) → z ≡ IsAsking sent n → LeftWritten z after.links.items after.cache.cache
  asking_left sent n is = subst (λ (p : Pending). LeftWritten p after.links.items after.cache.cache) (sym is) tt

  still_left : SessionsStay before.links.items after.links.items → (z ≡ a → WhileUndecided a ((s : Share) → IsLeft a before.links.items before.cache.cache s → StaysThere s.session s.repo after.links.items before.cache.cache after.cache.cache)) → StaysPending a z before after → LeftWritten z after.links.items after.cache.cache
  still_left sessions stays (inl none) = none_left none
  still_left sessions stays (inr h) = subst (λ (p : Pending). LeftWritten p after.links.items after.cache.cache) (sym h.0) (left_on before.links.items after.links.items before.cache.cache after.cache.cache sessions a (stays h.0) left)

  -- where nothing of what it has written goes
  kept_left : SessionsStay before.links.items after.links.items → WhileUndecided z (WritesStay before.cache.cache after.cache.cache) → StaysPending a z before after → LeftWritten z after.links.items after.cache.cache
  kept_left sessions wrote = still_left sessions (λ same und s l there x here. wrote (ap is_undecided same ∙ und) x)

  lost_left : (k : Refusal) (repo : ℕ) → SessionsStay before.links.items after.links.items → ((s : Share) → WrittenRefused k repo before.links.items before.cache.cache after.cache.cache → StaysThere s.session s.repo after.links.items before.cache.cache after.cache.cache)
      → WhileUndecided z (WrittenRefused k repo before.links.items before.cache.cache after.cache.cache) → StaysPending a z before after → LeftWritten z after.links.items after.cache.cache
  lost_left k repo sessions there wrote = still_left sessions (λ same und s l. there s (wrote (ap is_undecided same ∙ und)))

  taken_left : (at : At) (m : Message) → NamesLieThere at.repo m → SessionsStay before.links.items after.links.items → WhileUndecided z (WrittenTaken (is_sent_to at.repo a) m before.cache.cache after.cache.cache) → StaysPending a z before after → LeftWritten z after.links.items after.cache.cache
  taken_left at m names sessions wrote = still_left sessions (λ same und s l there x here. taken_by (is_sent_to at.repo a) m at.repo s.repo before.cache.cache after.cache.cache (λ e. ap (λ (r : ℕ). is_sent_to r a) e ∙ l.unsent) names (wrote (ap is_undecided same ∙ und)) x here)

  sends_left : (n : SendsNothing old new before after) → SendsPending old new before after n a z → WhileUndecided z (WritesStay before.cache.cache after.cache.cache) → LeftWritten z after.links.items after.cache.cache
  sends_left (Rested same less) h wrote = kept_left (same_stays before.links.items after.links.items less.1) wrote h
  sends_left (Connected repo connects apart same fewer) h wrote = none_left h
  sends_left (Fetched at page rest fetches idle same fewer) h wrote = none_left h
  sends_left (Granted at rest grants idle same fewer) h wrote = none_left h
  sends_left (Drawn at answer rest draws there same fewer) h wrote = none_left h
  sends_left (Asked r t result does less) h wrote = kept_left (same_stays before.links.items after.links.items less.1) wrote h
  sends_left (Settled r t v sent index does there links same fewer) h wrote = kept_left (at_repo_stays (λ l. Apart) apart_stays before.links.items after.links.items r links) wrote h

  none_stays : (at : At) → (after.links.items ≡ before.links.items) ⊎ (after.links.items ≡ at_repo before.links.items at.repo (waiting waits.Idle)) → SessionsStay before.links.items after.links.items
  none_stays at (inl same) = same_stays before.links.items after.links.items same
  none_stays at (inr set) = at_repo_stays (waiting waits.Idle) (wait_stays waits.Idle) before.links.items after.links.items at.repo set

  asks_left : (k : Refusal) (sent : Sent) → AsksWhereStopped k sent z → LeftWritten z after.links.items after.cache.cache
  asks_left (refused.Reason r) sent h = none_left h
  asks_left (refused.Down r) sent h = none_left h
  asks_left (refused.Stopped r) sent h = asking_left sent 0 h
  asks_left (refused.Damaged r n) sent h = none_left h
  asks_left refused.NoMemory sent h = none_left h

  commits_left : (s : Sending) (k : Refusal) → CommitsInVain item before.client before.links.items before.cache.cache s k z → LeftWritten z after.links.items after.cache.cache
  commits_left s k (RefusesItem rest alone asks) = asks_left k (sent_of s.request.tx s.at rest) asks
  commits_left s k (RefusesTransform sends none) = none_left none

  vain_left : (r : ℕ) (sent : Sent) (n : ℕ) → AsksInVain item after r sent n z came → LeftWritten z after.links.items after.cache.cache
  vain_left r sent n (AsksAgain asks more still) = asking_left sent (one_more n) asks
  vain_left r sent n (HoldsUnknown none most unknown kept) = none_left none

  und_of : (s : Sending) → PreparesSo item before.links.items before.cache.cache s a z → is_undecided z ≡ true
  und_of s (PreparesFirst rest sends holds now) = ap is_undecided now
  und_of s (PreparesNext at rs rest sends holds now) = ap is_undecided now

  by_call : (n : Moves old new before after) → PendsSo old new before after n a z → (tries : TriesSo item old new before after n a z came) (drawn now : Option Ts) → DrawsSo item old new before after n a z came tries drawn now → WhileUndecided z (WritesSo old new before after n a) → TakesThere old new before after n → EndsRefused old new before after n z → LeftWritten z after.links.items after.cache.cache
  by_call (Unsent sends) h tries drawn now draws wrote there over = sends_left sends h wrote
  by_call (Received at m does in_it takes same) h tries drawn now draws wrote there over = taken_left at m there (at_repo_stays (took m) (took_stays m) before.links.items after.links.items at.repo takes.links) wrote h
  by_call (ReceivedNone at does in_it stays same fewer) h tries drawn now draws wrote there over = kept_left (none_stays at stays) wrote h
  by_call (ReceiveRefused at k does in_it loses same) h tries drawn now draws wrote there over = lost_left k at.repo (refused_stays k at.repo before.links.items after.links.items loses.links) (λ s w. refused_there k s.session at.repo s.repo before.links.items after.links.items before.cache.cache after.cache.cache loses.links w) wrote h
  by_call (ReceiveStopped at k does in_it outage stops same fewer) h tries drawn now draws wrote there over = kept_left (stops_stays at.repo before after stops) (λ und. outage_kept k at.repo before.links.items before.cache.cache after.cache.cache outage (wrote und)) h
  by_call (Prepared s place does of less) h tries drawn now draws wrote there over = prepares_left item before.links.items after.links.items before.cache.cache after.cache.cache s a z less.1 (wrote (und_of s tries.0)) tries.0 drawn now draws left
  by_call (PrepareRefused s k does of idle learns same) h tries drawn now draws wrote there over = none_left over
  by_call (Committed s place does of session written held idle keeps) h tries drawn now draws wrote there over = none_left h
  by_call (Transformed s place oref made does of session writes here held idle keeps) h tries drawn now draws wrote there over = none_left h
  by_call (CommitRefused s k does of idle learns same) h tries drawn now draws wrote there over = commits_left s k tries.0
  by_call (Decided at t v does idle ends) h tries drawn now draws wrote there over = none_left h.1
  by_call (Aborted at t v does less) h tries drawn now draws wrote there over = kept_left (same_stays before.links.items after.links.items less.1) wrote h
  by_call (DecideRefused at t true k does loses same) h tries drawn now draws wrote there over = asking_left (sent_of t at tries.0) 0 tries.2
  by_call (DecideRefused at t false k does loses same) h tries drawn now draws wrote there over = lost_left k at.repo (refused_stays k at.repo before.links.items after.links.items loses.links) (λ s w. refused_there k s.session at.repo s.repo before.links.items after.links.items before.cache.cache after.cache.cache loses.links w) wrote h
  by_call (Finished r t commit result does less) h tries drawn now draws wrote there over = kept_left (same_stays before.links.items after.links.items less.1) wrote h
  by_call (Forgot r t result does less) h tries drawn now draws wrote there over = kept_left (same_stays before.links.items after.links.items less.1) wrote h
  by_call (AskedOwn r t v does ends) h tries drawn now draws wrote there over = none_left h.1
  by_call (AskedInVain r t result does leaves same fewer) h tries drawn now draws wrote there over = vain_left r tries.0 tries.1 tries.3

pub stays : (item : Present) (old new : View) (before after : Held) (a z : Pending) (d e : Duties) (came : News) (step : StepsSo item old new before after a z d e came) (drawn now : Option Ts) → DrawsSo item old new before after step.moves a z came step.tries drawn now → WhileUndecided z (WritesSo old new before after step.moves a)
    → TakesThere old new before after step.moves → EndsRefused old new before after step.moves z → LeftWritten a before.links.items before.cache.cache → LeftWritten z after.links.items after.cache.cache
stays item old new before after a z d e came step drawn now draws wrote there ends left = by_call item old new before after a z came left step.moves step.pends step.tries drawn now draws wrote there ends

pub sends : (item : Present) (links : List Link) (c : Contents) (a : Pending) (s : Sending) (at : At) (rs : List ℕ) (left : Transaction) → SendsMore item links a s at rs left → LeftWritten a links c → is_session_of s.at.session (slice_get links s.at.repo) ≡ true → (x : Oref) → x.repo ≡ s.at.repo → changed c x ≡ last_of s.request.writes x
sends item links c a s at rs left more was session x here = l.wrote (subst (λ (k : At). is_session_of k.session (slice_get links k.repo) ≡ true) at_is session) x (here ∙ ap (λ (k : At). k.repo) at_is) ∙ ap (λ (k : Sending). last_of k.request.writes x) (sym more.sends.sent)
  where
    share : Share
    share = more.sends.share

    at_is : s.at ≡ record { repo = share.repo; session = share.session }
    at_is = ap (λ (k : Sending). k.at) more.sends.sent

    old : AreLeft (IsPreparing at s.request.tx rs more.transaction) links c more.transaction.shares.items
    old = subst (λ (p : Pending). LeftWritten p links c) more.was was

    l : IsLeft (IsPreparing at s.request.tx rs more.transaction) links c share
    l = old.each 0 share (ap (λ (ss : List Share). slice_get ss 0) more.sends.taken)
