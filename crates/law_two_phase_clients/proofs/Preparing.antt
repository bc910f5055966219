-- What a client has noted as prepared is prepared, and its calls know what they have to know.
use Rattle.client_cache.specs.Copies.{Contents}
use Rattle.client_items.specs.Meanings.{answer_in, kind_of}
use Rattle.client_items.specs.declared.news.News.{News}
use Rattle.client_port.specs.Views.{View}
use Rattle.client_state.specs.Moving.{Aborted, AskedInVain, AskedOwn, CommitRefused, Committed, DecideRefused, Decided, Finished, Forgot, Moves, PrepareRefused, Prepared, ReceiveRefused, ReceiveStopped, Received, ReceivedNone, Transformed, Unsent}
use Rattle.client_state.specs.Participants.{others_in}
use Rattle.client_state.specs.Pending.{IsAsking, IsPreparing, NonePending, Pending}
use Rattle.client_state.specs.Sending.{GoToParticipants, SendsShare}
use Rattle.client_state.specs.Stepping.{DecidesAll, PreparesFirst, PreparesInVain, PreparesNext, PreparesSo, Present, RefusesFirst, RefusesNext, SendsDrawn, SendsMore, StepsSo, TriesSo}
use Rattle.client_state.specs.Writing.{is_of}
use Rattle.client_state.specs.declared.duties.Duties.{Duties}
use Rattle.client_state.specs.declared.held.Held.{Held}
use Rattle.client_state.specs.declared.link.Link.{Link}
use Rattle.client_state.specs.declared.requests.Sending.{Sending}
use Rattle.client_state.specs.declared.transaction.Share.{Share}
use Rattle.client_state.specs.declared.transaction.Transaction.{Transaction}
use Rattle.law_atomic_commit.proofs.Grown.{onward, sound-grown}
use Rattle.law_atomic_commit.specs.Growing.{Continues, MayCome, grown}
use Rattle.law_atomic_commit.specs.Several.{AreAlike, AreSound, Several, part}
use Rattle.law_two_phase_clients.specs.Trying.{ArePrepared, HasPrepared, IsRequestOf, OwnMayCome, TryPrepared}
use Rattle.log_entries.specs.declared.entry.Entry.TheVariants as entries
use Rattle.log_entries.specs.declared.entry.Entry.{Entry}
use Rattle.log_entries.specs.declared.request.Request.{Request}
use Rattle.session_outbox.specs.declared.answers.At.{At}
use Rattle.spec_history.proofs.Telling.{tell}
use Rattle.spec_history.specs.History.{Known, known_by}
use Rattle.spec_history.specs.Participants.{takes_part}
use Rattle.spec_history.specs.Sound.{sound}
use Rattle.std.proofs.Common.{Bool, List, [], ap, arith, cond, false, inl, inr, length, nat_eq, refl, subst, sym, true, ℕ, ◌++◌, ◌≡◌, ◌∙◌, ◌∷◌}
use Rattle.std.proofs.lemmas.Bool.Decides.{nat_tests}
use Rattle.std.proofs.lemmas.Bool.{eqb-true}
use Rattle.std.specs.List.{AllByRecursion, list_any}
use Rattle.std.specs.Prelude.{IsSomeAnd, None, Option, Some, not, slice_get, ◌||◌, ◌⊎◌}
use Rattle.thor_value.specs.declared.names.Ts.{Ts}
use Rattle.thor_value.specs.declared.values.Who.{Who}

-- ---- participants

same_number : (n : ℕ) → nat_eq n n ≡ true
same_number n = grind (arith, nat_tests)

left_out : (m r : ℕ) → nat_eq m r ≡ false → (ps : List ℕ) → list_any (nat_eq m) (others_in ps r) ≡ list_any (nat_eq m) ps
left_out m r other [] = refl
left_out m r other (x ∷ xs) = by (nat_eq x r) refl (left_out m r other xs)
  where
    by : (k : Bool) → nat_eq x r ≡ k → list_any (nat_eq m) (others_in xs r) ≡ list_any (nat_eq m) xs → list_any (nat_eq m) (cond (not k) (x ∷ others_in xs r) (others_in xs r)) ≡ (nat_eq m x || list_any (nat_eq m) xs)
    by true h rest = rest ∙ ap (λ (b : Bool). b || list_any (nat_eq m) xs) (sym (ap (nat_eq m) (eqb-true x r h) ∙ other))
    by false h rest = ap (λ (b : Bool). nat_eq m x || b) rest

-- a participant and the others are all
all_of : (r : ℕ) (ps : List ℕ) → list_any (nat_eq r) ps ≡ true → (m : ℕ) → (nat_eq m r || list_any (nat_eq m) (others_in ps r)) ≡ list_any (nat_eq m) ps
all_of r ps takes m = by (nat_eq m r) refl
  where
    by : (k : Bool) → nat_eq m r ≡ k → (k || list_any (nat_eq m) (others_in ps r)) ≡ list_any (nat_eq m) ps
    by true h = sym (ap (λ (n : ℕ). list_any (nat_eq n) ps) (eqb-true m r h) ∙ takes)
    by false h = left_out m r h ps

-- among some, and one more
one_more_among : (n r : ℕ) (rs : List ℕ) → list_any (nat_eq n) (rs ++ r ∷ []) ≡ true → (list_any (nat_eq n) rs ≡ true) ⊎ (n ≡ r)
one_more_among n r [] h = by (nat_eq n r) refl h
  where
    by : (k : Bool) → nat_eq n r ≡ k → (k || false) ≡ true → (false ≡ true) ⊎ (n ≡ r)
    by true is k = inr (eqb-true n r is)
    by false is k = cc
one_more_among n r (x ∷ xs) h = by (nat_eq n x) refl h (one_more_among n r xs)
  where
    by : (k : Bool) → nat_eq n x ≡ k → (k || list_any (nat_eq n) (xs ++ r ∷ [])) ≡ true → (list_any (nat_eq n) (xs ++ r ∷ []) ≡ true → (list_any (nat_eq n) xs ≡ true) ⊎ (n ≡ r)) → ((k || list_any (nat_eq n) xs) ≡ true) ⊎ (n ≡ r)
    by true is k rest = inl refl
    by false is k rest = rest k

-- ---- requests of one transaction

module _ (item : Who) (t : Ts) (transaction : Transaction) where
  takes_all : (r : ℕ) (q : Request) → IsRequestOf item t transaction r q → (m : ℕ) → takes_part r q m ≡ list_any (nat_eq m) transaction.participants
  takes_all r q of m = ap (λ (ns : List ℕ). nat_eq m r || list_any (nat_eq m) ns) of.others ∙ all_of r transaction.participants of.takes m

  alike : (r n : ℕ) (q p : Request) → IsRequestOf item t transaction r q → IsRequestOf item t transaction n p → AreAlike r q n p
  alike r n q p f g = record {
    who = f.who ∙ sym g.who;
    kind = f.kind ∙ sym g.kind;
    fresh = f.fresh ∙ sym g.fresh;
    answer = f.answer ∙ sym g.answer;
    participants = λ m. takes_all r q f m ∙ sym (takes_all n p g m);
  }

-- what is sent of a share is the transaction's
module _ (links : List Link) (who : Who) (t : Ts) (before left : Transaction) (s : Sending) (sends : SendsShare links who t before left s) where
  shares_of : GoToParticipants before → (list_any (nat_eq sends.share.repo) before.participants ≡ true) × AllByRecursion (λ (x : Share). list_any (nat_eq x.repo) before.participants ≡ true) left.shares.items
  shares_of shares = subst (AllByRecursion (λ (x : Share). list_any (nat_eq x.repo) before.participants ≡ true)) sends.taken shares

  rest_of : GoToParticipants before → GoToParticipants left
  rest_of shares = subst (λ (ps : List ℕ). AllByRecursion (λ (x : Share). list_any (nat_eq x.repo) ps ≡ true) left.shares.items) (sym (ap (λ (x : Transaction). x.participants) sends.rest)) (shares_of shares).1

  place_is : s.at.repo ≡ sends.share.repo
  place_is = ap (λ (x : Sending). x.at.repo) sends.sent

  request_is : GoToParticipants before → IsRequestOf who t before s.at.repo s.request
  request_is shares = record {
    tx = ap (λ (x : Sending). x.request.tx) sends.sent;
    who = ap (λ (x : Sending). x.request.who) sends.sent;
    kind = ap (λ (x : Sending). x.request.kind) sends.sent ∙ ap (λ (x : Transaction). kind_of x.meaning) sends.rest;
    epoch = ap (λ (x : Sending). x.request.epoch) sends.sent ∙ ap (λ (x : Transaction). x.epoch) sends.rest;
    fresh = ap (λ (x : Sending). x.request.fresh) sends.sent ∙ ap (λ (x : Transaction). x.fresh) sends.rest;
    answer = ap (λ (x : Sending). x.request.answer) sends.sent ∙ ap (λ (x : Transaction). answer_in x.meaning) sends.rest;
    others = ap (λ (x : Sending). x.request.others) sends.sent ∙ (ap (λ (x : Transaction). others_in x.participants sends.share.repo) sends.rest ∙ ap (others_in before.participants) (sym place_is));
    takes = subst (λ (r : ℕ). list_any (nat_eq r) before.participants ≡ true) (sym place_is) (shares_of shares).0;
  }

  -- of what is left the requests are the same
  same_requests : (r : ℕ) (q : Request) → IsRequestOf who t before r q → IsRequestOf who t left r q
  same_requests r q of = record {
    tx = of.tx;
    who = of.who;
    kind = of.kind ∙ sym (ap (λ (x : Transaction). kind_of x.meaning) sends.rest);
    epoch = of.epoch ∙ sym (ap (λ (x : Transaction). x.epoch) sends.rest);
    fresh = of.fresh ∙ sym (ap (λ (x : Transaction). x.fresh) sends.rest);
    answer = of.answer ∙ sym (ap (λ (x : Transaction). answer_in x.meaning) sends.rest);
    others = of.others ∙ sym (ap (λ (x : Transaction). others_in x.participants r) sends.rest);
    takes = ap (λ (x : Transaction). list_any (nat_eq r) x.participants) sends.rest ∙ of.takes;
  }

-- the first share of a drawn transaction goes to its coordinator
pub starts_there : (item : Present) (links : List Link) (c : Contents) (s : Sending) (left : Transaction) → SendsDrawn item links c s left → s.request.tx.repo ≡ s.at.repo
starts_there item links c s left sends = sym (place_is links item.who s.request.tx sends.drawn left s sends.sends ∙ eqb-true sends.sends.share.repo s.request.tx.repo first)
  where
    first : nat_eq sends.sends.share.repo s.request.tx.repo ≡ true
    first = subst (λ (shares : List Share). is_of s.request.tx.repo (slice_get shares 0) ≡ true) sends.sends.taken sends.starts.first

-- ---- what a call knows

module _ (S : Several) where
  more_may : (item : Present) (links : List Link) (a : Pending) (s : Sending) (at : At) (rs : List ℕ) (left : Transaction) → SendsMore item links a s at rs left → TryPrepared S item.who a → MayCome S s.at.repo (entries.Prepared s.request)
  more_may item links a s at rs left m tried =
      let p : ArePrepared S item.who at s.request.tx rs m.transaction = subst (TryPrepared S item.who) m.was tried in
      let there : part S s.request.tx.repo s.request.tx ≡ Some p.first.o = subst (λ (n : ℕ). part S n s.request.tx ≡ Some p.first.o) (sym p.coordinator) p.first.there in
      let of : IsRequestOf item.who s.request.tx m.transaction s.request.tx.repo p.first.o.request = subst (λ (n : ℕ). IsRequestOf item.who s.request.tx m.transaction n p.first.o.request) (sym p.coordinator) p.first.of in
      inr (p.first.o, there, alike item.who s.request.tx m.transaction s.at.repo s.request.tx.repo s.request p.first.o.request (request_is links item.who s.request.tx m.transaction left s m.sends p.left) of)

  prepares_may : (item : Present) (links : List Link) (c : Contents) (s : Sending) (a z : Pending) → PreparesSo item links c s a z → TryPrepared S item.who a → MayCome S s.at.repo (entries.Prepared s.request)
  prepares_may item links c s a z (PreparesFirst left sends holds now) tried = inl (starts_there item links c s left sends)
  prepares_may item links c s a z (PreparesNext at rs left sends holds now) tried = more_may item links a s at rs left sends tried

  refuses_may : (item : Present) (links : List Link) (c : Contents) (s : Sending) (a : Pending) → PreparesInVain item links c s a → TryPrepared S item.who a → MayCome S s.at.repo (entries.Prepared s.request)
  refuses_may item links c s a (RefusesFirst left sends) tried = inl (starts_there item links c s left sends)
  refuses_may item links c s a (RefusesNext at rs left sends) tried = more_may item links a s at rs left sends tried

  decide_may : (item : Who) (a : Pending) (at : At) (t : Ts) (transaction : Transaction) → DecidesAll a at t transaction → TryPrepared S item a → MayCome S at.repo (entries.Decided t true)
  decide_may item a at t transaction all tried = (p.first.o, p.first.there, each)
    where
      p : ArePrepared S item at t all.rs transaction
      p = subst (TryPrepared S item) all.was tried

      by : (n : ℕ) (k : Bool) → nat_eq n at.repo ≡ k → (k || list_any (nat_eq n) all.rs) ≡ true → (o : Known) × (part S n t ≡ Some o)
      by n true h takes = (p.first.o, subst (λ (r : ℕ). part S r t ≡ Some p.first.o) (sym (eqb-true n at.repo h)) p.first.there)
      by n false h takes = ((p.next n takes).o, (p.next n takes).there)

      each : (n : ℕ) → takes_part at.repo p.first.o.request n ≡ true → (o : Known) × (part S n t ≡ Some o)
      each n takes = by n (nat_eq n at.repo) refl (ap (list_any (nat_eq n)) (sym all.all) ∙ (sym (takes_all item t transaction at.repo p.first.o.request p.first.of n) ∙ takes))

  own_may : (item : Present) (old new : View) (before after : Held) (a z : Pending) (came : News) (moves : Moves old new before after) → TriesSo item old new before after moves a z came → TryPrepared S item.who a → OwnMayCome S old new before after moves
  own_may item old new before after a z came (Unsent sends) tries tried = tt
  own_may item old new before after a z came (Received at m does there takes same) tries tried = tt
  own_may item old new before after a z came (ReceivedNone at does there waits same fewer) tries tried = tt
  own_may item old new before after a z came (ReceiveRefused at k does there loses same) tries tried = tt
  own_may item old new before after a z came (ReceiveStopped at k does there outage stops same fewer) tries tried = tt
  own_may item old new before after a z came (Prepared s place does of less) tries tried = prepares_may item before.links.items before.cache.cache s a z tries.0 tried
  own_may item old new before after a z came (PrepareRefused s k does of idle learns same) tries tried = refuses_may item before.links.items before.cache.cache s a tries.0 tried
  own_may item old new before after a z came (Committed s place does of session wrote held idle keeps) tries tried = tt
  own_may item old new before after a z came (Transformed s place oref made does of session writes here held idle keeps) tries tried = tt
  own_may item old new before after a z came (CommitRefused s k does of idle learns same) tries tried = tt
  own_may item old new before after a z came (Decided at t v does idle ends) tries tried = decide_may item.who a at t tries.0 tries.1 tried
  own_may item old new before after a z came (Aborted at t v does less) tries tried = tt
  own_may item old new before after a z came (DecideRefused at t true k does loses same) tries tried = decide_may item.who a at t tries.0 tries.1 tried
  own_may item old new before after a z came (DecideRefused at t false k does loses same) tries tried = tt
  own_may item old new before after a z came (Finished r t commit result does less) tries tried = tt
  own_may item old new before after a z came (Forgot r t result does less) tries tried = tt
  own_may item old new before after a z came (AskedOwn r t v does ends) tries tried = tt
  own_may item old new before after a z came (AskedInVain r t result does leaves same fewer) tries tried = tt

pub sends : (S : Several) (item : Present) (old new : View) (before after : Held) (a z : Pending) (d e : Duties) (came : News) (step : StepsSo item old new before after a z d e came)
    → TryPrepared S item.who a → OwnMayCome S old new before after step.moves
sends S item old new before after a z d e came step tried = own_may S item old new before after a z came step.moves step.tries tried

-- ---- what stays

module _ (S : Several) (r : ℕ) (e : Entry) (sd : AreSound S) (go : Continues S r e) where
  has_on : (item : Who) (t : Ts) (transaction : Transaction) (n : ℕ) → HasPrepared S item t transaction n → HasPrepared (grown S r e) item t transaction n
  has_on item t transaction n h =
      let g = onward S r e sd go n t h.o h.there in
      record { o = g.0; there = g.1; of = subst (IsRequestOf item t transaction n) (sym g.2.request) h.of }

  are_on : (item : Who) (at : At) (t : Ts) (rs : List ℕ) (transaction : Transaction) → ArePrepared S item at t rs transaction → ArePrepared (grown S r e) item at t rs transaction
  are_on item at t rs transaction p = record { coordinator = p.coordinator; first = has_on item t transaction at.repo p.first; next = λ n h. has_on item t transaction n (p.next n h); left = p.left }

  pub tried_on : (item : Who) (a : Pending) → TryPrepared S item a → TryPrepared (grown S r e) item a
  tried_on item NonePending h = tt
  tried_on item (IsPreparing at t rs transaction) h = are_on item at t rs transaction h
  tried_on item (IsAsking sent n) h = tt

-- ---- behind an entry

at_the_end : (H : List Entry) (e : Entry) → slice_get (H ++ e ∷ []) (length H) ≡ Some e
at_the_end [] e = refl
at_the_end (x ∷ xs) e = at_the_end xs e

stands_there : {A : Type 0} (o : Option A) (P : A → Type 0) → IsSomeAnd o P → (x : A) × (o ≡ Some x) × P x
stands_there None P h = absurd h
stands_there (Some x) P h = (x, refl, h)

module _ (S : Several) (r : ℕ) (q : Request) (sd : AreSound S) (go : Continues S r (entries.Prepared q)) where
  -- the request of the entry stands there
  stands : (o : Known) × (part (grown S r (entries.Prepared q)) r q.tx ≡ Some o) × (o.request ≡ q)
  stands = by (nat_eq r r) refl
    where
      H : List Entry
      H = (grown S r (entries.Prepared q)).history r

      sound_there : sound (S.base r) H
      sound_there = (sound-grown S r (entries.Prepared q) sd go).each r

      by : (k : Bool) → nat_eq r r ≡ k → (o : Known) × (part (grown S r (entries.Prepared q)) r q.tx ≡ Some o) × (o.request ≡ q)
      by true h =
          let ends : H ≡ S.history r ++ entries.Prepared q ∷ [] = ap (λ (k : Bool). cond k (S.history r ++ entries.Prepared q ∷ []) (S.history r)) h in
          let there : slice_get H (length (S.history r)) ≡ Some (entries.Prepared q) = ap (λ (K : List Entry). slice_get K (length (S.history r))) ends ∙ at_the_end (S.history r) (entries.Prepared q) in
          let x = stands_there (known_by (S.base r) H q.tx) (λ (o : Known). (o.place ≡ length (S.history r)) × (o.request ≡ q)) ((tell (S.base r) H sound_there).asked (length (S.history r)) (entries.Prepared q) q there refl) in
          (x.0, x.1, x.2.1)
      by false h = absurd (let no : true ≡ false = sym (same_number r) ∙ h in cc)

  new_there : (item : Who) (transaction : Transaction) → IsRequestOf item q.tx transaction r q → HasPrepared (grown S r (entries.Prepared q)) item q.tx transaction r
  new_there item transaction of = record { o = stands.0; there = stands.1; of = subst (IsRequestOf item q.tx transaction r) (sym stands.2) of }

pub prepares : (S : Several) (item : Present) (links : List Link) (c : Contents) (s : Sending) (a z : Pending) (so : PreparesSo item links c s a z) → AreSound S → Continues S s.at.repo (entries.Prepared s.request) → TryPrepared S item.who a → TryPrepared (grown S s.at.repo (entries.Prepared s.request)) item.who z
prepares S item links c s a z (PreparesFirst left sends holds now) sd go tried = subst (TryPrepared (grown S s.at.repo (entries.Prepared s.request)) item.who) (sym now) (record {
  coordinator = starts_there item links c s left sends;
  first = new_there S s.at.repo s.request sd go item.who left (same_requests links item.who s.request.tx sends.drawn left s sends.sends s.at.repo s.request (request_is links item.who s.request.tx sends.drawn left s sends.sends sends.starts.shares));
  next = λ n h. cc;
  left = rest_of links item.who s.request.tx sends.drawn left s sends.sends sends.starts.shares;
})
prepares S item links c s a z (PreparesNext at rs left sends holds now) sd go tried = subst (TryPrepared (grown S s.at.repo (entries.Prepared s.request)) item.who) (sym now) (record {
  coordinator = p.coordinator;
  first = old_there at.repo p.first;
  next = λ n h. by n (one_more_among n s.at.repo rs h);
  left = rest_of links item.who s.request.tx sends.transaction left s sends.sends p.left;
})
  where
    T : Several
    T = grown S s.at.repo (entries.Prepared s.request)

    p : ArePrepared S item.who at s.request.tx rs sends.transaction
    p = subst (TryPrepared S item.who) sends.was tried

    of_left : (n : ℕ) → HasPrepared T item.who s.request.tx sends.transaction n → HasPrepared T item.who s.request.tx left n
    of_left n h = record { o = h.o; there = h.there; of = same_requests links item.who s.request.tx sends.transaction left s sends.sends n h.o.request h.of }

    old_there : (n : ℕ) → HasPrepared S item.who s.request.tx sends.transaction n → HasPrepared T item.who s.request.tx left n
    old_there n h = of_left n (has_on S s.at.repo (entries.Prepared s.request) sd go item.who s.request.tx sends.transaction n h)

    by : (n : ℕ) → (list_any (nat_eq n) rs ≡ true) ⊎ (n ≡ s.at.repo) → HasPrepared T item.who s.request.tx left n
    by n (inl h) = old_there n (p.next n h)
    by n (inr e) = subst (HasPrepared T item.who s.request.tx left) (sym e) (of_left s.at.repo (new_there S s.at.repo s.request sd go item.who sends.transaction (request_is links item.who s.request.tx sends.transaction left s sends.sends p.left)))
