-- What the calls of a port leave, where they ask for no entry of a kind.
use Rattle.log_entries.specs.declared.entry.Entry.TheVariants as the_entry
use Rattle.log_entries.specs.declared.entry.Entry.{Entry}
use Rattle.log_entries.specs.declared.request.Request.{Request}
use Rattle.law_cache_coherence.proofs.Asking.{same_number}
use Rattle.law_cache_coherence.proofs.Lending.{Front, none_more}
use Rattle.client_port.specs.Acting as acting
use Rattle.client_port.specs.Acting.{Acts}
use Rattle.law_cache_coherence.specs.Doomed.{NoneComes, entry_asked}
use Rattle.law_cache_coherence.specs.Seen.{IsSeenRight}
use Rattle.spec_history.specs.History.{Base, known_by}
use Rattle.spec_history.specs.Sound.{sound}
use Rattle.session_outbox.specs.declared.answers.Asked as answer
use Rattle.session_outbox.specs.declared.answers.Verdict.{Verdict}
use Rattle.session_outbox.specs.declared.answers.Welcome.{Welcome}
use Rattle.session_outbox.specs.declared.message.Message.{Message}
use Rattle.client_port.specs.Growing.{Called, Grew}
use Rattle.client_port.specs.Views.{Calm, Halted, MayCome, Opened, Unsettled, View}
use Rattle.client_port.specs.Works as works
use Rattle.client_port.specs.Works.{Answered, AskWork, CommitWork, ConnectWork, DecideWork, Does, DrawWork, FetchWork, FinishWork, ForgetWork, GrantWork, IsAsMet, IsBehind, IsHalted, MayHaveLeft, OutageWith, PrepareWork, ReceiveWork, RefusedMarked, RefusedUnmarked, RequestRefused, alone_entry, is_prepared_by}
use Rattle.spec_trace.specs.Calls.{next_page}
use Rattle.spec_trace.specs.Exact.{exact}
use Rattle.spec_trace.proofs.Sessions.{ended_is_gone}
use Rattle.spec_trace.specs.Notices.{notice_of}
use Rattle.spec_trace.specs.Session.{place_of, session}
use Rattle.spec_trace.specs.Trace.{E, Item, M, entries}
use Rattle.spec_trace.specs.declared.mark.Mark.TheVariants as the
use Rattle.std.proofs.Common.{Bool, List, [], ap, false, inl, inr, refl, subst, sym, true, ◌++◌, ◌∙◌, ◌∷◌, ◌≡◌, ◌≢◌, ℕ}
use Rattle.std.proofs.lemmas.Bool.{eqb-true}
use Rattle.std.specs.Prelude.{Err, None, Ok, Option, Result, Some, nat_eq, ◌⊎◌}
use Rattle.thor_value.specs.declared.names.Ts.{Ts}
use Rattle.repo_refusals.specs.declared.refusal.Refusal.TheVariants as refused
use Rattle.repo_refusals.specs.declared.refusal.Refusal.{Refusal}

-- whether the item is an entry for which the test is true
abbrev pub is_such : (Entry → Bool) → Item → Bool
is_such such (E e) = such e
is_such such (M m) = false

-- nothing came, or one item that is no such entry; and none is on its way
abbrev pub Adds : (Entry → Bool) → List Item → List Item → Unsettled → Type 0
Adds such at after u = ((after ≡ at) ⊎ ((i : Item) × (after ≡ at ++ i ∷ []) × (is_such such i ≡ false))) × NoneComes such u

pub adds_front : (such : Entry → Bool) (at after : List Item) (u : Unsettled) → Adds such at after u → Front at after
adds_front such at after u (inl same, coming) = none_more at after same
adds_front such at after u (inr (i, is, other), coming) = (i ∷ [], is)

module _ (such : Entry → Bool) (b : Base) (at after : List Item) (u : Unsettled) where
  as_met : IsAsMet at after u → Adds such at after u
  as_met m = (inl m.0, subst (NoneComes such) (sym m.1) tt)

  halted : IsHalted at after u → Adds such at after u
  halted m = (inl m.0, subst (NoneComes such) (sym m.1) tt)

  behind : (i : Item) → is_such such i ≡ false → IsBehind at i after u → Adds such at after u
  behind i other m = (inr (i, m.0, other), subst (NoneComes such) (sym m.1) tt)

  unmarked : (s : ℕ) (r : Refusal) → RefusedUnmarked b at s r after u → Adds such at after u
  unmarked s (refused.Reason r) w = as_met w.2
  unmarked s (refused.Down r) w = halted w.1
  unmarked s (refused.Stopped r) w = halted w.1
  unmarked s (refused.Damaged r k) w = halted w.1
  unmarked s refused.NoMemory w = halted w.1

  marked : (s : ℕ) (r : Refusal) → RefusedMarked b at s r after u → Adds such at after u
  marked s (refused.Reason r) w = behind (M (the.Refused s None (refused.Reason r))) refl w.1
  marked s (refused.Down r) w = halted w
  marked s (refused.Stopped r) w = halted w
  marked s (refused.Damaged r k) w = halted w
  marked s refused.NoMemory w = halted w

  left_behind : (e : Entry) (valid : Type 0) → such e ≡ false → (v : Unsettled) → MayHaveLeft e valid v → NoneComes such v
  left_behind e valid other Calm m = absurd m
  left_behind e valid other (MayCome d) m = ap such m.0 ∙ other
  left_behind e valid other Halted m = tt

  stopped : (e : Entry) (valid : Type 0) → such e ≡ false → (after ≡ at) × MayHaveLeft e valid u → Adds such at after u
  stopped e valid other m = (inl m.0, left_behind e valid other u m.1)

  outage : (e : Entry) (valid : Type 0) (r : Refusal) → such e ≡ false → OutageWith e valid at r after u → Adds such at after u
  outage e valid (refused.Reason r) other w = absurd w
  outage e valid (refused.Down r) other w = halted w
  outage e valid (refused.Stopped r) other w = stopped e valid other w
  outage e valid (refused.Damaged r k) other w = halted w
  outage e valid refused.NoMemory other w = stopped e valid other w

  request : (e : Entry) (s : ℕ) (q : Request) (r : Refusal) → such e ≡ false → RequestRefused e b at s q r after u → Adds such at after u
  request e s q (refused.Reason r) other w = behind (M (the.Refused s (Some q) (refused.Reason r))) refl w.1
  request e s q (refused.Down r) other w = halted w
  request e s q (refused.Stopped r) other w = stopped e _ other w
  request e s q (refused.Damaged r k) other w = halted w
  request e s q refused.NoMemory other w = stopped e _ other w

  -- ---- each call

  connects : (c : ℕ) (result : Result Welcome Refusal) → ConnectWork c result b at after u → Adds such at after u
  connects c (Ok w) h = behind (M (the.Connected w.session c)) refl h.1
  connects c (Err r) h = halted h.1

  fetches : (s page upto : ℕ) (result : Result (Unit {0}) Refusal) → FetchWork s page upto result b at after u → Adds such at after u
  fetches s page upto (Ok d) h = behind (M (the.Fetched s page upto)) refl h.1
  fetches s page upto (Err r) h = unmarked s r h

  grants : (s : ℕ) (result : Result (Unit {0}) Refusal) → GrantWork s result b at after u → Adds such at after u
  grants s (Ok d) h = behind (M (the.Granted s (next_page b at))) refl h.2
  grants s (Err r) h = marked s r h

  receives : (s : ℕ) (result : Result (Option Message) Refusal) → ReceiveWork s result b at after u → Adds such at after u
  receives s (Ok None) h = as_met h.2
  receives s (Ok (Some m)) h = behind (M (the.Took s (place_of (notice_of m)))) refl h.2
  receives s (Err r) h = unmarked s r h

  draws : (s floor : ℕ) (result : Result Ts Refusal) → DrawWork s floor result b at after u → Adds such at after u
  draws s floor (Ok d) h = behind (M (the.Drew s d)) refl h.3
  draws s floor (Err r) h = marked s r h

  prepares : (s : ℕ) (q : Request) (result : Result ℕ Refusal) → such (the_entry.Prepared q) ≡ false → PrepareWork s q result b at after u → Adds such at after u
  prepares s q (Ok place) other h = behind (E (the_entry.Prepared q)) other h.2
  prepares s q (Err r) other h = request (the_entry.Prepared q) s q r other h

  commits : (s : ℕ) (q : Request) (result : Result ℕ Refusal) → such (alone_entry q) ≡ false → CommitWork s q result b at after u → Adds such at after u
  commits s q (Ok place) other h = behind (E (alone_entry q)) other h.2
  commits s q (Err r) other h = request (alone_entry q) s q r other h

  decision : (x : Bool) (d : Ts) (k : Bool) (v : Verdict) → such (the_entry.Decided d k) ≡ false → works.Decides x d k v b at after u → Adds such at after u
  decision true d k v other h = behind (E (the_entry.Decided d k)) other h.1
  decision false d k v other h = as_met h.1

  decides_so : (s : ℕ) (d : Ts) (k : Bool) (result : Result Verdict Refusal) → such (the_entry.Decided d k) ≡ false → DecideWork s d k result b at after u → Adds such at after u
  decides_so s d k (Ok v) other h = decision (is_prepared_by s (known_by b (entries at) d)) d k v other h.2
  decides_so s d k (Err (refused.Reason r)) other h = unmarked s (refused.Reason r) (h.0, ended_is_gone (session b at s) h.1, h.2)
  decides_so s d k (Err (refused.Down r)) other h = halted h
  decides_so s d k (Err (refused.Stopped r)) other h = stopped (the_entry.Decided d k) _ other h
  decides_so s d k (Err (refused.Damaged r n)) other h = halted h
  decides_so s d k (Err refused.NoMemory) other h = stopped (the_entry.Decided d k) _ other h

  finishes : (d : Ts) (k : Bool) (result : Result (Option ℕ) Refusal) → such (the_entry.Finished d k) ≡ false → FinishWork d k result b at after u → Adds such at after u
  finishes d k (Ok (Some place)) other h = behind (E (the_entry.Finished d k)) other h.2
  finishes d k (Ok None) other h = as_met h.1
  finishes d k (Err r) other h = outage (the_entry.Finished d k) _ r other h

  forgets : (d : Ts) (result : Result (Unit {0}) Refusal) → ForgetWork d result b at after u → Adds such at after u
  forgets d (Ok x) h = behind (M (the.Forgot d)) refl h
  forgets d (Err r) h = halted h.1

  asks : (d : Ts) (result : Result answer.Asked Refusal) → AskWork d result b at after u → Adds such at after u
  asks d (Ok a) h = as_met h.1
  asks d (Err r) h = halted h.1

-- ---- a call of a port

-- what a call left of the trace that it met
abbrev pub Left : (Entry → Bool) → Unsettled → List Item → List Item → Unsettled → Type 0
Left such met at after u = ((met ≡ Calm) × Adds such at after u) ⊎ ((met ≢ Calm) × (after ≡ at) × (u ≡ met))

-- the repository that was called, what the call met there, and what it left
pub record HasCalled (such : Entry → Bool) (old new : View) : Type 0 where
  pub r : ℕ
  pub at : List Item
  pub met : Unsettled
  pub called : Called old new r at met
  pub left : Left such met at (new.seen r) (new.unsettled r)

left_front : (such : Entry → Bool) (met : Unsettled) (at after : List Item) (u : Unsettled) → Left such met at after u → Front at after
left_front such met at after u (inl a) = adds_front such at after u a.1
left_front such met at after u (inr a) = none_more at after a.1

answered_left : (such : Entry → Bool) {X : Type 0} (r : ℕ) (result : Result X Refusal) (met : Unsettled) (at after : List Item) (u : Unsettled) (work : Type 0) → (work → Adds such at after u) → Answered r result met at after u work → Left such met at after u
answered_left such r result Calm at after u work f h = inl (refl, f h)
answered_left such r result (MayCome e) at after u work f h = inr ((λ x. cc), h.1, h.2)
answered_left such r result Halted at after u work f h = inr ((λ x. cc), h.1, h.2)

module _ (such : Entry → Bool) (old new : View) where
  does : {X : Type 0} (r : ℕ) (result : Result X Refusal) (work : Base → List Item → List Item → Unsettled → Type 0)
      → ((b : Base) (at after : List Item) (u : Unsettled) → work b at after u → Adds such at after u) → Does old new r result work → HasCalled such old new
  does r result work f y = record {
    r = r;
    at = y.at;
    met = y.met;
    called = y.called;
    left = answered_left such r result y.met y.at (new.seen r) (new.unsettled r) (work (old.opened.base r) y.at (new.seen r) (new.unsettled r)) (f (old.opened.base r) y.at (new.seen r) (new.unsettled r)) y.answer;
  }

  -- a call asks for no such entry: nothing was called, or this is what it left
  pub acts : (a : Acts old new) → ((e : Entry) → entry_asked old new a ≡ Some e → such e ≡ false) → (new ≡ old) ⊎ HasCalled such old new
  acts (acting.Rests same) other = inl same
  acts (acting.Connected r c result y) other = inr (does r result (ConnectWork c result) (λ b at after u. connects such b at after u c result) y)
  acts (acting.Fetched r s page upto result y) other = inr (does r result (FetchWork s page upto result) (λ b at after u. fetches such b at after u s page upto result) y)
  acts (acting.Granted r s result y) other = inr (does r result (GrantWork s result) (λ b at after u. grants such b at after u s result) y)
  acts (acting.Received r s result y) other = inr (does r result (ReceiveWork s result) (λ b at after u. receives such b at after u s result) y)
  acts (acting.Drew r s floor result y) other = inr (does r result (DrawWork s floor result) (λ b at after u. draws such b at after u s floor result) y)
  acts (acting.Prepared r s q result y) other = inr (does r result (PrepareWork s q result) (λ b at after u. prepares such b at after u s q result (other (the_entry.Prepared q) refl)) y)
  acts (acting.Committed r s q result y) other = inr (does r result (CommitWork s q result) (λ b at after u. commits such b at after u s q result (other (alone_entry q) refl)) y)
  acts (acting.Decided r s t k result y) other = inr (does r result (DecideWork s t k result) (λ b at after u. decides_so such b at after u s t k result (other (the_entry.Decided t k) refl)) y)
  acts (acting.Finished r t k result y) other = inr (does r result (FinishWork t k result) (λ b at after u. finishes such b at after u t k result (other (the_entry.Finished t k) refl)) y)
  acts (acting.Forgot r t result y) other = inr (does r result (ForgetWork t result) (λ b at after u. forgets such b at after u t result) y)
  acts (acting.Asked r t result y) other = inr (does r result (AskWork t result) (λ b at after u. asks such b at after u t result) y)

-- ---- a repository behind a call of a port

-- what is right by the view behind the call, with what was opened by the one before it
pub record SeenRight (old new : View) (n : ℕ) : Type 0 where
  pub owed : sound (old.opened.base n) (entries (new.seen n))
  pub kept : exact (old.opened.base n) (new.seen n)
  pub numbered : (old.opened.base n).repo ≡ n

pub seen_right : (old new : View) (n : ℕ) (committed : Ts → Bool) → new.opened ≡ old.opened → IsSeenRight new n committed → SeenRight old new n
seen_right old new n committed same seen = record {
  owed = subst (λ (o : Opened). sound (o.base n) (entries (new.seen n))) same seen.owed;
  kept = subst (λ (o : Opened). exact (o.base n) (new.seen n)) same seen.kept;
  numbered = subst (λ (o : Opened). (o.base n).repo ≡ n) same seen.numbered;
}

-- what holds of a repository that grew by others, and behind the call where it was called, holds of each
pub behind_call : (such : Entry → Bool) (old new : View) (h : HasCalled such old new) (n : ℕ) (P : ℕ → Type 0)
    → (Grew (old.opened.base n) old.opened.client (old.unsettled n) (old.seen n) (new.unsettled n) (new.seen n) → P n)
    → (Grew (old.opened.base n) old.opened.client (old.unsettled n) (old.seen n) h.met h.at → Left such h.met h.at (new.seen n) (new.unsettled n) → Front h.at (new.seen n) → P n)
    → P n
behind_call such old new h n P others here = by (nat_eq n h.r) refl
  where
    by : (x : Bool) → nat_eq n h.r ≡ x → P n
    by true e =
        let same : h.r ≡ n = sym (eqb-true n h.r e) in
        let left : Left such h.met h.at (new.seen n) (new.unsettled n) = subst (λ (m : ℕ). Left such h.met h.at (new.seen m) (new.unsettled m)) same h.left in
        here (subst (λ (m : ℕ). Grew (old.opened.base m) old.opened.client (old.unsettled m) (old.seen m) h.met h.at) same h.called.reached) left (left_front such h.met h.at (new.seen n) (new.unsettled n) left)
    by false e = others (h.called.others n (λ same. let f : false ≡ true = sym e ∙ ap (λ (m : ℕ). nat_eq n m) (sym same) ∙ same_number n in cc))
