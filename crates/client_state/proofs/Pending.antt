-- What a try has written lies in a session, and stays there through what its client does while it asks for the verdict.
use Rattle.client_cache.specs.Copies.{Contents, changed}
use Rattle.client_state.proofs.Stopping.{at_here, at_other}
use Rattle.client_state.specs.Calling.{is_session_of}
use Rattle.client_state.specs.Learning.{without_session}
use Rattle.client_state.specs.Links.{at_repo, session_at, session_in, waiting}
use Rattle.client_state.specs.Moving.{Asked, Connected, Drawn, Fetched, Granted, InSession, MovesIf, Rested, SendsNothing, SendsNothingIf, Settled, Unsent}
use Rattle.client_state.specs.Owing.{asking_in}
use Rattle.client_state.specs.Pending.{IsAsking, IsWrittenIn, MovesSoIf, NonePending, Pending, SendsPending, StaysPending, pending_in}
use Rattle.client_state.specs.Taking.{links_behind, took}
use Rattle.client_state.specs.Writing.{WritesStay, WritesThere}
use Rattle.client_state.specs.declared.held.Held.{Held}
use Rattle.client_state.specs.declared.link.Link.TheVariants.{Apart, Joined, Unsettled}
use Rattle.client_state.specs.declared.link.Link.{Link}
use Rattle.client_state.specs.declared.link.Waits.{Waits}
use Rattle.client_state.specs.declared.phase.Phase.TheVariants as phase
use Rattle.client_state.specs.declared.phase.Phase.{Phase}
use Rattle.client_state.specs.declared.transaction.Sent.{Sent}
use Rattle.session_outbox.specs.declared.answers.At.{At}
use Rattle.session_outbox.specs.declared.message.Message.TheVariants.{Grant, Invalid, Page, Upgrade}
use Rattle.session_outbox.specs.declared.message.Message.{Message}
use Rattle.paused_eval.specs.Copies.{AreAmong, last_of}
use Rattle.client_port.specs.Views.{View}
use Rattle.std.proofs.Common.{Bool, List, ap, cond, false, inl, inr, nat_eq, refl, subst, sym, true, ◌≡◌, ◌≢◌, ◌∙◌, ℕ}
use Rattle.std.proofs.lemmas.Bool.{cases_eq, eqb-false, eqb-true}
use Rattle.std.proofs.lemmas.Option.{same_Some}
use Rattle.std.specs.Option.{option_map}
use Rattle.std.specs.Prelude.{None, Ok, Option, Some, slice_get, ◌⊎◌}
use Rattle.thor_value.specs.declared.names.Oref.{Oref}
use Rattle.thor_value.specs.declared.values.Obj.{Obj}

-- ---- what the try has written

-- the links and what is written stay
pub still_written : (a b : Held) → b.links.items ≡ a.links.items → WritesStay a.cache.cache b.cache.cache → (at : At) → IsWrittenIn at a → IsWrittenIn at b
still_written a b links stay at w x = by (w x)
  where
    by : (changed a.cache.cache x ≡ None) ⊎ ((x.repo ≡ at.repo) × InSession at a) → (changed b.cache.cache x ≡ None) ⊎ ((x.repo ≡ at.repo) × InSession at b)
    by (inl none) = inl (stay x ∙ none)
    by (inr h) = inr (h.0, ap (λ (ls : List Link). session_in at.repo (slice_get ls at.repo)) links ∙ h.1)

-- the links stay, and what is written stays or goes
pub less_written : (a b : Held) → b.links.items ≡ a.links.items → AreAmong (changed a.cache.cache) (changed b.cache.cache) → (at : At) → IsWrittenIn at a → IsWrittenIn at b
less_written a b links less at w x = by (w x) (less x)
  where
    by : (changed a.cache.cache x ≡ None) ⊎ ((x.repo ≡ at.repo) × InSession at a) → (changed b.cache.cache x ≡ changed a.cache.cache x) ⊎ (changed b.cache.cache x ≡ None) → (changed b.cache.cache x ≡ None) ⊎ ((x.repo ≡ at.repo) × InSession at b)
    by (inl none) (inl same) = inl (same ∙ none)
    by (inl none) (inr gone) = inl gone
    by (inr h) l = inr (h.0, ap (λ (ls : List Link). session_in at.repo (slice_get ls at.repo)) links ∙ h.1)

-- what a request that commits alone writes lies in the session by which it is sent
pub written_there : (at : At) (writes : List (Oref × Obj)) (a : Held) → InSession at a → WritesThere at.repo writes a.cache.cache → IsWrittenIn at a
written_there at writes a joined wrote x = by (nat_eq at.repo x.repo) refl
  where
    by : (t : Bool) → nat_eq at.repo x.repo ≡ t → (changed a.cache.cache x ≡ None) ⊎ ((x.repo ≡ at.repo) × InSession at a)
    by true e = inr (sym (eqb-true at.repo x.repo e), joined)
    by false e = inl (wrote x ∙ ap (λ (t : Bool). cond t (last_of writes x) None) e)

drops : (t : Bool) (o : Option Obj) → o ≡ None → cond t None o ≡ None
drops true o h = refl
drops false o h = h

-- the session of a repository is gone, with what was held and written there
pub lost_written : (repo session : ℕ) (a b c : Held) → b ≡ record a { links = b.links } → b.links.items ≡ at_repo a.links.items repo (without_session session) → c.links ≡ b.links
    → ((x : Oref) → changed c.cache.cache x ≡ cond (nat_eq x.repo repo) None (changed b.cache.cache x)) → (at : At) → IsWrittenIn at a → IsWrittenIn at c
lost_written repo session a b c rest links same wrote at w x = by (w x)
  where
    here : changed c.cache.cache x ≡ cond (nat_eq x.repo repo) None (changed a.cache.cache x)
    here = wrote x ∙ ap (λ (h : Held). cond (nat_eq x.repo repo) None (changed h.cache.cache x)) rest

    away : (t : Bool) → nat_eq x.repo repo ≡ t → (x.repo ≡ at.repo) × InSession at a → (changed c.cache.cache x ≡ None) ⊎ ((x.repo ≡ at.repo) × InSession at c)
    away true e h = inl (here ∙ ap (λ (t : Bool). cond t None (changed a.cache.cache x)) e)
    away false e h = inr (h.0, ap (λ (ls : List Link). session_in at.repo (slice_get ls at.repo)) (same_items ∙ links) ∙ (ap (session_in at.repo) (at_other (without_session session) a.links.items repo at.repo other) ∙ h.1))
      where
        other : at.repo ≢ repo
        other k = eqb-false x.repo repo e (h.0 ∙ k)

        same_items : c.links.items ≡ b.links.items
        same_items = cc

    by : (changed a.cache.cache x ≡ None) ⊎ ((x.repo ≡ at.repo) × InSession at a) → (changed c.cache.cache x ≡ None) ⊎ ((x.repo ≡ at.repo) × InSession at c)
    by (inl none) = inl (here ∙ drops (nat_eq x.repo repo) (changed a.cache.cache x) none)
    by (inr h) = away (nat_eq x.repo repo) refl h

-- no other link's session is gone
stays_in : (session : ℕ) (o : Option Link) → is_session_of session o ≡ false → option_map (without_session session) o ≡ o
stays_in session None h = refl
stays_in session (Some l) h = ap (λ (t : Bool). Some (cond t Apart l)) h

pub not_lost_written : (repo session : ℕ) (a b : Held) (t : Bool) → t ≡ is_session_of session (slice_get a.links.items repo) → t ≡ false → b ≡ record a { links = b.links } → b.links.items ≡ at_repo a.links.items repo (without_session session)
    → (at : At) → IsWrittenIn at a → IsWrittenIn at b
not_lost_written repo session a b t answer other rest links at w x = by (w x)
  where
    there : slice_get b.links.items at.repo ≡ slice_get a.links.items at.repo
    there = elim (cases_eq at.repo repo) [
      | inl e ↦ ap (λ (ls : List Link). slice_get ls at.repo) links ∙ subst (λ (n : ℕ). slice_get (at_repo a.links.items n (without_session session)) at.repo ≡ slice_get a.links.items at.repo) e (at_here (without_session session) a.links.items at.repo ∙ stays_in session (slice_get a.links.items at.repo) (ap (λ (n : ℕ). is_session_of session (slice_get a.links.items n)) e ∙ (sym answer ∙ other)))
      | inr away ↦ ap (λ (ls : List Link). slice_get ls at.repo) links ∙ at_other (without_session session) a.links.items repo at.repo away
    ]

    by : (changed a.cache.cache x ≡ None) ⊎ ((x.repo ≡ at.repo) × InSession at a) → (changed b.cache.cache x ≡ None) ⊎ ((x.repo ≡ at.repo) × InSession at b)
    by (inl none) = inl (ap (λ (h : Held). changed h.cache.cache x) rest ∙ none)
    by (inr h) = inr (h.0, ap (session_in at.repo) there ∙ h.1)

-- ---- links that change, but for their sessions

module _ (f : Link → Link) (same : (r : ℕ) (l : Link) → session_at r (f l) ≡ session_at r l) where
  mapped : (r : ℕ) (o : Option Link) → session_in r (option_map f o) ≡ session_in r o
  mapped r None = refl
  mapped r (Some l) = same r l

  session_kept : (links : List Link) (k n : ℕ) → session_in n (slice_get (at_repo links k f) n) ≡ session_in n (slice_get links n)
  session_kept links k n = elim (cases_eq n k) [
    | inl e ↦ subst (λ (m : ℕ). session_in n (slice_get (at_repo links m f) n) ≡ session_in n (slice_get links n)) e (ap (session_in n) (at_here f links n) ∙ mapped n (slice_get links n))
    | inr other ↦ ap (session_in n) (at_other f links k n other)
  ]

module _ (a b : Held) (copies : b.cache.cache ≡ a.cache.cache) (sessions : (n : ℕ) → session_in n (slice_get b.links.items n) ≡ session_in n (slice_get a.links.items n)) (at : At) where
  in_sessions : IsWrittenIn at a → IsWrittenIn at b
  in_sessions w x = by (w x)
    where
      by : (changed a.cache.cache x ≡ None) ⊎ ((x.repo ≡ at.repo) × InSession at a) → (changed b.cache.cache x ≡ None) ⊎ ((x.repo ≡ at.repo) × InSession at b)
      by (inl none) = inl (ap (λ (c : Contents). changed c x) copies ∙ none)
      by (inr h) = inr (h.0, sessions at.repo ∙ h.1)

waits_same : (w : Waits) (r : ℕ) (l : Link) → session_at r (waiting w l) ≡ session_at r l
waits_same w r Apart = refl
waits_same w r (Joined s upto waits) = refl
waits_same w r (Unsettled sent index) = refl

-- the client waits for something else
pub waits_written : (r : ℕ) (w : Waits) (a b : Held) → b.links.items ≡ at_repo a.links.items r (waiting w) → b.cache.cache ≡ a.cache.cache → (at : At) → IsWrittenIn at a → IsWrittenIn at b
waits_written r w a b links copies at = in_sessions a b copies (λ n. ap (λ (ls : List Link). session_in n (slice_get ls n)) links ∙ session_kept (waiting w) (waits_same w) a.links.items r n) at

took_same : (m : Message) (r : ℕ) (l : Link) → session_at r (took m l) ≡ session_at r l
took_same (Page page bytes place) r Apart = refl
took_same (Page page bytes place) r (Joined s upto waits) = refl
took_same (Page page bytes place) r (Unsettled sent index) = refl
took_same (Grant page place) r Apart = refl
took_same (Grant page place) r (Joined s upto waits) = refl
took_same (Grant page place) r (Unsettled sent index) = refl
took_same (Invalid names place) r Apart = refl
took_same (Invalid names place) r (Joined s upto waits) = refl
took_same (Invalid names place) r (Unsettled sent index) = refl
took_same (Upgrade number text place) r Apart = refl
took_same (Upgrade number text place) r (Joined s upto waits) = refl
took_same (Upgrade number text place) r (Unsettled sent index) = refl

behind_same : (o : Option Message) (links : List Link) (r n : ℕ) → session_in n (slice_get (links_behind (Ok o) r links) n) ≡ session_in n (slice_get links n)
behind_same None links r n = refl
behind_same (Some m) links r n = session_kept (took m) (took_same m) links r n

-- a message was taken, or none
pub taken_written : (r : ℕ) (o : Option Message) (a b : Held) → b.links.items ≡ links_behind (Ok o) r a.links.items → b.cache.cache ≡ a.cache.cache → (at : At) → IsWrittenIn at a → IsWrittenIn at b
taken_written r o a b links copies at = in_sessions a b copies (λ n. ap (λ (ls : List Link). session_in n (slice_get ls n)) links ∙ behind_same o a.links.items r n) at

-- the verdict on an Unknown item was learnt, which is told of no session
pub settled_written : (r : ℕ) (sent : Sent) (index : ℕ) (a b : Held) → slice_get a.links.items r ≡ Some (Unsettled sent index) → b.links.items ≡ at_repo a.links.items r (λ l. Apart) → WritesStay a.cache.cache b.cache.cache
    → (at : At) → IsWrittenIn at a → IsWrittenIn at b
settled_written r sent index a b there links stay at w x = by (w x)
  where
    sessions : (at.repo ≡ r) ⊎ (at.repo ≢ r) → session_in at.repo (slice_get b.links.items at.repo) ≡ session_in at.repo (slice_get a.links.items at.repo)
    sessions (inl e) =
        let here : slice_get a.links.items at.repo ≡ Some (Unsettled sent index) = ap (λ (n : ℕ). slice_get a.links.items n) e ∙ there in
        let apart : slice_get b.links.items at.repo ≡ Some Apart = ap (λ (ls : List Link). slice_get ls at.repo) links ∙ (ap (λ (n : ℕ). slice_get (at_repo a.links.items n (λ l. Apart)) at.repo) (sym e) ∙ (at_here (λ l. Apart) a.links.items at.repo ∙ ap (λ (o : Option Link). option_map (λ (l : Link). Apart) o) here)) in
        ap (session_in at.repo) apart ∙ sym (ap (session_in at.repo) here)
    sessions (inr other) = ap (λ (ls : List Link). session_in at.repo (slice_get ls at.repo)) links ∙ ap (session_in at.repo) (at_other (λ l. Apart) a.links.items r at.repo other)

    by : (changed a.cache.cache x ≡ None) ⊎ ((x.repo ≡ at.repo) × InSession at a) → (changed b.cache.cache x ≡ None) ⊎ ((x.repo ≡ at.repo) × InSession at b)
    by (inl none) = inl (stay x ∙ none)
    by (inr h) = inr (h.0, sessions (cases_eq at.repo r) ∙ h.1)

-- ---- what is undecided

pub asks_in : (p : Phase) (sent : Sent) (answers : ℕ) → asking_in p ≡ Some (sent, answers) → pending_in p ≡ IsAsking sent answers
asks_in phase.Between sent answers h = cc
asks_in phase.Beginning sent answers h = cc
asks_in (phase.Evaluating run awaited) sent answers h = cc
asks_in (phase.Transforming run transform) sent answers h = cc
asks_in (phase.Evaluated transaction) sent answers h = cc
asks_in (phase.Drawn t transaction) sent answers h = cc
asks_in (phase.Preparing t transaction coordinator prepared) sent answers h = cc
asks_in (phase.Asking s n) sent answers h = ap (λ (k : Sent × ℕ). IsAsking k.0 k.1) (same_Some (s, n) (sent, answers) h)

-- a step by which nothing that is undecided changes, nor what is held
pub stays_itself : (a : Pending) (h : Held) → StaysPending a a h h
stays_itself a h = inr (refl, λ at w. w)

pub none_stays : (a z : Pending) (before after : Held) → z ≡ NonePending → StaysPending a z before after
none_stays a z before after e = inl e

-- the phase, the links and what is written stay
pub same_stays : (p q : Phase) (before after : Held) → q ≡ p → after.links.items ≡ before.links.items → WritesStay before.cache.cache after.cache.cache → StaysPending (pending_in p) (pending_in q) before after
same_stays p q before after e links stay = inr (ap pending_in e, still_written before after links stay)

pub stays_twice : (a b c : Pending) (x y z : Held) → StaysPending a b x y → StaysPending b c y z → StaysPending a c x z
stays_twice a b c x y z f (inl e) = inl e
stays_twice a b c x y z (inl e) (inr g) = inl (g.0 ∙ e)
stays_twice a b c x y z (inr f) (inr g) = inr (g.0 ∙ f.0, λ at w. g.1 at (f.1 at w))

-- a call that sends nothing, behind which nothing is undecided
pub sends_free : (old new : View) (before after : Held) (a z : Pending) (sends : SendsNothing old new before after) → z ≡ NonePending → SendsPending old new before after sends a z
sends_free old new before after a z (Rested same less) e = inl e
sends_free old new before after a z (Connected repo connects apart same fewer) e = e
sends_free old new before after a z (Fetched at page left fetches idle same fewer) e = e
sends_free old new before after a z (Granted at left grants idle same fewer) e = e
sends_free old new before after a z (Drawn at answer left draws there same fewer) e = e
sends_free old new before after a z (Asked r t result does less) e = inl e
sends_free old new before after a z (Settled r t v sent index does there links same fewer) e = inl e

pub free_so : (shows : Bool) (old new : View) (before after : Held) (a z : Pending) → SendsNothingIf shows old new before after → z ≡ NonePending → MovesSoIf shows old new before after a z
free_so shows old new before after a z sends e = λ s. record { moves = Unsent (sends s); pends = sends_free old new before after a z (sends s) e }

-- what is said of a step without what is undecided
pub moves_so : (shows : Bool) (old new : View) (before after : Held) (a z : Pending) → MovesSoIf shows old new before after a z → MovesIf shows old new before after
moves_so shows old new before after a z m = λ s. (m s).moves

-- behind what leaves nothing undecided nothing is
pub stays_free : (a z : Pending) (before after : Held) → a ≡ NonePending → StaysPending a z before after → z ≡ NonePending
stays_free a z before after e (inl n) = n
stays_free a z before after e (inr f) = f.0 ∙ e
