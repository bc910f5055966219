-- What is accepted by the memory is accepted by the trace.
use Rattle.validation_queue.specs.Names.{IsInOrder}
use Rattle.std.specs.Map.{keys_of}
use Rattle.cached_sets.specs.Invalid.{if_behind, set_of}
use Rattle.cached_sets.specs.Sets as sets
use Rattle.log_entries.specs.declared.entry.Entry.{Entry}
use Rattle.log_entries.specs.declared.request.Kind.TheVariants.{App, Transform, Upgrade}
use Rattle.log_entries.specs.declared.request.Kind.{Kind}
use Rattle.log_entries.specs.declared.request.Request.{Request}
use Rattle.repo_state.specs.declared.held.Held.{Held}
use Rattle.repo_sessions.specs.Sessions.{is_live}
use Rattle.spec_history.specs.History.{Base, Known, State, epoch_of, known_by, known_in, or_lost, state}
use Rattle.spec_history.specs.Requests as requests
use Rattle.law_repo_memory.specs.Agreeing.{Agrees, state_of, trace_of}
use Rattle.law_repo_memory.specs.Judging.{IsAccepted, SessionsAnswer}
use Rattle.spec_trace.specs.Notices.{lives}
use Rattle.spec_trace.proofs.Traces.{entries-items}
use Rattle.spec_trace.specs.Session.{Session, session, session_lives, invalid}
use Rattle.spec_trace.specs.Trace.{entries}
use Rattle.spec_trace.specs.Verdict as traced
use Rattle.spec_trace.specs.Verdict.{stale, verdict_by, stale_from}
use Rattle.std.proofs.Common.{Bool, List, ap, arith, cond, refl, subst, sym, ℕ, ◌<◌, ◌≡◌, ◌∙◌, [], ◌∷◌}
use Rattle.std.proofs.lemmas.Bool.{le-ltb}
use Rattle.std.specs.Option.{option_and_then, option_map, option_or}
use Rattle.std.specs.Prelude.{None, Option, Some, false, is_some, length, min, nat_eq, true, ◌-◌, ◌^◌, nat_le}
use Rattle.thor_value.specs.FiniteMap.{get, has}
use Rattle.thor_value.specs.declared.names.Oref.{Oref}
use Rattle.thor_value.specs.declared.names.Ts.{Ts}
use Rattle.repo_trace.specs.Recorded.{Recorded}
use Rattle.validation_queue.specs.Clashes.{clash, first_some}
use Rattle.validation_queue.specs.Contents.{Contents, first_blocking, transaction}
use Rattle.base_reasons.specs.declared.reason.Reason.TheVariants as reasons
use Rattle.base_reasons.specs.declared.reason.Reason.{Reason}
use Rattle.repo_refusals.proofs.Clashing.{names_read, refusal_alike}
use Rattle.repo_refusals.specs.Queue as queued
use Rattle.repo_refusals.specs.Queue.{is_too_old, old_of, queue_of, refusal_by}
use Rattle.repo_refusals.specs.Refusals.{other_epoch, bytes_of, first_refusal, full, full_of_writes}
use Rattle.repo_refusals.specs.Window.{window}
use Rattle.repo_refusals.specs.declared.refusal.Refusal.TheVariants as refused
use Rattle.repo_refusals.specs.declared.refusal.Refusal.{Refusal}
use Rattle.repo_volatile.specs.Volatile.{Memory, against, is_upgrade_kind, knows, transaction_of, verdict}

-- a name with a place, as the refusal that it is
abbrev stale_at : Oref × ℕ → Refusal
stale_at p = refused.Reason (reasons.Stale p.0 p.1)

-- ---- the two words for a request's kind

pub same-kind : (k : Kind) → is_upgrade_kind k ≡ requests.is_upgrade_kind k
same-kind App = refl
same-kind Transform = refl
same-kind (Upgrade text) = refl

pub same-transaction : (q : Request) → transaction_of q ≡ queued.transaction_of q
same-transaction q = ap (λ x. transaction q.tx x q.ros q.writes) (same-kind q.kind)

-- ---- the invalid set

first_mapped : (f : Oref → Option Refusal) (g : Oref → Option (Oref × ℕ)) (names : List Oref) → ((x : Oref) → f x ≡ option_map stale_at (g x)) → first_some f names ≡ option_map stale_at (first_some g names)
first_mapped f g [] h = refl
first_mapped f g (x ∷ xs) h = ap (λ o. option_or o (first_some f xs)) (h x) ∙ (ap (option_or (option_map stale_at (g x))) (first_mapped f g xs h) ∙ or_mapped (g x) (first_some g xs))
  where
    or_mapped : (o p : Option (Oref × ℕ)) → option_or (option_map stale_at o) (option_map stale_at p) ≡ option_map stale_at (option_or o p)
    or_mapped None p = refl
    or_mapped (Some y) p = refl

stale_mapped : (upto : ℕ) (x : Oref) (o : Option ℕ) → option_and_then (stale_from upto x) o ≡ option_map stale_at (option_and_then (if_behind upto x) o)
stale_mapped upto x None = refl
stale_mapped upto x (Some k) = by (nat_le upto k)
  where
    by : (y : Bool) → cond y (Some (refused.Reason (reasons.Stale x k))) None ≡ option_map stale_at (cond y (Some (x, k)) None)
    by true = refl
    by false = refl

-- ---- the two orders of the answers

-- the parts of a verdict in the one order are those in the other
same-order : (blocked : Option Refusal) (current : Bool) (other : Refusal) (c : Option Reason) (st : Option (Oref × ℕ)) (full : Option Refusal)
    → option_or blocked (option_or (cond current None (Some other)) (option_or (option_and_then old_of c) (option_or (option_map stale_at st) (option_or (option_map refused.Reason c) full))))
    ≡ option_or (option_or blocked (cond current (against c st) (Some other))) full
same-order (Some r) current other c st full = refl
same-order None false other c st full = refl
same-order None true other None None full = refl
same-order None true other None (Some p) full = refl
same-order None true other (Some c) st full = by (is_too_old c) st
  where
    by : (x : Bool) (st : Option (Oref × ℕ))
        → option_or (cond x (Some (refused.Reason c)) None) (option_or (option_map stale_at st) (Some (refused.Reason c)))
        ≡ option_or (cond x (Some (refused.Reason c)) (option_or (option_map stale_at st) (Some (refused.Reason c)))) full
    by true st = refl
    by false None = refl
    by false (Some p) = refl

-- ---- the verdict by the trace

module _ (b : Base) (r : Recorded) (h : Held) (M : Memory) (s : ℕ) (q : Request) (agrees : Agrees b r h M) (sessions : SessionsAnswer b (trace_of r) M.sessions) (in_order : IsInOrder q.ros (keys_of q.writes)) where
  abbrev H : List Entry
  H = entries (trace_of r)

  history : entries (trace_of r) ≡ r.history
  history = entries-items r.history r.marks agrees.held.owed.trace

  queue-here : M.queue ≡ queue_of (window b H)
  queue-here = subst (λ (G : List Entry). M.queue ≡ queue_of (window b G)) (sym history) agrees.queue

  -- what the session's invalid set has against it
  stale-here : (v : Session) → session b (trace_of r) s ≡ Some v → session_lives v ≡ true → stale b H s v q ≡ option_map stale_at (sets.stale M.sessions.sets s q.ros q.upto)
  stale-here v is live =
      ap (first_some (λ x. option_and_then (stale_from q.upto x) (invalid b H s v x))) (names_read q.ros in_order.reads_rise)
      ∙ first_mapped (λ x. option_and_then (stale_from q.upto x) (invalid b H s v x)) (λ x. option_and_then (if_behind q.upto x) (get (set_of M.sessions.sets.invalid s) x)) q.ros
      (λ x. ap (option_and_then (stale_from q.upto x)) (sym (sessions.invalid s v x is live)) ∙ stale_mapped q.upto x (get (set_of M.sessions.sets.invalid s) x))

  abbrev refusal_with : ℕ → Contents → Option Refusal
  refusal_with n Q = option_or (option_or (option_map (λ t. refused.Reason (reasons.Blocked t)) (first_blocking Q (is_upgrade_kind q.kind))) (cond (nat_eq q.epoch n) (against (clash Q (transaction_of q)) (sets.stale M.sessions.sets s q.ros q.upto)) (Some (refused.Reason (reasons.Epoch n))))) (full_of_writes b q)

  -- the refusal of a request of a live session
  refusal-here : (v : Session) → session b (trace_of r) s ≡ Some v → session_lives v ≡ true → first_refusal (state b H) (window b H) (stale b H s v q) (full b (window b H) q) q ≡ refusal_with (epoch_of (state_of b r)) M.queue
  refusal-here v is live =
      let Q : Contents = queue_of (window b H) in
      refusal_alike b (state b H) (window b H) q (stale b H s v q) in_order
      ∙ (ap (λ o. refusal_by Q q (other_epoch (state b H) q) o (full_of_writes b q)) (stale-here v is live)
      ∙ (ap (λ x. option_or (option_map (λ t. refused.Reason (reasons.Blocked t)) (first_blocking Q x)) (option_or (other_epoch (state b H) q) (option_or (option_and_then old_of (clash Q (queued.transaction_of q))) (option_or (option_map stale_at (sets.stale M.sessions.sets s q.ros q.upto)) (option_or (option_map refused.Reason (clash Q (queued.transaction_of q))) (full_of_writes b q)))))) (sym (same-kind q.kind))
      ∙ (ap (λ t. option_or (option_map (λ t. refused.Reason (reasons.Blocked t)) (first_blocking Q (is_upgrade_kind q.kind))) (option_or (other_epoch (state b H) q) (option_or (option_and_then old_of (clash Q t)) (option_or (option_map stale_at (sets.stale M.sessions.sets s q.ros q.upto)) (option_or (option_map refused.Reason (clash Q t)) (full_of_writes b q)))))) (sym (same-transaction q))
      ∙ (same-order (option_map (λ t. refused.Reason (reasons.Blocked t)) (first_blocking Q (is_upgrade_kind q.kind))) (nat_eq q.epoch (epoch_of (state b H))) (refused.Reason (reasons.Epoch (epoch_of (state b H)))) (clash Q (transaction_of q)) (sets.stale M.sessions.sets s q.ros q.upto) (full_of_writes b q)
      ∙ (ap (λ (G : List Entry). refusal_with (epoch_of (state b G)) Q) history
      ∙ ap (refusal_with (epoch_of (state_of b r))) (sym queue-here))))))

  -- the verdict by the trace is that by the memory, and the buffer's
  pub verdict-exact : traced.verdict b (trace_of r) s q ≡ option_or (verdict M (epoch_of (state_of b r)) s q) (full_of_writes b q)
  verdict-exact = by (session b (trace_of r) s) refl
    where
      by_life : (v : Session) → session b (trace_of r) s ≡ Some v → (x : Bool) → session_lives v ≡ x → is_live M.sessions s ≡ x → verdict_by b H s q (Some v) ≡ option_or (verdict M (epoch_of (state_of b r)) s q) (full_of_writes b q)
      by_life v is true e k =
          ap (λ y. cond y (first_refusal (state b H) (window b H) (stale b H s v q) (full b (window b H) q) q) (Some (refused.Reason (reasons.Gone s)))) e
          ∙ (refusal-here v is e
          ∙ sym (ap (λ y. option_or (cond y (option_or (option_map (λ t. refused.Reason (reasons.Blocked t)) (first_blocking M.queue (is_upgrade_kind q.kind))) (cond (nat_eq q.epoch (epoch_of (state_of b r))) (against (clash M.queue (transaction_of q)) (sets.stale M.sessions.sets s q.ros q.upto)) (Some (refused.Reason (reasons.Epoch (epoch_of (state_of b r))))))) (Some (refused.Reason (reasons.Gone s)))) (full_of_writes b q)) k))
      by_life v is false e k =
          ap (λ y. cond y (first_refusal (state b H) (window b H) (stale b H s v q) (full b (window b H) q) q) (Some (refused.Reason (reasons.Gone s)))) e
          ∙ sym (ap (λ y. option_or (cond y (option_or (option_map (λ t. refused.Reason (reasons.Blocked t)) (first_blocking M.queue (is_upgrade_kind q.kind))) (cond (nat_eq q.epoch (epoch_of (state_of b r))) (against (clash M.queue (transaction_of q)) (sets.stale M.sessions.sets s q.ros q.upto)) (Some (refused.Reason (reasons.Epoch (epoch_of (state_of b r))))))) (Some (refused.Reason (reasons.Gone s)))) (full_of_writes b q)) k)

      by : (o : Option Session) → session b (trace_of r) s ≡ o → verdict_by b H s q o ≡ option_or (verdict M (epoch_of (state_of b r)) s q) (full_of_writes b q)
      by None is =
          let k : is_live M.sessions s ≡ false = sessions.live s ∙ ap lives is in
          sym (ap (λ y. option_or (cond y (option_or (option_map (λ t. refused.Reason (reasons.Blocked t)) (first_blocking M.queue (is_upgrade_kind q.kind))) (cond (nat_eq q.epoch (epoch_of (state_of b r))) (against (clash M.queue (transaction_of q)) (sets.stale M.sessions.sets s q.ros q.upto)) (Some (refused.Reason (reasons.Epoch (epoch_of (state_of b r))))))) (Some (refused.Reason (reasons.Gone s)))) (full_of_writes b q)) k)
      by (Some v) is = by_life v is (session_lives v) refl (sessions.live s ∙ ap lives is)

pub accepted-by-trace : (b : Base) (r : Recorded) (h : Held) (M : Memory) (s : ℕ) (q : Request) → Agrees b r h M → SessionsAnswer b (trace_of r) M.sessions → IsAccepted b r h M s q → traced.verdict b (trace_of r) s q ≡ None
accepted-by-trace b r h M s q agrees sessions accepted =
    verdict-exact b r h M s q agrees sessions accepted.in_order
    ∙ (ap (λ o. option_or o (full_of_writes b q)) accepted.verdict
    ∙ ap (λ y. cond y (Some (refused.Reason (reasons.Full b.limit))) None) (le-ltb b.limit (bytes_of q) accepted.fits))

-- ---- what isn't known, and the epoch

has_not : (o : Option (Unit {0})) → is_some o ≡ false → is_some o ≡ true → ⊥
has_not None e h = cc
has_not (Some x) e h = cc

not_asked : (x y : Bool) → cond x true y ≡ false → x ≡ false
not_asked true y e = cc
not_asked false y e = refl

no_known : (b : Base) (S : State) (t : Ts) → (is_some (get S.known t) ≡ true → ⊥) → known_in b S t ≡ None
no_known b S t none = by (get S.known t) refl
  where
    by : (o : Option Known) → get S.known t ≡ o → option_map (or_lost b S t) o ≡ None
    by None e = refl
    by (Some p) e = absurd (none (ap is_some e))

pub unknown-here : (b : Base) (r : Recorded) (h : Held) (M : Memory) (t : Ts) → Agrees b r h M → knows M t ≡ false → known_by b r.history t ≡ None
unknown-here b r h M t a e = no_known b (state_of b r) t (λ k. has_not (get M.requested t) (not_asked (has M.requested t) _ e) (a.held.came t k))

counted : (n : ℕ) → n < 2 ^ 32 → min n (2 ^ 32 - 1) ≡ n
counted n l = omega arith

pub epoch-fits : (b : Base) (r : Recorded) (h : Held) (M : Memory) → Agrees b r h M → length h.upgrades < 2 ^ 32 → min (length h.upgrades) (2 ^ 32 - 1) ≡ epoch_of (state_of b r)
epoch-fits b r h M a l = counted (length h.upgrades) l ∙ ap length a.held.upgrades
