-- What is held and the queue say what the history says behind a Life.
use Rattle.log_entries.specs.declared.entry.Entry.TheVariants.{Life}
use Rattle.log_entries.specs.declared.request.Request.{Request}
use Rattle.repo_state.specs.Entering.{entered}
use Rattle.repo_state.specs.declared.held.Held.{Held}
use Rattle.spec_history.proofs.Places.{placed}
use Rattle.spec_history.specs.History.{Aborted, Base, Committed, Fate, Known, Open, State, is_open, is_undecided, known_in, put}
use Rattle.spec_history.specs.Sound.{owes}
use Rattle.law_repo_memory.proofs.Judging.{same-transaction}
use Rattle.law_repo_memory.proofs.Maps.{sorted-stays}
use Rattle.law_repo_memory.proofs.Moving.{Parts, held-behind, kept-by, known-there}
use Rattle.law_repo_memory.proofs.Opens.{open-life, undecided-some}
use Rattle.law_repo_memory.proofs.Tables.{keeps-aborted, open-aborted}
use Rattle.law_repo_memory.specs.Agreeing.{HeldAgrees, state_of}
use Rattle.law_repo_memory.specs.Coming.{BeginsLife, reopened}
use Rattle.law_repo_memory.specs.Tables.{undecided_request}
use Rattle.std.proofs.Common.{Bool, ap, cond, refl, subst, sym, ℕ, ◌+◌, ◌≡◌, ◌∙◌}
use Rattle.std.proofs.lemmas.Map.Made.{keys_of-map_values}
use Rattle.std.proofs.lemmas.Option.{same_Some}
use Rattle.std.specs.List.Sorted.{IsStrictlySortedBy}
use Rattle.std.specs.Option.{option_map}
use Rattle.std.specs.Prelude.{None, Option, Some, false, is_some, nat_eq, true}
use Rattle.thor_value.proofs.FiniteMap.{IsSorted-keep, get-keep, same_map}
use Rattle.thor_value.proofs.NameOrders.{ts_exact, ts_total}
use Rattle.thor_value.specs.FiniteMap.{IsSorted, Map, Set, get, has, keep}
use Rattle.thor_value.specs.Names.{ts_cmp}
use Rattle.thor_value.specs.declared.names.Ts.{Ts}
use Rattle.repo_trace.specs.Recorded.{Recorded, with_entry}
use Rattle.two_phase.specs.Contents.{open_at}
use Rattle.two_phase.specs.Lists.{aborted_of, stays_without}
use Rattle.validation_queue.specs.Contents as queue
use Rattle.validation_queue.specs.Contents.{Contents}
use Rattle.validation_queue.specs.declared.member.Member as queued
use Rattle.repo_refusals.proofs.Covered.{held}
use Rattle.repo_refusals.proofs.Following.{follows}
use Rattle.repo_refusals.proofs.Queued.{get-queue}
use Rattle.repo_refusals.specs.Covers.{MemberFits}
use Rattle.repo_refusals.specs.Queue as windowed
use Rattle.repo_refusals.specs.Queue.{queue_of, queued_of}
use Rattle.repo_refusals.specs.Window.{window}
use Rattle.repo_volatile.specs.Volatile.{Memory, transaction_of}

-- ---- what is held

module _ (b : Base) (r : Recorded) (h : Held) (requested : Set ts_cmp) (n : ℕ) (a : HeldAgrees b r h requested) where
  abbrev S : State
  S = state_of b r

  parts-with : (repo : ℕ) → repo ≡ b.repo → Parts b r (put b S (Life n)) h (record h { life = n; table = aborted_of h.table repo; count = h.count + 1 }) requested
  parts-with repo e = record {
    repo = refl;
    life = refl;
    count = refl;
    threshold = a.threshold;
    upgrades = a.upgrades;
    table = record {
      sorted = sorted-stays (stays_without repo) h.table.transactions.pairs a.table.sorted;
      undecided = λ t. open-aborted h.table repo t a.table.sorted ∙ (ap (λ m. cond (nat_eq t.repo m) None (open_at h.table t)) e ∙ (ap (cond (nat_eq t.repo b.repo) None) (a.table.undecided t) ∙ sym (open-life b S (placed b r.history a.owed.sound) n t)));
      alone = a.table.alone;
    };
    kept = λ t l. keeps-aborted h.table repo t a.table.sorted ∙ (a.kept t l ∙ kept-by b r a.owed t);
    next = refl;
    pages = a.pages;
    came = a.came;
  }

  pub held-life : owes b S (Life n) → HeldAgrees b (with_entry r (Life n)) (entered h (Life n)) requested
  held-life ow = held-behind b r h requested (Life n) (entered h (Life n)) requested a ow (parts-with h.repo a.repo)

-- ---- the queue

abbrev contents : Ts → Map ts_cmp queued.Member → Contents
contents t m = record { threshold = t; members = m }

undecided_member : (d : Bool) (f : Fate) → f ≡ Open → MemberFits d f → d ≡ false
undecided_member true Open e m = absurd m
undecided_member true (Committed at) e m = cc
undecided_member true Aborted e m = absurd m
undecided_member false f e m = refl

is-undecided : (o : Option Known) (u : Option Request) → undecided_request o ≡ u → is_undecided o ≡ is_some u
is-undecided None u e = ap is_some e
is-undecided (Some p) u e = by (is_open p.fate) ∙ ap is_some e
  where
    by : (x : Bool) → x ≡ is_some (cond x (Some p.request) None)
    by true = refl
    by false = refl

module _ (b : Base) (r : Recorded) (h : Held) (M N : Memory) (n : ℕ) (a : HeldAgrees b r h M.requested) (begins : BeginsLife h M N) where
  -- a member of the window that is undecided, in the queue
  member-of : (t : Ts) (q : Request) → undecided_request (known_in b (state_of b r) t) ≡ Some q → option_map queued_of (get (window b r.history).members t) ≡ Some (queue.member (transaction_of q) false)
  member-of t q e =
      let p = undecided-some b (state_of b r) (known_in b (state_of b r) t) q e in
      let c = held b r.history a.owed.sound in
      let x = c.opens t p.0 p.1 p.2 in
      let y = c.members t x.0 x.1 in
      let one : y.0 ≡ p.0 = same_Some y.0 p.0 (sym y.1 ∙ p.1) in
      let named : x.0.request ≡ q = sym y.2 ∙ (ap (λ (k : Known). k.request) one ∙ p.3) in
      let open' : x.0.decided ≡ false = undecided_member x.0.decided y.0.fate (ap (λ (k : Known). k.fate) one ∙ p.2) y.3 in
      ap (option_map queued_of) x.1
      ∙ (ap (λ d. Some (queue.member (windowed.transaction_of x.0.request) d)) open'
      ∙ (ap (λ s. Some (queue.member (windowed.transaction_of s) false)) named
      ∙ ap (λ s. Some (queue.member s false)) (sym (same-transaction q))))

  reopened-is : (t : Ts) → cond (is_undecided (known_in b (put b (state_of b r) (Life n)) t)) (get (queue_of (window b r.history)).members t) None ≡ reopened h.repo M.requested t (open_at h.table t)
  reopened-is t =
      ap (λ x. cond x (get (queue_of (window b r.history)).members t) None) (is-undecided (known_in b (put b (state_of b r) (Life n)) t) _ (open-life b (state_of b r) (placed b r.history a.owed.sound) n t))
      ∙ (ap (λ o. cond (is_some (cond (nat_eq t.repo b.repo) None (undecided_request (known_in b (state_of b r) t)))) o None) (get-queue (window b r.history) t)
      ∙ (by (nat_eq t.repo b.repo) (undecided_request (known_in b (state_of b r) t)) refl
      ∙ (ap (λ o. cond (nat_eq t.repo b.repo) None (cond (has M.requested t) (option_map (λ q. queue.member (transaction_of q) false) o) None)) (sym (a.table.undecided t))
      ∙ ap (λ k. cond (nat_eq t.repo k) None (cond (has M.requested t) (option_map (λ q. queue.member (transaction_of q) false) (open_at h.table t)) None)) (sym a.repo))))
    where
      none : (x : Bool) → ◌≡◌ {A = Option queued.Member} None (cond x None None)
      none true = refl
      none false = refl

      by : (x : Bool) (o : Option Request) → undecided_request (known_in b (state_of b r) t) ≡ o
          → cond (is_some (cond x None o)) (option_map queued_of (get (window b r.history).members t)) None ≡ cond x None (cond (has M.requested t) (option_map (λ q. queue.member (transaction_of q) false) o) None)
      by true o e = refl
      by false None e = none (has M.requested t)
      by false (Some q) e =
          let p = undecided-some b (state_of b r) (known_in b (state_of b r) t) q e in
          let there : has M.requested t ≡ true = a.came t (known-there b (state_of b r) t p.0 p.1) in
          member-of t q e ∙ sym (ap (λ y. cond y (Some (queue.member (transaction_of q) false)) None) there)

  queue-sorted : IsSorted (queue_of (window b r.history)).members
  queue-sorted = subst (IsStrictlySortedBy ts_cmp) (sym (keys_of-map_values queued_of (window b r.history).members.pairs)) (held b r.history a.owed.sound).sorted

  pub queue-life : N.queue ≡ queue_of (window b (with_entry r (Life n)).history)
  queue-life =
      let test : Ts → Bool = λ t. is_undecided (known_in b (put b (state_of b r) (Life n)) t) in
      let members : N.queue.members ≡ keep (queue_of (window b r.history)).members test = same_map ts_total ts_exact N.queue.members (keep (queue_of (window b r.history)).members test) begins.sorted (IsSorted-keep ts_cmp (queue_of (window b r.history)).members test queue-sorted)
      (λ t. begins.members t ∙ (sym (reopened-is t) ∙ sym (get-keep ts_cmp ts_exact (queue_of (window b r.history)).members test t))) in
      ap (λ u. contents u N.queue.members) (begins.threshold ∙ a.threshold) ∙ (ap (contents (state_of b r).top) members ∙ sym (follows b r.history (Life n) a.owed.sound))
