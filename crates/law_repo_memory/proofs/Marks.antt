-- What is in memory says what the history says behind a mark.
use Rattle.log_entries.specs.declared.entry.Entry.{Entry}
use Rattle.repo_state.specs.declared.held.Held.{Held}
use Rattle.spec_history.specs.History.{Base, State, state}
use Rattle.law_repo_memory.proofs.Moving.{kept-by}
use Rattle.law_repo_memory.proofs.Tables.{keeps-out, open-out}
use Rattle.law_repo_memory.proofs.Traced.{drawn-end, forgotten-end, forgotten-same, next-end, next-same}
use Rattle.law_repo_memory.specs.Agreeing.{Agrees, HeldAgrees, IsOwed, state_of, trace_of}
use Rattle.law_repo_memory.specs.Tables.{TableAgrees}
use Rattle.spec_trace.proofs.Traces.{entries-items, items-mark, trace-mark}
use Rattle.spec_trace.specs.Calls.{drawn_after, forgets, granted_at, is_forgotten, is_kept, last_drawn, next_page}
use Rattle.spec_trace.specs.Trace.{IsTrace, Item, M}
use Rattle.spec_trace.specs.declared.mark.Mark.TheVariants as the
use Rattle.spec_trace.specs.declared.mark.Mark.{Mark}
use Rattle.std.proofs.Common.{Bool, List, [], ap, arith, cond, refl, subst, sym, ℕ, ◌+◌, ◌++◌, ◌<◌, ◌≡◌, ◌≤◌, ◌∙◌, ◌∷◌}
use Rattle.std.proofs.lemmas.Map.Views.{tells_apart}
use Rattle.std.specs.Option.{option_and_then}
use Rattle.std.specs.Ordering.{eq_by_cmp}
use Rattle.std.specs.Prelude.{None, Option, Some, false, max, not, true, ◌&&◌, ◌||◌}
use Rattle.thor_value.proofs.FiniteMap.{IsSorted-remove}
use Rattle.thor_value.proofs.NameOrders.{ts_exact}
use Rattle.thor_value.specs.FiniteMap.{Set, get, has}
use Rattle.thor_value.specs.Names.{ts_cmp}
use Rattle.thor_value.specs.declared.names.Ts.{Ts}
use Rattle.repo_trace.specs.Recorded.{Recorded, with_mark}
use Rattle.two_phase.specs.Contents.{Contents, keeps, open_at, request_of, without}
use Rattle.two_phase.specs.declared.transaction.Transaction.TheVariants as transaction
use Rattle.two_phase.specs.declared.transaction.Transaction.{Transaction}
use Rattle.repo_volatile.specs.Volatile.{Memory}

or_cases : (x y : Bool) → (x || y) ≡ true → (x ≡ false) → y ≡ true
or_cases true y e h = cc
or_cases false y e h = e

module _ (b : Base) (r : Recorded) (m : Mark) where
  pub trace-marked : trace_of (with_mark r m) ≡ trace_of r ++ M m ∷ []
  trace-marked = items-mark r.history r.marks m

  pub is-trace-marked : IsTrace r.history r.marks → IsTrace r.history (with_mark r m).marks
  is-trace-marked h = trace-mark r.history r.marks m h

  pub forgotten-marked : (t : Ts) → forgets t (M m) ≡ false → is_forgotten (trace_of (with_mark r m)) t ≡ is_forgotten (trace_of r) t
  forgotten-marked t e = ap (λ (T : List Item). is_forgotten T t) trace-marked ∙ forgotten-same b (trace_of r) (M m) t e

  -- what is owed stays, where what the mark forgets was decided here to commit
  pub owed-marked : IsOwed b r → ((t : Ts) → forgets t (M m) ≡ true → has (state_of b r).kept t ≡ true) → IsOwed b (with_mark r m)
  owed-marked o kept = record {
    trace = is-trace-marked o.trace;
    sound = o.sound;
    settled = o.settled;
    forgotten = λ t h. by t (forgets t (M m)) refl h;
  }
    where
      by : (t : Ts) (x : Bool) → forgets t (M m) ≡ x → is_forgotten (trace_of (with_mark r m)) t ≡ true → has (state_of b r).kept t ≡ true
      by t true e h = kept t e
      by t false e h = o.forgotten t (sym (forgotten-marked t e) ∙ h)

  -- a mark that grants no page and forgets nothing
  pub held-marked : (h : Held) (requested : Set ts_cmp) → HeldAgrees b r h requested → granted_at (M m) ≡ 0 → ((t : Ts) → forgets t (M m) ≡ false) → HeldAgrees b (with_mark r m) h requested
  held-marked h requested a page none =
      let o : IsOwed b (with_mark r m) = owed-marked a.owed (λ t e. let f = none t in cc) in
      record {
        owed = o;
        repo = a.repo;
        life = a.life;
        count = a.count;
        threshold = a.threshold;
        upgrades = a.upgrades;
        table = a.table;
        kept = λ t l. a.kept t l ∙ (kept-by b r a.owed t ∙ (ap (λ x. has (state_of b r).kept t && not x) (sym (forgotten-marked t (none t))) ∙ sym (kept-by b (with_mark r m) o t)));
        next = a.next ∙ sym (ap (next_page b) trace-marked ∙ next-same b (trace_of r) (M m) page);
        pages = a.pages;
        came = a.came;
      }

  pub drawn-marked : IsOwed b r → last_drawn b (trace_of (with_mark r m)) ≡ drawn_after (state_of b r) (last_drawn b (trace_of r)) (M m)
  drawn-marked o =
      ap (last_drawn b) trace-marked ∙ (drawn-end b (trace_of r) (M m)
      ∙ ap (λ (H : List Entry). drawn_after (state b H) (last_drawn b (trace_of r)) (M m)) (entries-items r.history r.marks o.trace))

  -- a mark that draws nothing either
  pub agrees-marked : (h : Held) (K : Memory) → Agrees b r h K → granted_at (M m) ≡ 0 → ((t : Ts) → forgets t (M m) ≡ false) → ((S : State) (n : ℕ) → drawn_after S n (M m) ≡ n)
      → (N : Memory) → N.queue ≡ K.queue → N.requested ≡ K.requested → N.drawn ≡ K.drawn → Agrees b (with_mark r m) h N
  agrees-marked h K a page none undrawn N queue requested drawn = record {
    held = subst (HeldAgrees b (with_mark r m) h) (sym requested) (held-marked h K.requested a.held page none);
    queue = queue ∙ a.queue;
    drawn = drawn ∙ (a.drawn ∙ sym (drawn-marked a.held.owed ∙ undrawn (state_of b r) (last_drawn b (trace_of r))));
  }

-- ---- a time that is drawn

pub agrees-drew : (b : Base) (r : Recorded) (h : Held) (K : Memory) (s : ℕ) (t : Ts) → Agrees b r h K → (N : Memory) → N.queue ≡ K.queue → N.requested ≡ K.requested → N.drawn ≡ t.time → Agrees b (with_mark r (the.Drew s t)) h N
agrees-drew b r h K s t a N queue requested drawn =
    record {
      held = subst (HeldAgrees b (with_mark r (the.Drew s t)) h) (sym requested) (held-marked b r (the.Drew s t) h K.requested a.held refl (λ u. refl));
      queue = queue ∙ a.queue;
      drawn = drawn ∙ sym (drawn-marked b r (the.Drew s t) a.held.owed);
    }

-- ---- a page that is granted

module _ (b : Base) (r : Recorded) (h : Held) (requested : Set ts_cmp) (s : ℕ) (a : HeldAgrees b r h requested) where
  abbrev granted : Mark
  granted = the.Granted s h.next_grant

  granted-next : h.next_grant + 1 ≡ next_page b (trace_of (with_mark r granted))
  granted-next =
      let e : next_page b (trace_of r) ≡ h.next_grant = sym a.next in
      let f : next_page b (trace_of (with_mark r granted)) ≡ max (next_page b (trace_of r)) (h.next_grant + 1) = ap (next_page b) (trace-marked b r granted) ∙ next-end b (trace_of r) (M granted) in
      omega arith

  pub held-granted : HeldAgrees b (with_mark r granted) (record h { next_grant = h.next_grant + 1 }) requested
  held-granted =
      let o : IsOwed b (with_mark r granted) = owed-marked b r granted a.owed (λ t e. cc) in
      record {
        owed = o;
        repo = a.repo;
        life = a.life;
        count = a.count;
        threshold = a.threshold;
        upgrades = a.upgrades;
        table = a.table;
        kept = λ t l. a.kept t l ∙ (kept-by b r a.owed t ∙ (ap (λ x. has (state_of b r).kept t && not x) (sym (forgotten-marked b r granted t refl)) ∙ sym (kept-by b (with_mark r granted) o t)));
        next = granted-next;
        pages = let p : h.next_page ≤ h.next_grant = a.pages in omega arith;
        came = a.came;
      }

-- ---- a decision that is forgotten

module _ (b : Base) (r : Recorded) (h : Held) (requested : Set ts_cmp) (t : Ts) (a : HeldAgrees b r h requested) (decided : has (state_of b r).kept t ≡ true) where
  abbrev forgot : Mark
  forgot = the.Forgot t

  owed-forgot : IsOwed b (with_mark r forgot)
  owed-forgot = owed-marked b r forgot a.owed (λ u e. subst (λ v. has (state_of b r).kept v ≡ true) (sym (tells_apart ts_exact u t e)) decided)

  forgotten-here : (u : Ts) → is_forgotten (trace_of (with_mark r forgot)) u ≡ (is_forgotten (trace_of r) u || eq_by_cmp ts_cmp u t)
  forgotten-here u = ap (λ (T : List Item). is_forgotten T u) (trace-marked b r forgot) ∙ forgotten-end b (trace_of r) (M forgot) u

  kept-forgot : (c : Contents) (u : Ts) → keeps (get c.transactions u) ≡ cond (eq_by_cmp ts_cmp u t) false (keeps (get h.table.transactions u)) → b.life < u.life → keeps (get c.transactions u) ≡ is_kept b (trace_of (with_mark r forgot)) u
  kept-forgot c u e l =
      e ∙ (ap (cond (eq_by_cmp ts_cmp u t) false) (a.kept u l ∙ kept-by b r a.owed u)
      ∙ (by (has (state_of b r).kept u) (is_forgotten (trace_of r) u) (eq_by_cmp ts_cmp u t)
      ∙ (ap (λ x. has (state_of b r).kept u && not x) (sym (forgotten-here u)) ∙ sym (kept-by b (with_mark r forgot) owed-forgot u))))
    where
      by : (k f x : Bool) → cond x false (k && not f) ≡ (k && not (f || x))
      by true true true = refl
      by true true false = refl
      by true false true = refl
      by true false false = refl
      by false f true = refl
      by false f false = refl

  table-with : (c : Contents) → TableAgrees b (state_of b r) c → ((u : Ts) → keeps (get c.transactions u) ≡ cond (eq_by_cmp ts_cmp u t) false (keeps (get h.table.transactions u)))
      → HeldAgrees b (with_mark r forgot) (record h { table = c }) requested
  table-with c table keeps = record {
    owed = owed-forgot;
    repo = a.repo;
    life = a.life;
    count = a.count;
    threshold = a.threshold;
    upgrades = a.upgrades;
    table = table;
    kept = λ u l. kept-forgot c u (keeps u) l;
    next = a.next ∙ sym (ap (next_page b) (trace-marked b r forgot) ∙ next-same b (trace_of r) (M forgot) refl);
    pages = a.pages;
    came = a.came;
  }

  not-open : (o : Option Transaction) → keeps o ≡ true → option_and_then request_of o ≡ None
  not-open None e = refl
  not-open (Some (transaction.Open q)) e = cc
  not-open (Some transaction.Kept) e = refl

  none-there : keeps (get h.table.transactions t) ≡ true → (u : Ts) → cond (eq_by_cmp ts_cmp u t) None (open_at h.table u) ≡ open_at h.table u
  none-there k u = by (eq_by_cmp ts_cmp u t) refl
    where
      by : (x : Bool) → eq_by_cmp ts_cmp u t ≡ x → cond x None (open_at h.table u) ≡ open_at h.table u
      by true e = sym (subst (λ v. open_at h.table v ≡ None) (sym (tells_apart ts_exact u t e)) (not-open (get h.table.transactions t) k))
      by false e = refl

  unkept : keeps (get h.table.transactions t) ≡ false → (u : Ts) → keeps (get h.table.transactions u) ≡ cond (eq_by_cmp ts_cmp u t) false (keeps (get h.table.transactions u))
  unkept k u = by (eq_by_cmp ts_cmp u t) refl
    where
      by : (x : Bool) → eq_by_cmp ts_cmp u t ≡ x → keeps (get h.table.transactions u) ≡ cond x false (keeps (get h.table.transactions u))
      by true e = subst (λ v. keeps (get h.table.transactions v) ≡ false) (sym (tells_apart ts_exact u t e)) k
      by false e = refl

  pub held-forgot : HeldAgrees b (with_mark r forgot) (record h { table = cond (keeps (get h.table.transactions t)) (without h.table t) h.table }) requested
  held-forgot = by (keeps (get h.table.transactions t)) refl
    where
      by : (x : Bool) → keeps (get h.table.transactions t) ≡ x → HeldAgrees b (with_mark r forgot) (record h { table = cond x (without h.table t) h.table }) requested
      by true e = table-with (without h.table t) (record {
        sorted = IsSorted-remove ts_cmp h.table.transactions t a.table.sorted;
        undecided = λ u. open-out h.table t u a.table.sorted ∙ (none-there e u ∙ a.table.undecided u);
        alone = a.table.alone;
      }) (λ u. keeps-out h.table t u a.table.sorted)
      by false e = table-with h.table a.table (unkept e)
