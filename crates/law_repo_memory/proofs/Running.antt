-- Memory and history agree behind each event, and so behind runs.
use Rattle.log_entries.specs.declared.entry.Entry.TheVariants.{Decided, Finished, Life, One, Prepared, Upgraded}
use Rattle.log_entries.specs.declared.entry.Entry.{Entry}
use Rattle.repo_state.specs.Entering.{entered}
use Rattle.repo_state.specs.declared.held.Held.{Held}
use Rattle.spec_history.specs.History.{Base, State}
use Rattle.law_repo_memory.proofs.Accepted.{owes-decided, owes-finished, owes-one, owes-prepared, owes-upgraded}
use Rattle.law_repo_memory.proofs.Decisions.{held-decided, held-finished}
use Rattle.law_repo_memory.proofs.Entries.{agrees-decided, agrees-finished, agrees-life, agrees-one, agrees-prepared, agrees-upgraded}
use Rattle.law_repo_memory.proofs.Lives.{held-life}
use Rattle.law_repo_memory.proofs.Marks.{agrees-drew, agrees-marked, drawn-marked, held-forgot, held-granted}
use Rattle.law_repo_memory.proofs.Requests.{held-one, held-prepared, held-upgraded}
use Rattle.law_repo_memory.specs.Agreeing.{Agrees, HeldAgrees, state_of, trace_of}
use Rattle.law_repo_memory.specs.Coming.{Moves}
use Rattle.law_repo_memory.specs.Running.{Does, EarlierGo, Enters, EntryComes, Event, Flushes, IsInAgreement, IsRecoveredFrom, MarkChanges, MarkComes, Marks, MayEnter, ObjectsMove, Repository, RequestComes, Restart, Restarts, Runs, came_with}
use Rattle.spec_trace.specs.Calls.{drawn_after, last_drawn}
use Rattle.spec_trace.specs.Trace.{M}
use Rattle.spec_trace.specs.declared.mark.Mark.TheVariants as the
use Rattle.spec_trace.specs.declared.mark.Mark.{Mark}
use Rattle.std.proofs.Common.{List, [], ap, cond, inl, inr, refl, subst, sym, ℕ, ◌+◌, ◌≡◌, ◌∙◌, ◌∷◌}
use Rattle.std.specs.Option.{IsSome}
use Rattle.std.specs.Prelude.{None, Option, Some, true}
use Rattle.thor_value.specs.FiniteMap.{Set, get, has}
use Rattle.thor_value.specs.Names.{ts_cmp}
use Rattle.thor_value.specs.declared.names.Ts.{Ts}
use Rattle.repo_trace.specs.Recorded.{Recorded, with_entry, with_mark}
use Rattle.two_phase.specs.Contents.{Contents, keeps, open_at, without}
use Rattle.repo_volatile.specs.Volatile.{Memory}

-- ---- more may have come, some earlier decisions may go, and objects may move

pub held-more : (b : Base) (r : Recorded) (h : Held) (m n : Set ts_cmp) → ((t : Ts) → has m t ≡ true → has n t ≡ true) → HeldAgrees b r h m → HeldAgrees b r h n
held-more b r h m n more a = record {
  owed = a.owed;
  repo = a.repo;
  life = a.life;
  count = a.count;
  threshold = a.threshold;
  upgrades = a.upgrades;
  table = a.table;
  kept = a.kept;
  next = a.next;
  pages = a.pages;
  came = λ t k. more t (a.came t k);
}

pub held-without : (b : Base) (r : Recorded) (h : Held) (m : Set ts_cmp) (c : Contents) → EarlierGo b h.table c → HeldAgrees b r h m → HeldAgrees b r (record h { table = c }) m
held-without b r h m c go a = record {
  owed = a.owed;
  repo = a.repo;
  life = a.life;
  count = a.count;
  threshold = a.threshold;
  upgrades = a.upgrades;
  table = record { sorted = go.sorted; undecided = λ t. go.same t ∙ a.table.undecided t; alone = go.alone ∙ a.table.alone };
  kept = λ t l. go.kept t l ∙ a.kept t l;
  next = a.next;
  pages = a.pages;
  came = a.came;
}

held-moved : (b : Base) (r : Recorded) (h : Held) (m : Set ts_cmp) (new : Held) → new ≡ record h { objects = new.objects } → HeldAgrees b r h m → HeldAgrees b r new m
held-moved b r h m new e a = subst (λ (n : Held). HeldAgrees b r n m) (sym e) (record {
  owed = a.owed;
  repo = a.repo;
  life = a.life;
  count = a.count;
  threshold = a.threshold;
  upgrades = a.upgrades;
  table = a.table;
  kept = a.kept;
  next = a.next;
  pages = a.pages;
  came = a.came;
})

pub objects-moved : (b : Base) (x y : Repository) → IsInAgreement b x → ObjectsMove x y → IsInAgreement b y
objects-moved b x y a m =
    subst (λ (r : Recorded). Agrees b r y.held y.memory) (sym m.trace)
    (subst (λ (M : Memory). Agrees b x.trace y.held M) (sym m.memory)
    (record { held = held-moved b x.trace x.held x.memory.requested y.held m.held a.held; queue = a.queue; drawn = a.drawn }))

-- ---- entries

there : {A : Type 0} (o : Option A) → IsSome o → (x : A) × (o ≡ Some x)
there None h = cc
there (Some x) h = (x, refl)

module _ (b : Base) (x : Repository) (N : Memory) (a : IsInAgreement b x) where
  comes : (e : Entry) → MayEnter b x e → Moves x.held x.memory e N → Agrees b (with_entry x.trace e) (entered x.held e) N
  comes (Life n) may m = agrees-life b x.trace x.held x.memory N n a.held (may ∙ ap (λ k. k + 1) a.held.life) m
  comes (One q) may m =
      let c : RequestComes b x q = may.0 in
      agrees-one b x.trace x.held x.memory N a q (owes-one b x.trace x.held x.memory c.session q a c.sessions c.accepted c.vouched.vouched may.1 may.2)
      c.accepted.unkept c.vouched.granted m
  comes (Prepared q) may m =
      let c : RequestComes b x q = may.0 in
      agrees-prepared b x.trace x.held x.memory N a q (owes-prepared b x.trace x.held x.memory c.session q a c.sessions c.accepted c.vouched.vouched may.1)
      c.accepted.unkept c.vouched.granted m
  comes (Upgraded q) may m =
      let c : RequestComes b x q = may.0 in
      agrees-upgraded b x.trace x.held x.memory N a q (owes-upgraded b x.trace x.held x.memory c.session q a c.sessions c.accepted c.vouched.vouched may.1 may.2)
      c.accepted.unkept c.vouched.granted m
  comes (Decided t c) may m =
      let q = there (open_at x.held.table t) may.0 in
      agrees-decided b x.trace x.held x.memory N a t q.0 c q.1 (owes-decided b x.trace x.held x.memory.requested t q.0 a.held q.1 c may.1) m
  comes (Finished t c) may m =
      let q = there (open_at x.held.table t) may.0 in
      agrees-finished b x.trace x.held x.memory N a t q.0 c q.1 (owes-finished b x.trace x.held x.memory.requested t q.0 a.held q.1 c may.1) m

pub entry-comes : (b : Base) (x : Repository) (e : Entry) (y : Repository) → IsInAgreement b x → EntryComes b x e y → IsInAgreement b y
entry-comes b x e y a c =
    subst (λ (r : Recorded). Agrees b r y.held y.memory) (sym c.trace)
    (subst (λ (h : Held). Agrees b (with_entry x.trace e) h y.memory) (sym c.held)
    (comes b x y.memory a e c.may c.memory))

-- ---- marks

module _ (b : Base) (x y : Repository) (a : IsInAgreement b x) (queue : y.memory.queue ≡ x.memory.queue) (requested : y.memory.requested ≡ x.memory.requested) where
  plainly : (m : Mark) → Agrees b (with_mark x.trace m) x.held y.memory → y.trace ≡ with_mark x.trace m → y.held ≡ x.held → IsInAgreement b y
  plainly m k trace held = subst (λ (r : Recorded). Agrees b r y.held y.memory) (sym trace) (subst (λ (h : Held). Agrees b (with_mark x.trace m) h y.memory) (sym held) k)

  with-held : (m : Mark) (h : Held) → HeldAgrees b (with_mark x.trace m) h x.memory.requested → ((S : State) (n : ℕ) → drawn_after S n (M m) ≡ n)
      → y.trace ≡ with_mark x.trace m → y.held ≡ h → y.memory.drawn ≡ x.memory.drawn → IsInAgreement b y
  with-held m h k undrawn trace held drawn =
      subst (λ (r : Recorded). Agrees b r y.held y.memory) (sym trace)
      (subst (λ (n : Held). Agrees b (with_mark x.trace m) n y.memory) (sym held) (record {
        held = subst (HeldAgrees b (with_mark x.trace m) h) (sym requested) k;
        queue = queue ∙ a.queue;
        drawn = drawn ∙ (a.drawn ∙ sym (drawn-marked b x.trace m a.held.owed ∙ undrawn (state_of b x.trace) (last_drawn b (trace_of x.trace))));
      }))

  marked : (m : Mark) → MarkChanges b x m y → y.trace ≡ with_mark x.trace m → IsInAgreement b y
  marked (the.Connected s client) c trace = plainly (the.Connected s client) (agrees-marked b x.trace (the.Connected s client) x.held x.memory a refl (λ t. refl) (λ S n. refl) y.memory queue requested c.1) trace c.0
  marked (the.Fetched s page upto) c trace = plainly (the.Fetched s page upto) (agrees-marked b x.trace (the.Fetched s page upto) x.held x.memory a refl (λ t. refl) (λ S n. refl) y.memory queue requested c.1) trace c.0
  marked (the.Took s place) c trace = plainly (the.Took s place) (agrees-marked b x.trace (the.Took s place) x.held x.memory a refl (λ t. refl) (λ S n. refl) y.memory queue requested c.1) trace c.0
  marked (the.Refused s q r) c trace = plainly (the.Refused s q r) (agrees-marked b x.trace (the.Refused s q r) x.held x.memory a refl (λ t. refl) (λ S n. refl) y.memory queue requested c.1) trace c.0
  marked (the.Drew s t) c trace = plainly (the.Drew s t) (agrees-drew b x.trace x.held x.memory s t a y.memory queue requested c.1) trace c.0
  marked (the.Granted s page) c trace =
      let k = held-granted b x.trace x.held x.memory.requested s a.held in
      let same : y.trace ≡ with_mark x.trace (the.Granted s x.held.next_grant) = trace ∙ ap (λ p. with_mark x.trace (the.Granted s p)) c.0 in
      with-held (the.Granted s x.held.next_grant) (record x.held { next_grant = x.held.next_grant + 1 }) k (λ S n. refl) same c.1 c.2
  marked (the.Forgot t) c trace =
      with-held (the.Forgot t) (record x.held { table = cond (keeps (get x.held.table.transactions t)) (without x.held.table t) x.held.table })
      (held-forgot b x.trace x.held x.memory.requested t a.held c.0) (λ S n. refl) trace c.1 c.2

pub mark-comes : (b : Base) (x y : Repository) (m : Mark) → IsInAgreement b x → MarkComes b x m y → IsInAgreement b y
mark-comes b x y m a c = marked b x y a c.queue c.requested m c.changes c.trace

-- ---- restarts

module _ (b : Base) (x : Repository) (a : IsInAgreement b x) where
  held-comes : (e : Entry) → MayEnter b x e → HeldAgrees b (with_entry x.trace e) (entered x.held e) (came_with x.memory.requested e)
  held-comes (Life n) may = held-life b x.trace x.held x.memory.requested n a.held (may ∙ ap (λ k. k + 1) a.held.life)
  held-comes (One q) may =
      let c : RequestComes b x q = may.0 in
      held-one b x.trace x.held x.memory.requested q a.held c.accepted.unkept c.vouched.granted
      (owes-one b x.trace x.held x.memory c.session q a c.sessions c.accepted c.vouched.vouched may.1 may.2)
  held-comes (Prepared q) may =
      let c : RequestComes b x q = may.0 in
      held-prepared b x.trace x.held x.memory.requested q a.held c.accepted.unkept c.vouched.granted
      (owes-prepared b x.trace x.held x.memory c.session q a c.sessions c.accepted c.vouched.vouched may.1)
  held-comes (Upgraded q) may =
      let c : RequestComes b x q = may.0 in
      held-upgraded b x.trace x.held x.memory.requested q a.held c.accepted.unkept c.vouched.granted
      (owes-upgraded b x.trace x.held x.memory c.session q a c.sessions c.accepted c.vouched.vouched may.1 may.2)
  held-comes (Decided t c) may =
      let q = there (open_at x.held.table t) may.0 in
      held-decided b x.trace x.held x.memory.requested t q.0 a.held q.1 c (owes-decided b x.trace x.held x.memory.requested t q.0 a.held q.1 c may.1)
  held-comes (Finished t c) may =
      let q = there (open_at x.held.table t) may.0 in
      held-finished b x.trace x.held x.memory.requested t q.0 a.held q.1 c (owes-finished b x.trace x.held x.memory.requested t q.0 a.held q.1 c may.1)

  -- what is held once all is recovered
  recovered : (y : Repository) → IsRecoveredFrom b x y → HeldAgrees b y.trace y.held y.memory.requested
  recovered y (inl so) =
      subst (λ (r : Recorded). HeldAgrees b r y.held y.memory.requested) (sym so.trace)
      (subst (λ (h : Held). HeldAgrees b x.trace h y.memory.requested) (sym so.held)
      (held-more b x.trace x.held x.memory.requested y.memory.requested so.came a.held))
  recovered y (inr (e, is)) =
      subst (λ (r : Recorded). HeldAgrees b r y.held y.memory.requested) (sym is.trace)
      (subst (λ (h : Held). HeldAgrees b (with_entry x.trace e) h y.memory.requested) (sym is.held)
      (held-more b (with_entry x.trace e) (entered x.held e) (came_with x.memory.requested e) y.memory.requested is.came (held-comes e is.may)))

-- a Life behind what is held
life-comes : (b : Base) (x : Repository) (n : ℕ) (y : Repository) → HeldAgrees b x.trace x.held x.memory.requested → EntryComes b x (Life n) y → IsInAgreement b y
life-comes b x n y a c =
    subst (λ (r : Recorded). Agrees b r y.held y.memory) (sym c.trace)
    (subst (λ (h : Held). Agrees b (with_entry x.trace (Life n)) h y.memory) (sym c.held)
    (agrees-life b x.trace x.held x.memory y.memory n a (c.may ∙ ap (λ k. k + 1) a.life) c.memory))

pub restarts : (b : Base) (x y : Repository) → IsInAgreement b x → Restarts b x y → IsInAgreement b y
restarts b x y a s =
    let z : Repository = s.recovered in
    life-comes b (record z { held = record z.held { table = s.dropped } }) s.life y
    (held-without b z.trace z.held z.memory.requested s.dropped s.go (recovered b x a z s.taken)) s.begins

-- ---- runs

pub does : (b : Base) (x y : Repository) (e : Event) → IsInAgreement b x → Does b x e y → IsInAgreement b y
does b x y (Enters e) a d = entry-comes b x e y a d
does b x y (Marks m) a d = mark-comes b x y m a d
does b x y Flushes a d = objects-moved b x y a d
does b x y Restart a d = restarts b x y a d

pub runs : (b : Base) (x y : Repository) (es : List Event) → IsInAgreement b x → Runs b x es y → IsInAgreement b y
runs b x y [] a s = subst (IsInAgreement b) (sym s) a
runs b x y (e ∷ es) a s = runs b s.0 y es (does b x s.0 e a s.1) s.2
