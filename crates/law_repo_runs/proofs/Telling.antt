-- What sessions were told of an entry that is made is what law_repo_sessions asks for.
use Rattle.log_entries.specs.declared.entry.Entry.TheVariants.{Decided, Finished, Life, One, Prepared, Upgraded}
use Rattle.log_entries.specs.declared.entry.Entry.{Entry}
use Rattle.log_entries.specs.declared.request.Request.{Request}
use Rattle.repo_state.specs.declared.held.Held.{Held}
use Rattle.repo_sessions.specs.Sessions.{Kept}
use Rattle.spec_history.proofs.Growth.{length-state}
use Rattle.spec_history.proofs.Prefixes.{judged}
use Rattle.spec_history.specs.History.{Base, Known, Open, State, commit_by, commit_of, epoch_of, is_life, is_open, known_in, state}
use Rattle.spec_history.specs.Sound.{Vouches}
use Rattle.law_repo_memory.proofs.Opens.{undecided-some}
use Rattle.law_repo_memory.specs.Agreeing.{HeldAgrees, state_of, trace_of}
use Rattle.law_repo_memory.specs.Running.{Repository}
use Rattle.law_repo_runs.specs.Happening.{DecisionIsLearnt, DecisionIsMade, MayMake, RequestIsMade, Tells}
use Rattle.repo_volatile.specs.Telling.{TellsDecided}
use Rattle.law_repo_sessions.specs.Coming.{CommitsTold, HasCome, IsTellable, acknowledged_by}
use Rattle.spec_trace.proofs.Traces.{entries-items}
use Rattle.spec_trace.specs.Session.{request_in}
use Rattle.spec_trace.specs.Trace.{Item, entries}
use Rattle.std.proofs.Common.{Bool, List, [], ap, cond, false, length, refl, subst, sym, true, ℕ, ◌+◌, ◌∷◌, ◌∙◌, ◌≡◌}
use Rattle.std.specs.List.{AllByRecursion}
use Rattle.std.specs.Option.{IfSome}
use Rattle.std.specs.Prelude.{Option, Some, ◌≤◌}
use Rattle.thor_value.specs.FiniteMap.{Set}
use Rattle.thor_value.specs.Names.{ts_cmp}
use Rattle.thor_value.specs.declared.names.Ts.{Ts}
use Rattle.repo_trace.specs.Recorded.{Recorded}
use Rattle.two_phase.specs.Contents.{open_at}
use Rattle.repo_volatile.specs.Telling.{CommitTold}

pub no-life : (b : Base) (x : Repository) (e : Entry) → MayMake b x e → is_life e ≡ false
no-life b x (Life n) may = absurd may
no-life b x (One q) may = refl
no-life b x (Prepared q) may = refl
no-life b x (Decided t c) may = refl
no-life b x (Finished t c) may = refl
no-life b x (Upgraded q) may = refl

tellable : (b : Base) (S : State) (q : Request) → Vouches b S q → IsTellable q
tellable b S q v = record { rise = v.formed.written_rises; bare = λ u. (v.upgrades u).writes }

-- what has come, by the history of the trace
come-by : (b : Base) (T : List Item) (H : List Entry) (e : Entry) (K L : Kept) → entries T ≡ H → IfSome (request_in e) (λ q. q.upto ≤ length H) → AllByRecursion (λ c. IsTellable c.1) (commit_of b (state b H) e)
    → CommitsTold (acknowledged_by K (request_in e)) L (epoch_of (state b H) + 1) (commit_of b (state b H) e) → HasCome b T e K L
come-by b T H e K L same upto form told = record {
  upto = subst (λ (G : List Entry). IfSome (request_in e) (λ q. q.upto ≤ length G)) (sym same) upto;
  form = subst (λ (G : List Entry). AllByRecursion (λ c. IsTellable c.1) (commit_of b (state b G) e)) (sym same) form;
  told = subst (λ (G : List Entry). CommitsTold (acknowledged_by K (request_in e)) L (epoch_of (state b G) + 1) (commit_of b (state b G) e)) (sym same) told;
}

module _ (b : Base) (r : Recorded) (h : Held) (m : Set ts_cmp) (a : HeldAgrees b r h m) where
  abbrev S : State
  S = state_of b r

  number : length h.upgrades + 1 ≡ epoch_of S + 1
  number = ap (λ (ts : List (List ℕ)). length ts + 1) a.upgrades

  told-one : (J L : Kept) (q : Request) → CommitTold J L q (length h.upgrades + 1) (length r.history) → CommitTold J L q (epoch_of S + 1) S.length
  told-one J L q t = subst (λ (n : ℕ). CommitTold J L q n S.length) number (subst (λ (k : ℕ). CommitTold J L q (length h.upgrades + 1) k) (sym (length-state b r.history)) t)

  abbrev Prepared_at : Ts → Request → Type 0
  Prepared_at t q = (p : Known) × (known_in b S t ≡ Some p) × (p.fate ≡ Open) × (p.request ≡ q)

  prepared-at : (t : Ts) (q : Request) → open_at h.table t ≡ Some q → Prepared_at t q
  prepared-at t q is = undecided-some b S (known_in b S t) q (sym (a.table.undecided t) ∙ is)

  -- the decision on what is prepared
  told-decided : (J L : Kept) (c : Bool) (t : Ts) (q : Request) → open_at h.table t ≡ Some q → TellsDecided J L (length h.upgrades + 1) (length r.history) c (open_at h.table t) → CommitsTold J L (epoch_of S + 1) (commit_by S c (known_in b S t))
  told-decided J L false t q is told = let p = prepared-at t q is in subst (λ (o : Option Known). CommitsTold J L (epoch_of S + 1) (commit_by S false o)) (sym p.1) told
  told-decided J L true t q is told =
      let p = prepared-at t q is in
      let one : CommitTold J L q (epoch_of S + 1) S.length = told-one J L q (subst (TellsDecided J L (length h.upgrades + 1) (length r.history) true) is told) in
      subst (λ (o : Option Known). CommitsTold J L (epoch_of S + 1) (commit_by S true o)) (sym p.1)
      (subst (λ (y : Bool). CommitsTold J L (epoch_of S + 1) (cond y ((S.length, p.0.request) ∷ []) [])) (sym (ap is_open p.2))
      (subst (λ (w : Request). CommitTold J L w (epoch_of S + 1) S.length) (sym p.3) one))

  form-decided : (c : Bool) (t : Ts) (q : Request) → open_at h.table t ≡ Some q → AllByRecursion (λ d. IsTellable d.1) (commit_by S c (known_in b S t))
  form-decided c t q is =
      let p = prepared-at t q is in
      let v : IsTellable p.0.request = tellable b _ p.0.request (judged b r.history a.owed.sound t p.0 p.1).vouched in
      subst (λ (o : Option Known). AllByRecursion (λ d. IsTellable d.1) (commit_by S c o)) (sym p.1) (by c p.0 v)
    where
      whether : (y : Bool) (p : Known) → IsTellable p.request → AllByRecursion {X = ℕ × Request} (λ d. IsTellable d.1) (cond y ((S.length, p.request) ∷ []) [])
      whether true p v = (v, tt)
      whether false p v = tt

      by : (c : Bool) (p : Known) → IsTellable p.request → AllByRecursion (λ d. IsTellable d.1) (commit_by S c (Some p))
      by true p v = whether (is_open p.fate) p v
      by false p v = tt

pub has-come : (b : Base) (x : Repository) (L : Kept) (e : Entry) → HeldAgrees b x.trace x.held x.memory.requested → MayMake b x e → Tells x.held x.memory.sessions (length x.trace.history) e L → HasCome b (trace_of x.trace) e x.memory.sessions L
has-come b x L (Life n) a may t = absurd may
has-come b x L (One q) a may t =
    let c : RequestIsMade b x q = may.0 in
    come-by b (trace_of x.trace) x.trace.history (One q) x.memory.sessions L (entries-items x.trace.history x.trace.marks a.owed.trace) c.upto (tellable b (state_of b x.trace) q c.vouched.vouched, tt)
    (told-one b x.trace x.held x.memory.requested a (acknowledged_by x.memory.sessions (Some q)) L q t)
has-come b x L (Prepared q) a may t =
    let c : RequestIsMade b x q = may.0 in
    come-by b (trace_of x.trace) x.trace.history (Prepared q) x.memory.sessions L (entries-items x.trace.history x.trace.marks a.owed.trace) c.upto tt t
has-come b x L (Upgraded q) a may t =
    let c : RequestIsMade b x q = may.0 in
    come-by b (trace_of x.trace) x.trace.history (Upgraded q) x.memory.sessions L (entries-items x.trace.history x.trace.marks a.owed.trace) c.upto (tellable b (state_of b x.trace) q c.vouched.vouched, tt)
    (told-one b x.trace x.held x.memory.requested a (acknowledged_by x.memory.sessions (Some q)) L q t)
has-come b x L (Decided t c) a may told =
    let d : DecisionIsMade b x t = may in
    come-by b (trace_of x.trace) x.trace.history (Decided t c) x.memory.sessions L (entries-items x.trace.history x.trace.marks a.owed.trace) tt
    (form-decided b x.trace x.held x.memory.requested a c t d.request d.prepared) (told-decided b x.trace x.held x.memory.requested a x.memory.sessions L c t d.request d.prepared told)
has-come b x L (Finished t c) a may told =
    let d : DecisionIsLearnt b x t = may in
    come-by b (trace_of x.trace) x.trace.history (Finished t c) x.memory.sessions L (entries-items x.trace.history x.trace.marks a.owed.trace) tt
    (form-decided b x.trace x.held x.memory.requested a c t d.request d.prepared) (told-decided b x.trace x.held x.memory.requested a x.memory.sessions L c t d.request d.prepared told)
