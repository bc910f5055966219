-- The calls that decide what is prepared.
use Rattle.log_entries.specs.declared.entry.Entry.TheVariants.{Decided, Finished}
use Rattle.log_entries.specs.declared.request.Request.{Request}
use Rattle.repo_sessions.specs.Sessions.{has_session}
use Rattle.spec_history.specs.History.{Base}
use Rattle.session_outbox.specs.declared.answers.Verdict.{Verdict}
use Rattle.repo_core.specs.Behind.{HasMoved, Stands, has_prepared, is_of_session}
use Rattle.repo_core.specs.Refusing.{Leaves}
use Rattle.repo_core.specs.Shown.{Shown}
use Rattle.repo_core.specs.Telling as core
use Rattle.law_repo_calls.proofs.Asked.{runs_entry}
use Rattle.law_repo_calls.proofs.Phases.{agreement}
use Rattle.law_repo_calls.proofs.Stepping.{LimitStays, runs_refused, runs_same}
use Rattle.law_repo_calls.specs.Seen.{IsRun, StandsRight, seen}
use Rattle.law_repo_calls.specs.Vouching.{IsCounted}
use Rattle.law_repo_memory.proofs.Entries.{open-member}
use Rattle.law_repo_memory.specs.Coming.{Moves}
use Rattle.law_repo_runs.specs.Happening.{MayMake, WasMaking}
use Rattle.std.proofs.Common.{Bool, Err, Ok, OnErr, OnOk, Option, Result, ap, cond, false, length, refl, subst, sym, true, ℕ, ◌∙◌, ◌≡◌}
use Rattle.std.proofs.lemmas.Bool.{eqb-true}
use Rattle.std.specs.Prelude.{IfErr, None, Some, is_some, ◌≢◌}
use Rattle.thor_value.specs.FiniteMap.{has}
use Rattle.thor_value.specs.declared.names.Ts.{Ts}
use Rattle.repo_trace.specs.Recorded.{with_entry}
use Rattle.two_phase.specs.Contents.{open_at}
use Rattle.repo_refusals.specs.declared.refusal.Refusal.{Refusal}

-- the request that a session has prepared
pub record Prepares (x : Shown) (s : ℕ) (t : Ts) : Type 0 where
  pub request : Request
  pub there : open_at x.held.table t ≡ Some request
  pub session : request.session ≡ s

by_session : (s : ℕ) (o : Option Request) → is_of_session s o ≡ true → (q : Request) × (o ≡ Some q) × (q.session ≡ s)
by_session s None e = absurd (cc)
by_session s (Some q) e = (q, refl, eqb-true q.session s e)

prepares : (x : Shown) (s : ℕ) (t : Ts) → has_prepared x.held s t ≡ true → Prepares x s t
prepares x s t e = let f : (q : Request) × (open_at x.held.table t ≡ Some q) × (q.session ≡ s) = by_session s (open_at x.held.table t) e in record { request = f.0; there = f.1; session = f.2 }

by_some : (o : Option Request) → is_some o ≡ true → (q : Request) × (o ≡ Some q)
by_some None e = absurd (cc)
by_some (Some q) e = (q, refl)

-- what is open is in the queue
is_member : (b : Base) (x : Shown) → StandsRight b x → x.is_up ≡ true → (t : Ts) (q : Request) → open_at x.held.table t ≡ Some q → has x.memory.queue.members t ≡ true
is_member b x k up t q is = open-member b x.trace x.held x.memory t q (agreement b x k up) is

may_decide : (b : Base) (x : Shown) (s : ℕ) (t : Ts) (c : Bool) → t.repo ≡ b.repo → has_session x.memory.sessions s ≡ true → has_prepared x.held s t ≡ true → MayMake b (seen x) (Decided t c)
may_decide b x s t c here live e =
    let p : Prepares x s t = prepares x s t e in
    record { request = p.request; prepared = p.there; unended = subst (λ (n : ℕ). has_session x.memory.sessions n ≡ true) (sym p.session) live; here = here }

may_finish : (b : Base) (x : Shown) (t : Ts) (c : Bool) → t.repo ≢ b.repo → is_some (open_at x.held.table t) ≡ true → MayMake b (seen x) (Finished t c)
may_finish b x t c elsewhere e = let p : (q : Request) × (open_at x.held.table t ≡ Some q) = by_some (open_at x.held.table t) e in record { request = p.0; prepared = p.1; elsewhere = elsewhere }

deciding : (b : Base) (x : Shown) (s : ℕ) (t : Ts) (c : Bool) → t.repo ≡ b.repo → (l : Bool) → has_session x.memory.sessions s ≡ l → (p : Bool) → has_prepared x.held s t ≡ p → WasMaking b (seen x) (cond l (cond p (Some (Decided t c)) None) None)
deciding b x s t c here true live true e = may_decide b x s t c here live e
deciding b x s t c here true live false e = tt
deciding b x s t c here false live p e = tt

finishing : (b : Base) (x : Shown) (t : Ts) (c : Bool) → t.repo ≢ b.repo → (p : Bool) → is_some (open_at x.held.table t) ≡ p → WasMaking b (seen x) (cond p (Some (Finished t c)) None)
finishing b x t c elsewhere true e = may_finish b x t c elsewhere e
finishing b x t c elsewhere false e = tt

pub decide_runs : (b : Base) (x y : Shown) (s : ℕ) (t : Ts) (c : Bool) (result : Result Verdict Refusal) → StandsRight b x → t.repo ≡ b.repo → IsCounted x → Stands x.is_up result y.is_up → OnOk result (has_session x.memory.sessions s ≡ true)
    → OnOk result (has_prepared x.held s t ≡ true → HasMoved x.held (Decided t c) y.held) → OnOk result (LimitStays x y)
    → (has_prepared x.held s t ≡ true → has x.memory.queue.members t ≡ true → OnOk result (Moves x.held x.memory (Decided t c) y.memory))
    → (has_prepared x.held s t ≡ true → OnOk result (core.Tells x.held x.memory.sessions (length x.trace.history) (Decided t c) y.memory.sessions))
    → (has_prepared x.held s t ≡ false → OnOk result (y ≡ x)) → OnOk result (y.trace ≡ cond (has_prepared x.held s t) (with_entry x.trace (Decided t c)) x.trace)
    → OnErr result (y.trace ≡ x.trace) → IfErr result (Leaves x y (cond (has_session x.memory.sessions s) (cond (has_prepared x.held s t) (Some (Decided t c)) None) None)) → y.opened_in ≡ x.opened_in → IsRun b x y
decide_runs b x y s t c (Ok v) k here counted stands live held limit memory tells same trace refused left o = by (has_prepared x.held s t) refl
  where
    by : (p : Bool) → has_prepared x.held s t ≡ p → IsRun b x y
    by true e =
        let f : Prepares x s t = prepares x s t e in
        runs_entry b x y (Decided t c) stands.0 stands.1 counted tt (may_decide b x s t c here live e) (trace ∙ ap (λ (a : Bool). cond a (with_entry x.trace (Decided t c)) x.trace) e) (held e) (memory e (is_member b x k stands.0 t f.request f.there)) (tells e) o limit
    by false e = runs_same b x y (same e)
decide_runs b x y s t c (Err r) k here counted stands live held limit memory tells same trace refused left o =
    runs_refused b x y (cond (has_session x.memory.sessions s) (cond (has_prepared x.held s t) (Some (Decided t c)) None) None) r stands left refused (deciding b x s t c here (has_session x.memory.sessions s) refl (has_prepared x.held s t) refl) o

pub finish_runs : (b : Base) (x y : Shown) (v : Verdict) (result : Result (Option ℕ) Refusal) → StandsRight b x → v.tx.repo ≢ b.repo → IsCounted x → Stands x.is_up result y.is_up
    → OnOk result (is_some (open_at x.held.table v.tx) ≡ true → HasMoved x.held (Finished v.tx v.commit) y.held) → OnOk result (LimitStays x y)
    → (is_some (open_at x.held.table v.tx) ≡ true → has x.memory.queue.members v.tx ≡ true → OnOk result (Moves x.held x.memory (Finished v.tx v.commit) y.memory))
    → (is_some (open_at x.held.table v.tx) ≡ true → OnOk result (core.Tells x.held x.memory.sessions (length x.trace.history) (Finished v.tx v.commit) y.memory.sessions))
    → (is_some (open_at x.held.table v.tx) ≡ false → OnOk result (y ≡ x)) → OnOk result (y.trace ≡ cond (is_some (open_at x.held.table v.tx)) (with_entry x.trace (Finished v.tx v.commit)) x.trace)
    → OnErr result (y.trace ≡ x.trace) → IfErr result (Leaves x y (cond (is_some (open_at x.held.table v.tx)) (Some (Finished v.tx v.commit)) None)) → y.opened_in ≡ x.opened_in → IsRun b x y
finish_runs b x y v (Ok place) k elsewhere counted stands held limit memory tells same trace refused left o = by (is_some (open_at x.held.table v.tx)) refl
  where
    by : (p : Bool) → is_some (open_at x.held.table v.tx) ≡ p → IsRun b x y
    by true e =
        let f : (q : Request) × (open_at x.held.table v.tx ≡ Some q) = by_some (open_at x.held.table v.tx) e in
        runs_entry b x y (Finished v.tx v.commit) stands.0 stands.1 counted tt (may_finish b x v.tx v.commit elsewhere e) (trace ∙ ap (λ (a : Bool). cond a (with_entry x.trace (Finished v.tx v.commit)) x.trace) e) (held e) (memory e (is_member b x k stands.0 v.tx f.0 f.1)) (tells e) o limit
    by false e = runs_same b x y (same e)
finish_runs b x y v (Err r) k elsewhere counted stands held limit memory tells same trace refused left o =
    runs_refused b x y (cond (is_some (open_at x.held.table v.tx)) (Some (Finished v.tx v.commit)) None) r stands left refused (finishing b x v.tx v.commit elsewhere (is_some (open_at x.held.table v.tx)) refl) o
