-- Calls that make an entry of a request, and calls that are refused.
use Rattle.log_entries.specs.declared.entry.Entry.TheVariants.{Decided, Finished, Life, One, Prepared, Upgraded}
use Rattle.log_entries.specs.declared.entry.Entry.{Entry}
use Rattle.log_entries.specs.declared.request.Kind.TheVariants.{App, Transform, Upgrade}
use Rattle.log_entries.specs.declared.request.Kind.{Kind}
use Rattle.log_entries.specs.declared.request.Request.{Request}
use Rattle.repo_state.specs.declared.held.Held.{Held}
use Rattle.repo_sessions.specs.Sessions.{Kept, acknowledged}
use Rattle.spec_history.specs.History.{Base}
use Rattle.repo_core.specs.Behind.{HasMoved, Stands, alone_entry, is_marked, with_refusal}
use Rattle.repo_core.specs.Calls.{MayRequest, judged}
use Rattle.repo_core.specs.Refusing.{Leaves, made_of}
use Rattle.repo_core.specs.Shown.{Shown}
use Rattle.repo_core.specs.Telling as core
use Rattle.repo_core.specs.Telling.{next_epoch}
use Rattle.law_repo_calls.proofs.Phases.{up_phase, whole_up}
use Rattle.law_repo_calls.proofs.Requests.{may_alone, may_share, was_making, was_refused}
use Rattle.law_repo_calls.proofs.Stepping.{LimitStays, runs_answered, runs_down, runs_one}
use Rattle.law_repo_calls.specs.Seen.{IsRun, StandsRight, seen}
use Rattle.law_repo_calls.specs.Vouching.{IsCounted, IsSent}
use Rattle.law_repo_memory.specs.Coming.{Moves}
use Rattle.law_repo_runs.specs.Happening.{MayMake, Tells, WasRefused}
use Rattle.law_repo_runs.specs.Restarting.{Makes}
use Rattle.repo_durable.specs.Kept.{is_fault}
use Rattle.std.proofs.Common.{Bool, Err, Ok, OnOk, Result, ap, arith, cond, false, length, refl, subst, true, ℕ, ◌+◌, ◌-◌, ◌<◌, ◌^◌, ◌∙◌, ◌≡◌, ◌≤◌}
use Rattle.std.proofs.Math.Nat.{min-eq_left}
use Rattle.std.specs.Prelude.{IfErr, None, Some, min}
use Rattle.repo_trace.specs.Recorded.{with_entry}
use Rattle.repo_refusals.specs.declared.refusal.Refusal.{Refusal}
use Rattle.two_phase.specs.Contents.{open_at}
use Rattle.repo_volatile.specs.Telling.{CommitTold, TellsDecided}
use Rattle.repo_volatile.specs.Volatile.{Memory, entered}

-- ---- what sessions are told

one_less : (n : ℕ) → n + 1 < 2 ^ 32 → (n ≤ 2 ^ 32 - 1) × (n + 1 ≤ 2 ^ 32 - 1)
one_less n l = (omega (arith, l), omega (arith, l))

-- the number of the next upgrade
pub next_is : (x : Shown) → IsCounted x → next_epoch x.held ≡ length x.held.upgrades + 1
next_is x counted =
    let l : (length x.held.upgrades ≤ 2 ^ 32 - 1) × (length x.held.upgrades + 1 ≤ 2 ^ 32 - 1) = one_less (length x.held.upgrades) counted in
    ap (λ (n : ℕ). min (n + 1) (2 ^ 32 - 1)) (min-eq_left l.0) ∙ min-eq_left l.1

abbrev pub IsNoLife : Entry → Type 0
IsNoLife (Life n) = ⊥
IsNoLife (One q) = Unit {0}
IsNoLife (Prepared q) = Unit {0}
IsNoLife (Decided t c) = Unit {0}
IsNoLife (Finished t c) = Unit {0}
IsNoLife (Upgraded q) = Unit {0}

abbrev TellsWith : ℕ → Held → Kept → ℕ → Entry → Kept → Type 0
TellsWith number h before place (Life n) after = ⊥
TellsWith number h before place (One q) after = CommitTold (acknowledged before q.session q.upto) after q number place
TellsWith number h before place (Prepared q) after = after ≡ acknowledged before q.session q.upto
TellsWith number h before place (Decided t c) after = TellsDecided before after number place c (open_at h.table t)
TellsWith number h before place (Finished t c) after = TellsDecided before after number place c (open_at h.table t)
TellsWith number h before place (Upgraded q) after = CommitTold (acknowledged before q.session q.upto) after q number place

told_with : (h : Held) (before after : Kept) (place : ℕ) (e : Entry) → IsNoLife e → core.Tells h before place e after → TellsWith (next_epoch h) h before place e after
told_with h before after place (Life n) never t = absurd never
told_with h before after place (One q) never t = t
told_with h before after place (Prepared q) never t = t
told_with h before after place (Decided t c) never told = told
told_with h before after place (Finished t c) never told = told
told_with h before after place (Upgraded q) never t = t

told_as : (h : Held) (before after : Kept) (place : ℕ) (e : Entry) → TellsWith (length h.upgrades + 1) h before place e after → Tells h before place e after
told_as h before after place (Life n) t = t
told_as h before after place (One q) t = t
told_as h before after place (Prepared q) t = t
told_as h before after place (Decided t c) told = told
told_as h before after place (Finished t c) told = told
told_as h before after place (Upgraded q) t = t

pub told_so : (x : Shown) (after : Kept) (place : ℕ) (e : Entry) → IsCounted x → IsNoLife e → core.Tells x.held x.memory.sessions place e after → Tells x.held x.memory.sessions place e after
told_so x after place e counted never told =
    told_as x.held x.memory.sessions after place e
    (subst (λ (n : ℕ). TellsWith n x.held x.memory.sessions place e after) (next_is x counted) (told_with x.held x.memory.sessions after place e never told))

-- ---- an entry is made

pub runs_entry : (b : Base) (x y : Shown) (e : Entry) → x.is_up ≡ true → y.is_up ≡ true → IsCounted x → IsNoLife e → MayMake b (seen x) e → y.trace ≡ with_entry x.trace e → HasMoved x.held e y.held → Moves x.held x.memory e y.memory
    → core.Tells x.held x.memory.sessions (length x.trace.history) e y.memory.sessions → y.opened_in ≡ x.opened_in → LimitStays x y → IsRun b x y
runs_entry b x y e u v counted never may t moved memory tells o l =
    runs_one b x y (Makes e) (
      up_phase x u,
      up_phase y v,
      record {
        may = may;
        trace = t;
        between = moved.between;
        moves = moved.moves;
        held = moved.entered;
        memory = memory;
        tells = told_so x y.memory.sessions (length x.trace.history) e counted never tells;
      },
    ) o (λ w. (whole_up x u, l))

no_life_alone : (k : Kind) (q : Request) → IsNoLife (alone_entry k q)
no_life_alone App q = tt
no_life_alone Transform q = tt
no_life_alone (Upgrade text) q = tt

-- ---- the calls of requests

-- what a call that makes an entry has found
pub record Found (b : Base) (x : Shown) (s : ℕ) (q : Request) (e : Entry) : Type 0 where
  pub no_life : IsNoLife e
  pub may : x.is_up ≡ true → judged x.held x.memory s q ≡ None → MayMake b (seen x) e
  pub refused : x.is_up ≡ true → (r : Refusal) → judged x.held x.memory s q ≡ Some r → WasRefused b (seen x) s (Some q) r

pub found_alone : (b : Base) (x : Shown) (s : ℕ) (q : Request) → StandsRight b x → IsSent b x s q → MayRequest x.held x.memory q true → Found b x s q (alone_entry q.kind q)
found_alone b x s q k sent may = record {
  no_life = no_life_alone q.kind q;
  may = λ up none. may_alone b x k up s q true may sent refl none q.kind refl;
  refused = λ up r e. was_refused b x k up s q true may sent r e;
}

pub found_shared : (b : Base) (x : Shown) (s : ℕ) (q : Request) → StandsRight b x → IsSent b x s q → MayRequest x.held x.memory q false → Found b x s q (Prepared q)
found_shared b x s q k sent may = record {
  no_life = tt;
  may = λ up none. may_share b x k up s q false may sent refl none;
  refused = λ up r e. was_refused b x k up s q false may sent r e;
}

-- a request is answered
pub request_made : (b : Base) (x y : Shown) (s : ℕ) (q : Request) (e : Entry) → Found b x s q e → IsCounted x → (x.is_up ≡ true) × (y.is_up ≡ true) → judged x.held x.memory s q ≡ None → HasMoved x.held e y.held → LimitStays x y
    → Moves x.held x.memory e y.memory → core.Tells x.held x.memory.sessions (length x.trace.history) e y.memory.sessions → y.trace ≡ with_entry x.trace e → y.opened_in ≡ x.opened_in → IsRun b x y
request_made b x y s q e found counted up none moved limit memory tells t o =
    runs_entry b x y e up.0 up.1 counted found.no_life (found.may up.0 none) t moved memory tells o limit

-- or refused
pub request_refused : (b : Base) (x y : Shown) (s : ℕ) (q : Request) (e : Entry) (r : Refusal) → Found b x s q e → y.is_up ≡ cond (is_fault r) false x.is_up → (is_marked r ≡ true → (x.is_up ≡ true) × (judged x.held x.memory s q ≡ Some r))
    → Leaves x y (made_of (judged x.held x.memory s q) e) r → y.trace ≡ with_refusal x.trace s (Some q) r → y.opened_in ≡ x.opened_in → IsRun b x y
request_refused b x y s q e r found u why left t o = by x.is_up refl
  where
    by : (a : Bool) → x.is_up ≡ a → IsRun b x y
    by true up =
        runs_answered b x y s (Some q) (made_of (judged x.held x.memory s q) e) r u left t
        (was_making b (seen x) (judged x.held x.memory s q) e (found.may up))
        (λ m. (up, found.refused up r (why m).1)) o
    by false down = runs_down b x y s (Some q) (made_of (judged x.held x.memory s q) e) r u left t (λ m. (why m).0) down o

pub request_runs : (b : Base) (x y : Shown) (s : ℕ) (q : Request) (e : Entry) (result : Result ℕ Refusal) → Found b x s q e → IsCounted x → Stands x.is_up result y.is_up → OnOk result (judged x.held x.memory s q ≡ None)
    → IfErr result (λ r. is_marked r ≡ true → (x.is_up ≡ true) × (judged x.held x.memory s q ≡ Some r)) → OnOk result (HasMoved x.held e y.held) → OnOk result (LimitStays x y) → OnOk result (Moves x.held x.memory e y.memory)
    → OnOk result (core.Tells x.held x.memory.sessions (length x.trace.history) e y.memory.sessions) → OnOk result (y.trace ≡ with_entry x.trace e) → IfErr result (λ r. y.trace ≡ with_refusal x.trace s (Some q) r)
    → IfErr result (Leaves x y (made_of (judged x.held x.memory s q) e)) → y.opened_in ≡ x.opened_in → IsRun b x y
request_runs b x y s q e (Ok place) found counted stands none why held limit memory tells trace refused left o = request_made b x y s q e found counted stands none held limit memory tells trace o
request_runs b x y s q e (Err r) found counted stands none why held limit memory tells trace refused left o = request_refused b x y s q e r found stands why left refused o

-- ---- a request that is prepared

pub prepared_moves : (x y : Shown) (q : Request) (result : Result ℕ Refusal) → OnOk result (y.memory ≡ entered x.memory q false) → OnOk result (Moves x.held x.memory (Prepared q) y.memory)
prepared_moves x y q (Ok place) is = record { queue = ap (λ (m : Memory). m.queue) is; requested = ap (λ (m : Memory). m.requested) is; drawn = ap (λ (m : Memory). m.drawn) is }
prepared_moves x y q (Err r) is = tt

pub prepared_tells : (x y : Shown) (q : Request) (result : Result ℕ Refusal) → OnOk result (y.memory ≡ entered x.memory q false) → OnOk result (core.Tells x.held x.memory.sessions (length x.trace.history) (Prepared q) y.memory.sessions)
prepared_tells x y q (Ok place) is = ap (λ (m : Memory). m.sessions) is
prepared_tells x y q (Err r) is = tt
