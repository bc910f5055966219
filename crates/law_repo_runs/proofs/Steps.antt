-- Each event, and so each run of events, leaves a repository as its trace says.
use Rattle.cached_sets.specs.Noted.{most_noted}
use Rattle.log_entries.specs.declared.entry.Entry.TheVariants.{Life}
use Rattle.repo_sessions.specs.Sessions.{Kept, ended}
use Rattle.spec_history.specs.History.{Base}
use Rattle.law_repo_memory.proofs.Beginning.{begins}
use Rattle.law_repo_memory.proofs.Running.{held-without, objects-moved}
use Rattle.law_repo_memory.specs.Agreeing.{Agrees, trace_of}
use Rattle.law_repo_memory.specs.Running.{IsInAgreement, ObjectsMove, Repository}
use Rattle.law_repo_runs.proofs.Falling.{all-ended, fails}
use Rattle.law_repo_runs.proofs.Making.{made}
use Rattle.law_repo_runs.proofs.Marking.{marked}
use Rattle.law_repo_runs.proofs.Returning.{comes-up, fails-behind, takes-none}
use Rattle.law_repo_runs.specs.Happening.{TakesNothing}
use Rattle.law_repo_runs.specs.Restarting.{Checkpoint, Does, Drops, Event, Fails, Flushes, Makes, Marks, Opens, Restart, RestartFails, Runs, Tears, Waits}
use Rattle.law_repo_runs.specs.Standing.{IsRecorded, IsRight, NumbersAgree, Phase, Up}
use Rattle.law_repo_sessions.proofs.Marked.{none_taken}
use Rattle.law_repo_sessions.specs.Agreeing.{SessionsAgree}
use Rattle.spec_trace.specs.Exact.{exact}
use Rattle.spec_trace.specs.Trace.{E}
use Rattle.std.proofs.Common.{List, [], ap, arith, inl, inr, length, refl, subst, sym, ℕ, ◌+◌, ◌<◌, ◌∷◌, ◌∙◌, ◌≡◌}
use Rattle.std.specs.Prelude.{Some}
use Rattle.repo_state.specs.declared.held.Held.{Held}
use Rattle.repo_trace.specs.Recorded.{Recorded, nothing, with_entry}
use Rattle.repo_volatile.specs.Volatile.{Memory}

module _ (b : Base) (x y : Repository) (k : IsRight b x Up) where
  waits : TakesNothing x y → IsRight b y Up
  waits t =
      let a : IsInAgreement b x = k.stands.0 in
      record {
        recorded = subst (IsRecorded b) (sym t.trace) k.recorded;
        stands = (
          subst (λ (r : Recorded). Agrees b r y.held y.memory) (sym t.trace)
              (subst (λ (h : Held). Agrees b x.trace h y.memory) (sym t.held)
              (subst (Agrees b x.trace x.held) (sym t.memory) (record { held = a.held; queue = a.queue; drawn = a.drawn }))),
          subst (λ (r : Recorded). SessionsAgree b (trace_of r) y.memory.sessions) (sym t.trace)
              (subst (λ (M : Memory). SessionsAgree b (trace_of x.trace) M.sessions) (sym t.memory) (none_taken b (trace_of x.trace) x.memory.sessions t.session k.stands.1 t.none)),
        );
      }

  flushes : ObjectsMove x y → IsRight b y Up
  flushes m = record {
    recorded = subst (IsRecorded b) (sym m.trace) k.recorded;
    stands = (
      objects-moved b x y k.stands.0 m,
      subst (λ (r : Recorded). SessionsAgree b (trace_of r) y.memory.sessions) (sym m.trace) (subst (λ (M : Memory). SessionsAgree b (trace_of x.trace) M.sessions) (sym m.memory) k.stands.1),
    );
  }

  drops : Drops b x y → IsRight b y Up
  drops d =
      let a : IsInAgreement b x = k.stands.0 in
      record {
        recorded = subst (IsRecorded b) (sym d.trace) k.recorded;
        stands = (
          subst (λ (r : Recorded). Agrees b r y.held y.memory) (sym d.trace)
              (subst (λ (h : Held). Agrees b x.trace h y.memory) (sym d.held)
              (subst (Agrees b x.trace (record x.held { table = d.table })) (sym d.memory) (record { held = held-without b x.trace x.held x.memory.requested d.table d.go a.held; queue = a.queue; drawn = a.drawn }))),
          subst (λ (r : Recorded). SessionsAgree b (trace_of r) y.memory.sessions) (sym d.trace) (subst (λ (M : Memory). SessionsAgree b (trace_of x.trace) M.sessions) (sym d.memory) k.stands.1),
        );
      }

module _ (b : Base) (x y : Repository) (p q : Phase) (k : IsRight b x p) where
  was-up : p ≡ Up → IsRight b x Up
  was-up e = subst (IsRight b x) e k

  is-up : q ≡ Up → IsRight b y Up → IsRight b y q
  is-up e h = subst (IsRight b y) (sym e) h

  pub does : (e : Event) → Does b x p e y q → IsRight b y q
  does (Makes e) d = let u : IsRight b x Up = was-up d.0 in is-up d.1 (made b x u.stands.0 u.stands.1 u.recorded e y d.2)
  does (Marks m) d = let u : IsRight b x Up = was-up d.0 in is-up d.1 (marked b x u.recorded u.stands.0 u.stands.1 m y d.2)
  does Waits d = is-up d.1 (waits b x y (was-up d.0) d.2)
  does Flushes d = is-up d.1 (flushes b x y (was-up d.0) d.2)
  does Checkpoint d = is-up d.1 (drops b x y (was-up d.0) d.2)
  does (Fails o) d = fails b x y o q (was-up d.0) d.1 d.2 d.3
  does Tears d = subst (IsRight b y) (sym d.0) (record { recorded = subst (IsRecorded b) (sym d.1) k.recorded; stands = tt })
  does Restart d = is-up d.0 (comes-up b x y p k d.1)
  does RestartFails (inl t) = takes-none b x y p q k t
  does RestartFails (inr f) = fails-behind b x y p q k f

pub runs : (b : Base) (x y : Repository) (p q : Phase) (es : List Event) → IsRight b x p → Runs b x p es y q → IsRight b y q
runs b x y p q [] k r = subst (λ (z : Repository). IsRight b z q) (sym r.0) (subst (IsRight b x) (sym r.1) k)
runs b x y p q (e ∷ es) k r = runs b r.0 y r.1 q es (does b x r.0 p r.1 k e r.2) r.3

-- ---- the opening

no-numbers : (b : Base) (K : Kept) → b.silence ≡ Some most_noted → K.last ≡ 0 → NumbersAgree b [] K.last
no-numbers b K silence none = record { silence = silence; last = none; unused = λ s l. refl }

pub opens : (b : Base) (x y : Repository) → Opens b x y → IsRight b y Up
opens b x y o =
    let n : ℕ = x.held.life + 1 in
    let a : IsInAgreement b y = begins b x y o.can o.trace (record { may = refl; trace = o.begins.trace; held = o.begins.held; memory = o.begins.memory }) in
    let trace : y.trace ≡ with_entry nothing (Life n) = o.begins.trace ∙ ap (λ (r : Recorded). with_entry r (Life n)) o.trace in
    let first : exact b (trace_of (with_entry nothing (Life n))) = (tt, tt) in
    let told : SessionsAgree b (E (Life n) ∷ []) (ended x.memory.sessions) = all-ended b [] n x.memory.sessions (no-numbers b x.memory.sessions o.silence (ap (λ (K : Kept). K.last) o.sessions)) in
    record {
      recorded = record {
        trace = a.held.owed.trace;
        sound = a.held.owed.sound;
        exact = subst (λ (r : Recorded). exact b (trace_of r)) (sym trace) first;
        begun = subst (λ (r : Recorded). 0 < length r.history) (sym trace) (omega arith);
      };
      stands = (a, subst (λ (r : Recorded). SessionsAgree b (trace_of r) y.memory.sessions) (sym trace) (subst (SessionsAgree b (E (Life n) ∷ [])) (sym o.begins.sessions) told));
    }
