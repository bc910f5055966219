-- A restart: what is recovered is what was held, or that with the pending entry.
use Rattle.log_entries.specs.declared.entry.Entry.{Entry}
use Rattle.repo_state.specs.declared.held.Held.{Held}
use Rattle.spec_history.specs.History.{Base}
use Rattle.law_repo_memory.proofs.Owed.{trace-behind}
use Rattle.law_repo_memory.proofs.Running.{held-more, held-without}
use Rattle.law_repo_memory.specs.Agreeing.{HeldAgrees, trace_of}
use Rattle.law_repo_memory.specs.Running.{Repository}
use Rattle.law_repo_runs.proofs.Falling.{Rests, down-right, life-begins, life-next, next-on, numbers-behind, pending-on, rests-down, rests-on, rests-up}
use Rattle.law_repo_runs.proofs.Next.{held-next, moved-held, moved-next}
use Rattle.law_repo_runs.proofs.Recording.{behind-entry}
use Rattle.law_repo_runs.specs.Happening.{MovesObjects}
use Rattle.law_repo_memory.specs.Running.{held_with, recorded_with, requested_with}
use Rattle.law_repo_runs.specs.Restarting.{ComesUp, FailsBehind, MayTake, Recovers, StaysPending, TakesNone, life_behind}
use Rattle.law_repo_runs.specs.Standing.{Down, IsRecorded, IsRight, MayBeNext, NumbersAgree, Phase, Torn, Up}
use Rattle.spec_trace.specs.Trace.{Item}
use Rattle.std.proofs.Common.{List, inl, inr, subst, sym, ℕ, ◌≡◌}
use Rattle.std.specs.Option.{IfSome}
use Rattle.std.specs.Prelude.{None, Option, Some, ◌⊎◌}
use Rattle.thor_value.specs.FiniteMap.{Set}
use Rattle.thor_value.specs.Names.{ts_cmp}
use Rattle.repo_trace.specs.Recorded.{Recorded}

-- what may be taken may come next
pub record Taking (b : Base) (x : Repository) (taken : Option Entry) : Type 0 where
  pub rests : Rests b x
  pub next : IfSome taken (MayBeNext b x.trace x.held)

pub may-take : (b : Base) (x : Repository) (p : Phase) (taken : Option Entry) → IsRight b x p → MayTake p taken → Taking b x taken
may-take b x Up None k may = record { rests = rests-up b x k; next = tt }
may-take b x Up (Some e) k may = absurd may
may-take b x (Down o) None k may = record { rests = rests-down b x o k; next = tt }
may-take b x (Down o) (Some e) k may = record { rests = rests-down b x o k; next = subst (λ (p : Option Entry). IfSome p (MayBeNext b x.trace x.held)) may k.stands.2 }
may-take b x Torn taken k may = absurd may

-- with what was taken, while objects moved
pub record Taken (b : Base) (r : Recorded) (h : Held) (m : Set ts_cmp) (last : ℕ) : Type 0 where
  pub recorded : IsRecorded b r
  pub held : HeldAgrees b r h m
  pub numbers : NumbersAgree b (trace_of r) last

pub take : (b : Base) (x : Repository) (taken : Option Entry) (g : Held) → MovesObjects x.held g → Taking b x taken → Taken b (recorded_with x.trace taken) (held_with g taken) (requested_with x.memory.requested taken) x.memory.sessions.last
take b x None g moves t = record { recorded = t.rests.recorded; held = moved-held b x.trace x.held g x.memory.requested moves t.rests.held; numbers = t.rests.numbers }
take b x (Some e) g moves t =
    let n : MayBeNext b x.trace x.held e = t.next in
    record {
      recorded = behind-entry b x.trace t.rests.held.owed t.rests.recorded e n.owes n.exact;
      held = held-next b x.trace g x.memory.requested (moved-held b x.trace x.held g x.memory.requested moves t.rests.held) e (moved-next b x.trace x.held g e moves n);
      numbers = subst (λ (T : List Item). NumbersAgree b T x.memory.sessions.last) (sym (trace-behind b x.trace t.rests.held.owed e n.owes)) (numbers-behind b (trace_of x.trace) x.memory.sessions.last e t.rests.numbers);
    }

pub recovers : (b : Base) (x y : Repository) (p : Phase) → IsRight b x p → Recovers b x p y → Rests b y
recovers b x y p k r =
    let t : Taken b (recorded_with x.trace r.taken) (held_with r.moved r.taken) (requested_with x.memory.requested r.taken) x.memory.sessions.last = take b x r.taken r.moved r.moves (may-take b x p r.taken k r.may) in
    let h : HeldAgrees b (recorded_with x.trace r.taken) (record (held_with r.moved r.taken) { table = r.table }) (requested_with x.memory.requested r.taken) = held-without b (recorded_with x.trace r.taken) (held_with r.moved r.taken) (requested_with x.memory.requested r.taken) r.table r.go t.held in
    record {
      recorded = subst (IsRecorded b) (sym r.trace) t.recorded;
      held = subst (λ (z : Recorded). HeldAgrees b z y.held y.memory.requested) (sym r.trace)
          (subst (λ (z : Held). HeldAgrees b (recorded_with x.trace r.taken) z y.memory.requested) (sym r.held)
          (held-more b (recorded_with x.trace r.taken) (record (held_with r.moved r.taken) { table = r.table }) (requested_with x.memory.requested r.taken) y.memory.requested r.came h));
      numbers = subst (λ (z : Recorded). NumbersAgree b (trace_of z) y.memory.sessions.last) (sym r.trace) (subst (NumbersAgree b (trace_of (recorded_with x.trace r.taken))) (sym r.last) t.numbers);
    }

pub comes-up : (b : Base) (x y : Repository) (p : Phase) → IsRight b x p → ComesUp b x p y → IsRight b y Up
comes-up b x y p k c = life-begins b c.between y (recovers b x c.between p k c.recovers) c.begins

pub fails-behind : (b : Base) (x y : Repository) (p q : Phase) → IsRight b x p → FailsBehind b x p y q → IsRight b y q
fails-behind b x y p q k f = by f.phase
  where
    z : Repository
    z = f.between

    rests : Rests b z
    rests = recovers b x z p k f.recovers

    by : (q ≡ Down None) ⊎ (q ≡ Down (Some (life_behind z))) → IsRight b y q
    by (inl e) = subst (IsRight b y) (sym e) (down-right b y None (rests-on b z y rests f.down) tt)
    by (inr e) = subst (IsRight b y) (sym e) (down-right b y (Some (life_behind z)) (rests-on b z y rests f.down) (next-on b z y (life_behind z) f.down (life-next b z rests)))

pub takes-none : (b : Base) (x y : Repository) (p q : Phase) → IsRight b x p → TakesNone x p y q → IsRight b y q
takes-none b x y p q k t = by p k t.phase
  where
    by : (p : Phase) → IsRight b x p → StaysPending p q → IsRight b y q
    by Up k e = subst (IsRight b y) (sym e) (down-right b y None (rests-on b x y (rests-up b x k) t.down) tt)
    by (Down o) k (inl e) = subst (IsRight b y) (sym e) (down-right b y None (rests-on b x y (rests-down b x o k) t.down) tt)
    by (Down o) k (inr e) = subst (IsRight b y) (sym e) (down-right b y o (rests-on b x y (rests-down b x o k) t.down) (pending-on b x y o t.down k.stands.2))
    by Torn k e = subst (IsRight b y) (sym e) (record { recorded = subst (IsRecorded b) (sym t.down.trace) k.recorded; stands = tt })
