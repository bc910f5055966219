-- A repository that goes down, and a Life behind what was recovered.
use Rattle.cached_sets.proofs.Ordering.{none_ordered}
use Rattle.cached_sets.specs.Meaning.{has_page}
use Rattle.log_entries.specs.declared.entry.Entry.TheVariants.{Life}
use Rattle.log_entries.specs.declared.entry.Entry.{Entry}
use Rattle.repo_state.specs.Entering.{entered}
use Rattle.repo_state.specs.declared.held.Held.{Held}
use Rattle.repo_sessions.specs.Sessions.{Kept, ended}
use Rattle.spec_history.specs.History.{Base, state}
use Rattle.spec_history.specs.Sound.{owes}
use Rattle.law_repo_memory.proofs.Entries.{agrees-life}
use Rattle.law_repo_memory.proofs.Owed.{trace-behind}
use Rattle.law_repo_memory.proofs.Running.{held-more}
use Rattle.law_repo_memory.specs.Agreeing.{Agrees, HeldAgrees, state_of, trace_of}
use Rattle.law_repo_memory.specs.Running.{IsInAgreement, Repository}
use Rattle.law_repo_runs.proofs.Making.{may-be-next}
use Rattle.law_repo_runs.proofs.Next.{moved-held, moved-next}
use Rattle.law_repo_runs.proofs.Recording.{behind-entry}
use Rattle.law_repo_runs.specs.Happening.{GoesDown, WasMaking}
use Rattle.law_repo_runs.specs.Restarting.{LifeBegins, life_behind}
use Rattle.law_repo_runs.specs.Standing.{Down, IsRecorded, IsRight, MayBeNext, NumbersAgree, Phase, Up}
use Rattle.law_repo_sessions.proofs.Marked.{IsAway, away_agrees}
use Rattle.law_repo_sessions.proofs.Traced.{ended_by_life, last_behind, retired_by_life}
use Rattle.law_repo_sessions.specs.Agreeing.{AreInOrder, SessionAgrees, SessionsAgree}
use Rattle.spec_trace.proofs.Sessions.{session-end}
use Rattle.spec_trace.specs.Calls.{last_session}
use Rattle.spec_trace.specs.Session.{Session, meet, session}
use Rattle.spec_trace.specs.Trace.{E, Item, entries}
use Rattle.std.proofs.Common.{List, [], ap, arith, inl, inr, refl, subst, sym, true, ℕ, ◌+◌, ◌++◌, ◌∷◌, ◌∙◌, ◌≡◌}
use Rattle.std.specs.List.Sorted.{IsStrictlySortedBy}
use Rattle.std.specs.Option.{IfSome}
use Rattle.std.specs.Ordering.{nat_cmp}
use Rattle.std.specs.Prelude.{None, Option, Some, max, ◌↔◌, ◌⊎◌}
use Rattle.thor_value.specs.FiniteMap.{get, has}
use Rattle.repo_trace.specs.Recorded.{Recorded, with_entry}

-- ---- what outlives a restart of the sessions

pub numbers-agree : (b : Base) (T : List Item) (K : Kept) → SessionsAgree b T K → NumbersAgree b T K.last
numbers-agree b T K a = record { silence = a.silence; last = a.last; unused = a.unused }

zeros : (k : ℕ) → k ≡ max k 0
zeros k = omega arith

pub numbers-behind : (b : Base) (T : List Item) (n : ℕ) (e : Entry) → NumbersAgree b T n → NumbersAgree b (T ++ E e ∷ []) n
numbers-behind b T n e a = record {
  silence = a.silence;
  last = a.last ∙ zeros (last_session T) ∙ sym (last_behind T (E e));
  unused = λ s l. session-end b T (E e) s ∙ ap (λ (o : Option Session). meet b s (state b (entries T)) o (E e)) (a.unused s l);
}

no_key : IsStrictlySortedBy nat_cmp []
unfolding IsStrictlySortedBy
no_key = tt

none_kept : (K : Kept) (s : ℕ) → IsAway (ended K) s
none_kept K s = record { client = refl; notes = refl; pages = λ p. refl; invalid = λ x. refl; waits = refl }

none_live : (K : Kept) (c s : ℕ) → (get (ended K).live c ≡ Some s) ↔ ((get (ended K).clients s ≡ Some c) ⊎ (get (ended K).retired s ≡ Some c))
none_live K c s = (
  λ e. cc,
  λ h. elim h [
    | inl e ↦ cc
    | inr e ↦ cc
  ],
)

none_opened : (K : Kept) (s page : ℕ) → has_page (ended K).sets s page ≡ true → has (ended K).sets.invalid s ≡ true
none_opened K s page h = cc

none_in_order : (K : Kept) → AreInOrder (ended K)
none_in_order K = record { clients = no_key; retired = no_key; waiting = no_key; sets = none_ordered; noted = no_key }

-- a Life ends all sessions
pub all-ended : (b : Base) (T : List Item) (n : ℕ) (K : Kept) → NumbersAgree b T K.last → SessionsAgree b (T ++ E (Life n) ∷ []) (ended K)
all-ended b T n K a =
    let k : NumbersAgree b (T ++ E (Life n) ∷ []) K.last = numbers-behind b T K.last (Life n) a in
    record {
      silence = k.silence;
      last = k.last;
      unused = k.unused;
      each = λ s. subst (SessionAgrees b (entries (T ++ E (Life n) ∷ [])) (ended K) s) (sym (session-end b T (E (Life n)) s))
          (away_agrees b (entries (T ++ E (Life n) ∷ [])) (ended K) s (meet b s (state b (entries T)) (session b T s) (E (Life n))) (ended_by_life b s (state b (entries T)) (Life n) (session b T s) refl) (sym (retired_by_life b s (state b (entries T)) (Life n) (session b T s) refl)) (none_kept K s));
      live = none_live K;
      heard = λ s. refl;
      opened = none_opened K;
      order = none_in_order K;
    }

-- ---- what outlives a restart

pub record Rests (b : Base) (x : Repository) : Type 0 where
  pub recorded : IsRecorded b x.trace
  pub held : HeldAgrees b x.trace x.held x.memory.requested
  pub numbers : NumbersAgree b (trace_of x.trace) x.memory.sessions.last

pub rests-up : (b : Base) (x : Repository) → IsRight b x Up → Rests b x
rests-up b x k = record { recorded = k.recorded; held = k.stands.0.held; numbers = numbers-agree b (trace_of x.trace) x.memory.sessions k.stands.1 }

pub rests-down : (b : Base) (x : Repository) (o : Option Entry) → IsRight b x (Down o) → Rests b x
rests-down b x o k = record { recorded = k.recorded; held = k.stands.0; numbers = k.stands.1 }

-- it goes down
pub rests-on : (b : Base) (x y : Repository) → Rests b x → GoesDown x y → Rests b y
rests-on b x y k d = record {
  recorded = subst (IsRecorded b) (sym d.trace) k.recorded;
  held = subst (λ (r : Recorded). HeldAgrees b r y.held y.memory.requested) (sym d.trace)
      (moved-held b x.trace x.held y.held y.memory.requested d.moves (held-more b x.trace x.held x.memory.requested y.memory.requested d.memory.came k.held));
  numbers = subst (λ (r : Recorded). NumbersAgree b (trace_of r) y.memory.sessions.last) (sym d.trace) (subst (NumbersAgree b (trace_of x.trace)) (sym d.memory.last) k.numbers);
}

pub next-on : (b : Base) (x y : Repository) (e : Entry) → GoesDown x y → MayBeNext b x.trace x.held e → MayBeNext b y.trace y.held e
next-on b x y e d n = subst (λ (r : Recorded). MayBeNext b r y.held e) (sym d.trace) (moved-next b x.trace x.held y.held e d.moves n)

pub pending-on : (b : Base) (x y : Repository) (o : Option Entry) → GoesDown x y → IfSome o (MayBeNext b x.trace x.held) → IfSome o (MayBeNext b y.trace y.held)
pending-on b x y None d n = n
pending-on b x y (Some e) d n = next-on b x y e d n

-- down with this pending
pub down-right : (b : Base) (x : Repository) (o : Option Entry) → Rests b x → IfSome o (MayBeNext b x.trace x.held) → IsRight b x (Down o)
down-right b x o k n = record { recorded = k.recorded; stands = (k.held, k.numbers, n) }

making-next : (b : Base) (x : Repository) → IsInAgreement b x → SessionsAgree b (trace_of x.trace) x.memory.sessions → (o : Option Entry) → WasMaking b x o → IfSome o (MayBeNext b x.trace x.held)
making-next b x a ss None w = tt
making-next b x a ss (Some e) w = may-be-next b x a ss e w

pub fails : (b : Base) (x y : Repository) (o : Option Entry) (q : Phase) → IsRight b x Up → (q ≡ Down None) ⊎ (q ≡ Down o) → WasMaking b x o → GoesDown x y → IsRight b y q
fails b x y o q k (inl e) w d = subst (IsRight b y) (sym e) (down-right b y None (rests-on b x y (rests-up b x k) d) tt)
fails b x y o q k (inr e) w d = subst (IsRight b y) (sym e) (down-right b y o (rests-on b x y (rests-up b x k) d) (pending-on b x y o d (making-next b x k.stands.0 k.stands.1 o w)))

-- ---- the Life behind what was recovered

pub life-next : (b : Base) (x : Repository) → Rests b x → MayBeNext b x.trace x.held (life_behind x)
life-next b x k = record { owes = ap (λ (n : ℕ). n + 1) k.held.life; exact = tt; fits = tt }

pub life-begins : (b : Base) (x y : Repository) → Rests b x → LifeBegins x y → IsRight b y Up
life-begins b x y k l =
    let n : ℕ = x.held.life + 1 in
    let ow : owes b (state_of b x.trace) (Life n) = ap (λ (m : ℕ). m + 1) k.held.life in
    let agrees : Agrees b (with_entry x.trace (Life n)) (entered x.held (Life n)) y.memory = agrees-life b x.trace x.held x.memory y.memory n k.held ow l.memory in
    let told : SessionsAgree b (trace_of (with_entry x.trace (Life n))) (ended x.memory.sessions) = subst (λ (T : List Item). SessionsAgree b T (ended x.memory.sessions)) (sym (trace-behind b x.trace k.held.owed (Life n) ow)) (all-ended b (trace_of x.trace) n x.memory.sessions k.numbers) in
    record {
      recorded = subst (IsRecorded b) (sym l.trace) (behind-entry b x.trace k.held.owed k.recorded (Life n) ow tt);
      stands = (
        subst (λ (r : Recorded). Agrees b r y.held y.memory) (sym l.trace) (subst (λ (h : Held). Agrees b (with_entry x.trace (Life n)) h y.memory) (sym l.held) agrees),
        subst (λ (r : Recorded). SessionsAgree b (trace_of r) y.memory.sessions) (sym l.trace) (subst (SessionsAgree b (trace_of (with_entry x.trace (Life n)))) (sym l.sessions) told),
      );
    }
