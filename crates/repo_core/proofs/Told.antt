-- What is in memory behind what it was told.
use Rattle.log_entries.specs.declared.entry.Entry.TheVariants.{Prepared}
use Rattle.log_entries.specs.declared.request.Kind.TheVariants.{App, Transform, Upgrade}
use Rattle.log_entries.specs.declared.request.Kind.{Kind}
use Rattle.log_entries.specs.declared.request.Request.{Request}
use Rattle.repo_state.specs.declared.held.Held.{Held}
use Rattle.repo_state.specs.Keeps.{TableFits}
use Rattle.repo_core.specs.Behind.{alone_entry}
use Rattle.repo_core.specs.Calls.{IsTold}
use Rattle.law_repo_memory.proofs.Reopening.{reopens-other, reopens-own}
use Rattle.law_repo_memory.specs.Coming.{Becomes, Moves, ReopensTo, alone_queue, decided_queue}
use Rattle.std.proofs.Common.{Bool, Err, Ok, OnOk, Result, ap, cond, refl, subst, sym, ℕ, ◌≡◌, ◌∙◌}
use Rattle.std.specs.Prelude.{None, Option, Some, false, nat_eq, true}
use Rattle.thor_value.specs.FiniteMap.{add, has}
use Rattle.thor_value.specs.Names.{ts_cmp}
use Rattle.thor_value.specs.declared.names.Ts.{Ts}
use Rattle.two_phase.specs.Contents as table
use Rattle.two_phase.specs.Walks.{behind, first_open}
use Rattle.validation_queue.specs.Contents.{cleared, decide, with_one}
use Rattle.repo_volatile.specs.Volatile.{Memory, entered, is_upgrade_kind, transaction_of}

-- a request has come, and nothing was told
pub told_entered : (M N : Memory) (q : Request) → N ≡ entered M q false → (h : Held) → Moves h M (Prepared q) N
told_entered M N q e h = record { queue = ap (λ (K : Memory). K.queue) e; requested = ap (λ (K : Memory). K.requested) e; drawn = ap (λ (K : Memory). K.drawn) e }

-- a request has come, and its commit was told
pub told_alone : (M K N : Memory) (q : Request) → K ≡ entered M q true → N.queue ≡ cond (is_upgrade_kind q.kind) (cleared q.tx) K.queue → N.requested ≡ K.requested → N.drawn ≡ K.drawn → Becomes N (alone_queue M.queue q) (add M.requested q.tx) M.drawn
told_alone M K N q e queue requested drawn = record {
  queue = queue ∙ ap (λ (L : Memory). cond (is_upgrade_kind q.kind) (cleared q.tx) L.queue) e;
  requested = requested ∙ ap (λ (L : Memory). L.requested) e;
  drawn = drawn ∙ ap (λ (L : Memory). L.drawn) e;
}

-- a transaction was decided to commit, and that was told
pub told_commit : (M K N : Memory) (t : Ts) (q : Request) → K ≡ record M { queue = decide M.queue t true } → N.queue ≡ cond (is_upgrade_kind q.kind) (cleared q.tx) K.queue → N.requested ≡ K.requested → N.drawn ≡ K.drawn
    → Becomes N (decided_queue M.queue t true (Some q)) M.requested M.drawn
told_commit M K N t q e queue requested drawn = record {
  queue = queue ∙ ap (λ (L : Memory). cond (is_upgrade_kind q.kind) (cleared q.tx) L.queue) e;
  requested = requested ∙ ap (λ (L : Memory). L.requested) e;
  drawn = drawn ∙ ap (λ (L : Memory). L.drawn) e;
}

-- or to abort
pub told_abort : (M K : Memory) (t : Ts) (o : Option Request) → K ≡ record M { queue = decide M.queue t false } → Becomes K (decided_queue M.queue t false o) M.requested M.drawn
told_abort M K t None e = record { queue = ap (λ (L : Memory). L.queue) e; requested = ap (λ (L : Memory). L.requested) e; drawn = ap (λ (L : Memory). L.drawn) e }
told_abort M K t (Some q) e = record { queue = ap (λ (L : Memory). L.queue) e; requested = ap (λ (L : Memory). L.requested) e; drawn = ap (λ (L : Memory). L.drawn) e }

-- one that isn't open was decided
pub told_none : (M K : Memory) (t : Ts) (c : Bool) → K ≡ record M { queue = decide M.queue t c } → Becomes K (decided_queue M.queue t c None) M.requested M.drawn
told_none M K t c e = record { queue = ap (λ (L : Memory). L.queue) e; requested = ap (λ (L : Memory). L.requested) e; drawn = ap (λ (L : Memory). L.drawn) e }

-- what an entry of a request that commits here alone makes of the memory, whatever is held
pub moves_alone : (g h : Held) (M N : Memory) (q : Request) (k : Kind) → Moves g M (alone_entry k q) N → Moves h M (alone_entry k q) N
moves_alone g h M N q App m = m
moves_alone g h M N q Transform m = m
moves_alone g h M N q (Upgrade text) m = m

-- ---- open requests that are walked over

pub walked : (repo : ℕ) (c : table.Contents) (M N K : Memory) (after : Option Ts) (q : Request) → TableFits repo c → ReopensTo repo c M N after → first_open (behind ts_cmp after c.transactions.pairs) ≡ Some q
    → (nat_eq q.tx.repo repo ≡ true → K ≡ N) → (nat_eq q.tx.repo repo ≡ false → K.queue ≡ cond (has N.requested q.tx) (with_one N.queue (transaction_of q) false) N.queue) → K.requested ≡ N.requested → K.drawn ≡ N.drawn
    → ReopensTo repo c M K (Some q.tx)
walked repo c M N K after q fits to found own other requested drawn = by (nat_eq q.tx.repo repo) refl
  where
    by : (x : Bool) → nat_eq q.tx.repo repo ≡ x → ReopensTo repo c M K (Some q.tx)
    by true e = subst (λ (L : Memory). ReopensTo repo c M L (Some q.tx)) (sym (own e)) (reopens-own repo c M repo fits N after to q found e)
    by false e = reopens-other repo c M repo fits N after to q found e K (other e) requested drawn

-- ---- answers

pub on_ok : {X E : Type 0} (r : Result X E) (A B : Type 0) → (A → B) → OnOk r A → OnOk r B
on_ok (Ok x) A B f h = f h
on_ok (Err e) A B f h = tt

-- what is told of a request that commits here alone
pub told_of_alone : (M : Memory) (q : Request) (k : Kind) → IsTold M (alone_entry k q)
told_of_alone M q App = tt
told_of_alone M q Transform = tt
told_of_alone M q (Upgrade text) = tt
