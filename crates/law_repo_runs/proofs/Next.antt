-- An entry that may come next, while objects move, and what is in memory behind it.
use Rattle.log_entries.specs.declared.entry.Entry.TheVariants.{Decided, Finished, Life, One, Prepared, Upgraded}
use Rattle.log_entries.specs.declared.entry.Entry.{Entry}
use Rattle.repo_state.specs.Entering.{entered}
use Rattle.repo_state.specs.declared.held.Held.{Held}
use Rattle.spec_history.specs.History.{Base}
use Rattle.mob_flusher.specs.Map.{Kept}
use Rattle.law_repo_memory.proofs.Decisions.{held-decided, held-finished}
use Rattle.law_repo_memory.proofs.Entries.{agrees-decided, agrees-finished, agrees-life, agrees-one, agrees-prepared, agrees-upgraded}
use Rattle.law_repo_memory.proofs.Lives.{held-life}
use Rattle.law_repo_memory.proofs.Requests.{held-one, held-prepared, held-upgraded}
use Rattle.law_repo_memory.specs.Agreeing.{Agrees, HeldAgrees}
use Rattle.law_repo_memory.specs.Coming.{Moves}
use Rattle.law_repo_memory.specs.Running.{came_with}
use Rattle.law_repo_runs.specs.Happening.{MovesObjects}
use Rattle.law_repo_runs.specs.Standing.{MayBeNext}
use Rattle.std.proofs.Common.{refl, subst, sym, ◌≡◌}
use Rattle.std.specs.Option.{IsSome}
use Rattle.std.specs.Prelude.{None, Option, Some}
use Rattle.thor_value.specs.FiniteMap.{Set}
use Rattle.thor_value.specs.Names.{ts_cmp}
use Rattle.repo_trace.specs.Recorded.{Recorded, with_entry}
use Rattle.two_phase.specs.Contents.{open_at}
use Rattle.repo_volatile.specs.Volatile.{Memory}

pub there : {A : Type 0} (o : Option A) → IsSome o → (x : A) × (o ≡ Some x)
there None h = cc
there (Some x) h = (x, refl)

-- ---- objects move

pub moved-held : (b : Base) (r : Recorded) (h g : Held) (m : Set ts_cmp) → MovesObjects h g → HeldAgrees b r h m → HeldAgrees b r g m
moved-held b r h g m e a = subst (λ (n : Held). HeldAgrees b r n m) (sym e) (record {
  owed = a.owed;
  repo = a.repo;
  life = a.life;
  count = a.count;
  threshold = a.threshold;
  upgrades = a.upgrades;
  table = a.table;
  kept = a.kept;
  next = a.next;
  pages = a.pages;
  came = a.came;
})

pub moved-agrees : (b : Base) (r : Recorded) (h g : Held) (M : Memory) → MovesObjects h g → Agrees b r h M → Agrees b r g M
moved-agrees b r h g M e a = record { held = moved-held b r h g M.requested e a.held; queue = a.queue; drawn = a.drawn }

pub moved-next : (b : Base) (r : Recorded) (h g : Held) (e : Entry) → MovesObjects h g → MayBeNext b r h e → MayBeNext b r g e
moved-next b r h g e is n = subst (λ (k : Held). MayBeNext b r k e) (sym is) (record { owes = n.owes; exact = n.exact; fits = n.fits })

moves-with : (h : Held) (o : Kept) (M N : Memory) (e : Entry) → Moves h M e N → Moves (record h { objects = o }) M e N
moves-with h o M N (Life n) m = m
moves-with h o M N (One q) m = m
moves-with h o M N (Prepared q) m = m
moves-with h o M N (Decided t c) m = m
moves-with h o M N (Finished t c) m = m
moves-with h o M N (Upgraded q) m = m

pub moved-moves : (h g : Held) (M N : Memory) (e : Entry) → MovesObjects h g → Moves h M e N → Moves g M e N
moved-moves h g M N e is m = subst (λ (k : Held). Moves k M e N) (sym is) (moves-with h g.objects M N e m)

-- ---- behind the entry

module _ (b : Base) (r : Recorded) (h : Held) where
  pub agrees-next : (M N : Memory) → Agrees b r h M → (e : Entry) → MayBeNext b r h e → Moves h M e N → Agrees b (with_entry r e) (entered h e) N
  agrees-next M N a (Life n) k m = agrees-life b r h M N n a.held k.owes m
  agrees-next M N a (One q) k m = agrees-one b r h M N a q k.owes k.fits.unkept k.fits.granted m
  agrees-next M N a (Prepared q) k m = agrees-prepared b r h M N a q k.owes k.fits.unkept k.fits.granted m
  agrees-next M N a (Upgraded q) k m = agrees-upgraded b r h M N a q k.owes k.fits.unkept k.fits.granted m
  agrees-next M N a (Decided t c) k m = let q = there (open_at h.table t) k.fits in agrees-decided b r h M N a t q.0 c q.1 k.owes m
  agrees-next M N a (Finished t c) k m = let q = there (open_at h.table t) k.fits in agrees-finished b r h M N a t q.0 c q.1 k.owes m

  pub held-next : (m : Set ts_cmp) → HeldAgrees b r h m → (e : Entry) → MayBeNext b r h e → HeldAgrees b (with_entry r e) (entered h e) (came_with m e)
  held-next m a (Life n) k = held-life b r h m n a k.owes
  held-next m a (One q) k = held-one b r h m q a k.fits.unkept k.fits.granted k.owes
  held-next m a (Prepared q) k = held-prepared b r h m q a k.fits.unkept k.fits.granted k.owes
  held-next m a (Upgraded q) k = held-upgraded b r h m q a k.fits.unkept k.fits.granted k.owes
  held-next m a (Decided t c) k = let q = there (open_at h.table t) k.fits in held-decided b r h m t q.0 a q.1 c k.owes
  held-next m a (Finished t c) k = let q = there (open_at h.table t) k.fits in held-finished b r h m t q.0 a q.1 c k.owes
