-- What a flush takes out of the buffer.
use Rattle.mob_buffer.specs.Buffer.{Objects}
use Rattle.mob_flusher.specs.declared.store.Flushed.TheVariants.{Installed, Nothing}
use Rattle.mob_flusher.specs.declared.store.Flushed.{Flushed}
use Rattle.page_store.specs.declared.fault.StoreFault.{StoreFault}
use Rattle.repo_durable.specs.Flushes.{AreFlushes, HasFlushed, IsOldest, left_by}
use Rattle.std.proofs.Common.{IfSome, List, Ok, Result, subst, sym, ℕ, ◌++◌, ◌∷◌, ◌≡◌}
use Rattle.std.specs.Prelude.{Err, IfOk, [], slice_get}
use Rattle.repo_refusals.specs.declared.refusal.Refusal.{Refusal}

-- the buffer was the same before the call
pub left_from : (result : Result Flushed Refusal) (old mid new : Objects) → mid ≡ old → IfOk result (λ f. new ≡ left_by mid f) → IfOk result (λ f. new ≡ left_by old f)
left_from result old mid new same left = subst (λ (o : Objects). IfOk result (λ f. new ≡ left_by o f)) same left

-- what was flushed is of the oldest object
pub oldest_is : (flushed : Flushed) (objects : Objects) (result : Result Flushed StoreFault) → result ≡ Ok flushed → (result ≡ Ok Nothing → objects ≡ [])
    → ((page side : ℕ) → result ≡ Ok (Installed page side) → IfSome (slice_get objects 0) (λ q. q.0.page ≡ page)) → IsOldest objects flushed
oldest_is (Installed page side) objects result is none oldest = oldest page side is
oldest_is Nothing objects result is none oldest = none is

-- and so is the answer, which is what was flushed
pub oldest_then : (result : Result Flushed Refusal) (flushed : Flushed) (objects : Objects) → IsOldest objects flushed → IfOk result (λ f. f ≡ flushed) → IfOk result (IsOldest objects)
oldest_then (Ok f) flushed objects oldest same = subst (IsOldest objects) (sym same) oldest
oldest_then (Err r) flushed objects oldest same = tt

-- ---- several flushes

pub flushed_none : (old new : Objects) → new ≡ old → HasFlushed old new
flushed_none old new same = record { flushes = []; are = same }

one_more : (fs : List Flushed) (old mid new : Objects) (f : Flushed) → AreFlushes fs old mid → IsOldest mid f → new ≡ left_by mid f → AreFlushes (fs ++ f ∷ []) old new
one_more [] old mid new f same oldest left = (subst (λ (o : Objects). IsOldest o f) same oldest, subst (λ (o : Objects). new ≡ left_by o f) same left)
one_more (g ∷ gs) old mid new f are oldest left = (are.0, one_more gs (left_by old g) mid new f are.1 oldest left)

pub flushed_then : (old mid new : Objects) (f : Flushed) → HasFlushed old mid → IsOldest mid f → new ≡ left_by mid f → HasFlushed old new
flushed_then old mid new f flushed oldest left = record { flushes = flushed.flushes ++ f ∷ []; are = one_more flushed.flushes old mid new f flushed.are oldest left }

pub flushed_same : (old mid new : Objects) → HasFlushed old mid → new ≡ mid → HasFlushed old new
flushed_same old mid new flushed same = subst (HasFlushed old) (sym same) flushed
