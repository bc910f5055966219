-- Bytes of the disk of pages that are no page.
use Rattle.disk_trait.specs.Disks.{Disks}
use Rattle.page_store.specs.Store.{IsDamage}
use Rattle.repo_core.specs.Refusing.{IsPageDamage}
use Rattle.repo_core.specs.Shown.{Shown, shown}
use Rattle.repo_durable.specs.Kept.{disks_of, held_of}
use Rattle.repo_durable.specs.declared.stable.Stable.{Stable}
use Rattle.std.proofs.Common.{Err, IfSome, None, Ok, Option, Result, Some, refl, subst, ℕ, ◌≡◌}
use Rattle.std.specs.Prelude.{IfErr, IsErrOf, slice_get}
use Rattle.thor_value.specs.declared.names.Oref.{Oref}
use Rattle.thor_value.specs.declared.values.Obj.{Obj}
use Rattle.repo_trace.specs.Recorded.{Recorded}
use Rattle.repo_refusals.specs.declared.refusal.Refusal.TheVariants as refused
use Rattle.repo_refusals.specs.declared.refusal.Refusal.{Refusal}
use Rattle.repo_volatile.specs.Volatile.{Memory}

-- damage of the store's disk is damage of what is shown
pub damage_shown : {P : Type 0} (disks : P → Disks) (store : Stable P) (M : Memory) (t : Recorded) (n : ℕ) (x : Shown) (page place : ℕ) → shown disks store M t n ≡ x
    → IsDamage (disks_of disks store) (held_of store).objects.pages.sides page place → IsPageDamage x page place
damage_shown disks store M t n x page place is damage =
    subst (λ (s : Shown). IsPageDamage s page place) is (record { side = damage.side; in_use = damage.in_use; place_is = damage.place_is; none = damage.none })

-- that of some page
pub some_shown : {P : Type 0} (disks : P → Disks) (store : Stable P) (M : Memory) (t : Recorded) (n : ℕ) (x : Shown) (place : ℕ) → shown disks store M t n ≡ x
    → (page : ℕ) × IsDamage (disks_of disks store) (held_of store).objects.pages.sides page place → (page : ℕ) × IsPageDamage x page place
some_shown disks store M t n x place is some = (some.0, damage_shown disks store M t n x some.0 place is some.1)

-- want of memory is no damage
pub damaged_memory : {T : Type 0} (result : Result T Refusal) (n place : ℕ) (G : Type 0) → IfErr result (λ r. r ≡ refused.NoMemory) → IsErrOf result (refused.Damaged n place) → G
damaged_memory (Ok t) n place G lacks is = absurd (cc)
damaged_memory (Err r) n place G lacks is = absurd (cc)

-- that of the page of the oldest object
pub oldest_shown : {P : Type 0} (disks : P → Disks) (store : Stable P) (M : Memory) (t : Recorded) (n : ℕ) (x : Shown) (place : ℕ) → shown disks store M t n ≡ x
    → IfSome (slice_get (held_of store).objects.mob.objects 0) (λ q. IsDamage (disks_of disks store) (held_of store).objects.pages.sides q.0.page place)
    → IfSome (slice_get x.held.objects.mob.objects 0) (λ q. IsPageDamage x q.0.page place)
oldest_shown disks store M t n x place is damage =
    let y : Shown = shown disks store M t n in
    subst (λ (s : Shown). IfSome (slice_get s.held.objects.mob.objects 0) (λ q. IsPageDamage s q.0.page place)) is
    (each (slice_get y.held.objects.mob.objects 0) damage)
  where
    each : (o : Option (Oref × Obj)) → IfSome o (λ q. IsDamage (disks_of disks store) (held_of store).objects.pages.sides q.0.page place) → IfSome o (λ q. IsPageDamage (shown disks store M t n) q.0.page place)
    each None damage = tt
    each (Some q) damage = damage_shown disks store M t n (shown disks store M t n) q.0.page place refl damage
