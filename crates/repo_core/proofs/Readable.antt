-- Sides in use that are pages, as they are shown.
use Rattle.disk_trait.specs.Disks.{Disks}
use Rattle.repo_core.specs.Shown.{Shown, ShowsPages, shown}
use Rattle.repo_durable.specs.Pages.{HasPages}
use Rattle.repo_durable.specs.declared.stable.Stable.{Stable}
use Rattle.std.proofs.Common.{subst, sym, ℕ, ◌≡◌}
use Rattle.repo_trace.specs.Recorded.{Recorded}
use Rattle.repo_volatile.specs.Volatile.{Memory}

-- of what is shown and of the store
pub shown_has : {P : Type 0} (disks : P → Disks) (store : Stable P) (M : Memory) (t : Recorded) (n : ℕ) (x : Shown) → shown disks store M t n ≡ x → ShowsPages x → HasPages disks store
shown_has disks store M t n x is has = subst ShowsPages (sym is) has
