-- The limit of the buffer stays.
use Rattle.log_entries.specs.declared.entry.Entry.TheVariants.{Decided, Finished, Life, One, Prepared, Upgraded}
use Rattle.log_entries.specs.declared.entry.Entry.{Entry}
use Rattle.log_entries.specs.declared.request.Request.{Request}
use Rattle.repo_state.specs.Entering.{decided_by, entered, finished_by}
use Rattle.repo_state.specs.declared.held.Held.{Held}
use Rattle.std.proofs.Common.{Bool, None, Option, Some, false, refl, true, ◌≡◌}
use Rattle.thor_value.specs.declared.names.Ts.{Ts}
use Rattle.two_phase.specs.Contents.{open_at}

decided_limit : (h : Held) (t : Ts) (c : Bool) (o : Option Request) → (decided_by h t c o).objects.mob.limit ≡ h.objects.mob.limit
decided_limit h t false o = refl
decided_limit h t true None = refl
decided_limit h t true (Some q) = refl

finished_limit : (h : Held) (t : Ts) (c : Bool) (o : Option Request) → (finished_by h t c o).objects.mob.limit ≡ h.objects.mob.limit
finished_limit h t false None = refl
finished_limit h t true None = refl
finished_limit h t false (Some q) = refl
finished_limit h t true (Some q) = refl

-- behind an entry
pub entered_limit : (h : Held) (e : Entry) → (entered h e).objects.mob.limit ≡ h.objects.mob.limit
entered_limit h (Life n) = refl
entered_limit h (One q) = refl
entered_limit h (Prepared q) = refl
entered_limit h (Decided t c) = decided_limit h t c (open_at h.table t)
entered_limit h (Finished t c) = finished_limit h t c (open_at h.table t)
entered_limit h (Upgraded q) = refl
