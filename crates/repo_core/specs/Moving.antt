-- Room in the buffer of modified objects, and a store that falls.
use Rattle.log_entries.specs.declared.entry.Entry.{Entry}
use Rattle.repo_state.specs.declared.held.Held.{Held}
use Rattle.mob_buffer.specs.Buffer.{bytes_of, with_all}
use Rattle.repo_core.specs.Behind.{MovesObjects}
use Rattle.repo_core.specs.Shown.{Shown}
use Rattle.repo_durable.specs.Flushes.{HasFlushed}
use Rattle.repo_durable.specs.Kept.{held_of, is_torn, pending}
use Rattle.repo_durable.specs.declared.stable.Stable.{Stable}
use Rattle.std.specs.Option.{IfSome}
use Rattle.std.specs.Prelude.{Bool, List, Some, false, true, ◌≡◌, ◌≤◌}
use Rattle.thor_value.specs.declared.names.Oref.{Oref}
use Rattle.thor_value.specs.declared.names.Ts.{Ts}
use Rattle.thor_value.specs.declared.values.Obj.{Obj}
use Rattle.two_phase.specs.Contents.{open_at}

-- the buffer keeps its limit with these writes
abbrev pub HasRoom : Held → List (Oref × Obj) → Type 0
HasRoom h writes = bytes_of (with_all h.objects.mob.objects writes) ≤ h.objects.mob.limit

-- the same with the writes of a transaction that is open, where it commits
abbrev pub HasRoomFor : Held → Ts → Bool → Type 0
HasRoomFor h t true = IfSome (open_at h.table t) (λ q. HasRoom h q.writes)
HasRoomFor h t false = Unit {0}

-- pages were flushed, and all else stays
pub record MakesRoom (old new : Shown) : Type 0 where
  pub held : MovesObjects old.held new.held
  pub flushed : HasFlushed old.held.objects.mob.objects new.held.objects.mob.objects
  pub memory : new.memory ≡ old.memory
  pub trace : new.trace ≡ old.trace
  pub limit : new.held.objects.mob.limit ≡ old.held.objects.mob.limit
  pub opened : new.opened_in ≡ old.opened_in

-- a store that was being given an entry is down: it holds what it held with the entry pending, or it is torn
pub record Falls {P : Type 0} (old new : Stable P) (e : Entry) : Type 0 where
  pub held : is_torn new ≡ false → held_of new ≡ held_of old
  pub pending : is_torn new ≡ false → pending new ≡ Some e
