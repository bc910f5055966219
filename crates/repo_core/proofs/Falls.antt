-- What the faults of a store tell.
use Rattle.log_entries.specs.declared.entry.Entry.{Entry}
use Rattle.disk_trait.specs.Disks.{Disks}
use Rattle.repo_state.specs.Keeps.{Keeps}
use Rattle.repo_state.specs.declared.held.Held.{Held}
use Rattle.repo_core.specs.Behind.{is_marked}
use Rattle.repo_durable.specs.Kept.{IsFallen, IsKept, IsOpenIn, StandsAfter, disks_of, held_of, is_fault, is_torn, is_torn_in, is_up, is_up_in}
use Rattle.repo_durable.specs.declared.stable.Phase.TheVariants.{Down, Torn, Up}
use Rattle.repo_durable.specs.declared.stable.Phase.{Phase}
use Rattle.repo_durable.specs.declared.stable.Stable.{Stable}
use Rattle.std.proofs.Common.{Bool, Option, ap, cond, false, refl, true, ◌≡◌, ◌∙◌}
use Rattle.repo_refusals.specs.declared.refusal.Refusal.TheVariants as refused
use Rattle.repo_refusals.specs.declared.refusal.Refusal.{Refusal}

-- a repository was up or down, met this refusal, and stands so
pub record Falls (before after : Bool) (r : Refusal) : Type 0 where
  pub stands : after ≡ cond (is_fault r) false before
  pub unmarked : is_marked r ≡ false
  pub fault : before ≡ true → is_fault r ≡ true

down_now : {P : Type 0} (old new : Stable P) (e : Option Entry) → IsFallen old new e → is_up new ≡ false
down_now old new e f = ap is_up_in f.phase

pub falls : {P : Type 0} (old new : Stable P) (e : Option Entry) (r : Refusal) → StandsAfter old new e r → Falls (is_up old) (is_up new) r
falls old new e (refused.Down n) (d, s) = record { stands = ap is_up s; unmarked = refl; fault = λ (u : is_up old ≡ true). cc }
falls old new e (refused.Stopped n) f = record { stands = down_now old new e f; unmarked = refl; fault = λ (u : is_up old ≡ true). refl }
falls old new e (refused.Damaged n k) f = record { stands = down_now old new e f; unmarked = refl; fault = λ (u : is_up old ≡ true). refl }
falls old new e refused.NoMemory f = record { stands = down_now old new e f; unmarked = refl; fault = λ (u : is_up old ≡ true). refl }
falls old new e (refused.Reason r) f = absurd f

keeps_in : (disks : Disks) (h : Held) (p : Phase) → IsOpenIn disks h p → is_up_in p ≡ true → Keeps h
keeps_in disks h (Up log) o u = o.keeps
keeps_in disks h (Down pending) o u = o.keeps
keeps_in disks h (Torn entry) o u = absurd (cc)

-- what one holds that isn't torn is that of a repository
keeps_whole_in : (disks : Disks) (h : Held) (p : Phase) → IsOpenIn disks h p → is_torn_in p ≡ false → Keeps h
keeps_whole_in disks h (Up log) o u = o.keeps
keeps_whole_in disks h (Down pending) o u = o.keeps
keeps_whole_in disks h (Torn entry) o u = absurd (cc)

pub keeps_whole : {P : Type 0} (disks : P → Disks) (s : Stable P) → IsKept disks s → is_torn s ≡ false → Keeps (held_of s)
keeps_whole disks s k u = keeps_whole_in (disks_of disks s) s.held s.phase k.stands u

-- what an open repository holds is that of a repository
pub keeps_up : {P : Type 0} (disks : P → Disks) (s : Stable P) → IsKept disks s → is_up s ≡ true → Keeps (held_of s)
keeps_up disks s k u = keeps_in (disks_of disks s) s.held s.phase k.stands u
