-- What is kept stays so, by whether the repository is up.
use Rattle.log_entries.specs.declared.entry.Entry.{Entry}
use Rattle.disk_trait.specs.Disks.{Disks, SameDisks}
use Rattle.disk_trait.specs.Fuse.{with_falls}
use Rattle.disk_trait.specs.Fused.{armed, fused_disks, parts_of}
use Rattle.disk_trait.specs.declared.fused.Fused.{Fused}
use Rattle.repo_state.specs.Entering.{can_enter}
use Rattle.repo_state.specs.Keeps.{Keeps}
use Rattle.repo_state.specs.declared.held.Held.{Held}
use Rattle.log_codec.specs.declared.state.State.{State}
use Rattle.log_frame.specs.Log.{Place}
use Rattle.page_store.specs.Store.{Agrees}
use Rattle.repo_durable.proofs.Opened.{opened_moved, opened_same}
use Rattle.repo_durable.specs.Kept.{IsKept, IsOpen, IsOpenIn, disks_of, down, down_with, is_up_in, lowered}
use Rattle.repo_durable.specs.declared.stable.Phase.TheVariants.{Down, Torn, Up}
use Rattle.repo_durable.specs.declared.stable.Phase.{Phase}
use Rattle.repo_durable.specs.declared.stable.Stable.{Stable}
use Rattle.commit_log.specs.Holds.{Holds}
use Rattle.commit_log.specs.Recovered.{is_of}
use Rattle.std.specs.Option.{IfSome}
use Rattle.std.specs.Prelude.{IsTrue}
use Rattle.std.proofs.Common.{List, None, Option, Some, subst, sym, true, ◌≡◌, ℕ}

-- the falls of a stop change nothing that is open
opened_falls : (disks : Disks) (falls : List ℕ) (log : Place) (held : Held) → IsOpen disks log held → IsOpen (with_falls disks falls) log held
opened_falls disks falls log held stood = record {
  state = stood.state;
  holds = record { within = stood.holds.within; settled = stood.holds.settled; agrees = stood.holds.agrees; told = stood.holds.told };
  repo = stood.repo;
  pages = stood.pages;
  keeps = stood.keeps;
}

-- parts that carry a stop
pub opened_fused : {P : Type 0} (disks : P → Disks) (parts : P) (fused : Fused P) (log : Place) (held : Held) → parts_of fused ≡ parts → IsOpen (disks parts) log held → IsOpen (fused_disks disks fused) log held
opened_fused {P = P} disks parts fused log held same stood =
    opened_falls (disks fused.parts) fused.fuse.falls log held (subst (λ (p : P). IsOpen (disks p) log held) (sym same) stood)

-- the stop is armed, or taken back
pub kept_armed : {P : Type 0} (disks : P → Disks) (store : Stable P) (parts : Fused P) (calls : ℕ) → parts ≡ armed store.parts calls → IsKept disks store → IsKept disks (record store { parts = parts })
kept_armed {P = P} disks store parts calls same kept = subst (λ (p : Fused P). IsKept disks (record store { parts = p })) (sym same) (record { stands = kept.stands })

-- what is held is that of a repository, but where an entry couldn't be entered
pub keeps_up : (disks : Disks) (held : Held) (phase : Phase) → is_up_in phase ≡ true → IsOpenIn disks held phase → Keeps held
keeps_up disks held (Up log) up stood = stood.keeps
keeps_up disks held (Down pending) up stood = cc
keeps_up disks held (Torn entry) up stood = cc

-- down
rests : (disks : Disks) (held : Held) (phase : Phase) → IsOpenIn disks held phase → IsOpenIn disks held (lowered phase)
rests disks held (Up log) stood = record { keeps = stood.keeps; fits = tt; takes = tt }
rests disks held (Down pending) stood = stood
rests disks held (Torn entry) stood = stood

pub kept_down : {P : Type 0} (disks : P → Disks) (store : Stable P) → IsKept disks store → IsKept disks (down store)
kept_down disks store kept = record { stands = rests (disks_of disks store) store.held store.phase kept.stands }

-- the clock was asked
pub stands_same : (old new : Disks) (held : Held) (phase : Phase) → IsOpenIn old held phase → SameDisks old new → IsOpenIn new held phase
stands_same old new held (Up log) stood same = opened_same old new log held stood same
stands_same old new held (Down pending) stood same = stood
stands_same old new held (Torn entry) stood same = stood

-- what can come next does so where the repository is the same
takes_same : (held now' : Held) (pending : Option Entry) → now'.repo ≡ held.repo → IfSome pending (λ e. IsTrue (can_enter held e)) → IfSome pending (λ e. IsTrue (can_enter now' e))
takes_same held now' None same takes = tt
takes_same held now' (Some e) same takes = subst (λ (n : ℕ). IsTrue (is_of n e)) (sym same) takes

-- what is held moved, and its pages agree as before
pub stands_moved : (disks : Disks) (held now' : Held) (phase : Phase) → IsOpenIn disks held phase → ((disk : List ℕ) → Agrees held.objects.pages disk → Agrees now'.objects.pages disk) → now'.repo ≡ held.repo → (Keeps held → Keeps now') → IsOpenIn disks now' phase
stands_moved disks held now' (Up log) stood pages repo keeps = opened_moved disks log held now' stood pages repo keeps
stands_moved disks held now' (Down pending) stood pages repo keeps = record { keeps = keeps stood.keeps; fits = stood.fits; takes = takes_same held now' pending repo stood.takes }
stands_moved disks held now' (Torn entry) stood pages repo keeps = tt

-- the log was taken out
pub taken_open : {P : Type 0} (disks : P → Disks) (old now' : Stable P) (log : Place) → now' ≡ down_with old None → IsOpen (disks_of disks old) log old.held → IsOpen (disks_of disks now') log now'.held
taken_open {P = P} disks old now' log same stood = subst (λ (s : Stable P). IsOpen (disks_of disks s) log s.held) (sym same) stood

-- then an entry that is of this repository can come next in it
pub taken_follows : {P : Type 0} (disks : P → Disks) (old now' : Stable P) (log : Place) (e : Entry) → now' ≡ down_with old None → IsOpen (disks_of disks old) log old.held → IsTrue (can_enter old.held e) → (s : State) × Holds (disks_of disks now') log s × IsTrue (is_of s.repo e)
taken_follows {P = P} disks old now' log e same stood can =
    subst (λ (m : Stable P). (s : State) × Holds (disks_of disks m) log s × IsTrue (is_of s.repo e)) (sym same) (stood.state, stood.holds, subst (λ (n : ℕ). IsTrue (is_of n e)) (sym stood.repo) can)

-- a log is put back
pub kept_up : {P : Type 0} (disks : P → Disks) (mid now' : Stable P) (log : Place) → now' ≡ record mid { phase = Up log } → IsOpen (disks_of disks mid) log mid.held → IsKept disks now'
kept_up disks mid now' log same stood = subst (IsKept disks) (sym same) (record { stands = stood })
