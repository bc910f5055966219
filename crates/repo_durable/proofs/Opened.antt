-- What is kept of an open log and of pages, while disks are called.
use Rattle.log_entries.specs.declared.entry.Entry.TheVariants.{Decided, Finished, Life, One, Prepared, Upgraded}
use Rattle.log_entries.specs.declared.entry.Entry.{Entry}
use Rattle.log_entries.specs.declared.request.Request.{Request}
use Rattle.disk_trait.specs.Disks.{Disks, IsSettled, NoNewImage, OnDisk, SameDisks, WhereTold}
use Rattle.disk_trait.proofs.Several.{all_settled}
use Rattle.repo_state.specs.declared.held.Held.{Held}
use Rattle.log_frame.specs.Log.{Place}
use Rattle.repo_state.specs.Keeps.{Keeps}
use Rattle.log_codec.specs.declared.body.Body.TheVariants.{Entry as AnEntry, Installed}
use Rattle.log_codec.specs.declared.body.Body.{Body}
use Rattle.log_codec.specs.declared.state.State.{State}
use Rattle.commit_log.specs.Recovered.{after, decided, kept_by, opened_without, request_at}
use Rattle.thor_value.specs.declared.names.Ts.{Ts}
use Rattle.page_store.specs.Store.{Agrees, Store}
use Rattle.repo_durable.specs.Kept.{IsFallen, IsOpen, IsOpenIn, StandsAfter, is_fault}
use Rattle.repo_durable.specs.declared.stable.Phase.TheVariants.{Down, Torn, Up}
use Rattle.repo_durable.specs.declared.stable.Phase.{Phase}
use Rattle.repo_durable.specs.declared.stable.Stable.{Stable}
use Rattle.commit_log.specs.Holds.{Holds, beside}
use Rattle.std.proofs.Common.{Bool, List, None, Option, Some, arith, false, refl, subst, sym, true, ◌<◌, ◌∙◌, ◌≡◌, ◌≢◌, ℕ}
use Rattle.repo_refusals.specs.declared.refusal.Refusal.TheVariants as refused
use Rattle.repo_refusals.specs.declared.refusal.Refusal.{Refusal}

-- what was told of a disk that is called no more
pub pages_stay : (old new : Disks) (pages : Store) → new.content 2 ≡ old.content 2 → WhereTold old 2 (Agrees pages) → WhereTold new 2 (Agrees pages)
pages_stay old new pages same agrees = λ bytes told. agrees bytes (sym same ∙ told)

-- a log disk is none of pages
not_pages : (d : ℕ) → d < 2 → d ≢ 2
not_pages d within = λ same. let no : 2 < 2 = omega (arith, same, within) in omega (arith, no)

other_not_pages : (d : ℕ) → d < 2 → beside d ≢ 2
other_not_pages d within = λ same. let no : beside d < 2 = omega arith in omega (arith, no, same)

-- calls on the disk of pages alone leave the log as it was
pub holds_beside : (old new : Disks) (log : Place) (s : State) → Holds old log s → OnDisk old new 2 → IsSettled new 2 → Holds new log s
holds_beside old new log s holds alone settled = record {
  within = holds.within;
  settled = all_settled old new 2 alone holds.settled settled;
  agrees = λ bytes told. holds.agrees bytes (sym (alone.others log.disk (not_pages log.disk holds.within)) ∙ told);
  told = λ bytes other told beside_told opened stood. holds.told bytes other (sym (alone.others log.disk (not_pages log.disk holds.within)) ∙ told) (sym (alone.others (beside log.disk) (other_not_pages log.disk holds.within)) ∙ beside_told) opened stood;
}

-- the clock was asked
pub holds_same : (old new : Disks) (log : Place) (s : State) → Holds old log s → SameDisks old new → Holds new log s
holds_same old new log s holds same = record {
  within = holds.within;
  settled = λ d there bytes told image left. holds.settled d there bytes (sym (same.content d) ∙ told) image (subst (λ (m : ℕ). old.images m d image) same.time (same.images new.time d image left));
  agrees = λ bytes told. holds.agrees bytes (sym (same.content log.disk) ∙ told);
  told = λ bytes other told beside_told opened stood. holds.told bytes other (sym (same.content log.disk) ∙ told) (sym (same.content (beside log.disk)) ∙ beside_told) opened stood;
}

-- what stands after a fault
pub after_fault : {P : Type 0} (old new : Stable P) (entry : Option Entry) (r : Refusal) → is_fault r ≡ true → IsFallen old new entry → StandsAfter old new entry r
after_fault old new entry (refused.Stopped r) is fallen = fallen
after_fault old new entry (refused.Damaged r k) is fallen = fallen
after_fault old new entry refused.NoMemory is fallen = fallen
after_fault old new entry (refused.Down r) is fallen = cc
after_fault old new entry (refused.Reason r) is fallen = cc

-- ---- the repository of a state

abbrev pub repo_of : Held → ℕ
repo_of h = h.repo

repo_decided : (s : State) (t : Ts) (c : Bool) (o : Option Request) → (kept_by (record (decided s c o) { prepared = opened_without s.prepared t }) t c).repo ≡ s.repo
repo_decided s t false None = refl
repo_decided s t false (Some q) = refl
repo_decided s t true None = refl
repo_decided s t true (Some q) = refl

repo_finished : (s : State) (c : Bool) (o : Option Request) → (decided s c o).repo ≡ s.repo
repo_finished s c None = refl
repo_finished s false (Some q) = refl
repo_finished s true (Some q) = refl

-- a record leaves it
same_repo : (s : State) (b : Body) → (after s b).repo ≡ s.repo
same_repo s (AnEntry (Life l)) = refl
same_repo s (AnEntry (One q)) = refl
same_repo s (AnEntry (Prepared q)) = refl
same_repo s (AnEntry (Upgraded q)) = refl
same_repo s (AnEntry (Decided t c)) = repo_decided s t c (request_at s.prepared t)
same_repo s (AnEntry (Finished t c)) = repo_finished s c (request_at s.prepared t)
same_repo s (Installed page side) = refl

-- ---- what is open stays so

-- a record more
pub opened_more : (old new : Disks) (log log' : Place) (held : Held) (b : Body) → IsOpen old log held → ((s : State) → Holds old log s → Holds new log' (after s b)) → new.content 2 ≡ old.content 2 → IsOpen new log' held
opened_more old new log log' held b stood more same = record {
  state = after stood.state b;
  holds = more stood.state stood.holds;
  repo = same_repo stood.state b ∙ stood.repo;
  pages = pages_stay old new held.objects.pages same stood.pages;
  keeps = stood.keeps;
}

-- another log that holds a state
pub opened_anew : (old new : Disks) (log log' : Place) (held : Held) (s : State) → IsOpen old log held → Holds new log' s → s.repo ≡ held.repo → new.content 2 ≡ old.content 2 → IsOpen new log' held
opened_anew old new log log' held s stood holds of same = record {
  state = s;
  holds = holds;
  repo = of;
  pages = pages_stay old new held.objects.pages same stood.pages;
  keeps = stood.keeps;
}

-- the disk of pages was called and is settled
pub opened_beside : (old new : Disks) (log : Place) (held now' : Held) → IsOpen old log held → OnDisk old new 2 → IsSettled new 2 → WhereTold new 2 (Agrees now'.objects.pages) → now'.repo ≡ held.repo → (Keeps held → Keeps now') → IsOpen new log now'
opened_beside old new log held now' stood alone settled pages repo keeps = record {
  state = stood.state;
  holds = holds_beside old new log stood.state stood.holds alone settled;
  repo = stood.repo ∙ sym repo;
  pages = pages;
  keeps = keeps stood.keeps;
}

-- it was read
pub opened_read : (old new : Disks) (log : Place) (held now' : Held) → IsOpen old log held → OnDisk old new 2 → new.content 2 ≡ old.content 2 → NoNewImage old new 2 → WhereTold new 2 (Agrees now'.objects.pages) → now'.repo ≡ held.repo → (Keeps held → Keeps now') → IsOpen new log now'
opened_read old new log held now' stood alone content crash pages repo keeps =
    opened_beside old new log held now' stood alone (λ bytes told image left. stood.holds.settled 2 (omega arith) bytes (sym content ∙ told) image (crash image left)) pages repo keeps

-- what is held moved
pub opened_moved : (disks : Disks) (log : Place) (held now' : Held) → IsOpen disks log held → ((disk : List ℕ) → Agrees held.objects.pages disk → Agrees now'.objects.pages disk) → now'.repo ≡ held.repo → (Keeps held → Keeps now') → IsOpen disks log now'
opened_moved disks log held now' stood pages repo keeps = record {
  state = stood.state;
  holds = stood.holds;
  repo = stood.repo ∙ sym repo;
  pages = λ bytes told. pages bytes (stood.pages bytes told);
  keeps = keeps stood.keeps;
}

-- the clock was asked
pub opened_same : (old new : Disks) (log : Place) (held : Held) → IsOpen old log held → SameDisks old new → IsOpen new log held
opened_same old new log held stood same = record {
  state = stood.state;
  holds = holds_same old new log stood.state stood.holds same;
  repo = stood.repo;
  pages = pages_stay old new held.objects.pages (same.content 2) stood.pages;
  keeps = stood.keeps;
}

-- while a log is taken out
pub open_of : (disks : Disks) (held : Held) (phase : Phase) (log : Place) → IsOpenIn disks held phase → phase ≡ Up log → IsOpen disks log held
open_of disks held (Up p) log stood is = let same : p ≡ log = cc in subst (λ (x : Place). IsOpen disks x held) same stood
open_of disks held (Down pending) log stood is = cc
open_of disks held (Torn entry) log stood is = cc
