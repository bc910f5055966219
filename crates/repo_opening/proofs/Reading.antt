-- The disk of pages is read beside an open log.
use Rattle.repo_opening.specs.Same.{Same}
use Rattle.repo_opening.specs.Recovered.{AgreesWhere, HasBytes, IsHeld, IsRecovered}
use Rattle.disk_trait.specs.Disks.{WhereTold}
use Rattle.recovery.specs.Found.{recorded}
use Rattle.recovery.proofs.Moving.{holds_on}
use Rattle.recovery.specs.Paged.{AreObjectPages, ArePaged, HasRoom, HasSides, Stays}
use Rattle.repo_opening.proofs.Syncing.{same_beside, same_content, same_then}
use Rattle.disk_trait.specs.AllDisks.{LeavesAll, MayLeaveAll, ReadsAs, SameContent}
use Rattle.disk_trait.specs.Disks.{Disks}
use Rattle.log_codec.specs.declared.state.State.{State}
use Rattle.log_frame.specs.Log.{Place}
use Rattle.page_format.specs.Formats.{page_size_in}
use Rattle.page_format.specs.declared.format.StoreFormat.{StoreFormat}
use Rattle.page_store.specs.Sides.{place_in}
use Rattle.recovery.specs.declared.recovered.Recovered.{Recovered}
use Rattle.repo_state.specs.Keeps.{Keeps}
use Rattle.commit_log.proofs.Holding.{is_log, stands_of}
use Rattle.commit_log.specs.Holds.{Holds, beside}
use Rattle.commit_log.specs.Recovered.{stands}
use Rattle.std.proofs.Common.{IfSome, List, None, Option, Some, [], ap, arith, refl, subst, sym, ◌+◌, ◌<◌, ◌∙◌, ◌≡◌, ◌≤◌, ℕ}
use Rattle.class_defs.specs.Stored.{Objects}
use Rattle.repo_opening.specs.Paged.{PutsPaged, PutsStored}
use Rattle.std.proofs.lemmas.Option.{same_Some}

-- what was found is held
pub found_is : (disks : Disks) (found : Option Recovered) → IfSome found (λ r. Holds disks r.log (recorded r)) → IfSome found (λ r. Keeps r.state) → IfSome found (λ r. AgreesWhere r.state.objects.pages) → IfSome found (IsHeld disks)
found_is disks None holds keeps pages = tt
found_is disks (Some r) holds keeps pages = record { holds = holds; keeps = keeps; pages = pages }

-- and recovered once its pages are read
pub recovered_on : (old new : Disks) (r : Recovered) → Stays old new → WhereTold new 2 (HasSides r.format r.state.objects.pages.sides) → WhereTold new 2 (AreObjectPages r.format r.state.repo r.state.objects.pages.sides) → IsHeld old r → IsRecovered new r
recovered_on old new r stays sides paged known = record {
  state = recorded r;
  said = refl;
  holds = holds_on old new r.log (recorded r) stays known.holds;
  keeps = known.keeps;
  pages = known.pages;
  sides = sides;
  paged = paged;
}

-- the pages that were read are pages of objects
pub has_pages : (r : Recovered) (repo : ℕ) (sides : List (ℕ × ℕ)) (disk : List ℕ) (old new : Objects) → sides ≡ r.state.objects.pages.sides → r.state.repo ≡ repo → PutsPaged r.format repo disk sides old new → AreObjectPages r.format r.state.repo r.state.objects.pages.sides disk
has_pages r repo sides disk old new same number puts = record {
  objects = puts.objects;
  paged = subst (λ (n : ℕ). ArePaged r.format n disk r.state.objects.pages.sides puts.objects) (sym number) (subst (λ (qs : List (ℕ × ℕ)). ArePaged r.format repo disk qs puts.objects) same puts.paged);
}

-- what the disks that are read stand for is what is held
pub holds_reads : (disks : Disks) (log : Place) (s : State) → Holds disks log s → (images : ℕ → List ℕ) → ReadsAs disks images → stands images ≡ Some s
holds_reads disks log s holds images reads =
    let d = log.disk in
    let other : beside d < 2 = is_log d holds.within in
    let here = reads d (omega (arith, holds.within)) in
    let agrees = holds.agrees (images d) here in
    let h = holds.told (images d) (images (beside d)) here (reads (beside d) (omega (arith, other))) agrees.opened agrees.stands in
    stands_of d images agrees.opened s holds.within agrees.stands h.under h.state

pub recovered_reads : (disks : Disks) (r : Recovered) → IsRecovered disks r → (images : ℕ → List ℕ) → ReadsAs disks images → stands images ≡ Some (recorded r)
recovered_reads disks r known images reads = holds_reads disks r.log known.state known.holds images reads ∙ ap (λ (s : State). Some s) known.said

pub reads_on : (old new : Disks) → SameContent old new → (images : ℕ → List ℕ) → ReadsAs old images → ReadsAs new images
reads_on old new same images reads d within = same d ∙ reads d within

-- the disk of pages has as many bytes as before
pub bytes_on : (old new : Disks) (n : ℕ) → Stays old new → HasBytes old n → HasBytes new n
bytes_on old new n stays has = record { told = λ bytes is. has.told bytes (sym stays.content ∙ is) }

-- the disk of pages has room for a side, where it has so many bytes
pub room_is : (format : StoreFormat) (disks : Disks) (installed : ℕ × ℕ) (n : ℕ) → HasBytes disks n → place_in format installed.0 installed.1 + page_size_in format ≤ n → HasRoom format disks installed
room_is format disks installed n has within = record { told = λ disk told. subst (λ (m : ℕ). place_in format installed.0 installed.1 + page_size_in format ≤ m) (has.told disk told) within }

-- what was read alone is as it was
pub same_on : (old new : Disks) → Stays old new → Same old new
same_on old new stays = same_beside old new 2 stays.alone stays.content stays.crash

-- disks that were synced and recovered from are as they were
pub same_recovered : (old synced new : Disks) → Same old synced → SameContent synced new → LeavesAll synced new (MayLeaveAll synced synced.time) → Same old new
same_recovered old synced new first content run = same_then old synced new first (same_content synced new content run)

-- and so where they are read page by page behind that
pub same_read : (old synced recovered new : Disks) → Same old synced → SameContent synced recovered → LeavesAll synced recovered (MayLeaveAll synced synced.time) → Stays recovered new → Same old new
same_read old synced recovered new first content run stays = same_then old recovered new (same_recovered old synced recovered first content run) (same_on recovered new stays)

-- the objects of the pages of what was recovered
pub stored_is : (images : ℕ → List ℕ) (r : Recovered) (repo : ℕ) (old new : Objects) → stands images ≡ Some (recorded r) → r.state.repo ≡ repo → PutsPaged r.format repo (images 2) r.state.objects.pages.sides old new → PutsStored images old new
stored_is images r repo old new is number puts = record {
  objects = puts.objects;
  paged = λ s other.
      let same : recorded r ≡ s = same_Some (recorded r) s (sym is ∙ other) in
      subst (λ (t : State). ArePaged t.format t.repo (images 2) t.installed puts.objects) same (subst (λ n. ArePaged r.format n (images 2) r.state.objects.pages.sides puts.objects) (sym number) puts.paged);
  put = puts.put;
}

-- disks that stand for nothing have none
pub stored_none : (images : ℕ → List ℕ) (m : Objects) → stands images ≡ None → PutsStored images m m
stored_none images m is = record { objects = []; paged = λ s other. cc; put = refl }
