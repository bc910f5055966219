-- What a crash leaves of the disk of pages reaches the sides in use, and has them as they are.
use Rattle.disk_trait.proofs.Several.{goes_one}
use Rattle.disk_trait.specs.AllDisks.{GoesOn, MayLeaveAll, ReadsAs, TellsAll}
use Rattle.disk_trait.specs.Disks.{Disks, Leaves, MayLeave, NoNewImage, OnDisk, WhereTold}
use Rattle.repo_state.specs.declared.held.Held.{Held}
use Rattle.log_frame.specs.Log.{Place}
use Rattle.mob_flusher.specs.Images.{IsFlushed}
use Rattle.page_format.specs.Pages.{page_size}
use Rattle.page_store.proofs.Stores.{agrees_settled, in_use_here, in_use_other}
use Rattle.page_format.specs.Sides.{side_in_use}
use Rattle.page_store.specs.Objects.{Spells}
use Rattle.page_store.specs.Sides.{KeepsSides, ReachesSides, place_of, side_bytes}
use Rattle.page_store.specs.Store.{Agrees}
use Rattle.repo_durable.specs.Kept.{IsOpen}
use Rattle.repo_durable.specs.Pages.{AreOrPages, ArePages, IsPageOn}
use Rattle.std.proofs.Common.{List, None, Option, Some, ap, arith, drop, inl, inr, is_some, length, refl, subst, suc, sym, zero, ◌<◌, ◌∙◌, ◌≡◌, ◌⊎◌, ℕ}
use Rattle.std.proofs.lemmas.Bool.{cases_eq}
use Rattle.std.proofs.lemmas.List.{length-drop, length-take}
use Rattle.std.specs.BTreeMap.{insert_entry}
use Rattle.std.specs.Ordering.{nat_cmp}

-- ---- disks that tell

some_of : (now then : Option (List ℕ)) → is_some now ≡ is_some then → (bytes : List ℕ) → then ≡ Some bytes → (bytes : List ℕ) × (now ≡ Some bytes)
some_of (Some x) then same bytes told = (x, refl)
some_of None (Some y) same bytes told = cc
some_of None None same bytes told = cc

-- what tells behind calls told before
pub tells_before : (old new : Disks) → GoesOn old new → TellsAll new → TellsAll old
tells_before old new goes tells = λ d within. some_of (old.content d) (new.content d) (sym (goes.told d)) (tells d within).0 (tells d within).1

-- and goes on to tell
pub tells_on : (old new : Disks) → GoesOn old new → TellsAll old → TellsAll new
tells_on old new goes tells = λ d within. some_of (new.content d) (old.content d) (goes.told d) (tells d within).0 (tells d within).1

-- the bytes of each disk, where all tell
pub reads_of : (disks : Disks) → TellsAll disks → (bytes : ℕ → List ℕ) × ReadsAs disks bytes
reads_of disks tells = (bytes, reads)
  where
    bytes : ℕ → List ℕ
    bytes zero = (tells 0 (omega arith)).0
    bytes (suc zero) = (tells 1 (omega arith)).0
    bytes (suc (suc n)) = (tells 2 (omega arith)).0

    reads : (d : ℕ) → d < 3 → disks.content d ≡ Some (bytes d)
    reads zero within = (tells 0 (omega arith)).1
    reads (suc zero) within = (tells 1 (omega arith)).1
    reads (suc (suc zero)) within = (tells 2 (omega arith)).1
    reads (suc (suc (suc n))) within = let none : ⊥ = omega (arith, within) in absurd none

pub one_disk : (o : Option (List ℕ)) (a b : List ℕ) → o ≡ Some a → o ≡ Some b → a ≡ b
one_disk o a b one other = cc

-- ---- what is reached

-- Each image that a crash now may leave of the disk of pages reaches these sides, and has them as a read gives them.
pub record Reach (disks : Disks) (sides : List (ℕ × ℕ)) : Type 0 where
  pub reaches : TellsAll disks → (image : List ℕ) → MayLeave disks 2 image → ReachesSides sides image
  pub keeps : TellsAll disks → (image : List ℕ) → MayLeave disks 2 image → WhereTold disks 2 (λ disk. KeepsSides sides disk image)

-- of a disk that is settled it is what a read gives
keeps_settled : (disks : Disks) (log : Place) (held : Held) (sides : List (ℕ × ℕ)) → IsOpen disks log held → TellsAll disks → (image : List ℕ) → MayLeave disks 2 image → WhereTold disks 2 (λ disk. KeepsSides sides disk image)
keeps_settled disks log held sides stood tells image left disk told page side used =
    ap (λ (bytes : List ℕ). side_bytes bytes page side) (stood.holds.settled 2 (omega arith) disk told image left)

-- a disk of pages that is settled, and reaches the sides in use
pub reach_open : (disks : Disks) (log : Place) (held : Held) → IsOpen disks log held → Reach disks held.objects.pages.sides
reach_open disks log held stood = record {
  reaches = λ tells image left.
      let pages = tells 2 (omega arith) in
      let same : image ≡ pages.0 = stood.holds.settled 2 (omega arith) pages.0 pages.1 image left in
      subst (ReachesSides held.objects.pages.sides) (sym same) (stood.pages pages.0 pages.1).reaches;
  keeps = keeps_settled disks log held held.objects.pages.sides stood;
}

-- and those with the one that was written last
pub reach_flushed : (disks : Disks) (log : Place) (held : Held) (repo page side : ℕ) → IsOpen disks log held → IsFlushed held.objects repo page side → Reach disks (insert_entry nat_cmp held.objects.pages.sides page side)
reach_flushed disks log held repo page side stood flushed = record {
  reaches = λ tells image left.
      let pages = tells 2 (omega arith) in
      let same : image ≡ pages.0 = stood.holds.settled 2 (omega arith) pages.0 pages.1 image left in
      let number : flushed.image.number ≡ page = flushed.is_image.number ∙ flushed.number in
      let settled = agrees_settled held.objects.pages page side flushed.image number flushed.staged pages.0 (stood.pages pages.0 pages.1) in
      subst (ReachesSides (insert_entry nat_cmp held.objects.pages.sides page side)) (sym same) settled.reaches;
  keeps = keeps_settled disks log held (insert_entry nat_cmp held.objects.pages.sides page side) stood;
}

-- where the disk of pages wasn't written
pub reach_still : (old new : Disks) (sides : List (ℕ × ℕ)) → GoesOn old new → NoNewImage old new 2 → new.content 2 ≡ old.content 2 → Reach old sides → Reach new sides
reach_still old new sides goes crash content reach = record {
  reaches = λ tells image left. reach.reaches (tells_before old new goes tells) image (crash image left);
  keeps = λ tells image left disk told. reach.keeps (tells_before old new goes tells) image (crash image left) disk (sym content ∙ told);
}

-- an image that has the sides in use as they were reaches them
kept_reach : (sides : List (ℕ × ℕ)) (disk image : List ℕ) → ReachesSides sides disk → KeepsSides sides disk image → ReachesSides sides image
kept_reach sides disk image reaches keeps = λ page side used.
    let was = reaches page side used in
    let same : length (side_bytes image page side) ≡ length (side_bytes disk page side) = ap length (keeps page side used) in
    omega (arith, was, same, length-take page_size (drop (place_of page side) disk), length-drop (place_of page side) disk, length-take page_size (drop (place_of page side) image), length-drop (place_of page side) image)

-- what a read gives of the disk of pages is one of the images
read_left : (disks : Disks) → TellsAll disks → ((bytes : ℕ → List ℕ) → ReadsAs disks bytes → MayLeaveAll disks disks.time bytes) → WhereTold disks 2 (MayLeave disks 2)
read_left disks tells left disk told =
    let read = reads_of disks tells in
    subst (MayLeave disks 2) (one_disk (disks.content 2) (read.0 2) disk (read.1 2 (omega arith)) told) (left read.0 read.1 2 (omega arith))

-- where a side that isn't in use was written, a read gives the others as they were
pub keeps_written : (old new : Disks) (sides : List (ℕ × ℕ)) → OnDisk old new 2 → WhereTold old 2 (λ disk. Leaves old new 2 (KeepsSides sides disk)) → ((bytes : ℕ → List ℕ) → ReadsAs new bytes → MayLeaveAll new new.time bytes) → TellsAll new → WhereTold old 2 (λ before. WhereTold new 2 (KeepsSides sides before))
keeps_written old new sides alone any left tells before was disk told =
    (any before was).each new.time disk alone.later (omega arith) (read_left new tells left disk told)

pub reach_written : (old new : Disks) (log : Place) (held : Held) → IsOpen old log held → OnDisk old new 2 → WhereTold old 2 (λ disk. Leaves old new 2 (KeepsSides held.objects.pages.sides disk)) → ((bytes : ℕ → List ℕ) → ReadsAs new bytes → MayLeaveAll new new.time bytes) → Reach new held.objects.pages.sides
reach_written old new log held stood alone any left = record {
  reaches = λ tells image there.
      let pages = tells_before old new (goes_one old new 2 alone) tells 2 (omega arith) in
      kept_reach held.objects.pages.sides pages.0 image (stood.pages pages.0 pages.1).reaches ((any pages.0 pages.1).each new.time image alone.later (omega arith) there);
  keeps = λ tells image there disk told page side used.
      let pages = tells_before old new (goes_one old new 2 alone) tells 2 (omega arith) in
      let here = (any pages.0 pages.1).each new.time image alone.later (omega arith) there page side used in
      let read = keeps_written old new held.objects.pages.sides alone any left tells pages.0 pages.1 disk told page side used in
      here ∙ sym read;
}

-- other sides that are the same
pub reach_same : (disks : Disks) (sides others : List (ℕ × ℕ)) → others ≡ sides → Reach disks sides → Reach disks others
reach_same disks sides others same reach = subst (Reach disks) (sym same) reach

-- and the pages in memory agree with each image, where the disk of pages wasn't written
pub agrees_still : (old new : Disks) (log : Place) (held : Held) → IsOpen old log held → GoesOn old new → NoNewImage old new 2 → TellsAll new → (image : List ℕ) → MayLeave new 2 image → Agrees held.objects.pages image
agrees_still old new log held stood goes crash tells image left =
    let pages = tells_before old new goes tells 2 (omega arith) in
    let same : image ≡ pages.0 = stood.holds.settled 2 (omega arith) pages.0 pages.1 image (crash image left) in
    subst (Agrees held.objects.pages) (sym same) (stood.pages pages.0 pages.1)

-- ---- sides that are pages

pub page_same : (before after : List ℕ) (page side : ℕ) → side_bytes after page side ≡ side_bytes before page side → IsPageOn before page side → IsPageOn after page side
page_same before after page side same is = (is.0, subst (λ (bytes : List ℕ). Spells bytes page is.0) (sym same) is.1)

-- where the sides are kept
pub pages_kept : (sides : List (ℕ × ℕ)) (before after : List ℕ) → KeepsSides sides before after → ArePages sides before → ArePages sides after
pages_kept sides before after keeps are = λ page side used. page_same before after page side (keeps page side used) (are page side used)

-- sides of which each is kept, or is a page
pub pages_or : (others sides : List (ℕ × ℕ)) (before after : List ℕ) → KeepsSides others before after → AreOrPages others sides after → ArePages others before → ArePages sides after
pages_or others sides before after keeps either are = λ page side used. elim (either page side used) [
  | inl held ↦ page_same before after page side (keeps page side held) (are page side held)
  | inr is ↦ is
]

-- one more side in use
pub or_put : (others sides : List (ℕ × ℕ)) (disk : List ℕ) (page side : ℕ) → IsPageOn disk page side → AreOrPages others sides disk → AreOrPages others (insert_entry nat_cmp sides page side) disk
or_put others sides disk page side is either other used = by (cases_eq other page)
  where
    one_side : (a b : ℕ) → Some a ≡ Some b → a ≡ b
    one_side a b same = cc

    by : (other ≡ page) ⊎ (other ≡ page → ⊥) → side_in_use (insert_entry nat_cmp sides page side) other ≡ Some used → (side_in_use others other ≡ Some used) ⊎ IsPageOn disk other used
    by (inl same) there =
        let here : side ≡ used = one_side side used (sym (in_use_here sides page side) ∙ (ap (side_in_use (insert_entry nat_cmp sides page side)) (sym same) ∙ there)) in
        inr (subst (λ (u : ℕ). IsPageOn disk other u) here (subst (λ (p : ℕ). IsPageOn disk p side) (sym same) is))
    by (inr apart) there = either other used (sym (in_use_other sides page side other apart) ∙ there)

pub pages_put : (sides : List (ℕ × ℕ)) (disk : List ℕ) (page side : ℕ) → IsPageOn disk page side → ArePages sides disk → ArePages (insert_entry nat_cmp sides page side) disk
pages_put sides disk page side is are other used there = elim (or_put sides sides disk page side is (λ p s u. inl u) other used there) [
  | inl held ↦ are other used held
  | inr put ↦ put
]

-- those that are in use
pub or_same : (others sides : List (ℕ × ℕ)) (disk : List ℕ) → sides ≡ others → AreOrPages others sides disk
or_same others sides disk same = λ page side used. inl (subst (λ (ps : List (ℕ × ℕ)). side_in_use ps page ≡ Some side) same used)

-- the page that was written last is one, where the disk reads as it agrees
pub page_flushed : (disks : Disks) (log : Place) (held : Held) (repo page side : ℕ) → IsOpen disks log held → IsFlushed held.objects repo page side → WhereTold disks 2 (λ disk. IsPageOn disk page side)
page_flushed disks log held repo page side stood flushed disk told =
    let number : flushed.image.number ≡ page = flushed.is_image.number ∙ flushed.number in
    (flushed.image, subst (λ (p : ℕ). Spells (side_bytes disk p side) p flushed.image) number ((stood.pages disk told).staged flushed.image side flushed.staged))

-- and on each image, where the disk of pages wasn't written
pub page_still : (old new : Disks) (log : Place) (held : Held) (repo page side : ℕ) → IsOpen old log held → IsFlushed held.objects repo page side → GoesOn old new → NoNewImage old new 2 → TellsAll new → (image : List ℕ) → MayLeave new 2 image → IsPageOn image page side
page_still old new log held repo page side stood flushed goes crash tells image left =
    let pages = tells_before old new goes tells 2 (omega arith) in
    let same : image ≡ pages.0 = stood.holds.settled 2 (omega arith) pages.0 pages.1 image (crash image left) in
    subst (λ (bytes : List ℕ). IsPageOn bytes page side) (sym same) (page_flushed old log held repo page side stood flushed pages.0 pages.1)
