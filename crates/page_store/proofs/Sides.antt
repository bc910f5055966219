-- The sides of pages on their disk stand apart.
use Rattle.std.proofs.Common.{◌≡◌, ◌≢◌, ℕ, suc, ◌+◌, ◌-◌, ◌*◌, ◌<◌, ◌≤◌, Bool, true, false, cond, List, [], ◌∷◌, ◌++◌, length, take, drop, replicate, Option, Some, None, is_some, refl, ap, sym, subst, ◌∙◌, arith, inl, inr, ◌⊎◌}
use Rattle.std.specs.List.{AllByRecursion}
use Rattle.std.specs.Ordering.{nat_cmp, is_eq}
use Rattle.std.proofs.lemmas.Bool.{cases_lt}
use Rattle.thor_value.specs.FiniteMap.{len as object_count}
use Rattle.page_format.specs.Pages.{Contents, PageFits, entries, head, page_bytes, page_size, taken}
use Rattle.page_format.specs.Sides.{SideFits, SidesFit, side_in_use}
use Rattle.page_store.specs.Objects.{HasObjects, Spells}
use Rattle.page_store.specs.Sides.{KeepsSides, ReachesSides, Shows, next_side, place_of, side_bytes}
use Rattle.disk_trait.specs.Disks.{Disks, Leaves, IsSettled, Torn, written}
use Rattle.disk_trait.proofs.Runs.{leaves_none}
use Rattle.page_store.proofs.Tears.{Outside, kept_elsewhere, torn_outside, written_here, written_outside}
use Rattle.std.proofs.lemmas.List.{length-take, length-drop, length-append, length-replicate}

-- a side in use is 0 or 1
in_use_by : (q : ℕ × ℕ) (side : ℕ) (b : Bool) (rest : Option ℕ) → q.1 < 2 → (rest ≡ Some side → side < 2) → cond b (Some q.1) rest ≡ Some side → side < 2
in_use_by q side true rest fits more is = let same : q.1 ≡ side = cc in omega arith
in_use_by q side false rest fits more is = more is

in_use_among : (pairs : List (ℕ × ℕ)) (page side : ℕ) → AllByRecursion SideFits pairs → side_in_use pairs page ≡ Some side → side < 2
in_use_among [] page side fits is = cc
in_use_among (q ∷ pairs) page side fits is = in_use_by q side (is_eq (nat_cmp page q.0)) (side_in_use pairs page) fits.0.1 (λ h. in_use_among pairs page side fits.1 h) is

pub in_use_fits : (pairs : List (ℕ × ℕ)) (page side : ℕ) → SidesFit pairs → side_in_use pairs page ≡ Some side → side < 2
in_use_fits pairs page side fit is = in_use_among pairs page side fit.each is

-- two sides that aren't one stand apart
pub sides_apart : (page side other that : ℕ) → side < 2 → that < 2 → (page ≡ other → side ≡ that → ⊥) → (place_of page side + page_size ≤ place_of other that) ⊎ (place_of other that + page_size ≤ place_of page side)
sides_apart page side other that s t apart = elim (cases_lt (2 * page + side) (2 * other + that)) [
  | inl below ↦ inl (omega arith)
  | inr above ↦ inr (elim (cases_lt (2 * other + that) (2 * page + side)) [
    | inl strictly ↦ omega arith
    | inr same ↦ absurd (apart (omega arith) (omega arith))
  ])
]

next_by : (in_use : Option ℕ) (side : ℕ) → side < 2 → in_use ≡ Some side → next_side in_use ≡ side → ⊥
next_by None side fits is same = cc
next_by (Some used) side fits is same = let e : used ≡ side = cc in absurd (omega (arith, same))

-- the side that is written isn't one in use
pub next_apart : (sides : List (ℕ × ℕ)) (page other side : ℕ) → side < 2 → side_in_use sides other ≡ Some side → page ≡ other → next_side (side_in_use sides page) ≡ side → ⊥
next_apart sides page other side fits is same next = next_by (side_in_use sides other) side fits is (ap (λ (p : ℕ). next_side (side_in_use sides p)) (sym same) ∙ next)

next_below : (in_use : Option ℕ) → next_side in_use < 2
next_below None = omega arith
next_below (Some side) = omega arith

-- what changes the side alone that is written next leaves the sides in use
module _ (sides : List (ℕ × ℕ)) (page : ℕ) (disk image : List ℕ) (fit : SidesFit sides) (reaches : ReachesSides sides disk) (outside : Outside (place_of page (next_side (side_in_use sides page))) page_size disk image) where
  pub keeps_sides : KeepsSides sides disk image
  keeps_sides other side is =
      let below = in_use_fits sides other side fit is in
      let written = next_side (side_in_use sides page) in
      let out : (place_of other side + page_size ≤ place_of page written) ⊎ (place_of page written + page_size ≤ place_of other side) =
      sides_apart other side page written below (next_below (side_in_use sides page)) (λ same next. next_apart sides page other side below is (sym same) (sym next)) in
      kept_elsewhere (place_of page written) page_size (place_of other side) page_size disk image outside (reaches other side is) out

  pub reaches_still : ReachesSides sides image
  reaches_still other side is = let more = outside.no_shorter in let was = reaches other side is in omega arith

  shows_by : (in_use : Option ℕ) (other : ℕ) (contents : Contents) → side_in_use sides other ≡ in_use → Shows disk in_use other contents → Shows image in_use other contents
  shows_by None other contents is shows = shows
  shows_by (Some side) other contents is shows = subst (λ (bytes : List ℕ). Spells bytes other contents) (sym (keeps_sides other side is)) shows

  pub shows_still : (other : ℕ) (contents : Contents) → Shows disk (side_in_use sides other) other contents → Shows image (side_in_use sides other) other contents
  shows_still other contents shows = shows_by (side_in_use sides other) other contents refl shows

page_length : (c : Contents) → PageFits c → length (page_bytes c) ≡ page_size
page_length c fits =
    let room = fits.objects.room in
    let front = head c.number (object_count c.objects) in
    let body = entries c.objects.pairs in
    omega (arith, length-append (front ++ body) (replicate (page_size - taken c) 0), length-append front body, length-replicate {A = ℕ} (page_size - taken c) 0)

-- where a page of objects stands, the disk reaches
pub spelled_reaches : (disk : List ℕ) (page side : ℕ) (found : Contents) → Spells (side_bytes disk page side) page found → place_of page side + page_size ≤ length disk
spelled_reaches disk page side found spells =
    let size : length (side_bytes disk page side) ≡ page_size = ap length spells.is ∙ page_length found spells.objects.fits in
    omega (arith, size, length-take page_size (drop (place_of page side) disk), length-drop (place_of page side) disk)

-- ---- through an install

-- a disk that told its content before told it at first
pub told_before : (before after : Option (List ℕ)) (now : List ℕ) → is_some after ≡ is_some before → after ≡ Some now → (was : List ℕ) × (before ≡ Some was)
told_before (Some was) after now same told = (was, refl)
told_before None (Some other) now same told = cc
told_before None None now same told = cc

-- what a write leaves at each moment has the sides in use
pub keeps_torn : (sides : List (ℕ × ℕ)) (page side : ℕ) (disk image : List ℕ) → SidesFit sides → ReachesSides sides disk → side ≡ next_side (side_in_use sides page) → Torn (place_of page side) page_size disk image → KeepsSides sides disk image
keeps_torn sides page side disk image fit reaches is torn =
    keeps_sides sides page disk image fit reaches (torn_outside _ page_size disk image (subst (λ (s : ℕ). Torn (place_of page s) page_size disk image) is torn))

pub keeps_none : (disks : Disks) (sides : List (ℕ × ℕ)) (disk : List ℕ) → IsSettled disks 2 → disks.content 2 ≡ Some disk → Leaves disks disks 2 (KeepsSides sides disk)
keeps_none disks sides disk settled told =
    leaves_none disks 2 (KeepsSides sides disk) (λ image left. subst (KeepsSides sides disk) (sym (settled disk told image left)) (λ page side is. refl))

-- what was written stands on its side
module _ (disk put : List ℕ) (page side : ℕ) (contents : Contents) (number : contents.number ≡ page) (is : put ≡ page_bytes contents) (objects : HasObjects contents) where
  put_size : length put ≡ page_size
  put_size = ap length is ∙ page_length contents objects.fits

  pub spells_written : Spells (side_bytes (written disk (place_of page side) put) page side) page contents
  spells_written = record {
    is = ap (λ (n : ℕ). take n (drop (place_of page side) (written disk (place_of page side) put))) (sym put_size) ∙ written_here disk (place_of page side) put ∙ is;
    number_is = number;
    objects = objects;
    room = objects.fits.objects.room;
  }

  pub outside_written : Outside (place_of page side) page_size disk (written disk (place_of page side) put)
  outside_written = subst (λ (n : ℕ). Outside (place_of page side) n disk (written disk (place_of page side) put)) put_size (written_outside disk (place_of page side) put)

pub same_bytes : (a b : List ℕ) → Some a ≡ Some b → a ≡ b
same_bytes a b is = cc

pub keeps_outside : (sides : List (ℕ × ℕ)) (page side : ℕ) (disk image : List ℕ) → SidesFit sides → ReachesSides sides disk → side ≡ next_side (side_in_use sides page) → Outside (place_of page side) page_size disk image → KeepsSides sides disk image
keeps_outside sides page side disk image fit reaches is outside =
    keeps_sides sides page disk image fit reaches (subst (λ (s : ℕ). Outside (place_of page s) page_size disk image) is outside)
