-- The pages of a new store (this project's): on each stand the roots of the setup that lie there, as they begin.
use Rattle.class_defs.specs.Steps.{beginning}
use Rattle.class_defs.specs.Types.{fields_of, type_named}
use Rattle.class_defs.specs.declared.classes.Class.{Class}
use Rattle.class_defs.specs.declared.store.Root.{Root}
use Rattle.class_defs.specs.declared.store.Setup.{Setup}
use Rattle.disk_trait.specs.Disks.{Disks, WhereTold}
use Rattle.mob_flusher.specs.Images.{overlaid}
use Rattle.page_format.specs.Pages.{Contents}
use Rattle.page_format.specs.Sides.{side_in_use}
use Rattle.page_store.specs.Objects.{empty_page}
use Rattle.page_store.specs.Sides.{Shows}
use Rattle.std.specs.List.{fold}
use Rattle.std.specs.Prelude.{Bool, List, Some, cond, map, nat_eq, nat_lt, ◌&&◌, ◌≡◌, ℕ}
use Rattle.thor_value.specs.declared.values.Obj.{Obj}

-- an object of a class as it begins, before any upgrade
abbrev pub first_object : List Class → ℕ → Obj
first_object classes class = record { class = class; ver = 0; fields = map (λ f. beginning (type_named classes f.type_name)) (fields_of classes class) }

-- a root lies on a page of a repository
abbrev pub lies_on : ℕ → ℕ → Root → Bool
lies_on repo page root = nat_eq root.oref.repo repo && nat_eq root.oref.page page

-- a page with the object of a root in its slot
abbrev pub with_root : List Class → Contents → Root → Contents
with_root classes made root = overlaid made root.oref.slot (Some (first_object classes root.class))

-- the same where the root lies on the page
abbrev pub with_own_root : List Class → ℕ → ℕ → Contents → Root → Contents
with_own_root classes repo page made root = cond (lies_on repo page root) (with_root classes made root) made

-- a page of a repository of a new store
abbrev pub first_page : ℕ → Setup → ℕ → Contents
first_page repo setup page = fold (with_own_root setup.schema.classes repo page) (empty_page page) setup.roots

-- Each page of a repository, by the side of it that is in use on this disk, has the setup's roots that lie on it, as they
-- begin, and nothing else.
pub record HasRoots (repo : ℕ) (setup : Setup) (sides : List (ℕ × ℕ)) (disk : List ℕ) : Type 0 where
  pub each : (page : ℕ) → Shows disk (side_in_use sides page) page (first_page repo setup page)

-- ---- while they are written

-- a page where those before this one are written
abbrev pub page_by : ℕ → ℕ → Setup → ℕ → Contents
page_by end repo setup page = cond (nat_lt page end) (first_page repo setup page) (empty_page page)

-- the pages before this one are written
pub record HasRootsTo (end repo : ℕ) (setup : Setup) (sides : List (ℕ × ℕ)) (disk : List ℕ) : Type 0 where
  pub each : (page : ℕ) → Shows disk (side_in_use sides page) page (page_by end repo setup page)

-- A page was written on the disk of pages and is in use; the others show what they showed.
pub record PutsPage (old new : Disks) (before after : List (ℕ × ℕ)) (page : ℕ) (contents : Contents) : Type 0 where
  pub here : WhereTold new 2 (λ disk. Shows disk (side_in_use after page) page contents)
  pub others : WhereTold old 2 (λ was. WhereTold new 2 (λ disk. (other : ℕ) (that : Contents) → (other ≡ page → ⊥) → Shows was (side_in_use before other) other that → Shows disk (side_in_use after other) other that))
