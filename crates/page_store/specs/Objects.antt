-- Pages of objects (this project's; that objects lie in slots of pages is Liskov and others, SIGMOD 1996).
use Rattle.std.specs.Prelude.{◌≡◌, ℕ, ◌<◌, ◌≤◌, List}
use Rattle.std.specs.List.{AllByRecursion}
use Rattle.thor_value.specs.FiniteMap.{empty}
use Rattle.thor_value.specs.declared.values.Obj.{Obj}
use Rattle.object_codec.specs.Spelling.{ObjFits, obj_bytes}
use Rattle.page_format.specs.Formats.{page_size_in}
use Rattle.page_format.specs.Pages.{Contents, PageFits, page_bytes_in, taken}
use Rattle.page_format.specs.declared.format.StoreFormat.{StoreFormat}
use Rattle.page_format.specs.declared.format.StoreFormat.TheVariants.{Two}

-- the slots of a page that objects are named by
abbrev pub slot_count : ℕ
slot_count = 12

-- these bytes are one object, from the first to the last
abbrev pub SpellsObject : List ℕ → Type 0
SpellsObject bytes = (object : Obj) × ObjFits object × (bytes ≡ obj_bytes object)

-- in a slot that objects are named by stands one object
abbrev pub IsObjectAt : ℕ × List ℕ → Type 0
IsObjectAt q = (q.0 < slot_count) × SpellsObject q.1

-- a page that holds objects alone
pub record HasObjects (page : Contents) : Type 0 where
  pub fits : PageFits page
  pub objects : AllByRecursion IsObjectAt page.objects.pairs

-- these bytes are a page of objects in a format, with this number
pub record SpellsIn (format : StoreFormat) (bytes : List ℕ) (number : ℕ) (page : Contents) : Type 0 where
  pub is : bytes ≡ page_bytes_in format page
  pub number_is : page.number ≡ number
  pub objects : HasObjects page
  pub room : taken page ≤ page_size_in format

-- the same in the format that is written
abbrev pub Spells : List ℕ → ℕ → Contents → Type 0
Spells bytes number page = SpellsIn Two bytes number page

-- the page that has no object
abbrev pub empty_page : ℕ → Contents
empty_page number = record { number = number; objects = empty }
