-- Pages as they stand on a disk (this project's; that objects lie in pages is Liskov and others, SIGMOD
-- 1996). What a page says is its number and a finite map from slots to bytes, and it has one spelling.
use Rattle.std.specs.Prelude.{◌≡◌, ℕ, suc, ◌+◌, ◌-◌, ◌<◌, ◌≤◌, ◌^◌, List, [], ◌∷◌, ◌++◌, length, replicate, ◌⊎◌, Result, Ok, Err}
use Rattle.page_format.specs.Formats.{format_number, page_size_in}
use Rattle.page_format.specs.declared.format.StoreFormat.{StoreFormat}
use Rattle.page_format.specs.declared.format.StoreFormat.TheVariants.{Two}
use Rattle.page_format.specs.declared.fault.Damaged.{Damaged}
use Rattle.page_format.specs.declared.fault.Damaged.TheVariants.{NoPage, NoMemory}
use Rattle.std.specs.List.{flat_map, AllByRecursion}
use Rattle.std.specs.Int.{w16, w32, to_be_bytes}
use Rattle.std.specs.Ordering.{nat_cmp}
use Rattle.thor_value.specs.FiniteMap.{Map, len}

-- the bytes of a page as it is written
abbrev pub page_size : ℕ
page_size = 16384

-- the most objects of a page, since one byte counts them
abbrev pub most_objects : ℕ
most_objects = 255

-- what a page says: its number, and the bytes of the object in each slot that has one
pub record Contents : Type 0 where
  pub number : ℕ
  pub objects : Map nat_cmp (List ℕ)

-- an object in its slot: one byte of slot, two of length, and the object's bytes
abbrev pub object_entry : ℕ × List ℕ → List ℕ
object_entry q = q.0 ∷ (to_be_bytes w16 (length q.1) ++ q.1)

-- the objects one after the other, in the order of their slots
abbrev pub entries : List (ℕ × List ℕ) → List ℕ
entries pairs = flat_map object_entry pairs

-- the head: two letters, the number of a format, how many objects there are, and four bytes of the page's number
abbrev pub head_in : StoreFormat → ℕ → ℕ → List ℕ
head_in format number count = 84 ∷ 80 ∷ format_number format ∷ count ∷ to_be_bytes w32 number

abbrev pub head : ℕ → ℕ → List ℕ
head number count = head_in Two number count

-- how many bytes of a page are taken
abbrev pub taken : Contents → ℕ
taken c = 8 + length (entries c.objects.pairs)

-- a page in a format: its head, its objects, and zeros up to the end
abbrev pub page_bytes_in : StoreFormat → Contents → List ℕ
page_bytes_in format c = (head_in format c.number (len c.objects) ++ entries c.objects.pairs) ++ replicate (page_size_in format - taken c) 0

-- a page as it is written
abbrev pub page_bytes : Contents → List ℕ
page_bytes c = page_bytes_in Two c

-- the numbers before what they stand for strictly rise, from a least one on
abbrev pub Rises : {X : Type 0} → ℕ → List (ℕ × X) → Type 0
Rises low [] = Unit {0}
Rises low (q ∷ pairs) = (low ≤ q.0) × Rises (suc q.0) pairs

-- a slot is one byte, and the length of what stands there has two
abbrev pub ObjectFits : ℕ × List ℕ → Type 0
ObjectFits q = (q.0 < 256) × (length q.1 < 2 ^ 16)

-- the objects fit a page
pub record ObjectsFit (pairs : List (ℕ × List ℕ)) : Type 0 where
  pub rising : Rises 0 pairs
  pub each : AllByRecursion ObjectFits pairs
  pub count : length pairs ≤ most_objects
  pub room : 8 + length (entries pairs) ≤ page_size

-- the pages that there are
pub record PageFits (c : Contents) : Type 0 where
  pub number : c.number < 2 ^ 32
  pub objects : ObjectsFit c.objects.pairs

-- the pages that there are in a format
pub record PageFitsIn (format : StoreFormat) (c : Contents) : Type 0 where
  pub fits : PageFits c
  pub room : taken c ≤ page_size_in format

-- a page with these objects would pass its end, or their count its byte
abbrev pub Passes : List (ℕ × List ℕ) → Type 0
Passes pairs = (page_size < 8 + length (entries pairs)) ⊎ (most_objects < length pairs)

-- a call gave these contents, unless memory ran out
abbrev pub Parsed : Result Contents Damaged → Contents → Type 0
Parsed (Ok page) c = page ≡ c
Parsed (Err NoMemory) c = Unit {0}
Parsed (Err NoPage) c = ⊥
