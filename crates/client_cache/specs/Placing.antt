-- What a page brings.
use Rattle.std.specs.Prelude.{◌≡◌, ◌<◌, ℕ, List, Option, Some}
use Rattle.std.specs.Option.{option_map}
use Rattle.object_codec.specs.Spelling.{ObjFits, obj_bytes}
use Rattle.page_format.specs.Pages as page
use Rattle.thor_value.specs.FiniteMap.{get}
use Rattle.thor_value.specs.declared.values.Obj.{Obj}

-- the bytes spell this object
pub record IsObject (bytes : List ℕ) (o : Obj) : Type 0 where
  pub fits : ObjFits o
  pub spelled : bytes ≡ obj_bytes o

-- the page has just these objects in its slots, of which there are twelve
pub record Brings (c : page.Contents) (objects : ℕ → Option Obj) : Type 0 where
  pub slots : (s : ℕ) → get c.objects s ≡ option_map obj_bytes (objects s)
  pub fits : (s : ℕ) (o : Obj) → objects s ≡ Some o → (s < 12) × ObjFits o

-- the bytes spell the page of this number with just these objects
pub record IsPageOf (bytes : List ℕ) (number : ℕ) (objects : ℕ → Option Obj) : Type 0 where
  pub contents : page.Contents
  pub fits : page.PageFits contents
  pub spelled : bytes ≡ page.page_bytes contents
  pub number_is : contents.number ≡ number
  pub brings : Brings contents objects

-- the bytes spell such a page
abbrev pub IsObjectPage : List ℕ → ℕ → Type 0
IsObjectPage bytes number = (objects : ℕ → Option Obj) × IsPageOf bytes number objects

-- in a slot that objects are named by stand bytes
abbrev pub HasName : ℕ × List ℕ → Type 0
HasName q = q.0 < 12
