-- What a run whose objects lie in a cache sees: copies as they were before the try, and what it has written.
use Rattle.std.specs.Prelude.{◌≡◌, ◌<◌, ◌&&◌, Bool, true, not, if◌then◌else◌, nat_lt, List, [], ◌∷◌, Option, Some, None, is_some, ◌⊎◌}
use Rattle.std.specs.List.Sorted.{IsStrictlySortedBy}
use Rattle.thor_value.specs.FiniteMap.{Map, empty, get, overwrite}
use Rattle.thor_value.specs.Names.{oref_cmp}
use Rattle.thor_value.specs.declared.names.Oref.{Oref}
use Rattle.thor_value.specs.declared.values.Obj.{Obj}
use Rattle.class_defs.specs.Applied.{number_of}
use Rattle.class_defs.specs.Stored.{bare}
use Rattle.class_defs.specs.declared.machine.Machine.{Machine}
use Rattle.class_defs.specs.declared.store.Object.{Object}
use Rattle.class_defs.specs.declared.store.Schema.{Schema}
use Rattle.client_cache.specs.Copies.{Contents, changed, has_written, kept, seen}
use Rattle.method_eval.specs.Names.{Names, supply}
use Rattle.method_eval.specs.Viewed.{current}

-- the copy of an object as it was before the try; objects lie in the twelve slots of a page
abbrev pub copy_of : Contents → Oref → Option Obj
copy_of c x = if nat_lt x.slot 12 then kept c x else None

-- the objects at hand, with what the try has written set aside: the copies that aren't due
abbrev pub at_hand : Schema → Contents → Oref → Option Object
at_hand s c x = current s (copy_of c x)

abbrev pub entry : Oref → Option Obj → List (Oref × Object) → List (Oref × Object)
entry x None rest = rest
entry x (Some o) rest = (x, bare o) ∷ rest

abbrev pub entries : (Oref → Option Obj) → List Oref → List (Oref × Object)
entries f [] = []
entries f (x ∷ xs) = entry x (f x) (entries f xs)

-- the objects that the try has written
unfoldable pub written_in : Contents → Map oref_cmp Object
written_in c = record { pairs = entries (changed c) c.written }

-- the state of a run, with its writes as the cache has them
abbrev pub state : Machine → Contents → Machine
state p c = record p { writes = written_in c }

-- the same with the names that the front end gives
abbrev pub whole_state : Machine → Contents → Names → Machine
whole_state p c n = record p { writes = written_in c; names = supply n }

-- the same of a run that has stopped
abbrev pub state_with : Machine → Contents → Names → Machine
state_with m c n = record m { writes = written_in c; names = supply n }

-- what the try has written is what it has noted by name
pub record Tied (c : Contents) : Type 0 where
  pub rising : IsStrictlySortedBy oref_cmp c.written
  pub marked : (x : Oref) → is_some (changed c x) ≡ has_written c x
  pub within : (x : Oref) → is_some (changed c x) ≡ true → x.slot < 12

-- both hold the same copies as they were before the try
abbrev pub Keeps : Contents → Contents → Type 0
Keeps c d = (x : Oref) → kept d x ≡ kept c x

-- each copy of the second is one of the first
abbrev pub AreAmong : (Oref → Option Obj) → (Oref → Option Obj) → Type 0
AreAmong copies left = (x : Oref) → (left x ≡ copies x) ⊎ (left x ≡ None)

-- an object as the code finds it
abbrev pub unless_due : Schema → Bool → Option Obj → Option Object
unless_due s written None = None
unless_due s written (Some o) = if nat_lt o.ver (number_of s.upgraded o.class) && not written then None else Some (bare o)

abbrev pub seen_now : Schema → Contents → Oref → Option Object
seen_now s c x = if nat_lt x.slot 12 then unless_due s (is_some (changed c x)) (seen c x) else None

-- what some writes, each in turn, make of an object
abbrev pub last_of : List (Oref × Obj) → Oref → Option Obj
last_of writes x = get {R = oref_cmp} (overwrite empty writes) x
