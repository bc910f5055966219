-- Reading an object from the front of bytes, with the first fault that is met. Each reader answers what it
-- read and the bytes behind it.
use Rattle.std.specs.Prelude.{◌≡◌, ℕ, zero, suc, ◌≤◌, List, [], ◌∷◌, length, drop, Result, Ok, Err, nat_le}
use Rattle.std.specs.Int.{w16, w32}
use Rattle.thor_value.specs.Formats.{◌>>=◌}
use Rattle.thor_value.specs.Reading.{byte_at, number_at, value_at}
use Rattle.thor_value.specs.declared.values.Obj.{Obj}
use Rattle.thor_value.specs.declared.values.Value.{Value}
use Rattle.thor_value.specs.declared.bytes.ReadFault.{ReadFault}
use Rattle.thor_value.specs.declared.bytes.ReadFault.TheVariants as value_faults
use Rattle.object_codec.specs.declared.fault.ObjFault.{ObjFault}
use Rattle.object_codec.specs.declared.fault.ObjFault.TheVariants.{Short, BadTag, TooLarge, NoMemory}

-- a fault of a value as one of the object
abbrev pub lifted : {A : Type 0} → Result A ReadFault → Result A ObjFault
lifted (Ok x) = Ok x
lifted (Err value_faults.Short) = Err Short
lifted (Err value_faults.BadTag) = Err BadTag

-- a count of fields, of at most 32
abbrev pub count_at : List ℕ → Result (ℕ × List ℕ) ObjFault
count_at bytes = byte_at Short (λ n. nat_le n 32) (λ n. TooLarge n) bytes

unfoldable pub fields_at : ℕ → List ℕ → Result (List Value × List ℕ) ObjFault
fields_at zero bytes = Ok ([], bytes)
fields_at (suc n) bytes = do
  first ← lifted (value_at bytes)
  others ← fields_at n first.1
  Ok (first.0 ∷ others.0, others.1)

unfoldable pub obj_at : List ℕ → Result (Obj × List ℕ) ObjFault
obj_at bytes = do
  class ← number_at Short w16 bytes
  ver ← number_at Short w32 class.1
  count ← count_at ver.1
  fields ← fields_at count.0 count.1
  Ok (record { class = class.0; ver = ver.0; fields = fields.0 }, fields.1)

-- a fault that a function returned is the one of reading, unless memory ran out
abbrev pub Fails : {Y : Type 0} → ObjFault → Result Y ObjFault → Type 0
Fails NoMemory read = Unit {0}
Fails e read = read ≡ Err e

-- a function that returns a value and the bytes behind it gives what reading gives, unless memory ran out
abbrev pub Gives : {X Y : Type 0} → (X → Y) → Result X ObjFault → Result Y ObjFault → Type 0
Gives view (Ok x) read = read ≡ Ok (view x)
Gives view (Err e) read = Fails e read

-- a function that returns a value and its length gives what reading gives, unless memory ran out
abbrev pub Counts : {V : Type 0} → List ℕ → Result (V × ℕ) ObjFault → Result (V × List ℕ) ObjFault → Type 0
Counts bytes (Ok x) read = (read ≡ Ok (x.0, drop x.1 bytes)) × (x.1 ≤ length bytes)
Counts bytes (Err e) read = Fails e read
