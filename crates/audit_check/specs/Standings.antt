-- What a history has of each item.
use Rattle.std.specs.Ordering.{nat_cmp}
use Rattle.std.specs.Prelude.{◌≡◌, ◌+◌, ◌<◌, ◌==◌, ◌&&◌, ℕ, nat_lt, min, Bool, true, false, if◌then◌else◌, List, [], ◌∷◌, Option, None, Some}
use Rattle.thor_value.specs.FiniteMap.{Map, get}
use Rattle.thor_value.specs.declared.values.Who.{Who}
use Rattle.serial_model.specs.Outcomes.{same_who}
use Rattle.serial_model.specs.declared.entries.Did.{Did}
use Rattle.top_history_check.specs.Places.{key}
use Rattle.audit_check.specs.declared.standing.Standing.{Standing}
use Rattle.audit_check.specs.declared.standing.Standing.TheVariants.{Once, Twice}

-- whether a number is below the least one, where there is one
abbrev pub is_below : Option ℕ → ℕ → Bool
is_below None index = true
is_below (Some least) index = nat_lt index least

-- the least number, with one more
abbrev pub lesser : Option ℕ → ℕ → ℕ
lesser None index = index
lesser (Some least) index = min least index

abbrev pub is_later : Bool → ℕ → ℕ → Bool
is_later true of index = nat_lt index of
is_later false of index = true

-- whether all entries of a client are of items with greater numbers than this
abbrev pub are_later : List Did → ℕ → ℕ → Bool
are_later [] client index = true
are_later (d ∷ ds) client index = is_later (d.who.client == client) d.who.index index && are_later ds client index

-- what stands of an item with one entry more in front
abbrev pub one_more : ℕ → Bool → Option Standing → Standing
one_more place in_order None = Once place in_order
one_more place in_order (Some s) = Twice

-- what stands of an item by the entries from a place on
abbrev pub standing_of : ℕ → List Did → Who → Option Standing
standing_of place [] who = None
standing_of place (d ∷ ds) who =
    if same_who d.who who
    then Some (one_more place (are_later ds d.who.client d.who.index) (standing_of (place + 1) ds who))
    else standing_of (place + 1) ds who

-- these are the least numbers of the items that entries of each client are of
abbrev pub AreLeast : Map nat_cmp ℕ → List Did → Type 0
AreLeast least ds = (client index : ℕ) → is_below (get least client) index ≡ are_later ds client index

-- this is what stands of each item by the entries from a place on
abbrev pub StandFrom : Map nat_cmp Standing → ℕ → List Did → Type 0
StandFrom standings place ds = (who : Who) → who.index < 4294967296 → get standings (key who) ≡ standing_of place ds who

-- this is what stands of each item in a history
abbrev pub Stand : Map nat_cmp Standing → List Did → Type 0
Stand standings history = StandFrom standings 0 history
