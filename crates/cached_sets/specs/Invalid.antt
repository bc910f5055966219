-- The invalid sets of sessions: for each object of which a session may have a copy that isn't current,
-- the place of its last write by another session. (Invalid sets: Adya and others, SIGMOD 1995. Places
-- are this project's.)
use Rattle.std.specs.BTreeMap.{is_at}
use Rattle.std.specs.List.{filter}
use Rattle.std.specs.Map.{set_value}
use Rattle.std.specs.Option.{option_and_then, unwrap_or}
use Rattle.std.specs.Ordering.{is_lt, nat_cmp}
use Rattle.std.specs.Prelude.{Bool, List, None, Option, Some, cond, find, nat_le, true, ℕ}
use Rattle.std.specs.declared.cmp.Ordering.{Ordering}
use Rattle.thor_value.specs.FiniteMap.{Map, empty, get, insert}
use Rattle.thor_value.specs.Names.{oref_cmp}
use Rattle.thor_value.specs.declared.names.Oref.{Oref}
use Rattle.validation_queue.specs.Clashes.{first_some}

-- the invalid set of one session
abbrev pub Invalid : Type 0
Invalid = Map oref_cmp ℕ

-- the invalid sets of some sessions
abbrev pub Invalids : Type 0
Invalids = Map nat_cmp Invalid

-- the set of the session s, which is empty where there is none
abbrev pub set_of : Invalids → ℕ → Invalid
set_of N s = unwrap_or (get N s) empty

-- a map with another value at a key that is there
abbrev pub replace : {K X : Type 0} {R : K → K → Ordering} → Map R X → K → X → Map R X
replace {R = R} m k v = record { pairs = set_value (is_at (R k)) m.pairs v }

abbrev pub changed : Invalids → ℕ → (Invalid → Invalid) → Option Invalid → Invalids
changed N s f None = N
changed N s f (Some m) = replace N s (f m)

-- with another set of the session s, where it has one
abbrev pub change : Invalids → ℕ → (Invalid → Invalid) → Invalids
change N s f = changed N s f (get N s)

-- x was written at the place k, and the session s may have a copy
abbrev pub mark : Invalids → ℕ → Oref → ℕ → Invalids
mark N s x k = change N s (λ m. insert m x k)

-- a set without what was written below a place
abbrev pub from : ℕ → Invalid → Invalid
from upto m = record { pairs = filter (λ e. nat_le upto e.1) m.pairs }

-- the copy of x, where the place k of its last write isn't below upto
abbrev pub if_behind : ℕ → Oref → ℕ → Option (Oref × ℕ)
if_behind upto x k = cond (nat_le upto k) (Some (x, k)) None

-- the first of some names that the set has at a place not below upto, with that place
abbrev pub first_stale : Invalid → ℕ → List Oref → Option (Oref × ℕ)
first_stale m upto names = first_some (λ x. option_and_then (if_behind upto x) (get m x)) names

-- whether x comes behind the last name, where there is one
abbrev pub comes_behind : Option Oref → Oref → Bool
comes_behind None x = true
comes_behind (Some last) x = is_lt (oref_cmp last x)

-- one step of a walk over the set, names rising
abbrev pub next_of : Invalid → Option Oref → Option (Oref × ℕ)
next_of m last = find (λ e. comes_behind last e.0) m.pairs
