-- Finite maps: from keys in an order R to values, as the list of their pairs in that order. The
-- words are those of std's `BTreeMap`, whose entries are such a list, so code that keeps one has
-- this map as its view. It is data: it computes, and a model's `Value` may contain it.
use Rattle.std.specs.Prelude.{Bool, true, List, [], length, refl, ℕ, is_some}
use Rattle.std.specs.BTreeMap.{insert_entry, is_at}
use Rattle.std.specs.Coded.{Coded, code_by, coded×, coded_bool, coded_list}
use Rattle.std.specs.List.{filter, fold}
use Rattle.std.specs.List.Sorted.{IsStrictlySortedBy}
use Rattle.std.specs.Map.{lookup, remove_entry, keys_of, values_of}
use Rattle.std.specs.declared.cmp.Ordering.{Ordering}
use Rattle.std.specs.declared.option.Option.{Option}

-- a finite map from keys in the order R to values of X
pub record Map {K : Type 0} (R : K → K → Ordering) (X : Type 0) : Type 0 where
  pub pairs : List (K × X)

module _ {K X : Type 0} {R : K → K → Ordering} where
  -- the map that has no key
  abbrev pub empty : Map R X
  empty = record { pairs = [] }

  -- the value at a key, or None
  abbrev pub get : Map R X → K → Option X
  get m q = lookup (is_at (R q)) m.pairs

  -- whether a key has a value
  abbrev pub has : Map R X → K → Bool
  has m q = is_some (get m q)

  -- the map with v at k, in the place of the value before
  abbrev pub insert : Map R X → K → X → Map R X
  insert m k v = record { pairs = insert_entry R m.pairs k v }

  -- the map without the key k
  abbrev pub remove : Map R X → K → Map R X
  remove m k = record { pairs = remove_entry (is_at (R k)) m.pairs }

  -- the map with the keys alone that pass the test
  abbrev pub keep : Map R X → (K → Bool) → Map R X
  keep m test = record { pairs = filter (λ e. test e.0) m.pairs }

  -- the map with each of the pairs in turn
  abbrev pub overwrite : Map R X → List (K × X) → Map R X
  overwrite m kvs = fold (λ n kv. insert n kv.0 kv.1) m kvs

  -- the keys, in their order
  abbrev pub keys : Map R X → List K
  keys m = keys_of m.pairs

  -- the values, in the order of their keys
  abbrev pub values : Map R X → List X
  values m = values_of m.pairs

  -- how many keys have a value
  abbrev pub len : Map R X → ℕ
  len m = length m.pairs

  -- the keys strictly rise, as `empty`, `insert` and `remove` leave them
  abbrev pub IsSorted : Map R X → Type 0
  IsSorted m = IsStrictlySortedBy R (keys m)

  -- a finite map as it is stored: its pairs
  abbrev pub code : Coded K → Coded X → Coded (Map R X)
  code k x = code_by (List (K × X)) (coded_list (coded× k x)) (λ m. m.pairs) (λ p. record { pairs = p }) (λ _. refl)

-- a finite set of keys in the order R
abbrev pub Set : {K : Type 0} → (K → K → Ordering) → Type 0
Set R = Map R (Unit {0})

-- the set with one more key
abbrev pub add : {K : Type 0} {R : K → K → Ordering} → Set R → K → Set R
add m k = insert m k tt

-- a set is a map to the one value that says nothing
abbrev pub coded_unit : Coded (Unit {0})
coded_unit = code_by Bool coded_bool (λ _. true) (λ _. tt) (λ _. refl)
