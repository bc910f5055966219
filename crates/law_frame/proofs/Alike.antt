-- Two runs of one transaction over objects that may differ, and when they go alike: wherever the objects that the
-- first has read are the same in both.
use Rattle.std.proofs.Common.{◌≡◌, Bool, true, false, cond, Option, Some, None, refl}
use Rattle.std.specs.Prelude.{◌||◌, find, is_some}
use Rattle.thor_value.proofs.FiniteMap.{get-insert}
use Rattle.thor_value.proofs.NameOrders.{oref_total}
use Rattle.thor_value.specs.FiniteMap.{Map, has, insert}
use Rattle.thor_value.specs.Names.{oref_cmp, same_oref}
use Rattle.thor_value.specs.declared.names.Oref.{Oref}
use Rattle.class_defs.specs.declared.machine.Machine.{Machine}
use Rattle.class_defs.specs.declared.machine.Receiver.{Receiver}

-- the object was read or written
abbrev pub known : Machine → Oref → Bool
known m x = has m.reads x || has m.writes x

abbrev pub ThisKnown : Machine → Option Receiver → Type 0
ThisKnown m None = Unit {0}
ThisKnown m (Some r) = known m r.oref ≡ true

-- `this` was read or written, and what was created was written
pub record Sound (m : Machine) : Type 0 where
  pub this : ThisKnown m m.this
  pub created : (x : Oref) → is_some (find (same_oref x) m.created) ≡ true → has m.writes x ≡ true

-- what was read or written stays so
pub record Grows (m n : Machine) : Type 0 where
  pub reads : (x : Oref) → has m.reads x ≡ true → has n.reads x ≡ true
  pub writes : (x : Oref) → has m.writes x ≡ true → has n.writes x ≡ true

pub grows_no : (m : Machine) → Grows m m
grows_no m = record { reads = λ x h. h; writes = λ x h. h }

pub grows_on : (m n o : Machine) → Grows m n → Grows n o → Grows m o
grows_on m n o g h = record { reads = λ x r. h.reads x (g.reads x r); writes = λ x r. h.writes x (g.writes x r) }

either : (a b c d : Bool) → (a ≡ true → c ≡ true) → (b ≡ true → d ≡ true) → (a || b) ≡ true → (c || d) ≡ true
either true b c d f g h = rw (f refl) refl
either false b true d f g h = refl
either false b false d f g h = g h

pub known_grows : (m n : Machine) → Grows m n → (x : Oref) → known m x ≡ true → known n x ≡ true
known_grows m n g x h = either _ _ _ _ (g.reads x) (g.writes x) h

pub this_grows : (m n : Machine) → Grows m n → (t : Option Receiver) → ThisKnown m t → ThisKnown n t
this_grows m n g None h = tt
this_grows m n g (Some r) h = known_grows m n g r.oref h

kept : {X : Type 0} (b : Bool) (o : Option X) (v : X) → is_some o ≡ true → is_some (cond b (Some v) o) ≡ true
kept true o v h = refl
kept false o v h = h

pub has-insert : {X : Type 0} (m : Map oref_cmp X) (k : Oref) (v : X) (x : Oref) → has m x ≡ true → has (insert m k v) x ≡ true
has-insert m k v x h = rw (get-insert oref_total m k v x) (kept _ _ v h)

pub has-inserted : {X : Type 0} (m : Map oref_cmp X) (k : Oref) (v : X) (x : Oref) → same_oref x k ≡ true → has (insert m k v) x ≡ true
has-inserted m k v x h = rw (get-insert oref_total m k v x, h) refl
