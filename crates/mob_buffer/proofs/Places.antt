-- Objects under their names: places are made for new names first, and then the objects are put there.
use Rattle.std.proofs.Common.{◌≡◌, ◌-◌, ◌^◌, ◌<◌, arith, Bool, true, false, cond, List, [], ◌∷◌, ◌++◌, length, take, Option, Some, None, is_some, refl, ap, sym, ◌∙◌, append-nil}
use Rattle.std.specs.Map.{lookup_entry, remove_entry, set_value}
use Rattle.std.specs.Option.{option_map_or}
use Rattle.lru.specs.LruCache.{LruCache, demoted, lru_cache, put_entries}
use Rattle.std.proofs.lemmas.List.{append_assoc, take_all}
use Rattle.std.proofs.lemmas.List.Sums.{fold-append}
use Rattle.std.proofs.Math.Seq.{take-append_seam}
use Rattle.thor_value.specs.declared.names.Oref.{Oref}
use Rattle.thor_value.specs.declared.values.Obj.{Obj}
use Rattle.mob_buffer.specs.Buffer.{Objects, object_of, same_name, with_all, with_object}
use Rattle.mob_buffer.specs.Kept.{blank, placed, with_places, with_values}
use Rattle.mob_buffer.proofs.Writes.{same_refl}

abbrev set : Objects → Oref → Obj → Objects
set objects x o = set_value (same_name x) objects o

abbrev holds : Objects → Oref → Bool
holds objects x = is_some (object_of objects x)

none_of : (o : Option Obj) → is_some o ≡ false → o ≡ None
none_of None is = refl
none_of (Some o) is = cc

none_rest : (q : Oref × Obj) (rest : Option Obj) (b : Bool) → cond b (Some q.1) rest ≡ None → (b ≡ false) × (rest ≡ None)
none_rest q rest true is = cc
none_rest q rest false is = (refl, is)

-- ---- a name that has none

pub set_none : (objects : Objects) (x : Oref) (o : Obj) → object_of objects x ≡ None → set objects x o ≡ objects
set_none [] x o is = refl
set_none (q ∷ objects) x o is =
    let both = none_rest q (object_of objects x) (same_name x q.0) is in
    ap (λ (b : Bool). cond b ((q.0, o) ∷ objects) (q ∷ set objects x o)) both.0 ∙ ap (λ (r : Objects). q ∷ r) (set_none objects x o both.1)

pub put_last : (objects : Objects) (x : Oref) (o : Obj) → object_of objects x ≡ None → with_object objects x o ≡ objects ++ (x, o) ∷ []
put_last [] x o is = refl
put_last (q ∷ objects) x o is =
    let both = none_rest q (object_of objects x) (same_name x q.0) is in
    ap (λ (b : Bool). cond b ((q.0, o) ∷ objects) (q ∷ with_object objects x o)) both.0 ∙ ap (λ (r : Objects). q ∷ r) (put_last objects x o both.1)

set_last : (objects : Objects) (x : Oref) (p o : Obj) → object_of objects x ≡ None → set (objects ++ (x, p) ∷ []) x o ≡ objects ++ (x, o) ∷ []
set_last [] x p o is = ap (λ (b : Bool). cond b ((x, o) ∷ []) ((x, p) ∷ [])) (same_refl x)
set_last (q ∷ objects) x p o is =
    let both = none_rest q (object_of objects x) (same_name x q.0) is in
    ap (λ (b : Bool). cond b ((q.0, o) ∷ (objects ++ (x, p) ∷ [])) (q ∷ set (objects ++ (x, p) ∷ []) x o)) both.0 ∙ ap (λ (r : Objects). q ∷ r) (set_last objects x p o both.1)

entry_none : (objects : Objects) (x : Oref) → object_of objects x ≡ None → lookup_entry (same_name x) objects ≡ None
entry_none [] x is = refl
entry_none (q ∷ objects) x is =
    let both = none_rest q (object_of objects x) (same_name x q.0) is in
    ap (λ (b : Bool). cond b (Some q) (lookup_entry (same_name x) objects)) both.0 ∙ entry_none objects x both.1

demoted_first : (objects : Objects) (x : Oref) (o : Obj) → demoted (same_name x) ((x, o) ∷ objects) ≡ objects ++ (x, o) ∷ []
demoted_first objects x o =
    ap (λ (b : Bool). option_map_or (λ (e : Oref × Obj). cond b objects ((x, o) ∷ remove_entry (same_name x) objects) ++ e ∷ []) (cond b (Some (x, o)) (lookup_entry (same_name x) objects)) ((x, o) ∷ objects)) (same_refl x)

-- an object that is put first and then goes last
pub put_demoted : (c : LruCache Oref Obj) (x : Oref) (o : Obj) → c.cap ≡ 2 ^ 64 - 1 → length c.entries < 2 ^ 63 → object_of c.entries x ≡ None → demoted (same_name x) (put_entries same_name c x o) ≡ with_object c.entries x o
put_demoted c x o unbounded fits none =
    ap (λ (e : Option (Oref × Obj)). demoted (same_name x) (option_map_or (λ (q : Oref × Obj). (q.0, o) ∷ remove_entry (same_name x) c.entries) e ((x, o) ∷ take (c.cap - 1) c.entries))) (entry_none c.entries x none)
    ∙ ap (λ (r : Objects). demoted (same_name x) ((x, o) ∷ r)) (take_all (c.cap - 1) c.entries (omega (arith, unbounded, fits)))
    ∙ demoted_first c.entries x o
    ∙ sym (put_last c.entries x o none)

-- ---- a name that has one

held_by : (q : Oref × Obj) (rest one two : Objects) (o : Obj) (more : Option Obj) (b : Bool) → is_some (cond b (Some q.1) more) ≡ true → (is_some more ≡ true → one ≡ two) → cond b ((q.0, o) ∷ rest) (q ∷ one) ≡ cond b ((q.0, o) ∷ rest) (q ∷ two)
held_by q rest one two o more true is same = refl
held_by q rest one two o more false is same = ap (λ (r : Objects). q ∷ r) (same is)

pub set_held : (objects : Objects) (x : Oref) (o : Obj) → holds objects x ≡ true → set objects x o ≡ with_object objects x o
set_held [] x o is = cc
set_held (q ∷ objects) x o is = held_by q objects (set objects x o) (with_object objects x o) o (object_of objects x) (same_name x q.0) is (set_held objects x o)

front_by : (q z : Oref × Obj) (rest one two : Objects) (o : Obj) (more : Option Obj) (b : Bool) → is_some (cond b (Some q.1) more) ≡ true → (is_some more ≡ true → one ≡ two ++ z ∷ []) → cond b ((q.0, o) ∷ (rest ++ z ∷ [])) (q ∷ one) ≡ cond b ((q.0, o) ∷ rest) (q ∷ two) ++ z ∷ []
front_by q z rest one two o more true is same = refl
front_by q z rest one two o more false is same = ap (λ (r : Objects). q ∷ r) (same is)

set_front : (objects : Objects) (z : Oref × Obj) (x : Oref) (o : Obj) → holds objects x ≡ true → set (objects ++ z ∷ []) x o ≡ set objects x o ++ z ∷ []
set_front [] z x o is = cc
set_front (q ∷ objects) z x o is = front_by q z objects (set (objects ++ z ∷ []) x o) (set objects x o) o (object_of objects x) (same_name x q.0) is (set_front objects z x o)

-- ---- which names have one

some_or : (c : Bool) (o p : Obj) (rest : Option Obj) → is_some (cond c (Some o) rest) ≡ is_some (cond c (Some p) rest)
some_or true o p rest = refl
some_or false o p rest = refl

some_rest : (c : Bool) (o : Obj) (one two : Option Obj) → is_some one ≡ is_some two → is_some (cond c (Some o) one) ≡ is_some (cond c (Some o) two)
some_rest true o one two same = refl
some_rest false o one two same = same

set_by : (q : Oref × Obj) (rest more : Objects) (o : Obj) (y : Oref) (b : Bool) → holds more y ≡ holds rest y → holds (cond b ((q.0, o) ∷ rest) (q ∷ more)) y ≡ holds (q ∷ rest) y
set_by q rest more o y true same = some_or (same_name y q.0) o q.1 (object_of rest y)
set_by q rest more o y false same = some_rest (same_name y q.0) q.1 (object_of more y) (object_of rest y) same

set_holds : (objects : Objects) (x : Oref) (o : Obj) (y : Oref) → holds (set objects x o) y ≡ holds objects y
set_holds [] x o y = refl
set_holds (q ∷ objects) x o y = set_by q objects (set objects x o) o y (same_name x q.0) (set_holds objects x o y)

more_by : (c : Bool) (o : Obj) (one two : Option Obj) → is_some (cond c (Some o) one) ≡ true → (is_some one ≡ true → is_some two ≡ true) → is_some (cond c (Some o) two) ≡ true
more_by true o one two is more = refl
more_by false o one two is more = more is

push_holds : (objects : Objects) (z : Oref × Obj) (x : Oref) → holds objects x ≡ true → holds (objects ++ z ∷ []) x ≡ true
push_holds [] z x is = cc
push_holds (q ∷ objects) z x is = more_by (same_name x q.0) q.1 (object_of objects x) (object_of (objects ++ z ∷ []) x) is (push_holds objects z x)

last_by : (c : Bool) (o : Obj) (rest : Option Obj) → is_some rest ≡ true → is_some (cond c (Some o) rest) ≡ true
last_by true o rest is = refl
last_by false o rest is = is

last_holds : (objects : Objects) (x : Oref) (o : Obj) → holds (objects ++ (x, o) ∷ []) x ≡ true
last_holds [] x o = ap (λ (b : Bool). is_some (cond b (Some o) None)) (same_refl x)
last_holds (q ∷ objects) x o = last_by (same_name x q.0) q.1 (object_of (objects ++ (x, o) ∷ []) x) (last_holds objects x o)

-- ---- one place

-- what a place is: as it was, or behind all
abbrev placed_by : Objects → Oref → Bool → Objects
placed_by objects x b = cond b objects (with_object objects x blank)

holds_by : (objects : Objects) (x y : Oref) (b : Bool) → holds objects y ≡ b → holds objects x ≡ true → holds (placed_by objects y b) x ≡ true
holds_by objects x y true held is = is
holds_by objects x y false held is = ap (λ (r : Objects). holds r x) (put_last objects y blank (none_of (object_of objects y) held)) ∙ push_holds objects (y, blank) x is

here_by : (objects : Objects) (x : Oref) (b : Bool) → holds objects x ≡ b → holds (placed_by objects x b) x ≡ true
here_by objects x true is = is
here_by objects x false is = ap (λ (r : Objects). holds r x) (put_last objects x blank (none_of (object_of objects x) is)) ∙ last_holds objects x blank

put_by : (objects : Objects) (x : Oref) (o : Obj) (b : Bool) → holds objects x ≡ b → set (placed_by objects x b) x o ≡ with_object objects x o
put_by objects x o true is = set_held objects x o is
put_by objects x o false is =
    let none = none_of (object_of objects x) is in
    ap (λ (r : Objects). set r x o) (put_last objects x blank none) ∙ set_last objects x blank o none ∙ sym (put_last objects x o none)

other_by : (objects : Objects) (x y : Oref) (o : Obj) (b : Bool) → holds objects y ≡ b → holds objects x ≡ true → set (placed_by objects y b) x o ≡ placed_by (set objects x o) y b
other_by objects x y o true held is = refl
other_by objects x y o false held is =
    let none = none_of (object_of objects y) held in
    let still = none_of (object_of (set objects x o) y) (set_holds objects x o y ∙ held) in
    ap (λ (r : Objects). set r x o) (put_last objects y blank none) ∙ set_front objects (y, blank) x o is ∙ sym (put_last (set objects x o) y blank still)

other : (objects : Objects) (x y : Oref) (o : Obj) → holds objects x ≡ true → set (placed objects y) x o ≡ placed (set objects x o) y
other objects x y o is =
    other_by objects x y o (holds objects y) refl is ∙ ap (λ (b : Bool). placed_by (set objects x o) y b) (sym (set_holds objects x o y))

-- ---- all places

others : (writes : List (Oref × Obj)) (objects : Objects) (x : Oref) (o : Obj) → holds objects x ≡ true → set (with_places objects writes) x o ≡ with_places (set objects x o) writes
others [] objects x o is = refl
others (w ∷ writes) objects x o is =
    others writes (placed objects w.0) x o (holds_by objects x w.0 (holds objects w.0) refl is)
    ∙ ap (λ (r : Objects). with_places r writes) (other objects x w.0 o is)

-- objects that are put where places were made for their names
pub all_put : (writes : List (Oref × Obj)) (objects : Objects) → with_values (with_places objects writes) writes ≡ with_all objects writes
all_put [] objects = refl
all_put (w ∷ writes) objects =
    ap (λ (r : Objects). with_values r writes)
    (others writes (placed objects w.0) w.0 w.1 (here_by objects w.0 (holds objects w.0) refl)
    ∙ ap (λ (r : Objects). with_places r writes) (put_by objects w.0 w.1 (holds objects w.0) refl))
    ∙ all_put writes (with_object objects w.0 w.1)

pub places_push : (objects : Objects) (earlier : List (Oref × Obj)) (w : Oref × Obj) → with_places objects (earlier ++ w ∷ []) ≡ placed (with_places objects earlier) w.0
places_push objects earlier w = fold-append (λ (done : Objects) (v : Oref × Obj). placed done v.0) objects earlier (w ∷ [])

-- ---- what was there stays before all

place_behind : (objects : Objects) (x : Oref) (b : Bool) → holds objects x ≡ b → (more : Objects) × (placed_by objects x b ≡ objects ++ more)
place_behind objects x true is = ([], sym (append-nil objects))
place_behind objects x false is = ((x, blank) ∷ [], put_last objects x blank (none_of (object_of objects x) is))

places_behind : (writes : List (Oref × Obj)) (objects : Objects) → (more : Objects) × (with_places objects writes ≡ objects ++ more)
places_behind [] objects = ([], sym (append-nil objects))
places_behind (w ∷ writes) objects =
    let first = place_behind objects w.0 (holds objects w.0) refl in
    let rest = places_behind writes (placed objects w.0) in
    (first.0 ++ rest.0, rest.1 ∙ ap (λ (r : Objects). r ++ rest.0) first.1 ∙ append_assoc objects first.0 rest.0)

pub places_kept : (writes : List (Oref × Obj)) (objects : Objects) → take (length objects) (with_places objects writes) ≡ objects
places_kept writes objects =
    let behind = places_behind writes objects in
    ap (λ (r : Objects). take (length objects) r) behind.1 ∙ take-append_seam objects behind.0

-- places are made, and then the objects are put there
pub loaded : (before made after : LruCache Oref Obj) (writes items : List (Oref × Obj)) → made ≡ lru_cache (with_places before.entries writes) before.cap → after ≡ lru_cache (with_values made.entries items) made.cap → items ≡ writes → after ≡ lru_cache (with_all before.entries writes) before.cap
loaded before made after writes items places put same =
    put
    ∙ ap (λ (c : LruCache Oref Obj). lru_cache (with_values c.entries items) c.cap) places
    ∙ ap (λ (l : List (Oref × Obj)). lru_cache (with_values (with_places before.entries writes) l) before.cap) same
    ∙ ap (λ (r : Objects). lru_cache r before.cap) (all_put writes before.entries)
