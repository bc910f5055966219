-- Twelve objects always fit in a page.
use Rattle.std.proofs.Common.{◌≡◌, ℕ, suc, ◌+◌, ◌*◌, ◌^◌, ◌<◌, ◌≤◌, cond, List, [], ◌∷◌, ◌++◌, length, Option, Some, Result, Ok, Err, OnOk, OnErr, ap, sym, subst, ◌∙◌, arith, inl, inr, length-append, append-nil}
use Rattle.std.specs.List.{AllByRecursion, flat_map}
use Rattle.std.specs.Ordering.{nat_cmp, match_ordering, is_eq}
use Rattle.std.specs.declared.cmp.Ordering.{Ordering}
use Rattle.std.specs.declared.cmp.Ordering.TheVariants.{Less, Equal, Greater}
use Rattle.std.specs.BTreeMap.{insert_entry, is_at}
use Rattle.std.specs.Map.{lookup}
use Rattle.std.proofs.lemmas.List.Concat.{flat_map-cons}
use Rattle.thor_value.specs.FiniteMap.{insert}
use Rattle.thor_value.specs.declared.values.Obj.{Obj}
use Rattle.thor_value.specs.declared.values.Value.{Value}
use Rattle.thor_value.specs.declared.values.Value.TheVariants.{Int, Ref, Null, Text}
use Rattle.thor_value.specs.Spelling.{ValueFits, value_bytes}
use Rattle.thor_value.proofs.TextBytes.{few_letters}
use Rattle.object_codec.specs.Spelling.{Answered, ObjFits, obj_bytes}
use Rattle.object_codec.specs.declared.fault.ObjFault.{ObjFault}
use Rattle.page_format.specs.Pages.{Contents, ObjectsFit, Passes, Rises, entries, object_entry}
use Rattle.page_format.specs.declared.fault.Full.{Full}
use Rattle.page_format.proofs.Splices.{rises_put}
use Rattle.page_store.specs.Objects.{HasObjects, IsObjectAt, SpellsObject}

abbrev pub Pairs : Type 0
Pairs = List (ℕ × List ℕ)

-- ---- how long an object is

value_size : (value : Value) → ValueFits value → length (value_bytes value) ≤ 34
value_size (Int z) fits = omega arith
value_size (Ref o) fits = omega arith
value_size Null fits = omega arith
value_size (Text w) fits = let few = few_letters w fits in omega (arith, few)

fields_size : (fields : List Value) → AllByRecursion ValueFits fields → length (flat_map value_bytes fields) ≤ 34 * length fields
fields_size [] all = omega arith
fields_size (value ∷ fields) all =
    let first = value_size value all.0 in
    let rest = fields_size fields all.1 in
    let long : length (flat_map value_bytes (value ∷ fields)) ≡ length (value_bytes value) + length (flat_map value_bytes fields) = ap length (flat_map-cons value_bytes value fields) ∙ length-append (value_bytes value) (flat_map value_bytes fields) in
    omega (arith, first, rest, long)

object_size : (object : Obj) → ObjFits object → length (obj_bytes object) ≤ 1095
object_size object fits = let most = fields_size object.fields fits.fields in let few = fits.count in omega (arith, most, few)

-- ---- how long a page of objects is

few_objects : (low : ℕ) (pairs : Pairs) → low ≤ 12 → Rises low pairs → AllByRecursion IsObjectAt pairs → low + length pairs ≤ 12
few_objects low [] le rises all = omega arith
few_objects low (q ∷ pairs) le rises all =
    let below = all.0.0 in
    let from = rises.0 in
    let more = few_objects (suc q.0) pairs (omega arith) rises.1 all.1 in
    omega arith

entries_size : (pairs : Pairs) → AllByRecursion IsObjectAt pairs → length (entries pairs) ≤ 1098 * length pairs
entries_size [] all = omega arith
entries_size (q ∷ pairs) all =
    let size : length q.1 ≤ 1095 = subst (λ (n : ℕ). n ≤ 1095) (sym (ap length all.0.1.2)) (object_size all.0.1.0 all.0.1.1) in
    let rest = entries_size pairs all.1 in
    let long : length (entries (q ∷ pairs)) ≡ length (object_entry q) + length (entries pairs) = ap length (flat_map-cons object_entry q pairs) ∙ length-append (object_entry q) (entries pairs) in
    omega (arith, size, rest, long)

pub never_passes : (pairs : Pairs) → Rises 0 pairs → AllByRecursion IsObjectAt pairs → Passes pairs → ⊥
never_passes pairs rises all (inl long) = let few = few_objects 0 pairs (omega arith) rises all in let size = entries_size pairs all in omega (arith, few, size, long)
never_passes pairs rises all (inr many) = let few = few_objects 0 pairs (omega arith) rises all in omega (arith, few, many)

-- ---- an object is put into a slot

all_by : (q : ℕ × List ℕ) (pairs more : Pairs) (slot : ℕ) (bytes : List ℕ) → AllByRecursion IsObjectAt (q ∷ pairs) → IsObjectAt (slot, bytes) → AllByRecursion IsObjectAt more → (o : Ordering)
    → AllByRecursion IsObjectAt (match_ordering o ((slot, bytes) ∷ q ∷ pairs) ((q.0, bytes) ∷ pairs) (q ∷ more))
all_by q pairs more slot bytes all here done Less = (here, all)
all_by q pairs more slot bytes all here done Equal = ((all.0.0, here.1), all.1)
all_by q pairs more slot bytes all here done Greater = (all.0, done)

pub all_put : (pairs : Pairs) (slot : ℕ) (bytes : List ℕ) → AllByRecursion IsObjectAt pairs → IsObjectAt (slot, bytes) → AllByRecursion IsObjectAt (insert_entry nat_cmp pairs slot bytes)
all_put [] slot bytes all here = (here, tt)
all_put (q ∷ pairs) slot bytes all here = all_by q pairs (insert_entry nat_cmp pairs slot bytes) slot bytes all here (all_put pairs slot bytes all.1 here) (nat_cmp slot q.0)

pub put_fits : (page : Contents) (slot : ℕ) (bytes : List ℕ) → HasObjects page → slot < 12 → SpellsObject bytes → Passes (insert_entry nat_cmp page.objects.pairs slot bytes) → ⊥
put_fits page slot bytes has below spells passes =
    never_passes (insert_entry nat_cmp page.objects.pairs slot bytes) (rises_put 0 page.objects.pairs slot bytes has.fits.objects.rising (omega arith)) (all_put page.objects.pairs slot bytes has.objects (below, spells)) passes

put_is : (page now : Contents) (slot : ℕ) (bytes : List ℕ) → now ≡ record page { objects = insert page.objects slot bytes } → ObjectsFit now.objects.pairs → HasObjects page → slot < 12 → SpellsObject bytes → HasObjects now
put_is page now slot bytes is fit has below spells = record {
  fits = record { number = subst (λ (n : ℕ). n < 2 ^ 32) (sym (ap (λ (c : Contents). c.number) is)) has.fits.number; objects = fit };
  objects = subst (λ (c : Contents). AllByRecursion IsObjectAt c.objects.pairs) (sym is) (all_put page.objects.pairs slot bytes has.objects (below, spells));
}

pub put_has : (r : Result Unit Full) (page now : Contents) (slot : ℕ) (bytes : List ℕ) → OnOk r (now ≡ record page { objects = insert page.objects slot bytes }) → OnOk r (ObjectsFit now.objects.pairs) → OnErr r (now ≡ page) → HasObjects page → slot < 12 → SpellsObject bytes → HasObjects now
put_has (Ok u) page now slot bytes ok fit err has below spells = put_is page now slot bytes ok fit has below spells
put_has (Err e) page now slot bytes ok fit err has below spells = subst HasObjects (sym err) has

-- ---- what stands in a slot

spells_by : (q : ℕ × List ℕ) (bytes : List ℕ) (rest : Option (List ℕ)) (o : Ordering) → SpellsObject q.1 → (rest ≡ Some bytes → SpellsObject bytes) → cond (is_eq o) (Some q.1) rest ≡ Some bytes → SpellsObject bytes
spells_by q bytes rest Less here more is = more is
spells_by q bytes rest Equal here more is = let same : q.1 ≡ bytes = cc in subst SpellsObject same here
spells_by q bytes rest Greater here more is = more is

pub slot_spells : (pairs : Pairs) (slot : ℕ) (bytes : List ℕ) → AllByRecursion IsObjectAt pairs → lookup (is_at (nat_cmp slot)) pairs ≡ Some bytes → SpellsObject bytes
slot_spells [] slot bytes all is = cc
slot_spells (q ∷ pairs) slot bytes all is = spells_by q bytes (lookup (is_at (nat_cmp slot)) pairs) (nat_cmp slot q.0) all.0.1 (λ h. slot_spells pairs slot bytes all.1 h) is

abbrev read_as : Obj × ℕ → Result (Obj × ℕ) ObjFault
read_as p = Ok p

same_read : (p q : Obj × ℕ) → read_as p ≡ read_as q → p ≡ q
same_read p q is = cc

pub read_is : (bytes : List ℕ) (object : Obj) (count : ℕ) → SpellsObject bytes → ((o : Obj) (rest : List ℕ) → ObjFits o → bytes ≡ obj_bytes o ++ rest → Answered {X = Obj × ℕ} (Ok (object, count)) (Ok (o, length (obj_bytes o)))) → (bytes ≡ obj_bytes object) × ObjFits object
read_is bytes object count spells only =
    let o : Obj = spells.0 in
    let got : Obj × ℕ = (object, count) in
    let want : Obj × ℕ = (o, length (obj_bytes o)) in
    let same : got ≡ want = same_read got want (only o [] spells.1 (spells.2 ∙ sym (append-nil (obj_bytes o)))) in
    let e : object ≡ o = ap (λ (p : Obj × ℕ). p.0) same in
    (subst (λ (x : Obj). bytes ≡ obj_bytes x) (sym e) spells.2, subst ObjFits (sym e) spells.1)
