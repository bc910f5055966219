-- Bytes that are one object, and pages of such.
use Rattle.std.proofs.Common.{◌≡◌, ℕ, zero, suc, ◌+◌, ◌<◌, ◌≤◌, List, [], ◌∷◌, ◌++◌, length, take, Option, Some, None, Result, Ok, Err, slice_get, refl, sym, ap, subst, ◌∙◌, arith, append-nil, IsTrue, ◌↔◌, nat_eq}
use Rattle.std.specs.List.{AllByRecursion}
use Rattle.thor_value.specs.declared.values.Obj.{Obj}
use Rattle.thor_value.specs.Formats.{IsAtFront}
use Rattle.object_codec.specs.Spelling.{ObjFits, Answered, obj_bytes}
use Rattle.object_codec.specs.declared.fault.ObjFault.{ObjFault}
use Rattle.object_codec.specs.declared.fault.ObjFault.TheVariants.{Short, BadTag, TooLarge, NoMemory}
use Rattle.std.proofs.lemmas.List.{take_all}
use Rattle.std.proofs.lemmas.Bool.{eqb-true, eq-eqb}
use Rattle.page_store.specs.Objects.{IsObjectAt, SpellsObject}

abbrev pub Pairs : Type 0
Pairs = List (ℕ × List ℕ)

-- ---- the objects of a page one after the other

pub all_at : (pairs : Pairs) (k : ℕ) (q : ℕ × List ℕ) → AllByRecursion IsObjectAt pairs → slice_get pairs k ≡ Some q → IsObjectAt q
all_at [] k q all is = cc
all_at (p ∷ pairs) zero q all is = let same : p ≡ q = cc in subst IsObjectAt same all.0
all_at (p ∷ pairs) (suc k) q all is = all_at pairs k q all.1 is

pub all_more : (pairs : Pairs) (k : ℕ) (q : ℕ × List ℕ) → AllByRecursion IsObjectAt (take k pairs) → slice_get pairs k ≡ Some q → IsObjectAt q → AllByRecursion IsObjectAt (take (suc k) pairs)
all_more [] k q all is here = cc
all_more (p ∷ pairs) zero q all is here = let same : p ≡ q = cc in (subst IsObjectAt (sym same) here, tt)
all_more (p ∷ pairs) (suc k) q all is here = (all.0, all_more pairs k q all.1 is here)

none_within : (pairs : Pairs) (k : ℕ) → k < length pairs → slice_get pairs k ≡ None → ⊥
none_within [] k within is = omega (arith, within)
none_within (p ∷ pairs) zero within is = cc
none_within (p ∷ pairs) (suc k) within is = none_within pairs k (omega (arith, within)) is

-- ---- one object

pub one_object : (bytes : List ℕ) (object : Obj) (count : ℕ) → IsAtFront ObjFits obj_bytes bytes object count → count ≡ length bytes → SpellsObject bytes
one_object bytes object count front whole = (object, front.has, sym (take_all count bytes (omega (arith, whole))) ∙ front.front)

abbrev read_as : Obj × ℕ → Result (Obj × ℕ) ObjFault
read_as p = Ok p

ok_is : (p q : Obj × ℕ) → read_as p ≡ read_as q → p ≡ q
ok_is p q e = cc

pub whole_object : (bytes : List ℕ) (object : Obj) (count : ℕ) → ((o : Obj) (rest : List ℕ) → ObjFits o → bytes ≡ obj_bytes o ++ rest → Answered {X = Obj × ℕ} (Ok (object, count)) (Ok (o, length (obj_bytes o)))) → SpellsObject bytes → count ≡ length bytes
whole_object bytes object count only spells =
    let o : Obj = spells.0 in
    let got : Obj × ℕ = (object, count) in
    let want : Obj × ℕ = (o, length (obj_bytes o)) in
    let same : got ≡ want = ok_is got want (only o [] spells.1 (spells.2 ∙ sym (append-nil (obj_bytes o)))) in
    ap (λ (p : Obj × ℕ). p.1) same ∙ ap length (sym spells.2)

pub no_object : (bytes : List ℕ) (fault : ObjFault) → (fault ≡ NoMemory → ⊥) → ((o : Obj) (rest : List ℕ) → ObjFits o → bytes ≡ obj_bytes o ++ rest → Answered {X = Obj × ℕ} (Err fault) (Ok (o, length (obj_bytes o)))) → SpellsObject bytes → ⊥
no_object bytes NoMemory other only spells = other refl
no_object bytes Short other only spells = let same = only spells.0 [] spells.1 (spells.2 ∙ sym (append-nil (obj_bytes spells.0))) in cc
no_object bytes BadTag other only spells = let same = only spells.0 [] spells.1 (spells.2 ∙ sym (append-nil (obj_bytes spells.0))) in cc
no_object bytes (TooLarge count) other only spells = let same = only spells.0 [] spells.1 (spells.2 ∙ sym (append-nil (obj_bytes spells.0))) in cc

pub one_just : (bytes : List ℕ) (object : Obj) (count : ℕ) → IsAtFront ObjFits obj_bytes bytes object count → ((o : Obj) (rest : List ℕ) → ObjFits o → bytes ≡ obj_bytes o ++ rest → Answered {X = Obj × ℕ} (Ok (object, count)) (Ok (o, length (obj_bytes o)))) → IsTrue (nat_eq count (length bytes)) ↔ SpellsObject bytes
one_just bytes object count front only = (λ is. one_object bytes object count front (eqb-true count (length bytes) is), λ spells. eq-eqb count (length bytes) (whole_object bytes object count only spells))

pub all_next : (pairs : Pairs) (k : ℕ) (o : Option (ℕ × List ℕ)) → AllByRecursion IsObjectAt (take k pairs) → k < length pairs → o ≡ slice_get pairs k → ((q : ℕ × List ℕ) → o ≡ Some q → IsObjectAt q) → AllByRecursion IsObjectAt (take (k + 1) pairs)
all_next pairs k (Some q) all within is here = let e : suc k ≡ k + 1 = omega arith in subst (λ (n : ℕ). AllByRecursion IsObjectAt (take n pairs)) e (all_more pairs k q all (sym is) (here q refl))
all_next pairs k None all within is here = absurd (none_within pairs k within (sym is))

pub some_at : (p : ℕ × List ℕ) → IsObjectAt p → (q : ℕ × List ℕ) → Some p ≡ Some q → IsObjectAt q
some_at p here q is = let same : p ≡ q = cc in subst IsObjectAt same here
