-- The reader of objects is exact.
use Rattle.std.proofs.Common.{◌≡◌, ℕ, zero, suc, ◌^◌, ◌<◌, ◌≤◌, leb, List, [], ◌∷◌, ◌++◌, length, Result, Ok, Err, refl, sym, ap, ◌∙◌, arith}
use Rattle.std.specs.List.{flat_map, AllByRecursion}
use Rattle.std.specs.Int.{w16, w32, to_be_bytes}
use Rattle.std.proofs.lemmas.Bool.{le-leb, leb-true}
use Rattle.std.proofs.lemmas.List.{append-nil}
use Rattle.std.proofs.lemmas.List.Concat.{flat_map-cons}
use Rattle.thor_value.specs.Formats.{◌>>=◌}
use Rattle.thor_value.specs.Reading.{number_at, value_at}
use Rattle.thor_value.specs.Spelling.{ValueFits, value_bytes}
use Rattle.thor_value.specs.declared.values.Obj.{Obj}
use Rattle.thor_value.specs.declared.values.Value.{Value}
use Rattle.thor_value.specs.declared.values.Value.TheVariants.{Null}
use Rattle.thor_value.specs.declared.bytes.ReadFault.{ReadFault}
use Rattle.thor_value.specs.declared.bytes.ReadFault.TheVariants as value_faults
use Rattle.thor_value.proofs.Exactness.{IsExact, exact_done, exact_then, exact_spelled}
use Rattle.thor_value.proofs.Fields.{exact_byte, exact_number, wide16, wide32}
use Rattle.thor_value.proofs.Spellings.{exact_value}
use Rattle.object_codec.specs.declared.fault.ObjFault.{ObjFault}
use Rattle.object_codec.specs.declared.fault.ObjFault.TheVariants.{Short, BadTag, TooLarge}
use Rattle.object_codec.specs.Spelling.{ObjFits, obj_bytes}
use Rattle.object_codec.specs.Reading.{lifted, count_at, fields_at, obj_at}

-- ---- a value, with the object's faults

abbrev failed : {A : Type 0} → ObjFault → Result A ObjFault
failed d = Err d

lifted_ok : {A : Type 0} (r : Result A ReadFault) (x : A) → lifted r ≡ Ok x → r ≡ Ok x
lifted_ok (Ok y) x e = cc
lifted_ok (Err value_faults.Short) x e = absurd cc
lifted_ok (Err value_faults.BadTag) x e = absurd cc

lifted_short : {A : Type 0} (r : Result A ReadFault) → lifted r ≡ Err Short → r ≡ Err value_faults.Short
lifted_short (Ok y) e = absurd cc
lifted_short (Err value_faults.Short) e = refl
lifted_short (Err value_faults.BadTag) e = absurd cc

same_fault : {A : Type 0} (c d : ObjFault) → failed {A = A} c ≡ failed d → d ≡ c
same_fault c d e = cc

lifted_other : {A : Type 0} (r : Result A ReadFault) (d : ObjFault) → lifted r ≡ Err d → (d ≡ Short → ⊥) → (r ≡ Err value_faults.BadTag) × (BadTag ≡ d)
lifted_other (Ok y) d e n = absurd cc
lifted_other {A = A} (Err value_faults.Short) d e n = absurd (n (same_fault {A = A} Short d e))
lifted_other (Err value_faults.BadTag) d e n = (refl, cc)

bad_is_other : value_faults.BadTag ≡ value_faults.Short → ⊥
bad_is_other e = cc

exact_field : IsExact ValueFits value_bytes Short (λ bytes. lifted (value_at bytes))
exact_field = record {
  found = λ bytes x b e. exact_value.found bytes x b (lifted_ok (value_at bytes) x e);
  again = λ v rest h. ap lifted (exact_value.again v rest h);
  begins = λ bytes b e. exact_value.begins bytes b (lifted_short (value_at bytes) e);
  stays = λ bytes more d b e n.
      let p = lifted_other (value_at bytes) d e n in
      ap lifted (exact_value.stays bytes more value_faults.BadTag b p.0 bad_is_other) ∙ ap (λ (f : ObjFault). Err f) p.1;
}

-- ---- the fields

abbrev head_of : List Value → Value
head_of [] = Null
head_of (v ∷ vs) = v

abbrev tail_of : List Value → List Value
tail_of [] = []
tail_of (v ∷ vs) = vs

abbrev Fields : ℕ → List Value → Type 0
Fields n vs = AllByRecursion ValueFits vs × (length vs ≡ n)

none_left : (n : ℕ) → length {A = Value} [] ≡ suc n → ⊥
none_left n e = omega (arith, e)

one_only : (n : ℕ) (v : Value) (ws vs : List Value) → (Fields (suc n) vs × (head_of vs ≡ v)) × (tail_of vs ≡ ws) → vs ≡ v ∷ ws
one_only n v ws [] h = absurd (none_left n h.0.0.1)
one_only n v ws (x ∷ xs) h = ap (λ (y : Value). y ∷ xs) h.0.1 ∙ ap (λ (t : List Value). v ∷ t) h.1

first_keyed : (n : ℕ) (vs : List Value) → Fields (suc n) vs → ValueFits (head_of vs) × (flat_map value_bytes vs ≡ value_bytes (head_of vs) ++ flat_map value_bytes (tail_of vs))
first_keyed n [] h = absurd (none_left n h.1)
first_keyed n (x ∷ xs) h = (h.0.0, flat_map-cons value_bytes x xs)

one_less : (n : ℕ) (x : Value) (xs : List Value) → length (x ∷ xs) ≡ suc n → length xs ≡ n
one_less n x xs e = omega (arith, e)

others_keyed : (n : ℕ) (v : Value) (vs : List Value) → Fields (suc n) vs × (head_of vs ≡ v) → Fields n (tail_of vs) × (flat_map value_bytes (tail_of vs) ≡ flat_map value_bytes (tail_of vs) ++ [])
others_keyed n v [] h = absurd (none_left n h.0.1)
others_keyed n v (x ∷ xs) h = ((h.0.0.1, one_less n x xs h.0.1), sym (append-nil (flat_map value_bytes xs)))

nothing : (n : ℕ) → n ≡ 0 → (vs : List Value) → Fields n vs → vs ≡ []
nothing n e [] h = refl
nothing n e (x ∷ xs) h = absurd (omega (arith, e, h.1))

nulls : (n : ℕ) → (vs : List Value) × Fields n vs
nulls zero = ([], (tt, refl))
nulls (suc n) = let ns = nulls n in (Null ∷ ns.0, ((tt, ns.1.0), ap suc ns.1.1))

pub exact_fields : (n : ℕ) → IsExact (Fields n) (flat_map value_bytes) Short (fields_at n)
unfolding fields_at
exact_fields zero =
    exact_spelled (Fields 0) (λ _. []) (flat_map value_bytes) Short (λ rest. Ok ([], rest)) (exact_done (Fields 0) Short [] (tt, refl) (nothing 0 refl)) (λ vs h. ap (flat_map value_bytes) (sym (nothing 0 refl vs h)))
exact_fields (suc n) =
    exact_then ValueFits value_bytes (Fields (suc n)) (λ vs. flat_map value_bytes (tail_of vs)) (flat_map value_bytes) head_of Short (λ bytes. lifted (value_at bytes)) (λ v rest. fields_at n rest >>= λ others. Ok (v ∷ others.0, others.1))
    exact_field
    (λ v hv. exact_then (Fields n) (flat_map value_bytes) (λ vs. Fields (suc n) vs × (head_of vs ≡ v)) (λ _. []) (λ vs. flat_map value_bytes (tail_of vs)) tail_of Short (fields_at n) (λ ws rest. Ok (v ∷ ws, rest))
    (exact_fields n)
    (λ ws hws. exact_done (λ vs. (Fields (suc n) vs × (head_of vs ≡ v)) × (tail_of vs ≡ ws)) Short (v ∷ ws) ((((hv, hws.0), ap suc hws.1), refl), refl) (one_only n v ws))
    (others_keyed n v)
    (λ ws hws. (v ∷ ws, (((hv, hws.0), ap suc hws.1), refl), refl)))
    (first_keyed n)
    (λ v hv. let ns = nulls n in (v ∷ ns.0, ((hv, ns.1.0), ap suc ns.1.1), refl))

-- ---- the object

large_is_other : (n : ℕ) → TooLarge n ≡ Short → ⊥
large_is_other n e = cc

exact_count : IsExact (λ n. n ≤ 32) (λ n. n ∷ []) Short count_at
exact_count = exact_byte Short (λ n. leb n 32) (λ n. TooLarge n) (λ n. n ≤ 32) (λ n h. le-leb n 32 h) (λ n h. leb-true n 32 h) (0, omega arith) large_is_other

abbrev made : ℕ → ℕ → List Value → Obj
made c v fs = record { class = c; ver = v; fields = fs }

is_made : (o : Obj) (c v : ℕ) (fs : List Value) → o.class ≡ c → o.ver ≡ v → o.fields ≡ fs → o ≡ made c v fs
is_made o c v fs e f g = ap (λ (n : ℕ). made n o.ver o.fields) e ∙ ap (λ (n : ℕ). made c n o.fields) f ∙ ap (λ (l : List Value). made c v l) g

abbrev rest_of : Obj → List ℕ
rest_of o = flat_map value_bytes o.fields

fits_made : (c v n : ℕ) (fs : List Value) → c < 2 ^ 16 → v < 2 ^ 32 → n ≤ 32 → Fields n fs → ObjFits (made c v fs)
fits_made c v n fs hc hv hn hf = record { class = hc; ver = hv; count = omega (arith, hf.1); fields = hf.0 }

values_exact : (c v n : ℕ) → c < 2 ^ 16 → v < 2 ^ 32 → n ≤ 32 → IsExact (λ o. ((ObjFits o × (o.class ≡ c)) × (o.ver ≡ v)) × (length o.fields ≡ n)) rest_of Short (λ rest. fields_at n rest >>= λ fields. Ok (made c v fields.0, fields.1))
values_exact c v n hc hv hn =
    exact_then (Fields n) (flat_map value_bytes) (λ o. ((ObjFits o × (o.class ≡ c)) × (o.ver ≡ v)) × (length o.fields ≡ n)) (λ _. []) rest_of (λ o. o.fields) Short (fields_at n) (λ fs rest. Ok (made c v fs, rest))
    (exact_fields n)
    (λ fs hf. exact_done (λ o. (((ObjFits o × (o.class ≡ c)) × (o.ver ≡ v)) × (length o.fields ≡ n)) × (o.fields ≡ fs)) Short (made c v fs) ((((fits_made c v n fs hc hv hn hf, refl), refl), hf.1), refl) (λ o h. is_made o c v fs h.0.0.0.1 h.0.0.1 h.1))
    (λ o h. ((h.0.0.0.fields, h.1), sym (append-nil (rest_of o))))
    (λ fs hf. (made c v fs, (((fits_made c v n fs hc hv hn hf, refl), refl), hf.1), refl))

counted_exact : (c v : ℕ) → c < 2 ^ 16 → v < 2 ^ 32 → IsExact (λ o. (ObjFits o × (o.class ≡ c)) × (o.ver ≡ v)) (λ o. length o.fields ∷ rest_of o) Short (λ rest. count_at rest >>= λ count. fields_at count.0 count.1 >>= λ fields. Ok (made c v fields.0, fields.1))
counted_exact c v hc hv =
    exact_then (λ n. n ≤ 32) (λ n. n ∷ []) (λ o. (ObjFits o × (o.class ≡ c)) × (o.ver ≡ v)) rest_of (λ o. length o.fields ∷ rest_of o) (λ o. length o.fields) Short count_at (λ n rest. fields_at n rest >>= λ fields. Ok (made c v fields.0, fields.1))
    exact_count
    (λ n hn. values_exact c v n hc hv hn)
    (λ o h. (h.0.0.count, refl))
    (λ n hn. let ns = nulls n in (made c v ns.0, ((fits_made c v n ns.0 hc hv hn ns.1, refl), refl), ns.1.1))

ver_exact : (c : ℕ) → c < 2 ^ 16 → IsExact (λ o. ObjFits o × (o.class ≡ c)) (λ o. to_be_bytes w32 o.ver ++ (length o.fields ∷ rest_of o)) Short (λ rest. number_at Short w32 rest >>= λ ver. count_at ver.1 >>= λ count. fields_at count.0 count.1 >>= λ fields. Ok (made c ver.0 fields.0, fields.1))
ver_exact c hc =
    exact_then (λ v. v < 2 ^ 32) (to_be_bytes w32) (λ o. ObjFits o × (o.class ≡ c)) (λ o. length o.fields ∷ rest_of o) (λ o. to_be_bytes w32 o.ver ++ (length o.fields ∷ rest_of o)) (λ o. o.ver) Short (number_at Short w32) (λ v rest. count_at rest >>= λ count. fields_at count.0 count.1 >>= λ fields. Ok (made c v fields.0, fields.1))
    (exact_number Short w32 (2 ^ 32) wide32)
    (λ v hv. counted_exact c v hc hv)
    (λ o h. (h.0.ver, refl))
    (λ v hv. (made c v [], (fits_made c v 0 [] hc hv (omega arith) (tt, refl), refl), refl))

pub exact_obj : IsExact ObjFits obj_bytes Short obj_at
unfolding obj_at
exact_obj =
    exact_then (λ c. c < 2 ^ 16) (to_be_bytes w16) ObjFits (λ o. to_be_bytes w32 o.ver ++ (length o.fields ∷ rest_of o)) obj_bytes (λ o. o.class) Short (number_at Short w16) (λ c rest. number_at Short w32 rest >>= λ ver. count_at ver.1 >>= λ count. fields_at count.0 count.1 >>= λ fields. Ok (made c ver.0 fields.0, fields.1))
    (exact_number Short w16 (2 ^ 16) wide16)
    ver_exact
    (λ o h. (h.class, refl))
    (λ c hc. (made c 0 [], fits_made c 0 0 [] hc (omega arith) (omega arith) (tt, refl), refl))
