-- The test of a request's form: the same conditions as IsWellFormed, as a computation.
use Rattle.log_entries.specs.declared.request.Request.{Request}
use Rattle.object_codec.specs.Spelling.{most_fields}
use Rattle.std.specs.List.{list_all}
use Rattle.std.specs.Map.{keys_of}
use Rattle.std.specs.Ordering.{is_lt, nat_cmp}
use Rattle.std.specs.Prelude.{Bool, List, [], length, nat_le, nat_lt, negsuc, pos, true, ℤ, ◌&&◌, ◌^◌, ◌∷◌}
use Rattle.std.specs.declared.cmp.Ordering.{Ordering}
use Rattle.thor_value.specs.Names.{oref_cmp}
use Rattle.thor_value.specs.declared.names.Oref.{Oref}
use Rattle.thor_value.specs.declared.names.Ts.{Ts}
use Rattle.thor_value.specs.Words.{fits_word}
use Rattle.thor_value.specs.declared.values.Answer.TheVariants.{Fault, Ints}
use Rattle.thor_value.specs.declared.values.Answer.{Answer}
use Rattle.thor_value.specs.declared.values.Obj.{Obj}
use Rattle.thor_value.specs.declared.values.Value.TheVariants.{Int, Null, Ref, Text}
use Rattle.thor_value.specs.declared.values.Value.{Value}

-- whether each key is before those behind it
abbrev pub rises : {K : Type 0} → (K → K → Ordering) → List K → Bool
rises cmp [] = true
rises cmp (k ∷ ks) = list_all (λ q. is_lt (cmp k q)) ks && rises cmp ks

abbrev pub is_name : Oref → Bool
is_name x = nat_lt x.repo 8 && nat_lt x.page 65536 && nat_lt x.slot 12

abbrev pub is_stamp : Ts → Bool
is_stamp t = nat_lt t.time (2 ^ 62) && nat_lt t.repo 8 && nat_lt t.life (2 ^ 32)

-- whether a number fits 64 bits, sign included
abbrev pub is_number : ℤ → Bool
is_number (pos n) = nat_lt n (2 ^ 63)
is_number (negsuc n) = nat_lt n (2 ^ 63)

abbrev pub is_value : Value → Bool
is_value (Int z) = is_number z
is_value (Ref x) = is_name x
is_value Null = true
is_value (Text w) = fits_word w

abbrev pub is_object : Obj → Bool
is_object o = nat_lt o.class (2 ^ 16) && nat_lt o.ver (2 ^ 32) && nat_le (length o.fields) most_fields && list_all is_value o.fields

abbrev pub is_write : Oref × Obj → Bool
is_write w = is_name w.0 && is_object w.1

abbrev pub is_answer : Answer → Bool
is_answer (Ints ns) = list_all is_number ns
is_answer (Fault f) = true

-- whether q has a spelling
abbrev pub is_spelled : Request → Bool
is_spelled q =
    is_stamp q.tx && nat_lt q.who.index (2 ^ 32)
    && nat_lt q.session (2 ^ 32) && nat_lt q.epoch (2 ^ 32) && nat_lt q.upto (2 ^ 64)
    && list_all is_name q.ros && list_all is_write q.writes && list_all is_name q.fresh && is_answer q.answer
    && nat_lt (length q.others) (2 ^ 8) && rises nat_cmp q.others

-- whether q has the form of a request
abbrev pub is_well_formed : Request → Bool
is_well_formed q = is_spelled q && rises oref_cmp q.ros && rises oref_cmp (keys_of q.writes) && list_all (λ n. nat_lt n 8) q.others
