-- Each format of the grammar is exact.
use Rattle.std.proofs.Common.{◌≡◌, ℕ, ℤ, zero, suc, Bool, true, false, ltb, List, [], ◌∷◌, ◌++◌, Option, Some, refl, sym, ap, subst, ◌∙◌, arith, length-append}
use Rattle.std.specs.Prelude.{FitsSigned}
use Rattle.std.specs.List.{AllByRecursion}
use Rattle.std.specs.Int.{w32, w64, to_be_bytes, cast_signed, cast_unsigned}
use Rattle.std.specs.Ordering.{nat_cmp}
use Rattle.std.proofs.lemmas.Bool.{ltb-true, lt-ltb}
use Rattle.std.proofs.lemmas.Cmp.{nat_cmp_total}
use Rattle.std.proofs.lemmas.Int.{to_z-of_z, of_z-to_z}
use Rattle.std.proofs.Math.Facts.{sfits_to_z, Fits-of_lt, Fits-of_z}
use Rattle.std.proofs.lemmas.Option.{same_Some}
use Rattle.thor_value.proofs.Exactness.{IsBytes}
use Rattle.thor_value.proofs.Spellings.{exact_oref as exact_oref_reader, exact_ts as exact_ts_reader}
use Rattle.thor_value.specs.Reading.{oref_at, ts_at}
use Rattle.thor_value.specs.Spelling.{OrefFits, TsFits, oref_bytes, ts_bytes}
use Rattle.thor_value.specs.declared.bytes.ReadFault.TheVariants as value_faults
use Rattle.thor_value.specs.declared.names.Oref.{Oref}
use Rattle.thor_value.specs.declared.names.Ts.{Ts}
use Rattle.thor_value.specs.declared.values.Answer.TheVariants.{Ints, Fault as Faulted}
use Rattle.thor_value.specs.declared.values.Answer.{Answer}
use Rattle.thor_value.specs.declared.values.Fault.TheVariants.{NullCall, Steps, Depth, Large}
use Rattle.thor_value.specs.declared.values.Fault.{Fault}
use Rattle.thor_value.specs.declared.values.Obj.{Obj}
use Rattle.thor_value.specs.declared.values.Who.{Who}
use Rattle.object_codec.proofs.Objects.{exact_obj as exact_obj_reader}
use Rattle.object_codec.specs.Reading.{obj_at}
use Rattle.object_codec.specs.Spelling.{ObjFits, obj_bytes}
use Rattle.object_codec.specs.declared.fault.ObjFault.TheVariants as object_faults
use Rattle.log_entries.specs.RequestForm.{AnswerFits, RequestFits}
use Rattle.log_entries.specs.declared.entry.Entry.TheVariants.{Life, One, Prepared, Decided, Finished, Upgraded}
use Rattle.log_entries.specs.declared.request.Kind.TheVariants.{App, Transform, Upgrade}
use Rattle.log_entries.specs.declared.request.Kind.{Kind}
use Rattle.log_entries.specs.declared.request.Request.{Request}
use Rattle.log_codec.specs.Format.{Format, ◌>>=◌, ◌then◌, as_spelled, choice, list, made, short_list, u8_format, u32_format, u64_format}
use Rattle.log_codec.specs.Grammar.{RequestParts, answer_format, answer_number, behind_answer, behind_body, behind_fault, behind_flag, behind_kind, bit_format, body_format, body_number, BodyFits, decided_in, fault_format, fault_in, fault_number, finished_in, flag_format, flag_number, i64_format, installed_in, ints_in, kind_format, kind_number, life_in, obj_format, one_in, oref_format, prepared_in, repos_format, request_format, request_of, request_parts, rise, text_in, ts_format, upgraded_in, who_format}
use Rattle.log_codec.specs.declared.body.Body.TheVariants.{Entry as AnEntry, Installed}
use Rattle.log_codec.specs.declared.body.Body.{Body}
use Rattle.log_codec.proofs.Exact.{IsExactFormat, TakesBytes, bind_some, exact_choice, exact_list, exact_made, exact_none, exact_of_those, exact_only, exact_read, exact_short, exact_such, exact_then, exact_u8, exact_u32, exact_u64, takes_by, then_takes}
use Rattle.log_codec.proofs.RiseLaws.{rise_from_sorted, sorted_from_rise}

-- ---- names, timestamps, objects, numbers

pub exact_oref : IsExactFormat oref_format
exact_oref = exact_read OrefFits oref_bytes value_faults.Short oref_at exact_oref_reader

pub exact_ts : IsExactFormat ts_format
exact_ts = exact_read TsFits ts_bytes value_faults.Short ts_at exact_ts_reader

pub exact_obj : IsExactFormat obj_format
exact_obj = exact_read ObjFits obj_bytes object_faults.Short obj_at exact_obj_reader

pub oref_takes : TakesBytes oref_format
oref_takes = takes_by OrefFits oref_bytes oref_at (λ v. omega arith)

pub ts_takes : TakesBytes ts_format
ts_takes = takes_by TsFits ts_bytes ts_at (λ v. omega (arith, length-append (to_be_bytes w64 v.time) (v.repo ∷ to_be_bytes w32 v.life)))

pub u8_takes : TakesBytes u8_format
u8_takes v h = omega arith

pub i64_takes : TakesBytes i64_format
unfolding as_spelled
i64_takes v h = omega arith

i64_found : (bytes : List ℕ) (x : ℤ × List ℕ) → IsBytes bytes → i64_format.reading bytes ≡ Some x → FitsSigned w64 x.0 × Unit {0} × (bytes ≡ u64_format.spelling (cast_unsigned w64 x.0) ++ x.1)
i64_found bytes x b e =
    let p = bind_some (u64_format.reading bytes) (λ n. Some (cast_signed w64 n.0, n.1)) x e in
    let g = exact_u64.found bytes p.0 b p.1 in
    subst (λ (y : ℤ × List ℕ). FitsSigned w64 y.0 × Unit {0} × (bytes ≡ u64_format.spelling (cast_unsigned w64 y.0) ++ y.1)) (same_Some (cast_signed w64 p.0.0, p.0.1) x p.2)
    (sfits_to_z (Fits-of_lt g.0), tt, g.2 ∙ ap (λ (n : ℕ). u64_format.spelling n ++ p.0.1) (sym (of_z-to_z w64 p.0.0 g.0)))

pub exact_i64 : IsExactFormat i64_format
exact_i64 = record {
  found = i64_found;
  again = λ z rest h c. ap (λ (r : Option (ℕ × List ℕ)). r >>= λ n. Some (cast_signed w64 n.0, n.1)) (exact_u64.again (cast_unsigned w64 z) rest (Fits-of_z h).fits tt) ∙ ap (λ (y : ℤ). Some (y, rest)) (to_z-of_z w64 z h);
  counts = λ v h n. tt;
}

pub exact_bit : IsExactFormat bit_format
exact_bit = exact_such (λ n. ltb n 2) u8_format exact_u8

each_flag : (k : ℕ) → IsExactFormat (behind_flag k)
each_flag zero = exact_only false
each_flag (suc zero) = exact_only true
each_flag (suc (suc n)) = exact_none

own_flag : (k : ℕ) (w : Bool) → (behind_flag k).Fits w → flag_number w ≡ k
own_flag zero w h = ap flag_number h
own_flag (suc zero) w h = ap flag_number h
own_flag (suc (suc n)) w h = absurd h

pub exact_flag : IsExactFormat flag_format
exact_flag = exact_choice flag_number behind_flag each_flag own_flag

-- ---- requests

pub exact_text : IsExactFormat (list u8_format)
exact_text = exact_list u8_format exact_u8 u8_takes

pub any_bytes : (bytes : List ℕ) → AllByRecursion (λ n. Unit {0}) bytes
any_bytes [] = tt
any_bytes (b ∷ bytes) = (tt, any_bytes bytes)

pub exact_who : IsExactFormat who_format
unfolding who_format
exact_who = exact_made _ _ (u8_format then u32_format) (exact_then u8_format u32_format exact_u8 exact_u32) (λ v. refl) (λ w v e. ap (λ (p : ℕ × ℕ). record { client = p.0; index = p.1 }) (same_Some (w.client, w.index) v e))

text_back : (w : Kind) (v : List ℕ) → text_in w ≡ Some v → w ≡ Upgrade v
text_back App v e = absurd cc
text_back Transform v e = absurd cc
text_back (Upgrade text) v e = ap (λ (t : List ℕ). Upgrade t) (same_Some text v e)

each_kind : (k : ℕ) → IsExactFormat (behind_kind k)
each_kind zero = exact_only App
each_kind (suc zero) = exact_only Transform
each_kind (suc (suc zero)) = exact_made Upgrade text_in (list u8_format) exact_text (λ v. refl) text_back
each_kind (suc (suc (suc n))) = exact_none

own_kind : (k : ℕ) (w : Kind) → (behind_kind k).Fits w → kind_number w ≡ k
own_kind zero w h = ap kind_number h
own_kind (suc zero) w h = ap kind_number h
own_kind (suc (suc zero)) App h = absurd h
own_kind (suc (suc zero)) Transform h = absurd h
own_kind (suc (suc zero)) (Upgrade text) h = refl
own_kind (suc (suc (suc n))) w h = absurd h

pub exact_kind : IsExactFormat kind_format
unfolding kind_format
exact_kind = exact_choice kind_number behind_kind each_kind own_kind

pub any_kind : (w : Kind) → kind_format.Fits w
unfolding kind_format
any_kind App = refl
any_kind Transform = refl
any_kind (Upgrade text) = any_bytes text

each_fault : (k : ℕ) → IsExactFormat (behind_fault k)
each_fault zero = exact_none
each_fault (suc zero) = exact_only NullCall
each_fault (suc (suc zero)) = exact_only Steps
each_fault (suc (suc (suc zero))) = exact_only Depth
each_fault (suc (suc (suc (suc zero)))) = exact_only Large
each_fault (suc (suc (suc (suc (suc n))))) = exact_none

own_fault : (k : ℕ) (w : Fault) → (behind_fault k).Fits w → fault_number w ≡ k
own_fault zero w h = absurd h
own_fault (suc zero) w h = ap fault_number h
own_fault (suc (suc zero)) w h = ap fault_number h
own_fault (suc (suc (suc zero))) w h = ap fault_number h
own_fault (suc (suc (suc (suc zero)))) w h = ap fault_number h
own_fault (suc (suc (suc (suc (suc n))))) w h = absurd h

pub exact_fault : IsExactFormat fault_format
unfolding fault_format
exact_fault = exact_choice fault_number behind_fault each_fault own_fault

pub any_fault : (w : Fault) → fault_format.Fits w
unfolding fault_format
any_fault NullCall = refl
any_fault Steps = refl
any_fault Depth = refl
any_fault Large = refl

ints_back : (w : Answer) (v : List ℤ) → ints_in w ≡ Some v → w ≡ Ints v
ints_back (Ints ns) v e = ap (λ (t : List ℤ). Ints t) (same_Some ns v e)
ints_back (Faulted f) v e = absurd cc

fault_back : (w : Answer) (v : Fault) → fault_in w ≡ Some v → w ≡ Faulted v
fault_back (Ints ns) v e = absurd cc
fault_back (Faulted f) v e = ap (λ (t : Fault). Faulted t) (same_Some f v e)

each_answer : (k : ℕ) → IsExactFormat (behind_answer k)
each_answer zero = exact_made Ints ints_in (list i64_format) (exact_list i64_format exact_i64 i64_takes) (λ v. refl) ints_back
each_answer (suc zero) = exact_made Faulted fault_in fault_format exact_fault (λ v. refl) fault_back
each_answer (suc (suc n)) = exact_none

own_answer : (k : ℕ) (w : Answer) → (behind_answer k).Fits w → answer_number w ≡ k
own_answer zero (Ints ns) h = refl
own_answer zero (Faulted f) h = absurd h
own_answer (suc zero) (Ints ns) h = absurd h
own_answer (suc zero) (Faulted f) h = refl
own_answer (suc (suc n)) w h = absurd h

answer_to : (w : Answer) → AnswerFits w → (choice answer_number behind_answer).Fits w
answer_to (Ints ns) h = h
answer_to (Faulted f) h = any_fault f

answer_from : (w : Answer) → (choice answer_number behind_answer).Fits w → AnswerFits w
answer_from (Ints ns) h = h
answer_from (Faulted f) h = tt

pub exact_answer : IsExactFormat answer_format
unfolding answer_format
exact_answer = exact_of_those AnswerFits (choice answer_number behind_answer) (exact_choice answer_number behind_answer each_answer own_answer) answer_to answer_from

pub exact_repos : IsExactFormat repos_format
exact_repos = exact_such (rise nat_cmp) (short_list u8_format) (exact_short u8_format exact_u8)

pub exact_orefs : IsExactFormat (list oref_format)
exact_orefs = exact_list oref_format exact_oref oref_takes

pub write_takes : TakesBytes (oref_format then obj_format)
write_takes = then_takes oref_format obj_format exact_oref exact_obj oref_takes

pub exact_write : IsExactFormat (oref_format then obj_format)
exact_write = exact_then oref_format obj_format exact_oref exact_obj

pub exact_writes : IsExactFormat (list (oref_format then obj_format))
exact_writes = exact_list (oref_format then obj_format) exact_write write_takes

abbrev chain : Format RequestParts
chain = ts_format then who_format then u32_format then kind_format then u32_format then u64_format then list oref_format then list (oref_format then obj_format) then list oref_format then answer_format then repos_format

abbrev behind_tx : Format (Who × (ℕ × (Kind × (ℕ × (ℕ × (List Oref × (List (Oref × Obj) × (List Oref × (Answer × List ℕ)))))))))
behind_tx = who_format then u32_format then kind_format then u32_format then u64_format then list oref_format then list (oref_format then obj_format) then list oref_format then answer_format then repos_format

exact_behind : IsExactFormat behind_tx
exact_behind =
    exact_then who_format _ exact_who (exact_then u32_format _ exact_u32 (exact_then kind_format _ exact_kind (exact_then u32_format _ exact_u32 (exact_then u64_format _ exact_u64
    (exact_then (list oref_format) _ exact_orefs (exact_then (list (oref_format then obj_format)) _ exact_writes (exact_then (list oref_format) _ exact_orefs (exact_then answer_format repos_format exact_answer exact_repos))))))))

exact_chain : IsExactFormat chain
exact_chain = exact_then ts_format behind_tx exact_ts exact_behind

request_fits : (q : Request) → RequestFits q → (made request_of request_parts chain).Fits q
unfolding who_format answer_format
request_fits q h = (h.tx, ((tt, h.index), (h.session, (any_kind q.kind, (h.epoch, (h.upto, (h.ros, (h.writes, (h.fresh, (h.answer, ((h.others, any_bytes q.others), rise_from_sorted nat_cmp nat_cmp_total q.others h.others_rise)))))))))))

request_has : (q : Request) → (made request_of request_parts chain).Fits q → RequestFits q
unfolding who_format answer_format
request_has q (tx, (who, (session, (kind, (epoch, (upto, (ros, (writes, (fresh, (answer, others)))))))))) = record {
  tx = tx;
  index = who.1;
  session = session;
  epoch = epoch;
  upto = upto;
  ros = ros;
  writes = writes;
  fresh = fresh;
  answer = answer;
  others = others.0.0;
  others_rise = sorted_from_rise nat_cmp nat_cmp_total q.others others.1;
}

pub exact_request : IsExactFormat request_format
unfolding request_format
exact_request =
    exact_of_those RequestFits (made request_of request_parts chain) (exact_made request_of request_parts chain exact_chain (λ v. refl) (λ w v e. ap request_of (same_Some (w.tx, (w.who, (w.session, (w.kind, (w.epoch, (w.upto, (w.ros, (w.writes, (w.fresh, (w.answer, w.others)))))))))) v e))) request_fits request_has

pub request_spells : (q : Request) → RequestFits q → request_format.Fits q
unfolding request_format
request_spells q h = h

pub request_takes : TakesBytes request_format
unfolding request_format
request_takes q h = then_takes ts_format behind_tx exact_ts exact_behind ts_takes (q.tx, (q.who, (q.session, (q.kind, (q.epoch, (q.upto, (q.ros, (q.writes, (q.fresh, (q.answer, q.others)))))))))) (request_fits q h)

-- ---- the bodies of records

life_back : (w : Body) (v : ℕ) → life_in w ≡ Some v → w ≡ AnEntry (Life v)
life_back (AnEntry (Life n)) v e = ap (λ (m : ℕ). AnEntry (Life m)) (same_Some n v e)
life_back other v e = absurd cc

one_back : (w : Body) (v : Request) → one_in w ≡ Some v → w ≡ AnEntry (One v)
one_back (AnEntry (One q)) v e = ap (λ (r : Request). AnEntry (One r)) (same_Some q v e)
one_back other v e = absurd cc

prepared_back : (w : Body) (v : Request) → prepared_in w ≡ Some v → w ≡ AnEntry (Prepared v)
prepared_back (AnEntry (Prepared q)) v e = ap (λ (r : Request). AnEntry (Prepared r)) (same_Some q v e)
prepared_back other v e = absurd cc

upgraded_back : (w : Body) (v : Request) → upgraded_in w ≡ Some v → w ≡ AnEntry (Upgraded v)
upgraded_back (AnEntry (Upgraded q)) v e = ap (λ (r : Request). AnEntry (Upgraded r)) (same_Some q v e)
upgraded_back other v e = absurd cc

decided_back : (w : Body) (v : Ts × Bool) → decided_in w ≡ Some v → w ≡ AnEntry (Decided v.0 v.1)
decided_back (AnEntry (Decided t c)) v e = ap (λ (p : Ts × Bool). AnEntry (Decided p.0 p.1)) (same_Some (t, c) v e)
decided_back other v e = absurd cc

finished_back : (w : Body) (v : Ts × Bool) → finished_in w ≡ Some v → w ≡ AnEntry (Finished v.0 v.1)
finished_back (AnEntry (Finished t c)) v e = ap (λ (p : Ts × Bool). AnEntry (Finished p.0 p.1)) (same_Some (t, c) v e)
finished_back other v e = absurd cc

installed_back : (w : Body) (v : ℕ × ℕ) → installed_in w ≡ Some v → w ≡ Installed v.0 v.1
installed_back (Installed page side) v e = ap (λ (p : ℕ × ℕ). Installed p.0 p.1) (same_Some (page, side) v e)
installed_back other v e = absurd cc

each_body : (k : ℕ) → IsExactFormat (behind_body k)
each_body zero = exact_none
each_body (suc zero) = exact_made _ life_in u32_format exact_u32 (λ v. refl) life_back
each_body (suc (suc zero)) = exact_made _ one_in request_format exact_request (λ v. refl) one_back
each_body (suc (suc (suc zero))) = exact_made _ prepared_in request_format exact_request (λ v. refl) prepared_back
each_body (suc (suc (suc (suc zero)))) = exact_made _ decided_in (ts_format then flag_format) (exact_then ts_format flag_format exact_ts exact_flag) (λ v. refl) decided_back
each_body (suc (suc (suc (suc (suc zero))))) = exact_made _ finished_in (ts_format then flag_format) (exact_then ts_format flag_format exact_ts exact_flag) (λ v. refl) finished_back
each_body (suc (suc (suc (suc (suc (suc zero)))))) = exact_made _ installed_in (u32_format then bit_format) (exact_then u32_format bit_format exact_u32 exact_bit) (λ v. refl) installed_back
each_body (suc (suc (suc (suc (suc (suc (suc zero))))))) = exact_made _ upgraded_in request_format exact_request (λ v. refl) upgraded_back
each_body (suc (suc (suc (suc (suc (suc (suc (suc n)))))))) = exact_none

own_body : (k : ℕ) (w : Body) → (behind_body k).Fits w → body_number w ≡ k
own_body zero w h = absurd h
own_body (suc zero) (AnEntry (Life n)) h = refl
own_body (suc zero) other h = absurd h
own_body (suc (suc zero)) (AnEntry (One q)) h = refl
own_body (suc (suc zero)) other h = absurd h
own_body (suc (suc (suc zero))) (AnEntry (Prepared q)) h = refl
own_body (suc (suc (suc zero))) other h = absurd h
own_body (suc (suc (suc (suc zero)))) (AnEntry (Decided t c)) h = refl
own_body (suc (suc (suc (suc zero)))) other h = absurd h
own_body (suc (suc (suc (suc (suc zero))))) (AnEntry (Finished t c)) h = refl
own_body (suc (suc (suc (suc (suc zero))))) other h = absurd h
own_body (suc (suc (suc (suc (suc (suc zero)))))) (Installed page side) h = refl
own_body (suc (suc (suc (suc (suc (suc zero)))))) other h = absurd h
own_body (suc (suc (suc (suc (suc (suc (suc zero))))))) (AnEntry (Upgraded q)) h = refl
own_body (suc (suc (suc (suc (suc (suc (suc zero))))))) other h = absurd h
own_body (suc (suc (suc (suc (suc (suc (suc (suc n)))))))) w h = absurd h

any_flag : (w : Bool) → flag_format.Fits w
any_flag true = refl
any_flag false = refl

body_fits : (w : Body) → BodyFits w → (choice body_number behind_body).Fits w
unfolding request_format
body_fits (AnEntry (Life n)) h = h
body_fits (AnEntry (One q)) h = h
body_fits (AnEntry (Prepared q)) h = h
body_fits (AnEntry (Decided t c)) h = (h, any_flag c)
body_fits (AnEntry (Finished t c)) h = (h, any_flag c)
body_fits (AnEntry (Upgraded q)) h = h
body_fits (Installed page side) h = (h.0, (tt, lt-ltb side 2 h.1))

body_has : (w : Body) → (choice body_number behind_body).Fits w → BodyFits w
unfolding request_format
body_has (AnEntry (Life n)) h = h
body_has (AnEntry (One q)) h = h
body_has (AnEntry (Prepared q)) h = h
body_has (AnEntry (Decided t c)) h = h.0
body_has (AnEntry (Finished t c)) h = h.0
body_has (AnEntry (Upgraded q)) h = h
body_has (Installed page side) h = (h.0, ltb-true side 2 h.1.1)

pub exact_body : IsExactFormat body_format
unfolding body_format
exact_body = exact_of_those BodyFits (choice body_number behind_body) (exact_choice body_number behind_body each_body own_body) body_fits body_has
