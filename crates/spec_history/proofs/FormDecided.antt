-- The test of a request's form decides it.
use Rattle.log_entries.specs.RequestForm.{AnswerFits, IsWellFormed, RequestFits, WriteFits}
use Rattle.log_entries.specs.declared.request.Request.{Request}
use Rattle.object_codec.specs.Spelling.{ObjFits, most_fields}
use Rattle.spec_history.proofs.Tests.{decides_all, decides_le, decides_lt, decides_rises, turned, ◌also◌}
use Rattle.spec_history.specs.FormChecking.{is_answer, is_name, is_number, is_object, is_spelled, is_stamp, is_value, is_well_formed, is_write}
use Rattle.std.proofs.Common.{arith, length, refl, ◌^◌}
use Rattle.std.proofs.lemmas.Int.{ints}
use Rattle.std.specs.Bool.{Decides}
use Rattle.std.specs.Int.{w64}
use Rattle.std.specs.Map.{keys_of}
use Rattle.std.specs.Ordering.{nat_cmp}
use Rattle.std.specs.Prelude.{FitsSigned, negsuc, pos, ℕ, ℤ, ◌<◌}
use Rattle.thor_value.specs.Names.{oref_cmp}
use Rattle.thor_value.specs.Spelling.{OrefFits, TsFits, ValueFits}
use Rattle.thor_value.specs.declared.names.Oref.{Oref}
use Rattle.thor_value.specs.declared.names.Ts.{Ts}
use Rattle.thor_value.specs.declared.values.Answer.TheVariants.{Fault, Ints}
use Rattle.thor_value.specs.declared.values.Answer.{Answer}
use Rattle.thor_value.specs.declared.values.Obj.{Obj}
use Rattle.thor_value.specs.declared.values.Value.TheVariants.{Int, Null, Ref, Text}
use Rattle.thor_value.specs.declared.values.Value.{Value}

below_pos : (n : ℕ) → FitsSigned w64 (pos n) → n < 2 ^ 63
below_pos n f = omega (arith, ints, f)

fits_pos : (n : ℕ) → n < 2 ^ 63 → FitsSigned w64 (pos n)
fits_pos n l = omega (arith, ints)

below_neg : (n : ℕ) → FitsSigned w64 (negsuc n) → n < 2 ^ 63
below_neg n f = omega (arith, ints, f)

fits_neg : (n : ℕ) → n < 2 ^ 63 → FitsSigned w64 (negsuc n)
fits_neg n l = omega (arith, ints)

decides_number : (z : ℤ) → Decides (is_number z) (FitsSigned w64 z)
decides_number (pos n) = turned (decides_lt n (2 ^ 63)) (fits_pos n) (below_pos n)
decides_number (negsuc n) = turned (decides_lt n (2 ^ 63)) (fits_neg n) (below_neg n)

decides_name : (x : Oref) → Decides (is_name x) (OrefFits x)
decides_name x = turned (decides_lt x.repo 8 also decides_lt x.page 65536 also decides_lt x.slot 12)
    (λ p. record { repo = p.0.0; page = p.0.1; slot = p.1 })
    (λ h. ((h.repo, h.page), h.slot))

decides_stamp : (t : Ts) → Decides (is_stamp t) (TsFits t)
decides_stamp t = turned (decides_lt t.time (2 ^ 62) also decides_lt t.repo 8 also decides_lt t.life (2 ^ 32))
    (λ p. record { time = p.0.0; repo = p.0.1; life = p.1 })
    (λ h. ((h.time, h.repo), h.life))

decides_value : (v : Value) → Decides (is_value v) (ValueFits v)
decides_value (Int z) = decides_number z
decides_value (Text w) = ((λ e. e), (λ h. h))
decides_value (Ref x) = decides_name x
decides_value Null = ((λ e. tt), (λ h. refl))

decides_object : (o : Obj) → Decides (is_object o) (ObjFits o)
decides_object o = turned (decides_lt o.class (2 ^ 16) also decides_lt o.ver (2 ^ 32) also decides_le (length o.fields) most_fields also decides_all decides_value o.fields)
    (λ p. record { class = p.0.0.0; ver = p.0.0.1; count = p.0.1; fields = p.1 })
    (λ h. (((h.class, h.ver), h.count), h.fields))

decides_write : (w : Oref × Obj) → Decides (is_write w) (WriteFits w)
decides_write w = decides_name w.0 also decides_object w.1

decides_answer : (a : Answer) → Decides (is_answer a) (AnswerFits a)
decides_answer (Ints ns) = decides_all decides_number ns
decides_answer (Fault f) = ((λ e. tt), (λ h. refl))

decides_spelled : (q : Request) → Decides (is_spelled q) (RequestFits q)
decides_spelled q = turned
    (decides_stamp q.tx also decides_lt q.who.index (2 ^ 32)
    also decides_lt q.session (2 ^ 32) also decides_lt q.epoch (2 ^ 32) also decides_lt q.upto (2 ^ 64)
    also decides_all decides_name q.ros also decides_all decides_write q.writes also decides_all decides_name q.fresh also decides_answer q.answer
    also decides_lt (length q.others) (2 ^ 8) also decides_rises nat_cmp q.others)
    (λ p. record {
      tx = p.0.0.0.0.0.0.0.0.0.0;
      index = p.0.0.0.0.0.0.0.0.0.1;
      session = p.0.0.0.0.0.0.0.0.1;
      epoch = p.0.0.0.0.0.0.0.1;
      upto = p.0.0.0.0.0.0.1;
      ros = p.0.0.0.0.0.1;
      writes = p.0.0.0.0.1;
      fresh = p.0.0.0.1;
      answer = p.0.0.1;
      others = p.0.1;
      others_rise = p.1;
    })
    (λ h. ((((((((((h.tx, h.index), h.session), h.epoch), h.upto), h.ros), h.writes), h.fresh), h.answer), h.others), h.others_rise))

pub decides_form : (q : Request) → Decides (is_well_formed q) (IsWellFormed q)
decides_form q = turned
    (decides_spelled q also decides_rises oref_cmp q.ros also decides_rises oref_cmp (keys_of q.writes) also decides_all (λ n. decides_lt n 8) q.others)
    (λ p. record { fits = p.0.0.0; read_rises = p.0.0.1; written_rises = p.0.1; others_are_repos = p.1 })
    (λ h. (((h.fits, h.read_rises), h.written_rises), h.others_are_repos))
