-- The formats of what a repository writes into its log: the bodies of records.
use Rattle.std.specs.Prelude.{◌<◌, ℕ, ℤ, zero, suc, ◌^◌, ◌&&◌, Bool, true, false, nat_lt, List, [], ◌∷◌, Option, Some, None, FitsSigned}
use Rattle.std.specs.Int.{w64, cast_signed, cast_unsigned}
use Rattle.std.specs.Ordering.{nat_cmp, is_lt}
use Rattle.std.specs.declared.cmp.Ordering.{Ordering}
use Rattle.thor_value.specs.Reading.{ts_at, oref_at}
use Rattle.thor_value.specs.Spelling.{OrefFits, TsFits, oref_bytes, ts_bytes}
use Rattle.thor_value.specs.declared.names.Oref.{Oref}
use Rattle.thor_value.specs.declared.names.Ts.{Ts}
use Rattle.thor_value.specs.declared.values.Answer.TheVariants.{Ints, Fault as Faulted}
use Rattle.thor_value.specs.declared.values.Answer.{Answer}
use Rattle.thor_value.specs.declared.values.Fault.TheVariants.{NullCall, Steps, Depth, Large}
use Rattle.thor_value.specs.declared.values.Fault.{Fault}
use Rattle.thor_value.specs.declared.values.Obj.{Obj}
use Rattle.thor_value.specs.declared.values.Who.{Who}
use Rattle.object_codec.specs.Reading.{obj_at}
use Rattle.object_codec.specs.Spelling.{ObjFits, obj_bytes}
use Rattle.log_entries.specs.RequestForm.{AnswerFits, RequestFits}
use Rattle.log_entries.specs.declared.entry.Entry.TheVariants.{Life, One, Prepared, Decided, Finished, Upgraded}
use Rattle.log_entries.specs.declared.request.Kind.TheVariants.{App, Transform, Upgrade}
use Rattle.log_entries.specs.declared.request.Kind.{Kind}
use Rattle.log_entries.specs.declared.request.Request.{Request}
use Rattle.log_codec.specs.Format.{Format, ◌then◌, choice, list, made, no_format, of_those, only, read_by, short_list, such_that, u8_format, u32_format, u64_format}
use Rattle.log_codec.specs.declared.body.Body.TheVariants.{Entry as AnEntry, Installed}
use Rattle.log_codec.specs.declared.body.Body.{Body}

-- ---- tests

-- whether k comes behind the last key, where there is one
abbrev pub is_above : {K : Type 0} → (K → K → Ordering) → Option K → K → Bool
is_above cmp None k = true
is_above cmp (Some last) k = is_lt (cmp last k)

-- whether each key comes behind the one before it, the first behind the last one
abbrev pub rise_from : {K : Type 0} → (K → K → Ordering) → Option K → List K → Bool
rise_from cmp last [] = true
rise_from cmp last (k ∷ ks) = is_above cmp last k && rise_from cmp (Some k) ks

-- whether the keys rise
abbrev pub rise : {K : Type 0} → (K → K → Ordering) → List K → Bool
rise cmp keys = rise_from cmp None keys

-- ---- names, timestamps, numbers, objects

abbrev pub oref_format : Format Oref
oref_format = read_by OrefFits oref_bytes oref_at

abbrev pub ts_format : Format Ts
ts_format = read_by TsFits ts_bytes ts_at

abbrev pub obj_format : Format Obj
obj_format = read_by ObjFits obj_bytes obj_at

-- a number with a sign, as two's complement
abbrev pub i64_format : Format ℤ
i64_format = of_those (FitsSigned w64) (made (cast_signed w64) (λ z. Some (cast_unsigned w64 z)) u64_format)

-- a byte that is 0 or 1
abbrev pub bit_format : Format ℕ
bit_format = such_that (λ n. nat_lt n 2) u8_format

abbrev pub flag_number : Bool → ℕ
flag_number false = 0
flag_number true = 1

abbrev pub behind_flag : ℕ → Format Bool
behind_flag zero = only false
behind_flag (suc zero) = only true
behind_flag (suc (suc n)) = no_format

-- whether a transaction commits
abbrev pub flag_format : Format Bool
flag_format = choice flag_number behind_flag

-- ---- requests

unfoldable pub who_format : Format Who
who_format = made (λ p. record { client = p.0; index = p.1 }) (λ w. Some (w.client, w.index)) (u8_format then u32_format)

abbrev pub kind_number : Kind → ℕ
kind_number App = 0
kind_number Transform = 1
kind_number (Upgrade text) = 2

abbrev pub text_in : Kind → Option (List ℕ)
text_in App = None
text_in Transform = None
text_in (Upgrade text) = Some text

abbrev pub behind_kind : ℕ → Format Kind
behind_kind zero = only App
behind_kind (suc zero) = only Transform
behind_kind (suc (suc zero)) = made Upgrade text_in (list u8_format)
behind_kind (suc (suc (suc n))) = no_format

unfoldable pub kind_format : Format Kind
kind_format = choice kind_number behind_kind

abbrev pub fault_number : Fault → ℕ
fault_number NullCall = 1
fault_number Steps = 2
fault_number Depth = 3
fault_number Large = 4

abbrev pub behind_fault : ℕ → Format Fault
behind_fault zero = no_format
behind_fault (suc zero) = only NullCall
behind_fault (suc (suc zero)) = only Steps
behind_fault (suc (suc (suc zero))) = only Depth
behind_fault (suc (suc (suc (suc zero)))) = only Large
behind_fault (suc (suc (suc (suc (suc n))))) = no_format

unfoldable pub fault_format : Format Fault
fault_format = choice fault_number behind_fault

abbrev pub answer_number : Answer → ℕ
answer_number (Ints ns) = 0
answer_number (Faulted f) = 1

abbrev pub ints_in : Answer → Option (List ℤ)
ints_in (Ints ns) = Some ns
ints_in (Faulted f) = None

abbrev pub fault_in : Answer → Option Fault
fault_in (Ints ns) = None
fault_in (Faulted f) = Some f

abbrev pub behind_answer : ℕ → Format Answer
behind_answer zero = made Ints ints_in (list i64_format)
behind_answer (suc zero) = made Faulted fault_in fault_format
behind_answer (suc (suc n)) = no_format

unfoldable pub answer_format : Format Answer
answer_format = of_those AnswerFits (choice answer_number behind_answer)

-- numbers of repositories, rising
abbrev pub repos_format : Format (List ℕ)
repos_format = such_that (rise nat_cmp) (short_list u8_format)

abbrev pub RequestParts : Type 0
RequestParts = Ts × (Who × (ℕ × (Kind × (ℕ × (ℕ × (List Oref × (List (Oref × Obj) × (List Oref × (Answer × List ℕ)))))))))

abbrev pub request_of : RequestParts → Request
request_of (tx, (who, (session, (kind, (epoch, (upto, (ros, (writes, (fresh, (answer, others)))))))))) = record { tx = tx; who = who; session = session; kind = kind; epoch = epoch; upto = upto; ros = ros; writes = writes; fresh = fresh; answer = answer; others = others }

abbrev pub request_parts : Request → Option RequestParts
request_parts q = Some (q.tx, (q.who, (q.session, (q.kind, (q.epoch, (q.upto, (q.ros, (q.writes, (q.fresh, (q.answer, q.others))))))))))

unfoldable pub request_format : Format Request
request_format = of_those RequestFits (made request_of request_parts (ts_format then who_format then u32_format then kind_format then u32_format then u64_format then list oref_format then list (oref_format then obj_format) then list oref_format then answer_format then repos_format))

-- ---- the bodies of records

abbrev pub body_number : Body → ℕ
body_number (AnEntry (Life n)) = 1
body_number (AnEntry (One q)) = 2
body_number (AnEntry (Prepared q)) = 3
body_number (AnEntry (Decided t c)) = 4
body_number (AnEntry (Finished t c)) = 5
body_number (Installed page side) = 6
body_number (AnEntry (Upgraded q)) = 7

abbrev pub life_in : Body → Option ℕ
life_in (AnEntry (Life n)) = Some n
life_in other = None

abbrev pub one_in : Body → Option Request
one_in (AnEntry (One q)) = Some q
one_in other = None

abbrev pub prepared_in : Body → Option Request
prepared_in (AnEntry (Prepared q)) = Some q
prepared_in other = None

abbrev pub decided_in : Body → Option (Ts × Bool)
decided_in (AnEntry (Decided t c)) = Some (t, c)
decided_in other = None

abbrev pub finished_in : Body → Option (Ts × Bool)
finished_in (AnEntry (Finished t c)) = Some (t, c)
finished_in other = None

abbrev pub installed_in : Body → Option (ℕ × ℕ)
installed_in (Installed page side) = Some (page, side)
installed_in other = None

abbrev pub upgraded_in : Body → Option Request
upgraded_in (AnEntry (Upgraded q)) = Some q
upgraded_in other = None

abbrev pub behind_body : ℕ → Format Body
behind_body zero = no_format
behind_body (suc zero) = made (λ n. AnEntry (Life n)) life_in u32_format
behind_body (suc (suc zero)) = made (λ q. AnEntry (One q)) one_in request_format
behind_body (suc (suc (suc zero))) = made (λ q. AnEntry (Prepared q)) prepared_in request_format
behind_body (suc (suc (suc (suc zero)))) = made (λ p. AnEntry (Decided p.0 p.1)) decided_in (ts_format then flag_format)
behind_body (suc (suc (suc (suc (suc zero))))) = made (λ p. AnEntry (Finished p.0 p.1)) finished_in (ts_format then flag_format)
behind_body (suc (suc (suc (suc (suc (suc zero)))))) = made (λ p. Installed p.0 p.1) installed_in (u32_format then bit_format)
behind_body (suc (suc (suc (suc (suc (suc (suc zero))))))) = made (λ q. AnEntry (Upgraded q)) upgraded_in request_format
behind_body (suc (suc (suc (suc (suc (suc (suc (suc n)))))))) = no_format

-- the bodies that have a spelling
abbrev pub BodyFits : Body → Type 0
BodyFits (AnEntry (Life n)) = n < 2 ^ 32
BodyFits (AnEntry (One q)) = RequestFits q
BodyFits (AnEntry (Prepared q)) = RequestFits q
BodyFits (AnEntry (Decided t c)) = TsFits t
BodyFits (AnEntry (Finished t c)) = TsFits t
BodyFits (AnEntry (Upgraded q)) = RequestFits q
BodyFits (Installed page side) = (page < 2 ^ 32) × (side < 2)

unfoldable pub body_format : Format Body
body_format = of_those BodyFits (choice body_number behind_body)
