-- What is read of a log: its checkpoint, and the bodies of its records one after the other.
use Rattle.std.proofs.Common.{◌≡◌, List, None, Option, Some, [], ◌∷◌, ◌++◌, ap, arith, get_or, length, map, min, refl, subst, suc, sym, take, zero, ℕ, ◌+◌, ◌-◌, ◌<◌, ◌^◌, ◌∙◌}
use Rattle.std.proofs.Math.Seq.{take-suc}
use Rattle.std.proofs.lemmas.List.Sums.{sum_by_push}
use Rattle.std.proofs.lemmas.Option.{slice_get-get_or}
use Rattle.std.specs.List.{AllByRecursion}
use Rattle.std.specs.Prelude.{sum_by}
use Rattle.log_codec.specs.Checkpoint.{StateFits, state_format}
use Rattle.log_codec.specs.Format.{IsSpelled, value_of}
use Rattle.log_codec.specs.Grammar.{BodyFits, body_format}
use Rattle.log_codec.specs.declared.body.Body.{Body}
use Rattle.log_codec.specs.declared.state.State.{State}
use Rattle.recovery.specs.Damage.{IsNoBody, gate_behind, told_place}

pub state_that_is_spelled : (bytes : List ℕ) (s : State) → IsSpelled state_format bytes s → StateFits s
unfolding state_format
state_that_is_spelled bytes s spelled = spelled.fits

pub body_that_is_spelled : (bytes : List ℕ) (b : Body) → IsSpelled body_format bytes b → BodyFits b
unfolding body_format
body_that_is_spelled bytes b spelled = spelled.fits

-- ---- lists

pub taken_next : {X : Type 0} (xs : List X) (n : ℕ) (x : X) → n < length xs → x ≡ get_or xs n x → take (n + 1) xs ≡ take n xs ++ x ∷ []
taken_next {X} xs n x within is =
    let e : n + 1 ≡ suc n = omega arith in
    ap (λ (k : ℕ). take k xs) e ∙ take-suc xs n x within ∙ ap (λ (v : X). take n xs ++ v ∷ []) (sym is)

pub all_at : {X : Type 0} (P : X → Type 0) (xs : List X) (n : ℕ) (x : X) → AllByRecursion P xs → n < length xs → x ≡ get_or xs n x → P x
all_at P [] n x all within is = absurd (omega (arith, within))
all_at P (y ∷ ys) zero x all within is = subst P (sym is) all.0
all_at P (y ∷ ys) (suc n) x all within is = all_at P ys n x all.1 (omega (arith, within)) is

pub map_push : {X Y : Type 0} (f : X → Y) (xs : List X) (x : X) → map f (xs ++ x ∷ []) ≡ map f xs ++ f x ∷ []
map_push f [] x = refl
map_push {X} {Y} f (y ∷ ys) x = ap (λ (zs : List Y). f y ∷ zs) (map_push f ys x)

pub all_push : {X : Type 0} (P : X → Type 0) (xs : List X) (x : X) → AllByRecursion P xs → P x → AllByRecursion P (xs ++ x ∷ [])
all_push P [] x all one = (one, tt)
all_push P (y ∷ ys) x all one = (all.0, all_push P ys x all.1 one)

sum_push : (bodies : List (List ℕ)) (body : List ℕ) → sum_by (λ b. 5 + length b) (bodies ++ body ∷ []) ≡ sum_by (λ b. 5 + length b) bodies + (5 + length body)
sum_push bodies body = sum_by_push (λ (b : List ℕ). 5 + length b) bodies body

-- ---- records

-- one body more is read
pub read_next : (records : List (List ℕ)) (n : ℕ) (record_bytes : List ℕ) (bodies next : List Body) (b : Body) → n < length records → record_bytes ≡ get_or records n record_bytes
    → value_of body_format record_bytes ≡ Some b → map (value_of body_format) (take n records) ≡ map Some bodies → next ≡ bodies ++ b ∷ [] → map (value_of body_format) (take (n + 1) records) ≡ map Some next
read_next records n bytes bodies next b within is one so_far put =
    ap (map (value_of body_format)) (taken_next records n bytes within is)
    ∙ map_push (value_of body_format) (take n records) bytes
    ∙ ap (λ (os : List (Option Body)). os ++ value_of body_format bytes ∷ []) so_far
    ∙ ap (λ (o : Option Body). map Some bodies ++ o ∷ []) one
    ∙ sym (map_push Some bodies b)
    ∙ ap (λ (bs : List Body). map Some bs) (sym put)

told_more : (g len place : ℕ) → place ≡ min g (2 ^ 64 - 1) → min (min (place + 5) (2 ^ 64 - 1) + len) (2 ^ 64 - 1) ≡ min (g + (5 + len)) (2 ^ 64 - 1)
told_more g len place is = omega (arith, is)

-- the gate behind it
pub place_next : (first : ℕ) (records : List (List ℕ)) (n : ℕ) (bytes : List ℕ) (place next : ℕ) → n < length records → bytes ≡ get_or records n bytes
    → place ≡ told_place (gate_behind first (take n records)) → next ≡ min (min (place + 5) (2 ^ 64 - 1) + length bytes) (2 ^ 64 - 1) → next ≡ told_place (gate_behind first (take (n + 1) records))
place_next first records n bytes place next within is so_far step =
    let e : gate_behind first (take n records) + (5 + length bytes) ≡ gate_behind first (take (n + 1) records) =
    (let k = sum_push (take n records) bytes in
    let t = ap (λ (bs : List (List ℕ)). sum_by (λ b. 5 + length b) bs) (taken_next records n bytes within is) in omega (arith, k, t)) in
    step ∙ told_more (gate_behind first (take n records)) (length bytes) place so_far ∙ ap told_place e

pub no_body : (first : ℕ) (records : List (List ℕ)) (n : ℕ) (bytes : List ℕ) (place : ℕ) → n < length records → bytes ≡ get_or records n bytes → place ≡ told_place (gate_behind first (take n records)) → value_of body_format bytes ≡ None → IsNoBody first records place
no_body first records n bytes place within is so_far none = record {
  at = n;
  within = within;
  body = bytes;
  is = slice_get-get_or records n bytes within ∙ ap (λ (b : List ℕ). Some b) (sym is);
  none = none;
  place_is = so_far;
}
