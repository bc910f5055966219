-- How many bytes the objects of a buffer have.
use Rattle.std.proofs.Common.{◌≡◌, ◌^◌, min, get_or, inl, inr, ◌⊎◌, ℕ, suc, ◌+◌, ◌-◌, ◌*◌, ◌<◌, ◌≤◌, Bool, true, false, cond, not, ◌==◌, List, [], ◌∷◌, ◌++◌, length, take, Option, Some, ap, sym, subst, ◌∙◌, arith}
use Rattle.std.proofs.Math.Nat.{min-eq_left, min-eq_right}
use Rattle.std.proofs.Math.Seq.{take-suc}
use Rattle.std.proofs.lemmas.Bool.{cases_lt}
use Rattle.std.specs.List.{flat_map}
use Rattle.std.specs.Option.{option_map, unwrap_or}
use Rattle.thor_value.specs.declared.names.Oref.{Oref}
use Rattle.thor_value.specs.declared.values.Obj.{Obj}
use Rattle.thor_value.specs.declared.values.Value.{Value}
use Rattle.thor_value.specs.Spelling.{value_bytes}
use Rattle.object_codec.specs.Spelling.{ObjFits}
use Rattle.mob_buffer.specs.Kept.{size_of, size_at}
use Rattle.mob_buffer.specs.Buffer.{AreOf, IsOf, Objects, bytes_of, object_of, same_name, with_object, without_page}

size_here : (q : Oref × Obj) (rest : Objects) (object : Obj) → bytes_of ((q.0, object) ∷ rest) + size_of q.1 ≡ bytes_of (q ∷ rest) + size_of object
size_here q rest object = omega arith

size_more : (q : Oref × Obj) (rest more : Objects) (x : Oref) (object : Obj) → bytes_of more + size_at rest x ≡ bytes_of rest + size_of object → bytes_of (q ∷ more) + size_at rest x ≡ bytes_of (q ∷ rest) + size_of object
size_more q rest more x object h = omega (arith, h)

size_by : (q : Oref × Obj) (rest more : Objects) (x : Oref) (object : Obj) (b : Bool) → bytes_of more + size_at rest x ≡ bytes_of rest + size_of object
    → bytes_of (cond b ((q.0, object) ∷ rest) (q ∷ more)) + unwrap_or (option_map size_of (cond b (Some q.1) (object_of rest x))) 0 ≡ bytes_of (q ∷ rest) + size_of object
size_by q rest more x object true h = size_here q rest object
size_by q rest more x object false h = size_more q rest more x object h

pub bytes_put : (objects : Objects) (x : Oref) (object : Obj) → bytes_of (with_object objects x object) + size_at objects x ≡ bytes_of objects + size_of object
bytes_put [] x object = omega arith
bytes_put (q ∷ objects) x object = size_by q objects (with_object objects x object) x object (same_name x q.0) (bytes_put objects x object)

le_more : (a b c : ℕ) → b ≤ c → b ≤ a + c
le_more a b c h = omega arith

-- ---- all are of one repository

put_by : (repo : ℕ) (q : Oref × Obj) (rest more : Objects) (object : Obj) (b : Bool) → AreOf repo (q ∷ rest) → ObjFits object → AreOf repo more → AreOf repo (cond b ((q.0, object) ∷ rest) (q ∷ more))
put_by repo q rest more object true all fits done = (record { repo_is = all.0.repo_is; name = all.0.name; object = fits }, all.1)
put_by repo q rest more object false all fits done = (all.0, done)

pub of_put : (repo : ℕ) (objects : Objects) (x : Oref) (object : Obj) → AreOf repo objects → IsOf repo (x, object) → AreOf repo (with_object objects x object)
of_put repo [] x object all here = (here, tt)
of_put repo (q ∷ objects) x object all here = put_by repo q objects (with_object objects x object) object (same_name x q.0) all here.object (of_put repo objects x object all.1 here)

pub kept_of : (repo : ℕ) (q : Oref × Obj) (rest : Objects) (b : Bool) → IsOf repo q → AreOf repo rest → AreOf repo (cond b (q ∷ rest) rest)
kept_of repo q rest true here all = (here, all)
kept_of repo q rest false here all = all

pub of_kept : (repo : ℕ) (objects : Objects) (page : ℕ) → AreOf repo objects → AreOf repo (without_page objects page)
of_kept repo [] page all = tt
of_kept repo (q ∷ objects) page all = kept_of repo q (without_page objects page) (not (q.0.page == page)) all.0 (of_kept repo objects page all.1)

found_by : (repo : ℕ) (q : Oref × Obj) (found : Obj) (rest : Option Obj) (b : Bool) → IsOf repo q → (rest ≡ Some found → ObjFits found) → cond b (Some q.1) rest ≡ Some found → ObjFits found
found_by repo q found rest true here more is = let same : q.1 ≡ found = cc in subst ObjFits same here.object
found_by repo q found rest false here more is = more is

pub found_fits : (repo : ℕ) (objects : Objects) (x : Oref) (found : Obj) → AreOf repo objects → object_of objects x ≡ Some found → ObjFits found
found_fits repo [] x found all is = cc
found_fits repo (q ∷ objects) x found all is = found_by repo q found (object_of objects x) (same_name x q.0) all.0 (λ h. found_fits repo objects x found all.1 h) is

-- ---- the bytes of one object

pub size_fields : (object : Obj) → size_of object ≡ 7 + length (flat_map value_bytes object.fields)
size_fields object = omega arith

-- the size of an object so far
pub record Counted (fields : List Value) (index size : ℕ) : Type 0 where
  pub is : size ≡ 7 + length (flat_map value_bytes (take index fields))
  pub most : size ≤ 7 + 34 * index

-- what one object has all have
within_by : (q : Oref × Obj) (rest : Objects) (x : Oref) (b : Bool) → size_at rest x ≤ bytes_of rest → unwrap_or (option_map size_of (cond b (Some q.1) (object_of rest x))) 0 ≤ size_of q.1 + bytes_of rest
within_by q rest x true h = omega arith
within_by q rest x false h = le_more (size_of q.1) (size_at rest x) (bytes_of rest) h

pub size_within : (objects : Objects) (x : Oref) → size_at objects x ≤ bytes_of objects
size_within [] x = omega arith
size_within (q ∷ objects) x = within_by q objects x (same_name x q.0) (size_within objects x)

add_both : (a b c d : ℕ) → b ≡ c + d → a + b ≡ (a + c) + d
add_both a b c d h = omega arith

bytes_push : (objects : Objects) (q : Oref × Obj) → bytes_of (objects ++ q ∷ []) ≡ bytes_of objects + size_of q.1
bytes_push [] q = omega arith
bytes_push (p ∷ objects) q = add_both (size_of p.1) (bytes_of (objects ++ q ∷ [])) (bytes_of objects) (size_of q.1) (bytes_push objects q)

-- the first of a list, and the next one
pub taken_next : (objects : Objects) (n : ℕ) (q : Oref × Obj) → n < length objects → q ≡ get_or objects n q → take (n + 1) objects ≡ take n objects ++ q ∷ []
taken_next objects n q within is =
    let e : n + 1 ≡ suc n = omega arith in
    ap (λ (k : ℕ). take k objects) e ∙ take-suc objects n q within ∙ ap (λ (v : Oref × Obj). take n objects ++ v ∷ []) (sym is)

-- ---- told as far as 64 bits can

pub record Told (size most : ℕ) : Type 0 where
  pub most_is : size ≤ most
  pub exact : size < 2 ^ 64 - 1 → size ≡ most

told_more : (size most rest more : ℕ) → Told size most → more ≡ most + rest → ◌⊎◌ (size + rest ≤ 2 ^ 64 - 1) (2 ^ 64 - 1 ≤ size + rest) → Told (min (size + rest) (2 ^ 64 - 1)) more
told_more size most rest more told sum (inl below) =
    let is = min-eq_left below in
    record {
      most_is = omega (arith, is, told.most_is, sum);
      exact = λ lt. (let same = told.exact (omega (arith, is, lt)) in omega (arith, is, same, sum));
    }
told_more size most rest more told sum (inr above) =
    let is = min-eq_right above in
    record {
      most_is = omega (arith, is, above, told.most_is, sum);
      exact = λ lt. absurd (omega (arith, is, lt));
    }

pub told_next : (objects : Objects) (n : ℕ) (q : Oref × Obj) (size rest next : ℕ) → n < length objects → q ≡ get_or objects n q → Told size (bytes_of (take n objects)) → rest ≡ size_of q.1 → next ≡ min (size + rest) (2 ^ 64 - 1) → Told next (bytes_of (take (n + 1) objects))
told_next objects n q size rest next within is told rest_is next_is =
    let more : bytes_of (take (n + 1) objects) ≡ bytes_of (take n objects) + rest = ap bytes_of (taken_next objects n q within is) ∙ bytes_push (take n objects) q ∙ ap (λ (k : ℕ). bytes_of (take n objects) + k) (sym rest_is) in
    let case : ◌⊎◌ (size + rest ≤ 2 ^ 64 - 1) (2 ^ 64 - 1 ≤ size + rest) = elim (cases_lt (2 ^ 64 - 1) (size + rest)) [ inl lt ↦ inr (omega (arith, lt)) | inr ge ↦ inl ge ] in
    subst (λ (k : ℕ). Told k (bytes_of (take (n + 1) objects))) (sym next_is) (told_more size (bytes_of (take n objects)) rest (bytes_of (take (n + 1) objects)) told more case)
