-- Objects behind writes, and how many bytes they have.
use Rattle.std.proofs.Common.{◌≡◌, ℕ, zero, suc, ◌+◌, ◌-◌, ◌<◌, ◌≤◌, Bool, true, false, cond, ◌&&◌, ◌==◌, List, [], ◌∷◌, ◌++◌, length, take, Option, Some, None, refl, ap, sym, subst, ◌∙◌, arith, length-append, slice_get, get_or}
use Rattle.std.proofs.lemmas.Bool.{eqb-true, eq-eqb, and_parts}
use Rattle.std.specs.List.{AllByRecursion}
use Rattle.std.specs.Option.{option_map, unwrap_or}
use Rattle.indexmap.proofs.MapLemmas.{insert_all_push}
use Rattle.thor_value.specs.declared.names.Oref.{Oref}
use Rattle.thor_value.specs.declared.values.Obj.{Obj}
use Rattle.mob_buffer.specs.Buffer.{AreOf, CanStand, Objects, bytes_of, object_of, same_name, with_all, with_object}
use Rattle.mob_buffer.specs.Kept.{Tallied, rank_of, size_at, size_behind_one, size_of}
use Rattle.mob_buffer.proofs.Sizes.{bytes_put, of_put, size_within, taken_next}

-- ---- names

abbrev named : ℕ → ℕ → ℕ → Oref
named repo page slot = record { repo = repo; page = page; slot = slot }

pub same_is : (x y : Oref) → same_name x y ≡ true → x ≡ y
same_is x y is =
    let repo = eqb-true x.repo y.repo ((and_parts (x.repo == y.repo) ((x.page == y.page) && (x.slot == y.slot)) is).0) in
    let more = (and_parts (x.repo == y.repo) ((x.page == y.page) && (x.slot == y.slot)) is).1 in
    let page = eqb-true x.page y.page ((and_parts (x.page == y.page) (x.slot == y.slot) more).0) in
    let slot = eqb-true x.slot y.slot ((and_parts (x.page == y.page) (x.slot == y.slot) more).1) in
    ap (λ (r : ℕ). named r x.page x.slot) repo ∙ ap (λ (p : ℕ). named y.repo p x.slot) page ∙ ap (λ (s : ℕ). named y.repo y.page s) slot

both_true : (a b c : Bool) → a ≡ true → b ≡ true → c ≡ true → (a && (b && c)) ≡ true
both_true true true true a b c = refl
both_true true true false a b c = c
both_true true false c2 a b c = cc
both_true false b2 c2 a b c = cc

pub same_refl : (x : Oref) → same_name x x ≡ true
same_refl x = both_true (x.repo == x.repo) (x.page == x.page) (x.slot == x.slot) (eq-eqb x.repo x.repo refl) (eq-eqb x.page x.page refl) (eq-eqb x.slot x.slot refl)

apart_by : (x y : Oref) (b : Bool) → (x ≡ y → ⊥) → same_name x y ≡ b → b ≡ false
apart_by x y true apart is = absurd (apart (same_is x y is))
apart_by x y false apart is = refl

pub not_same_name : (x y : Oref) → (x ≡ y → ⊥) → same_name x y ≡ false
not_same_name x y apart = apart_by x y (same_name x y) apart refl

-- ---- one write

after_here : (b : Bool) (o : Obj) (q : Obj) (rest : Option Obj) → cond b (Some o) rest ≡ cond b (Some o) (cond b (Some q) rest)
after_here true o q rest = refl
after_here false o q rest = refl

after_there : (a b : Bool) (o q : Obj) (rest : Option Obj) → (a ≡ true → b ≡ true → ⊥) → cond b (Some q) (cond a (Some o) rest) ≡ cond a (Some o) (cond b (Some q) rest)
after_there true true o q rest apart = absurd (apart refl refl)
after_there true false o q rest apart = refl
after_there false b o q rest apart = refl

after_by : (q : Oref × Obj) (rest more : Objects) (y : Oref) (o : Obj) (x : Oref) (b : Bool) → same_name y q.0 ≡ b
    → object_of more x ≡ cond (same_name x y) (Some o) (object_of rest x)
    → object_of (cond b ((q.0, o) ∷ rest) (q ∷ more)) x ≡ cond (same_name x y) (Some o) (cond (same_name x q.0) (Some q.1) (object_of rest x))
after_by q rest more y o x true is more_is =
    let same : q.0 ≡ y = sym (same_is y q.0 is) in
    ap (λ (z : Oref). cond (same_name x z) (Some o) (object_of rest x)) same
    ∙ after_here (same_name x y) o q.1 (object_of rest x)
    ∙ ap (λ (z : Oref). cond (same_name x y) (Some o) (cond (same_name x z) (Some q.1) (object_of rest x))) (sym same)
after_by q rest more y o x false is more_is =
    ap (λ (r : Option Obj). cond (same_name x q.0) (Some q.1) r) more_is
    ∙ after_there (same_name x y) (same_name x q.0) o q.1 (object_of rest x)
    (λ here there. (let e : y ≡ q.0 = sym (same_is x y here) ∙ same_is x q.0 there in
    let no : false ≡ true = sym is ∙ ap (same_name y) (sym e) ∙ same_refl y in cc))

-- what a name has behind a write
pub object_after : (objects : Objects) (y : Oref) (o : Obj) (x : Oref) → object_of (with_object objects y o) x ≡ cond (same_name x y) (Some o) (object_of objects x)
object_after [] y o x = refl
object_after (q ∷ objects) y o x = after_by q objects (with_object objects y o) y o x (same_name y q.0) refl (object_after objects y o x)

size_cond : (b : Bool) (o : Obj) (rest : Option Obj) → unwrap_or (option_map size_of (cond b (Some o) rest)) 0 ≡ cond b (size_of o) (unwrap_or (option_map size_of rest) 0)
size_cond true o rest = refl
size_cond false o rest = refl

pub size_after_one : (objects : Objects) (w : Oref × Obj) (x : Oref) → size_at (with_object objects w.0 w.1) x ≡ size_behind_one w x (size_at objects x)
size_after_one objects w x = ap (λ (o : Option Obj). unwrap_or (option_map size_of o) 0) (object_after objects w.0 w.1 x) ∙ size_cond (same_name x w.0) w.1 (object_of objects x)

-- ---- writes

pub all_push : (objects : Objects) (earlier : List (Oref × Obj)) (w : Oref × Obj) → with_all objects (earlier ++ w ∷ []) ≡ with_object (with_all objects earlier) w.0 w.1
all_push objects earlier w = insert_all_push same_name objects earlier w

pub all_next : (objects : Objects) (writes : List (Oref × Obj)) (n : ℕ) (w : Oref × Obj) → n < length writes → w ≡ get_or writes n w → with_all objects (take (n + 1) writes) ≡ with_object (with_all objects (take n writes)) w.0 w.1
all_next objects writes n w within is = ap (with_all objects) (taken_next writes n w within is) ∙ all_push objects (take n writes) w

pub size_next : (objects : Objects) (writes : List (Oref × Obj)) (n : ℕ) (w : Oref × Obj) (x : Oref) (size next : ℕ) → n < length writes → w ≡ get_or writes n w → size ≡ size_at (with_all objects (take n writes)) x → next ≡ size_behind_one w x size → next ≡ size_at (with_all objects (take (n + 1) writes)) x
size_next objects writes n w x size next within is before step =
    step ∙ ap (size_behind_one w x) before ∙ sym (size_after_one (with_all objects (take n writes)) w x)
    ∙ sym (ap (λ (all : Objects). size_at all x) (all_next objects writes n w within is))

pub of_all : (repo : ℕ) (objects : Objects) (writes : List (Oref × Obj)) → AreOf repo objects → AreOf repo writes → AreOf repo (with_all objects writes)
of_all repo objects [] held all = held
of_all repo objects (w ∷ writes) held all = of_all repo (with_object objects w.0 w.1) writes (of_put repo objects w.0 w.1 held all.0) all.1

pub can_stand : (repo : ℕ) (writes : List (Oref × Obj)) → AreOf repo writes → AllByRecursion CanStand writes
can_stand repo [] all = tt
can_stand repo (w ∷ writes) all = ((all.0.name, all.0.object), can_stand repo writes all.1)

pub taken_stand : (writes : List (Oref × Obj)) (n : ℕ) → AllByRecursion CanStand writes → AllByRecursion CanStand (take n writes)
taken_stand writes zero all = tt
taken_stand [] (suc n) all = tt
taken_stand (w ∷ writes) (suc n) all = (all.0, taken_stand writes n all.1)

stands_by : (writes : List (Oref × Obj)) (n : ℕ) (d : Oref × Obj) → AllByRecursion CanStand writes → n < length writes → CanStand (get_or writes n d)
stands_by [] n d all within = absurd (omega arith)
stands_by (w ∷ writes) zero d all within = all.0
stands_by (w ∷ writes) (suc n) d all within = stands_by writes n d all.1 (omega (arith, within))

pub stands_at : (writes : List (Oref × Obj)) (n : ℕ) (w : Oref × Obj) → AllByRecursion CanStand writes → n < length writes → w ≡ get_or writes n w → CanStand w
stands_at writes n w all within is = subst CanStand (sym is) (stands_by writes n w all within)

-- the repository of what is there behind writes
pub repo_behind : (kept : ℕ) (objects : Objects) (writes : List (Oref × Obj)) (repo : ℕ) → AreOf repo objects → AreOf repo writes → AreOf kept objects → slice_get writes 0 ≡ None → AreOf kept (with_all objects writes)
repo_behind kept objects [] repo held all are none = are
repo_behind kept objects (w ∷ writes) repo held all are none = cc

pub repo_of_first : (objects : Objects) (writes : List (Oref × Obj)) (first : Oref × Obj) (repo : ℕ) → AreOf repo objects → AreOf repo writes → slice_get writes 0 ≡ Some first → AreOf first.0.repo (with_all objects writes)
repo_of_first objects [] first repo held all is = cc
repo_of_first objects (w ∷ writes) first repo held all is =
    let same : w ≡ first = cc in
    let of_repo : repo ≡ first.0.repo = sym all.0.repo_is ∙ ap (λ (q : Oref × Obj). q.0.repo) same in
    subst (λ (r : ℕ). AreOf r (with_all objects (w ∷ writes))) of_repo (of_all repo objects (w ∷ writes) held all)

-- ---- the tally

skip_by : (b : Bool) (n rest : ℕ) → b ≡ false → cond b n rest ≡ rest
skip_by true n rest is = cc
skip_by false n rest is = refl

rank_apart : (x y : Oref) (bound : ℕ) → rank_of y < bound → bound ≤ rank_of x → x ≡ y → ⊥
rank_apart x y bound below above same = let e : rank_of x ≡ rank_of y = ap rank_of same in omega (arith, e, below, above)

-- a name above those that were written has what it had
pub not_written : (objects : Objects) (writes : List (Oref × Obj)) (bound : ℕ) (x : Oref) → AllByRecursion (λ w. rank_of w.0 < bound) writes → bound ≤ rank_of x → size_at (with_all objects writes) x ≡ size_at objects x
not_written objects [] bound x all above = refl
not_written objects (w ∷ writes) bound x all above =
    not_written (with_object objects w.0 w.1) writes bound x all.1 above
    ∙ size_after_one objects w x
    ∙ skip_by (same_name x w.0) (size_of w.1) (size_at objects x) (not_same_name x w.0 (rank_apart x w.0 bound all.0 above))

pub bounded_push : (writes : List (Oref × Obj)) (w : Oref × Obj) (bound more : ℕ) → AllByRecursion (λ w. rank_of w.0 < bound) writes → bound ≤ more → rank_of w.0 < more → AllByRecursion (λ w. rank_of w.0 < more) (writes ++ w ∷ [])
bounded_push [] w bound more all le lt = (lt, tt)
bounded_push (v ∷ writes) w bound more all le lt = (omega (arith, all.0, le), bounded_push writes w bound more all.1 le lt)

pub tallied_next : (objects : Objects) (earlier : List (Oref × Obj)) (w : Oref × Obj) (total bound before size total2 bound2 : ℕ) → Tallied objects earlier total bound → before ≡ size_at (with_all objects earlier) w.0 → size ≡ size_of w.1 → size ≤ 1095 → total2 ≡ total - before + size → bound ≤ bound2 → rank_of w.0 < bound2 → Tallied objects (earlier ++ w ∷ []) total2 bound2
tallied_next objects earlier w total bound before size total2 bound2 tally before_is size_is most sum le lt =
    let put = bytes_put (with_all objects earlier) w.0 w.1 in
    let within = size_within (with_all objects earlier) w.0 in
    let value : total2 ≡ bytes_of (with_object (with_all objects earlier) w.0 w.1) = omega (arith, put, within, tally.is, before_is, size_is, sum) in
    record {
      is = value ∙ ap bytes_of (sym (all_push objects earlier w));
      most = omega (arith, tally.most, length-append earlier (w ∷ []), sum, most);
      bounded = bounded_push earlier w bound bound2 tally.bounded le lt;
    }

pub before_within : (objects : Objects) (earlier : List (Oref × Obj)) (x : Oref) (total bound before : ℕ) → Tallied objects earlier total bound → before ≡ size_at (with_all objects earlier) x → before ≤ total
before_within objects earlier x total bound before tally is = let within = size_within (with_all objects earlier) x in omega (arith, within, is, tally.is)
