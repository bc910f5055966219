-- The objects of a page, taken slot by slot.
use Rattle.std.proofs.Common.{◌≡◌, ℕ, ◌+◌, Bool, true, false, cond, not, ◌&&◌, ◌||◌, ◌==◌, [], ◌∷◌, filter, Some, refl, ap, sym, subst, ◌∙◌, arith, inl, inr}
use Rattle.std.specs.Prelude.{nat_lt}
use Rattle.std.proofs.lemmas.Bool.{cases_lt, eq-eqb, le-ltb, lt-ltb, and_right}
use Rattle.std.proofs.lemmas.Bool.Decides.{eqb_tells}
use Rattle.std.proofs.lemmas.Map.Keys.{IsDistinct-head, IsDistinct-tail}
use Rattle.std.specs.List.{AllByRecursion}
use Rattle.std.specs.Map.{keys_of, remove_entry}
use Rattle.std.specs.Option.{option_map, unwrap_or}
use Rattle.thor_value.specs.declared.names.Oref.{Oref}
use Rattle.thor_value.specs.declared.values.Obj.{Obj}
use Rattle.mob_buffer.specs.Buffer.{AreDistinct, AreOf, IsOf, Objects, bytes_of, object_of, same_name, without_page}
use Rattle.mob_buffer.specs.Kept.{size_at, size_of}
use Rattle.mob_buffer.proofs.Sizes.{kept_of}
use Rattle.mob_buffer.proofs.Writes.{same_is}

-- whether an object stands in a slot of the page below this one
abbrev pub is_below : ℕ → ℕ → Oref × Obj → Bool
is_below page slot q = (page == q.0.page) && nat_lt q.0.slot slot

-- the objects but those in the page's slots below this one
abbrev pub without_slots : Objects → ℕ → ℕ → Objects
without_slots objects page slot = filter (λ q. not (is_below page slot q)) objects

abbrev pub named : ℕ → ℕ → ℕ → Oref
named repo page slot = record { repo = repo; page = page; slot = slot }

-- ---- one slot more

lt_next : (n slot : ℕ) → nat_lt n (slot + 1) ≡ (nat_lt n slot || (slot == n))
lt_next n slot = elim (cases_lt n slot) [
  | inl lt ↦ lt-ltb n (slot + 1) (omega (arith, lt)) ∙ sym (ap (λ (b : Bool). b || (slot == n)) (lt-ltb n slot lt))
  | inr ge ↦ (elim (eqb_tells slot n) [
    | inl same ↦ (let e = same.1 in
        lt-ltb n (slot + 1) (omega (arith, e)) ∙ sym (ap (λ (b : Bool). b || (slot == n)) (le-ltb n slot ge) ∙ same.0))
    | inr apart ↦ elim (cases_lt slot n) [
      | inl above ↦ le-ltb n (slot + 1) (omega (arith, above)) ∙ sym (ap (λ (b : Bool). b || (slot == n)) (le-ltb n slot ge) ∙ apart.0)
      | inr le ↦ absurd (apart.1 (omega (arith, le, ge)))
    ]
  ])
]

next_by : (p l m s r : Bool) → r ≡ true → m ≡ (l || s) → (p && m) ≡ ((p && l) || (r && (p && s)))
next_by true l m s true same is = is
next_by false l m s true same is = refl
next_by true l m s false same is = cc
next_by false l m s false same is = refl

below_next : (repo page slot : ℕ) (q : Oref × Obj) → IsOf repo q → is_below page (slot + 1) q ≡ (is_below page slot q || same_name (named repo page slot) q.0)
below_next repo page slot q of = next_by (page == q.0.page) (nat_lt q.0.slot slot) (nat_lt q.0.slot (slot + 1)) (slot == q.0.slot) (repo == q.0.repo) (eq-eqb repo q.0.repo (sym of.repo_is)) (lt_next q.0.slot slot)

-- ---- no object of the name is there

or_none : (a s : Bool) → s ≡ false → (a || s) ≡ a
or_none true s none = refl
or_none false s none = none

alike : (q : Oref × Obj) (one two : Objects) (a c : Bool) → c ≡ a → one ≡ two → cond (not a) (q ∷ one) one ≡ cond (not c) (q ∷ two) two
alike q one two a c is same = ap (λ (b : Bool). cond (not b) (q ∷ one) one) (sym is) ∙ ap (λ (r : Objects). cond (not c) (q ∷ r) r) same

none_taken : (repo page slot : ℕ) (objects : Objects) → AreOf repo objects → AllByRecursion (λ y. same_name (named repo page slot) y ≡ false) (keys_of objects) → without_slots objects page slot ≡ without_slots objects page (slot + 1)
none_taken repo page slot [] all none = refl
none_taken repo page slot (q ∷ objects) all none =
    alike q (without_slots objects page slot) (without_slots objects page (slot + 1)) (is_below page slot q) (is_below page (slot + 1) q)
    (below_next repo page slot q all.0 ∙ or_none (is_below page slot q) (same_name (named repo page slot) q.0) none.0)
    (none_taken repo page slot objects all.1 none.1)

-- ---- the object of a slot is taken

here_by : (q : Oref × Obj) (below more above : Objects) (s : Bool) → more ≡ above → (s ≡ true → below ≡ above) → cond s below (q ∷ more) ≡ cond (not s) (q ∷ above) above
here_by q below more above true rest same = same refl
here_by q below more above false rest same = ap (λ (r : Objects). q ∷ r) rest

taken_by : (x : Oref) (q : Oref × Obj) (below above : Objects) (a c : Bool) → c ≡ (a || same_name x q.0) → remove_entry (same_name x) below ≡ above → (same_name x q.0 ≡ true → below ≡ above) → remove_entry (same_name x) (cond (not a) (q ∷ below) below) ≡ cond (not c) (q ∷ above) above
taken_by x q below above true c is rest same = rest ∙ sym (ap (λ (b : Bool). cond (not b) (q ∷ above) above) is)
taken_by x q below above false c is rest same = here_by q below (remove_entry (same_name x) below) above (same_name x q.0) rest same ∙ sym (ap (λ (b : Bool). cond (not b) (q ∷ above) above) is)

pub slot_taken : (repo page slot : ℕ) (objects : Objects) → AreOf repo objects → AreDistinct objects → remove_entry (same_name (named repo page slot)) (without_slots objects page slot) ≡ without_slots objects page (slot + 1)
slot_taken repo page slot [] all distinct = refl
slot_taken repo page slot (q ∷ objects) all distinct =
    taken_by (named repo page slot) q (without_slots objects page slot) (without_slots objects page (slot + 1)) (is_below page slot q) (is_below page (slot + 1) q)
    (below_next repo page slot q all.0)
    (slot_taken repo page slot objects all.1 (IsDistinct-tail same_name q.0 (keys_of objects) distinct))
    (λ same. none_taken repo page slot objects all.1
    (subst (λ (x : Oref). AllByRecursion (λ y. same_name x y ≡ false) (keys_of objects)) (sym (same_is (named repo page slot) q.0 same)) (IsDistinct-head same_name q.0 (keys_of objects) distinct)))

-- ---- no slot, and all slots

pub no_slots : (objects : Objects) (page : ℕ) → without_slots objects page 0 ≡ objects
no_slots [] page = refl
no_slots (q ∷ objects) page =
    alike q (without_slots objects page 0) objects (is_below page 0 q) false (sym (and_right (page == q.0.page) (nat_lt q.0.slot 0) (le-ltb q.0.slot 0 (omega arith)))) (no_slots objects page)

eq_turn : (a b : ℕ) → (a == b) ≡ (b == a)
eq_turn a b = elim (eqb_tells a b) [
  | inl same ↦ same.0 ∙ sym (eq-eqb b a (sym same.1))
  | inr apart ↦ (elim (eqb_tells b a) [
    | inl same ↦ absurd (apart.1 (sym same.1))
    | inr other ↦ apart.0 ∙ sym other.0
  ])
]

and_all : (p l : Bool) → l ≡ true → (p && l) ≡ p
and_all true l all = all
and_all false l all = refl

pub all_slots : (repo page : ℕ) (objects : Objects) → AreOf repo objects → without_slots objects page 12 ≡ without_page objects page
all_slots repo page [] all = refl
all_slots repo page (q ∷ objects) all =
    alike q (without_slots objects page 12) (without_page objects page) (is_below page 12 q) (q.0.page == page)
    (eq_turn q.0.page page ∙ sym (and_all (page == q.0.page) (nat_lt q.0.slot 12) (lt-ltb q.0.slot 12 all.0.name.slot)))
    (all_slots repo page objects all.1)

pub of_slots : (repo page slot : ℕ) (objects : Objects) → AreOf repo objects → AreOf repo (without_slots objects page slot)
of_slots repo page slot [] all = tt
of_slots repo page slot (q ∷ objects) all = kept_of repo q (without_slots objects page slot) (not (is_below page slot q)) all.0 (of_slots repo page slot objects all.1)

-- ---- how many bytes are left

left_by : (q : Oref × Obj) (rest more : Objects) (x : Oref) (b : Bool) → bytes_of more + size_at rest x ≡ bytes_of rest → bytes_of (cond b rest (q ∷ more)) + unwrap_or (option_map size_of (cond b (Some q.1) (object_of rest x))) 0 ≡ bytes_of (q ∷ rest)
left_by q rest more x true h = omega arith
left_by q rest more x false h = omega (arith, h)

pub bytes_left : (objects : Objects) (x : Oref) → bytes_of (remove_entry (same_name x) objects) + size_at objects x ≡ bytes_of objects
bytes_left [] x = refl
bytes_left (q ∷ objects) x = left_by q objects (remove_entry (same_name x) objects) x (same_name x q.0) (bytes_left objects x)
