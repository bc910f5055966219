-- Names of one repository are told apart by page and slot.
use Rattle.std.proofs.Common.{◌≡◌, ℕ, ◌+◌, ◌<◌, ◌≤◌, Bool, true, false, cond, ◌&&◌, ◌||◌, ◌==◌, [], ◌∷◌, Option, Some, is_some, refl, ap, sym, ◌∙◌, arith, inl, inr}
use Rattle.std.proofs.lemmas.Bool.{cases_lt, eq-eqb}
use Rattle.std.proofs.lemmas.Bool.Decides.{eqb_tells}
use Rattle.thor_value.specs.declared.names.Oref.{Oref}
use Rattle.thor_value.specs.declared.values.Obj.{Obj}
use Rattle.mob_buffer.specs.Buffer.{AreOf, Objects, has_slot, object_of}

some_or : (q : Oref × Obj) (rest : Option Obj) (a b more : Bool) → a ≡ true → is_some rest ≡ more → is_some (cond (a && b) (Some q.1) rest) ≡ (b || more)
some_or q rest true true more is h = refl
some_or q rest true false more is h = h
some_or q rest false b more is h = cc

-- a name of the repository has an object just where the slot has one
pub has_is : (repo page slot : ℕ) (objects : Objects) → AreOf repo objects → is_some (object_of objects (record { repo = repo; page = page; slot = slot })) ≡ has_slot objects page slot
has_is repo page slot [] all = refl
has_is repo page slot (q ∷ objects) all =
    some_or q (object_of objects (record { repo = repo; page = page; slot = slot })) (repo == q.0.repo) ((page == q.0.page) && (slot == q.0.slot)) (has_slot objects page slot) (eq-eqb repo q.0.repo (sym all.0.repo_is)) (has_is repo page slot objects all.1)

none_by : (a b more : Bool) → b ≡ false → more ≡ false → ((a && b) || more) ≡ false
none_by true b more is h = ap (λ x. x || more) is ∙ h
none_by false b more is h = h

-- no object stands in a slot of 12 or more
pub none_above : (repo page slot : ℕ) (objects : Objects) → AreOf repo objects → 12 ≤ slot → has_slot objects page slot ≡ false
none_above repo page slot [] all le = refl
none_above repo page slot (q ∷ objects) all le =
    let below = all.0.name.slot in
    let apart : (slot == q.0.slot) ≡ false = elim (eqb_tells slot q.0.slot) [ inl same ↦ (let e = same.1 in absurd (omega arith)) | inr other ↦ other.0 ] in
    none_by (page == q.0.page) (slot == q.0.slot) (has_slot objects page slot) apart (none_above repo page slot objects all.1 le)

pub found_has : (repo page slot : ℕ) (objects : Objects) (b : Bool) → AreOf repo objects → b ≡ is_some (object_of objects (record { repo = repo; page = page; slot = slot })) → has_slot objects page slot ≡ b
found_has repo page slot objects b all is = sym (is ∙ has_is repo page slot objects all)

-- one slot more was looked at
pub none_more : (objects : Objects) (page low slot : ℕ) → ((s : ℕ) → low ≤ s → s < slot → has_slot objects page s ≡ false) → has_slot objects page slot ≡ false → (s : ℕ) → low ≤ s → s < slot + 1 → has_slot objects page s ≡ false
none_more objects page low slot before here s from below = elim (cases_lt s slot) [
  | inl lt ↦ before s from lt
  | inr ge ↦ (let e : s ≡ slot = omega arith in ap (has_slot objects page) e ∙ here)
]
