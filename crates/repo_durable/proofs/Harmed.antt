-- A page that stopped a flush, behind it.
use Rattle.disk_trait.specs.Disks.{Disks}
use Rattle.mob_buffer.specs.Buffer.{Objects}
use Rattle.mob_flusher.specs.declared.store.Flushed.TheVariants.{Nothing}
use Rattle.mob_flusher.specs.declared.store.Flushed.{Flushed}
use Rattle.page_format.specs.Sides.{side_in_use}
use Rattle.page_store.specs.Store.{IsDamage}
use Rattle.page_store.specs.declared.fault.StoreFault.TheVariants.{Damaged}
use Rattle.page_store.specs.declared.fault.StoreFault.{StoreFault}
use Rattle.std.proofs.Common.{Err, IfSome, List, Ok, Result, Some, ap, refl, subst, sym, ℕ, ◌∙◌, ◌∷◌, ◌≡◌}
use Rattle.std.specs.Prelude.{IsErrOf, [], slice_get}
use Rattle.repo_refusals.specs.declared.refusal.Refusal.TheVariants as refused
use Rattle.repo_refusals.specs.declared.refusal.Refusal.{Refusal}

-- damage stays where the disk of pages and the sides in use stay
pub damage_stays : (old new : Disks) (before after : List (ℕ × ℕ)) (page place : ℕ) → new.content 2 ≡ old.content 2 → after ≡ before → IsDamage old before page place → IsDamage new after page place
damage_stays old new before after page place content sides damage = record {
  side = damage.side;
  in_use = subst (λ (s : List (ℕ × ℕ)). side_in_use s page ≡ Some damage.side) (sym sides) damage.in_use;
  place_is = damage.place_is;
  none = λ disk told. damage.none disk (sym content ∙ told);
}

-- a flush that found damage had an object to write, whose page is damaged behind it, too
damage_found : (old new : Disks) (before after : List (ℕ × ℕ)) (objects : Objects) (result : Result Flushed StoreFault) (place : ℕ) → result ≡ Err (Damaged place) → (objects ≡ [] → result ≡ Ok Nothing)
    → IfSome (slice_get objects 0) (λ q. IsDamage old before q.0.page place) → new.content 2 ≡ old.content 2 → after ≡ before → (page : ℕ) × IsDamage new after page place
damage_found old new before after [] result place is empty damage content sides = absurd (never (sym is ∙ empty refl))
  where
    never : Err (Damaged place) ≡ Ok Nothing → ⊥
    never e = cc
damage_found old new before after (q ∷ qs) result place is empty damage content sides = (q.0.page, damage_stays old new before after q.0.page place content sides damage)

same_refusal : {T : Type 0} (answer : Result T Refusal) (a b : Refusal) → answer ≡ Err a → answer ≡ Err b → a ≡ b
same_refusal answer a b is e = cc

-- and so told in a refusal
pub damage_told : {T : Type 0} (old new : Disks) (before after : List (ℕ × ℕ)) (objects : Objects) (result : Result Flushed StoreFault) (fault : StoreFault) (refusal : Refusal) (answer : Result T Refusal) (r place : ℕ) → result ≡ Err fault
    → (refusal ≡ refused.Damaged r place → fault ≡ Damaged place) → answer ≡ Err refusal → IsErrOf answer (refused.Damaged r place) → (objects ≡ [] → result ≡ Ok Nothing)
    → ((at : ℕ) → IsErrOf result (Damaged at) → IfSome (slice_get objects 0) (λ q. IsDamage old before q.0.page at)) → ((at : ℕ) → IsErrOf result (Damaged at) → new.content 2 ≡ old.content 2) → after ≡ before → (page : ℕ) × IsDamage new after page place
damage_told old new before after objects result fault refusal answer r place is told given wrong empty damage content sides =
    let at : fault ≡ Damaged place = told (same_refusal answer refusal (refused.Damaged r place) given wrong) in
    let found : result ≡ Err (Damaged place) = is ∙ ap (λ (f : StoreFault). Err f) at in
    damage_found old new before after objects result place found empty (damage place found) (content place found) sides
