-- What comes to the duties, and what is left of them.
use Rattle.client_state.specs.Handing.{handed, kept_behind, told_all}
use Rattle.client_state.specs.declared.duties.Duty.TheVariants.{Finish}
use Rattle.client_state.specs.declared.duties.Duty.{Duty}
use Rattle.session_outbox.specs.declared.answers.Verdict.{Verdict}
use Rattle.std.proofs.Common.{Bool, List, [], ap, refl, true, ℕ, ◌++◌, ◌∷◌, ◌≡◌, ◌∙◌}
use Rattle.std.proofs.lemmas.Option.{same_Some}
use Rattle.std.proofs.lemmas.Slice.Eq.{bytes_eq-Decides}
use Rattle.std.specs.List.{slice_get}
use Rattle.std.specs.Str.{bytes_eq}
use Rattle.std.specs.Prelude.{Some, insert, remove}

-- no participant is to be told
pub none_handed : (v : Verdict) (to : List ℕ) (ds : List Duty) → to ≡ [] → handed v to ds ≡ ds
none_handed v to ds e = ap (λ (rs : List ℕ). handed v rs ds) e

pub some_handed : (v : Verdict) (to : List ℕ) (ds : List Duty) → (to ≡ [] → ⊥) → handed v to ds ≡ ds ++ Finish v to v.commit ∷ []
some_handed v [] ds other = absurd (other refl)
some_handed v (r ∷ rs) ds other = refl

-- no other participant is to be told
pub none_behind : (v : Verdict) (to : List ℕ) (forgets : Bool) (ds : List Duty) → to ≡ [] → kept_behind v to forgets ds ≡ told_all v forgets ds
none_behind v to forgets ds e = ap (λ (rs : List ℕ). kept_behind v rs forgets ds) e

pub some_behind : (v : Verdict) (to : List ℕ) (forgets : Bool) (ds : List Duty) → (to ≡ [] → ⊥) → kept_behind v to forgets ds ≡ Finish v to forgets ∷ ds
some_behind v [] forgets ds other = absurd (other refl)
some_behind v (r ∷ rs) forgets ds other = refl

-- the oldest duty is taken
pub first_duty : (ds : List Duty) (d : Duty) → slice_get ds 0 ≡ Some d → ds ≡ d ∷ remove ds 0
first_duty [] d h = cc
first_duty (x ∷ ds) d h = ap (λ (y : Duty). y ∷ ds) (same_Some x d h)

-- a duty is put before all others
pub put_before : (ds : List Duty) (d : Duty) → insert ds 0 d ≡ d ∷ ds
put_before [] d = refl
put_before (x ∷ ds) d = refl

-- the first participant is told
pub first_told : (rs : List ℕ) (r : ℕ) → slice_get rs 0 ≡ Some r → rs ≡ r ∷ remove rs 0
first_told [] r h = cc
first_told (x ∷ rs) r h = ap (λ (y : ℕ). y ∷ rs) (same_Some x r h)

-- all participants have prepared it
pub all_prepared : (participants behind others : List ℕ) (coordinator : ℕ) → participants ≡ coordinator ∷ behind → bytes_eq behind others ≡ true → participants ≡ coordinator ∷ others
all_prepared participants behind others coordinator e same = e ∙ ap (λ (rs : List ℕ). coordinator ∷ rs) ((bytes_eq-Decides behind others).0 same)
