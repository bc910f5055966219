-- A client at one place of a list takes a step.
use Rattle.cluster_core.specs.Happening.{HasEnded, StepsAt}
use Rattle.cluster_core.proofs.Steps.{one_less}
use Rattle.cluster_port.proofs.Placing.{past}
use Rattle.front_end.specs.Moving.{steps_left}
use Rattle.front_end.specs.declared.front_end.FrontEnd.{FrontEnd}
use Rattle.front_end.specs.declared.front_end.Step.TheVariants as step
use Rattle.front_end.specs.declared.front_end.Step.{Step}
use Rattle.std.proofs.Common.{Err, List, Ok, OnOk, Result, [], arith, false, inl, inr, length, refl, slice_index_or, slice_set, subst, suc, sym, true, zero, ℕ, ◌+◌, ◌<◌, ◌∙◌, ◌∷◌, ◌≡◌}
use Rattle.std.specs.List.{slice_get}
use Rattle.std.specs.Prelude.{None, Some}

at_index : (fs : List FrontEnd) (n : ℕ) (f h : FrontEnd) → n < length fs → f ≡ slice_index_or fs n f → slice_get fs n ≡ Some h → f ≡ h
at_index [] n f h within there is = absurd (omega (arith, within))
at_index (g ∷ gs) zero f h within there is = there ∙ same g h is
  where
    same : (x y : FrontEnd) → Some x ≡ Some y → x ≡ y
    same x y e = cc
at_index (g ∷ gs) (suc n) f h within there is = at_index gs n f h (omega (arith, within)) there is

pub steps_at : {E : Type 0} (fs : List FrontEnd) (n : ℕ) (f g : FrontEnd) (r : Result Step E) → n < length fs → f ≡ slice_index_or fs n f → (r ≡ Ok step.Moved → steps_left g < steps_left f) → (r ≡ Ok step.Ended → HasEnded f) → OnOk r (StepsAt n fs (slice_set fs n g))
steps_at fs n f g (Err e) within there moved ended = tt
steps_at fs n f g (Ok step.Moved) within there moved ended = λ h is. inl (one_less steps_left fs n f g within there (moved refl))
steps_at fs n f g (Ok step.Ended) within there moved ended = λ h is. inr (subst HasEnded (at_index fs n f h within there is) (ended refl))

pub no_step : (fs : List FrontEnd) (i n : ℕ) → n ≡ length fs → (i < n → false ≡ true) → StepsAt i fs fs
no_step fs i n count out = λ h is. absurd (let no : None ≡ Some h = sym (past fs i n count out) ∙ is in cc)

-- of a client by its number
pub step_of : {X E : Type 0} (old new : List FrontEnd) (r : Result X E) (client place : ℕ) → client ≡ place + 1 → OnOk r (StepsAt place old new) → OnOk r ((n : ℕ) → client ≡ suc n → StepsAt n old new)
step_of old new (Err e) client place is steps = tt
step_of old new (Ok x) client place is steps = λ n named. subst (λ (m : ℕ). StepsAt m old new) (omega (arith, is, named)) steps
