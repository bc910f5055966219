-- A repository that is opened stands right by its base.
use Rattle.class_defs.specs.declared.store.Setup.{Setup}
use Rattle.law_repo_calls.proofs.Formatting.{formatted_right}
use Rattle.law_repo_calls.proofs.Restarts.{opening}
use Rattle.log_entries.specs.declared.entry.Entry.TheVariants.{Life}
use Rattle.repo_core.specs.Restarting.{Begins, IsNew}
use Rattle.repo_core.specs.Shown.{Shown}
use Rattle.repo_site.specs.Run.{Run}
use Rattle.repo_site.specs.Sited.{BeginsAs, BeginsNew, StandsIn}
use Rattle.repo_state.specs.declared.held.Held.{Held}
use Rattle.repo_trace.specs.Recorded.{nothing, with_entry}
use Rattle.std.proofs.Common.{Err, Ok, Result, true, ℕ, ◌+◌, ◌≡◌}
use Rattle.std.specs.Prelude.{IfOk}

pub opened_in : (run : Run) (number repos : ℕ) (h : Held) {P E : Type 0} (view : P → Shown) (result : Result P E) → BeginsAs run number repos h → IfOk result (λ x. (view x).is_up ≡ true) → IfOk result (λ x. (view x).trace ≡ with_entry nothing (Life (h.life + 1))) → IfOk result (λ x. Begins h (view x))
    → IfOk result (λ x. StandsIn run number repos (view x))
opened_in run number repos h view (Ok x) r up trace begins = record { base = r.base; right = λ based. opening (run.base number) h (view x) (r.begins based) up trace begins }
opened_in run number repos h view (Err e) r up trace begins = tt

pub formatted_in : (run : Run) (number repos : ℕ) (setup : Setup) (mob : ℕ) {P E : Type 0} (view : P → Shown) (result : Result P E) → BeginsNew run number repos setup mob → IfOk result (λ x. (view x).is_up ≡ true) → IfOk result (λ x. (view x).trace ≡ with_entry nothing (Life 1))
    → IfOk result (λ x. IsNew number repos setup mob (view x)) → IfOk result (λ x. StandsIn run number repos (view x))
formatted_in run number repos setup mob {P} {E} view (Ok x) r up trace new = record { base = r.base; right = λ based. formatted_right (run.base number) number repos setup mob {P = P} {E = E} view (Ok x) (r.begins based) up trace new }
formatted_in run number repos setup mob view (Err e) r up trace new = tt
