-- What is read off a plain repository's list of items (this project's).
use Rattle.model_reading.specs.Items.{read, trace_of}
use Rattle.model_reading.specs.declared.item.Item as item
use Rattle.law_client_views.specs.Plain.{Stepped}
use Rattle.spec_trace.specs.Trace.{Item}
use Rattle.std.specs.Prelude.{List, None, Ok, Err, Option, Result, Some, [], ◌++◌, ◌∷◌, ◌≡◌}
use Rattle.repo_refusals.specs.declared.refusal.Refusal.{Refusal}

abbrev pub added : Option item.Item → List Item
added None = []
added (Some i) = read i ∷ []

-- A program's step, an answer and an item that comes, is this one: it answers so, and the trace is so behind it.
pub record IsStep {X : Type 0} (is : List item.Item) (step : Result X Refusal × Option item.Item) (plain : Stepped X) : Type 0 where
  pub answer : step.0 ≡ plain.0
  pub trace : trace_of is ++ added step.1 ≡ plain.1

-- the answer is no refusal
abbrev pub IsAnswer : {X : Type 0} → Result X Refusal → Type 0
IsAnswer (Ok x) = Unit {0}
IsAnswer (Err r) = ⊥

-- A step that isn't refused.
pub record IsOkStep {X : Type 0} (is : List item.Item) (step : Result X Refusal × Option item.Item) (plain : Stepped X) : Type 0 where
  pub ok : IsAnswer step.0
  pub step_is : IsStep is step plain
