-- What a try has written, as its answer lists it (this project's).
use Rattle.std.specs.Prelude.{List, [], option_map, ℕ, ◌≡◌}
use Rattle.client_cache.specs.Copies.{Contents, changed}
use Rattle.client_cache.specs.Slots.{dated}
use Rattle.method_eval.specs.declared.view.Ran.TheVariants.{Done, Need, NeedName}
use Rattle.method_eval.specs.declared.view.Ran.{Ran}
use Rattle.paused_eval.specs.Copies.{last_of}
use Rattle.thor_value.specs.declared.names.Oref.{Oref}
use Rattle.thor_value.specs.declared.values.Answer.TheVariants as answer
use Rattle.thor_value.specs.declared.values.Answer.{Answer}
use Rattle.thor_value.specs.declared.values.Obj.{Obj}

-- What the try has written is the same, and is of this version.
pub record Dates (ver : ℕ) (old new : Contents) : Type 0 where
  pub all : (x : Oref) → changed new x ≡ option_map (dated ver) (changed old x)

-- What the try has written is the same but for versions.
pub record SameUndated (ver : ℕ) (old new : Contents) : Type 0 where
  pub same : (x : Oref) → option_map (dated ver) (changed new x) ≡ option_map (dated ver) (changed old x)

-- Where a run has ended without a fault, what the try has written is what the run answers. Behind a fault it answers nothing.
abbrev pub WrittenBy : Answer → List (Oref × Obj) → Contents → Type 0
WrittenBy (answer.Ints printed) writes c = (x : Oref) → changed c x ≡ last_of writes x
WrittenBy (answer.Fault f) writes c = writes ≡ []

abbrev pub HasWritten : Ran → Contents → Type 0
HasWritten (Done answer reads writes fresh) c = WrittenBy answer writes c
HasWritten (Need x owners) c = Unit {0}
HasWritten (NeedName repo) c = Unit {0}
