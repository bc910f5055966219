-- What a restart comes to that had memory.
use Rattle.repo_refusals.specs.declared.refusal.Refusal.TheVariants.{NoMemory as IsNoMemory}
use Rattle.repo_refusals.specs.declared.refusal.Refusal.{Refusal}
use Rattle.std.proofs.Common.{Err, Ok, OnOk, Result, false, inl, inr, true, ◌≡◌}
use Rattle.std.specs.Prelude.{IsErr, IsErrOf, ◌⊎◌}

pub unless : {X T E : Type 0} (answer : Result X Refusal) (result : Result T E) (A : Type 0) → (IsErrOf answer IsNoMemory → IsErr result) → IsErrOf answer IsNoMemory ⊎ A → OnOk result A
unless answer (Err e) A wants comes = tt
unless answer (Ok v) A wants (inl none) = absurd (let no : false ≡ true = wants none in cc)
unless answer (Ok v) A wants (inr a) = a
