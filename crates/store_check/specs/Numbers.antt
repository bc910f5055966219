-- Schemas whose classes and epochs have numbers. This project's.
use Rattle.class_defs.specs.Epochs.{classes_of}
use Rattle.class_defs.specs.declared.store.Schemas.{Schemas}
use Rattle.std.specs.Prelude.{length, ℕ, ◌<◌, ◌^◌, ◌≤◌}

-- at most 2^16 classes in each epoch, and fewer than 2^32 epochs
pub record HasNumbers (s : Schemas) : Type 0 where
  pub classes : (k : ℕ) → length (classes_of s k) ≤ 65536
  pub epochs : length s.upgraded < 2 ^ 32
