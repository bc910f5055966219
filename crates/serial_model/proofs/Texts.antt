-- Texts are compared by their bytes.
use Rattle.std.proofs.Common.{◌≡◌, ◌↔◌, ℕ, List}
use Rattle.std.specs.Prelude.{IsTrue}
use Rattle.std.specs.Str.{bytes_eq}
use Rattle.std.proofs.lemmas.Slice.Eq.{bytes_eq-Decides}

pub same_bytes : (xs ys : List ℕ) → IsTrue (bytes_eq xs ys) ↔ (xs ≡ ys)
same_bytes xs ys = bytes_eq-Decides xs ys
