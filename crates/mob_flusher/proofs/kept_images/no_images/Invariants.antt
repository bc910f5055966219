use Rattle.std.proofs.Common.{◌≡◌, ℕ, Some}
use Rattle.page_format.specs.Pages.{Contents}
use Rattle.mob_flusher.specs.KeptImages.{at_place}
use Rattle.mob_flusher.proofs.kept_images.no_images.Given as goal

abbrev pub invariant-loop : goal.invariant-loop
invariant-loop l = (place : ℕ) (image : Contents) → at_place l.places.items place ≡ Some image → ⊥
