-- The machine's clock.
use Rattle.std.specs.Prelude.{◌≡◌}
use Rattle.disk_trait.specs.declared.clock.SystemClock.{SystemClock}

-- it gave no number yet
abbrev pub no_number_yet : {R : Type 0} → SystemClock R → Type 0
no_number_yet clock = (clock.last ≡ 0) × (clock.greatest ≡ 0)
