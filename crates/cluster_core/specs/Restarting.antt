-- What a restart makes of what stands at a repository's place.
use Rattle.cluster_core.specs.declared.seat.Seat.TheVariants.{Closed, Open}
use Rattle.cluster_core.specs.declared.seat.Seat.{Seat}
use Rattle.cluster_port.specs.SiteHappening.{GoesOn}
use Rattle.std.specs.Prelude.{◌≡◌}

-- A repository that is open is started again. What isn't open stays as it was.
abbrev pub IsStartedAgain : {P O : Type 0} → Seat P O → Seat P O → Type 0
IsStartedAgain (Open old) (Open new) = GoesOn old.shown new.shown
IsStartedAgain (Open old) (Closed c) = ⊥
IsStartedAgain (Closed c) new = new ≡ Closed c
