-- What an event of a schedule does.
use Rattle.cluster_port.specs.Happening.{HappenedAt, IsStopped}
use Rattle.front_end.specs.Moving.{course_of, steps_left}
use Rattle.front_end.specs.declared.front_end.FrontEnd.{FrontEnd}
use Rattle.cluster_port.specs.SiteHappening.{ComesBack, Flushes, GoesOn}
use Rattle.cluster_port.specs.Sited.{Sited}
use Rattle.schedule.specs.declared.events.EventKind.TheVariants as event
use Rattle.schedule.specs.declared.events.EventKind.{EventKind}
use Rattle.std.specs.List.{slice_get, sum_by}
use Rattle.std.specs.Prelude.{List, OnOk, Result, Some, length, suc, ℕ, ◌<◌, ◌≡◌, ◌⊎◌}

-- What the event has done to the repositories: a flush flushes, a stop stops, a restart restarts.
abbrev pub Performs : EventKind → List Sited → List Sited → Type 0
Performs (event.Step c) old new = Unit {0}
Performs (event.Deliver c r) old new = Unit {0}
Performs (event.Flush r) old new = HappenedAt Flushes r old new
Performs (event.Checkpoint r) old new = Unit {0}
Performs (event.Stop r n) old new = HappenedAt (IsStopped n) r old new
Performs (event.Restart r p) old new = HappenedAt GoesOn r old new
Performs (event.Settle r) old new = Unit {0}
Performs event.Unknown old new = Unit {0}

-- all items of a client have ended
abbrev pub HasEnded : FrontEnd → Type 0
HasEnded f = length (course_of f).ended ≡ (course_of f).count

-- the client at the place n, where there is one, has taken a step: fewer steps are left, or its items had ended
abbrev pub StepsAt : ℕ → List FrontEnd → List FrontEnd → Type 0
StepsAt n old new = (f : FrontEnd) → slice_get old n ≡ Some f → (sum_by steps_left new < sum_by steps_left old) ⊎ HasEnded f

-- What the event has done to the clients, which are counted from 1: a step is a step of that client, where memory was there.
abbrev pub Steps : {X E : Type 0} → EventKind → Result X E → List FrontEnd → List FrontEnd → Type 0
Steps (event.Step c) result old new = OnOk result ((n : ℕ) → c ≡ suc n → StepsAt n old new)
Steps (event.Deliver c r) result old new = Unit {0}
Steps (event.Flush r) result old new = Unit {0}
Steps (event.Checkpoint r) result old new = Unit {0}
Steps (event.Stop r n) result old new = Unit {0}
Steps (event.Restart r p) result old new = Unit {0}
Steps (event.Settle r) result old new = Unit {0}
Steps event.Unknown result old new = Unit {0}

-- What a restart of the schedule comes to, where memory was there: a repository whose disks tell their bytes is up, or one of them failed.
abbrev pub Comes : {X E : Type 0} → EventKind → Result X E → List Sited → List Sited → Type 0
Comes (event.Step c) result old new = Unit {0}
Comes (event.Deliver c r) result old new = Unit {0}
Comes (event.Flush r) result old new = Unit {0}
Comes (event.Checkpoint r) result old new = Unit {0}
Comes (event.Stop r n) result old new = Unit {0}
Comes (event.Restart r p) result old new = OnOk result (HappenedAt ComesBack r old new)
Comes (event.Settle r) result old new = Unit {0}
Comes event.Unknown result old new = Unit {0}
