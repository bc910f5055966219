use Rattle.std.proofs.Common.{◌≡◌, Some, map, take, ◌||◌}
use Rattle.std.specs.List.{fold}
use Rattle.repo_state.specs.Keeps.{IsUnread, Keeps}
use Rattle.repo_state.specs.Said.{said}
use Rattle.recovery.specs.Damage.{put_on}
use Rattle.recovery.specs.Reopening.{reopened}
use Rattle.recovery.proofs.recovering.put_all.Given as goal

-- the bodies so far stand behind what was there
abbrev pub invariant-loop-body : goal.invariant-loop-body
invariant-loop-body l = Keeps l.held × IsUnread l.held.objects.pages × (l.held.objects.mob.limit ≡ l.fn.held.objects.mob.limit) × (fold put_on (Some (said l.fn.held)) (take l.body-index l.bodies) ≡ Some (said l.held)) × (l.reopens ≡ (l.fn.reopens || reopened (Some (said l.fn.held)) (map Some (take l.body-index l.bodies))))
