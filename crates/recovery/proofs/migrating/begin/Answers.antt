use Rattle.std.proofs.Common.{◌≡◌, subst, sym}
use Rattle.commit_log.specs.Holds.{Holds}
use Rattle.log_frame.specs.Log.{Place}
use Rattle.recovery.proofs.Moving.{ok_at}
use Rattle.repo_state.specs.Keeps.{IsUnread, Keeps}
use Rattle.repo_state.specs.Said.{said}
use Rattle.recovery.proofs.migrating.begin.Goals as goal

pub returns-in_ok-begun-in-Ok-clause-holds : goal.returns-in_ok-begun-in-Ok-clause-holds
returns-in_ok-begun-in-Ok-clause-holds g c = subst (λ (p : Place). Holds (g.P.Parts.disks c.begin_log.new.parts) p c.args.state) (sym c.in_ok-begun-in-Ok.ensures.made.0) c.in-Ok.ensures.done

pub returns-in_ok-begun-in-Ok-clause-keeps : goal.returns-in_ok-begun-in-Ok-clause-keeps
returns-in_ok-begun-in-Ok-clause-keeps g c = ok_at c.hold.result c.in_ok-begun-in-Ok.held Keeps c.in_ok-begun-in-Ok.ensures.made.1 c.hold.ensures.keeps

pub returns-in_ok-begun-in-Ok-clause-said : goal.returns-in_ok-begun-in-Ok-clause-said
returns-in_ok-begun-in-Ok-clause-said g c = ok_at c.hold.result c.in_ok-begun-in-Ok.held (λ h. said h ≡ c.args.state) c.in_ok-begun-in-Ok.ensures.made.1 c.hold.ensures.said

pub returns-in_ok-begun-in-Ok-clause-unread : goal.returns-in_ok-begun-in-Ok-clause-unread
returns-in_ok-begun-in-Ok-clause-unread g c = ok_at c.hold.result c.in_ok-begun-in-Ok.held (λ h. IsUnread h.objects.pages) c.in_ok-begun-in-Ok.ensures.made.1 c.hold.ensures.unread

pub returns-in_ok-begun-in-Ok-clause-limit : goal.returns-in_ok-begun-in-Ok-clause-limit
returns-in_ok-begun-in-Ok-clause-limit g c = ok_at c.hold.result c.in_ok-begun-in-Ok.held (λ h. h.objects.mob.limit ≡ c.args.limit) c.in_ok-begun-in-Ok.ensures.made.1 c.hold.ensures.limit
