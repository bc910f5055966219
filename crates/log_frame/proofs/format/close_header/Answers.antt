use Rattle.disk_trait.specs.Numbers.{number}
use Rattle.std.proofs.Common.{◌∙◌, inl}
use Rattle.disk_trait.specs.Disks.{MayLeave}
use Rattle.disk_trait.proofs.Runs.{leaves_weaker, leaves_then}
use Rattle.log_frame.specs.Log.{IsOldOrShut}
use Rattle.log_frame.proofs.format.close_header.Goals as goal

pub returns-in_err-look-clause-any_moment : goal.returns-in_err-look-clause-any_moment
returns-in_err-look-clause-any_moment g c = λ bytes told.
    leaves_weaker _ _ (number c.args.disk) (MayLeave (g.P.Parts.disks c.args.parts.now) (number c.args.disk)) (IsOldOrShut bytes) (λ image left. inl (c.requires.settled bytes told image left)) c.look.ensures.still

pub returns-in-Shut-clause-any_moment : goal.returns-in-Shut-clause-any_moment
returns-in-Shut-clause-any_moment g c = λ bytes told.
    leaves_weaker _ _ (number c.args.disk) (MayLeave (g.P.Parts.disks c.args.parts.now) (number c.args.disk)) (IsOldOrShut bytes) (λ image left. inl (c.requires.settled bytes told image left)) c.look.ensures.still

pub returns-in-OpenOrShort-clause-any_moment : goal.returns-in-OpenOrShort-clause-any_moment
returns-in-OpenOrShort-clause-any_moment g c = λ bytes told.
    leaves_then (g.P.Parts.disks c.args.parts.now) (g.P.Parts.disks c.look.new.parts) (g.P.Parts.disks c.shut.new.parts) (number c.args.disk) (IsOldOrShut bytes)
    (leaves_weaker _ _ (number c.args.disk) (MayLeave (g.P.Parts.disks c.args.parts.now) (number c.args.disk)) (IsOldOrShut bytes) (λ image left. inl (c.requires.settled bytes told image left)) c.look.ensures.still)
    (c.shut.ensures.any_moment bytes (c.look.ensures.content ∙ told))
