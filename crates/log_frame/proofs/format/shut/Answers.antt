use Rattle.disk_trait.specs.Numbers.{number}
use Rattle.log_frame.proofs.Formats.{after_shut_write, after_shut_sync, shut_reads}
use Rattle.log_frame.proofs.format.shut.Goals as goal

pub returns-in_err-write_at-clause-any_moment : goal.returns-in_err-write_at-clause-any_moment
returns-in_err-write_at-clause-any_moment g c = λ bytes told. after_shut_write (g.P.Parts.disks c.args.parts.now) (number c.args.disk) c.requires.settled bytes told (c.requires.may_be_open bytes told) (g.P.Parts.disks c.write_at.new.self) c.write_at.result c.write_at.ensures

pub returns-in_err-sync-clause-any_moment : goal.returns-in_err-sync-clause-any_moment
returns-in_err-sync-clause-any_moment g c = λ bytes told. after_shut_sync (g.P.Parts.disks c.args.parts.now) (number c.args.disk) c.requires.settled bytes told (c.requires.may_be_open bytes told) (g.P.Parts.disks c.write_at.new.self) c.write_at.result c.write_at.ensures (g.P.Parts.disks c.sync.new.self) c.sync.result c.sync.ensures

pub returns-clause-any_moment : goal.returns-clause-any_moment
returns-clause-any_moment g c = λ bytes told. after_shut_sync (g.P.Parts.disks c.args.parts.now) (number c.args.disk) c.requires.settled bytes told (c.requires.may_be_open bytes told) (g.P.Parts.disks c.write_at.new.self) c.write_at.result c.write_at.ensures (g.P.Parts.disks c.sync.new.self) c.sync.result c.sync.ensures

pub returns-clause-shut : goal.returns-clause-shut
returns-clause-shut g c = shut_reads (g.P.Parts.disks c.args.parts.now) (g.P.Parts.disks c.write_at.new.self) (g.P.Parts.disks c.sync.new.self) (number c.args.disk) c.write_at.ensures.call.alone c.in_ok-write_at.ensures.content c.sync.ensures.content
