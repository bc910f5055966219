use Rattle.disk_trait.specs.Numbers.{number}
use Rattle.log_frame.proofs.Formats.{after_header, after_header_sync, after_open, after_open_sync, formatted}
use Rattle.log_frame.proofs.format.open_header.Goals as goal

pub returns-in_err-write_at-clause-any_moment : goal.returns-in_err-write_at-clause-any_moment
returns-in_err-write_at-clause-any_moment g c = λ sequence head is small fits bytes told. after_header (g.P.Parts.disks c.args.parts.now) (number c.args.disk) c.args.put.now c.requires.settled sequence head is small fits bytes told (c.requires.shut bytes told) (g.P.Parts.disks c.write_at.new.self) c.write_at.result c.write_at.ensures

pub returns-in_err-sync-clause-any_moment : goal.returns-in_err-sync-clause-any_moment
returns-in_err-sync-clause-any_moment g c = λ sequence head is small fits bytes told. after_header_sync (g.P.Parts.disks c.args.parts.now) (number c.args.disk) c.args.put.now c.requires.settled sequence head is small fits bytes told (c.requires.shut bytes told) (g.P.Parts.disks c.write_at.new.self) c.write_at.result c.write_at.ensures (g.P.Parts.disks c.sync.new.self) c.sync.result c.sync.ensures

pub returns-in_err-write_at-2-clause-any_moment : goal.returns-in_err-write_at-2-clause-any_moment
returns-in_err-write_at-2-clause-any_moment g c = λ sequence head is small fits bytes told. after_open (g.P.Parts.disks c.args.parts.now) (number c.args.disk) c.args.put.now c.requires.settled sequence head is small fits bytes told (c.requires.shut bytes told) (g.P.Parts.disks c.write_at.new.self) c.write_at.result c.write_at.ensures (g.P.Parts.disks c.sync.new.self) c.sync.result c.sync.ensures c.in_ok-write_at.ensures.content c.in_ok-sync.ensures.settled (g.P.Parts.disks c.write_at-2.new.self) c.write_at-2.result c.write_at-2.ensures

pub returns-in_err-sync-2-clause-any_moment : goal.returns-in_err-sync-2-clause-any_moment
returns-in_err-sync-2-clause-any_moment g c = λ sequence head is small fits bytes told. after_open_sync (g.P.Parts.disks c.args.parts.now) (number c.args.disk) c.args.put.now c.requires.settled sequence head is small fits bytes told (c.requires.shut bytes told) (g.P.Parts.disks c.write_at.new.self) c.write_at.result c.write_at.ensures (g.P.Parts.disks c.sync.new.self) c.sync.result c.sync.ensures c.in_ok-write_at.ensures.content c.in_ok-sync.ensures.settled (g.P.Parts.disks c.write_at-2.new.self) c.write_at-2.result c.write_at-2.ensures (g.P.Parts.disks c.sync-2.new.self) c.sync-2.result c.sync-2.ensures

pub returns-clause-any_moment : goal.returns-clause-any_moment
returns-clause-any_moment g c = λ sequence head is small fits bytes told. after_open_sync (g.P.Parts.disks c.args.parts.now) (number c.args.disk) c.args.put.now c.requires.settled sequence head is small fits bytes told (c.requires.shut bytes told) (g.P.Parts.disks c.write_at.new.self) c.write_at.result c.write_at.ensures (g.P.Parts.disks c.sync.new.self) c.sync.result c.sync.ensures c.in_ok-write_at.ensures.content c.in_ok-sync.ensures.settled (g.P.Parts.disks c.write_at-2.new.self) c.write_at-2.result c.write_at-2.ensures (g.P.Parts.disks c.sync-2.new.self) c.sync-2.result c.sync-2.ensures

pub returns-clause-formatted : goal.returns-clause-formatted
returns-clause-formatted g c = λ sequence head is small fits bytes told. formatted (g.P.Parts.disks c.args.parts.now) (number c.args.disk) c.args.put.now c.requires.settled sequence head is small fits bytes told (c.requires.shut bytes told) (g.P.Parts.disks c.write_at.new.self) c.write_at.result c.write_at.ensures (g.P.Parts.disks c.sync.new.self) c.sync.result c.sync.ensures c.in_ok-write_at.ensures.content c.in_ok-sync.ensures.settled (g.P.Parts.disks c.write_at-2.new.self) c.write_at-2.result c.write_at-2.ensures (g.P.Parts.disks c.sync-2.new.self) c.sync-2.result c.sync-2.ensures c.in_ok-write_at-2.ensures.content
