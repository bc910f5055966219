use Rattle.disk_trait.specs.Numbers.{number}
use Rattle.log_frame.proofs.AppendRuns.{after_write, after_sync, after_gate, after_all, appended}
use Rattle.log_frame.proofs.append.append_at.Goals as goal

pub returns-in_err-write_at-clause-any_moment : goal.returns-in_err-write_at-clause-any_moment
returns-in_err-write_at-clause-any_moment g c = λ opened body is fits end_is bytes told stands. after_write (g.P.Parts.disks c.args.parts.now) (number c.args.disk) c.args.end c.args.put.now c.requires.settled opened body is fits end_is bytes told stands (g.P.Parts.disks c.write_at.new.self) c.write_at.result c.write_at.ensures

pub returns-in_err-sync-clause-any_moment : goal.returns-in_err-sync-clause-any_moment
returns-in_err-sync-clause-any_moment g c = λ opened body is fits end_is bytes told stands. after_sync (g.P.Parts.disks c.args.parts.now) (number c.args.disk) c.args.end c.args.put.now c.requires.settled opened body is fits end_is bytes told stands (g.P.Parts.disks c.write_at.new.self) c.write_at.result c.write_at.ensures (g.P.Parts.disks c.sync.new.self) c.sync.result c.sync.ensures

pub returns-in_err-write_at-2-clause-any_moment : goal.returns-in_err-write_at-2-clause-any_moment
returns-in_err-write_at-2-clause-any_moment g c = λ opened body is fits end_is bytes told stands. after_gate (g.P.Parts.disks c.args.parts.now) (number c.args.disk) c.args.end c.args.put.now c.requires.settled opened body is fits end_is bytes told stands (g.P.Parts.disks c.write_at.new.self) c.write_at.result c.write_at.ensures (g.P.Parts.disks c.sync.new.self) c.sync.result c.sync.ensures c.in_ok-write_at.ensures.content c.in_ok-sync.ensures.settled (g.P.Parts.disks c.write_at-2.new.self) c.write_at-2.result c.write_at-2.ensures

pub returns-in_err-sync-2-clause-any_moment : goal.returns-in_err-sync-2-clause-any_moment
returns-in_err-sync-2-clause-any_moment g c = λ opened body is fits end_is bytes told stands. after_all (g.P.Parts.disks c.args.parts.now) (number c.args.disk) c.args.end c.args.put.now c.requires.settled opened body is fits end_is bytes told stands (g.P.Parts.disks c.write_at.new.self) c.write_at.result c.write_at.ensures (g.P.Parts.disks c.sync.new.self) c.sync.result c.sync.ensures c.in_ok-write_at.ensures.content c.in_ok-sync.ensures.settled (g.P.Parts.disks c.write_at-2.new.self) c.write_at-2.result c.write_at-2.ensures (g.P.Parts.disks c.sync-2.new.self) c.sync-2.result c.sync-2.ensures

pub returns-clause-any_moment : goal.returns-clause-any_moment
returns-clause-any_moment g c = λ opened body is fits end_is bytes told stands. after_all (g.P.Parts.disks c.args.parts.now) (number c.args.disk) c.args.end c.args.put.now c.requires.settled opened body is fits end_is bytes told stands (g.P.Parts.disks c.write_at.new.self) c.write_at.result c.write_at.ensures (g.P.Parts.disks c.sync.new.self) c.sync.result c.sync.ensures c.in_ok-write_at.ensures.content c.in_ok-sync.ensures.settled (g.P.Parts.disks c.write_at-2.new.self) c.write_at-2.result c.write_at-2.ensures (g.P.Parts.disks c.sync-2.new.self) c.sync-2.result c.sync-2.ensures

pub returns-clause-appended : goal.returns-clause-appended
returns-clause-appended g c = λ opened body is fits end_is bytes told stands. appended (g.P.Parts.disks c.args.parts.now) (number c.args.disk) c.args.end c.args.put.now c.requires.settled opened body is fits end_is bytes told stands (g.P.Parts.disks c.write_at.new.self) c.write_at.result c.write_at.ensures (g.P.Parts.disks c.sync.new.self) c.sync.result c.sync.ensures c.in_ok-write_at.ensures.content c.in_ok-sync.ensures.settled (g.P.Parts.disks c.write_at-2.new.self) c.write_at-2.result c.write_at-2.ensures (g.P.Parts.disks c.sync-2.new.self) c.sync-2.result c.sync-2.ensures c.in_ok-write_at-2.ensures.content
