use Rattle.disk_trait.specs.Numbers.{number}
use Rattle.std.proofs.Common.{rules, sym, ◌<◌, length}
use Rattle.disk_trait.proofs.MemLifts.{kept_sync, mem_unmade}
use Rattle.disk_trait.proofs.mem_parts.MemPartsParts.sync.Goals as goal

pub returns-in_err-time-clause-made : goal.returns-in_err-time-clause-made
returns-in_err-time-clause-made g c =
    let within : (number c.args.disk) < length c.args.self.now.disks = search rules in
    mem_unmade _ _ _ _ _ c.from_residual.result within (search rules)

pub invariant_of-self : goal.invariant_of-self
invariant_of-self g c =
    record { sound = (kept_sync c.args.self.now.disks c.sync-answer.new.disks c.number.result c.args.self.now.time c.in_ok-time.time (g.C.Clock.greatest c.args.self.now.clock) c.in_ok-time.ensures.ok c.args.self.now.sound _ c.sync-answer.result c.sync-answer.ensures).0 }

pub returns-clause-call : goal.returns-clause-call
returns-clause-call g c =
    rw (sym c.number.ensures.number) ((kept_sync c.args.self.now.disks c.sync-answer.new.disks c.number.result c.args.self.now.time c.in_ok-time.time (g.C.Clock.greatest c.args.self.now.clock) c.in_ok-time.ensures.ok c.args.self.now.sound _ c.sync-answer.result c.sync-answer.ensures).1)
