use Rattle.disk_trait.specs.Numbers.{number}
use Rattle.std.proofs.Common.{rules, sym, ◌<◌, length}
use Rattle.disk_trait.proofs.MemLifts.{kept_write, mem_unmade}
use Rattle.disk_trait.proofs.mem_parts.MemPartsParts.write_at.Goals as goal

pub returns-in_err-time-clause-made : goal.returns-in_err-time-clause-made
returns-in_err-time-clause-made g c =
    let within : (number c.args.disk) < length c.args.self.now.disks = search rules in
    mem_unmade _ _ _ _ _ c.from_residual.result within (search rules)

pub invariant_of-self : goal.invariant_of-self
invariant_of-self g c =
    record { sound = (kept_write c.args.self.now.disks c.write_at-answer.new.disks c.number.result c.args.self.now.time c.in_ok-time.time (g.C.Clock.greatest c.args.self.now.clock) c.in_ok-time.ensures.ok c.args.self.now.sound c.args.at c.args.bytes.now _ c.write_at-answer.result c.write_at-answer.ensures.made c.write_at-answer.ensures.too_far).0 }

pub returns-clause-call : goal.returns-clause-call
returns-clause-call g c =
    rw (sym c.number.ensures.number) ((kept_write c.args.self.now.disks c.write_at-answer.new.disks c.number.result c.args.self.now.time c.in_ok-time.time (g.C.Clock.greatest c.args.self.now.clock) c.in_ok-time.ensures.ok c.args.self.now.sound c.args.at c.args.bytes.now _ c.write_at-answer.result c.write_at-answer.ensures.made c.write_at-answer.ensures.too_far).1)
