use Rattle.disk_trait.specs.Numbers.{number}
use Rattle.std.proofs.Common.{rules, ◌<◌, length}
use Rattle.disk_trait.proofs.FileCalls.{untold_write}
use Rattle.disk_trait.proofs.files.FilePartsParts.write_at.Goals as goal

pub returns-clause-call : goal.returns-clause-call
returns-clause-call g c =
    let within : (number c.args.disk) < length c.args.self.now.counts.faults = search rules in
    rw (c.after.ensures.counts, c.after.ensures.answer) (untold_write c.args.self.now.counts (g.C.Clock.greatest c.args.self.now.clock) (number c.args.disk) within c.args.at c.args.bytes.now c.write-answer.result c.write-answer.ensures)
