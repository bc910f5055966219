use Rattle.disk_trait.proofs.MemLifts.{made_settled}
use Rattle.disk_trait.proofs.mem_parts.MemParts.new.Goals as goal

pub returns-clause-settled : goal.returns-clause-settled
returns-clause-settled g c = λ asked d.
    made_settled c.new.result c.new-2.result c.new-3.result c.args.log0.items c.args.log1.items c.args.pages.items c.new.ensures c.new-2.ensures c.new-3.ensures asked d
