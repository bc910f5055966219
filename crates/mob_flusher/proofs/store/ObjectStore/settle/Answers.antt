use Rattle.std.proofs.Common.{ap}
use Rattle.mob_buffer.specs.Buffer.{Buffer}
use Rattle.mob_flusher.proofs.Maps.{map_settled}
use Rattle.mob_flusher.proofs.store.ObjectStore.settle.Goals as goal

pub returns-clause-agrees : goal.returns-clause-agrees
returns-clause-agrees c = λ disk agrees. c.settle.ensures.agrees disk (rw (← c.self.view_is) at agrees)

pub returns-clause-same_map : goal.returns-clause-same_map
returns-clause-same_map c = λ disk repo agrees last.
    rw (← c.self.view_is) (map_settled (record { pages = c.self.inside.pages; mob = c.self.inside.mob }) repo c.args.page c.args.side (rw (← c.self.view_is) at last) disk (rw (← c.self.view_is) at agrees)
    (record { pages = c.settle.new.self; mob = c.remove_page.new.self }) c.settle.ensures.sides (ap (λ (b : Buffer). b.objects) c.remove_page.ensures))
