use Rattle.model_repository.proofs.Beginning.{came_grew}
use Rattle.model_repository.proofs.Taking.{one_more}
use Rattle.model_reading.specs.Items.{trace_of}
use Rattle.model_repository.specs.Sites.{trace_in, unsettled_of}
use Rattle.model_reading.specs.declared.item.Item.TheVariants as items
use Rattle.model_repository.specs.declared.site.Left.TheVariants as left
use Rattle.model_repository.specs.declared.site.Site.{Site}
use Rattle.client_port.specs.Growing.{Grew}
use Rattle.std.proofs.Common.{ap, subst, sym, ◌∙◌}
use Rattle.model_repository.proofs.site.Site.bring.Goals as goal

pub returns-in-Ok : goal.returns-in-Ok
returns-in-Ok c = λ b k may.
    subst (λ (s : Site). Grew b k (unsettled_of k (left.Pending c.args.client c.args.entry)) (trace_in c.args.self.now) (unsettled_of k s.left) (trace_in s)) (sym c.leave.ensures)
    (came_grew b k c.args.client c.args.entry (trace_in c.args.self.now) _ may (ap trace_of c.in-Ok.ensures.items ∙ one_more c.args.self.now.items.items (items.Entry c.args.entry)))
