use Rattle.model_repository.specs.Sites.{trace_in, unsettled_of}
use Rattle.law_client_views.proofs.Grown.{none_grew}
use Rattle.model_repository.proofs.site.Site.recover_where.Goals as goal

pub returns : goal.returns
returns c = λ b k may. none_grew b k (unsettled_of k c.args.self.now.left) (trace_in c.args.self.now)
