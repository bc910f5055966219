use Rattle.model_repository.specs.Sites.{trace_in, unsettled_of}
use Rattle.law_client_views.proofs.Grown.{both_grew}
use Rattle.model_repository.proofs.site.Site.restart.Goals as goal

pub returns : goal.returns
returns g c = λ k may.
    both_grew (g.R.Reads.bases c.args.reader.now c.args.repo) k (unsettled_of k c.args.self.now.left) (unsettled_of k c.recover_where.new.self.left) (unsettled_of k c.begin_life.new.self.left) (trace_in c.args.self.now) (trace_in c.recover_where.new.self) (trace_in c.begin_life.new.self)
    (c.recover_where.ensures (g.R.Reads.bases c.args.reader.now c.args.repo) k may) (c.begin_life.ensures (g.R.Reads.bases c.args.reader.now c.args.repo) k)
