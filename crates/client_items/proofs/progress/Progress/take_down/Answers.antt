use Rattle.client_items.proofs.progress.Progress.take_down.Goals as goal
use Rattle.client_items.specs.Ending.{EndsBy}
use Rattle.client_items.specs.declared.news.News.{News}
use Rattle.std.proofs.Common.{subst, sym}
use Rattle.std.specs.Prelude.{OnOk}

pub returns-in-TryEnded-clause-ends : goal.returns-in-TryEnded-clause-ends
returns-in-TryEnded-clause-ends c = subst (λ (n : News). OnOk c.end_try.result (EndsBy c.args.attempts.now n c.args.self.now c.end_try.new.self)) (sym c.in-TryEnded.is) c.end_try.ensures.last
