use Rattle.std.proofs.Common.{ap, sym, ◌∙◌}
use Rattle.commit_log.specs.Recovered.{in_format}
use Rattle.page_format.specs.declared.format.StoreFormat.{StoreFormat}
use Rattle.recovery.proofs.migrating.hold.Goals as goal

pub returns-in-Ok-clause-said : goal.returns-in-Ok-clause-said
returns-in-Ok-clause-said c = c.in-Ok.ensures.said ∙ ap (λ (f : StoreFormat). in_format f c.args.state) (sym c.requires.format)
