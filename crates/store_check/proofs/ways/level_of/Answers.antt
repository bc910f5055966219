use Rattle.store_check.proofs.Walks.{capped}
use Rattle.store_check.proofs.ways.level_of.Goals as goal
use Rattle.store_check.specs.Ways.{level_of}
use Rattle.std.proofs.Common.{ap, sym, ◌∙◌}
use Rattle.std.specs.Option.{option_copied}

pub returns-in-Some : goal.returns-in-Some
returns-in-Some c =
    capped c.args.schemas.now c.in-Some.obj.now c.epoch_of-epoch.result c.min.result c.level.result c.epoch_of-epoch.ensures c.min.ensures (c.level.ensures c.in-Some.obj.now.fields)
    ∙ ap (λ w. level_of c.args.schemas.now (option_copied w)) (sym c.in-Some.is)
