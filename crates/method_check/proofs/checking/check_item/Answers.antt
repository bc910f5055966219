use Rattle.std.proofs.Common.{◌≡◌, None, sym, ◌∙◌}
use Rattle.class_defs.specs.Rules.{least}
use Rattle.class_defs.specs.SchemaRules.{item_rules}
use Rattle.class_defs.proofs.KeptRules.{none_told}
use Rattle.method_check.proofs.checking.check_item.Goals as goal

pub returns-in-None-clause-sound : goal.returns-in-None-clause-sound
returns-in-None-clause-sound c =
    let none : least (item_rules c.args.schema.now.schema c.args.repos c.args.item.now) ≡ None = sym c.in_ok-fault.ensures ∙ c.in-None.is in
    none_told (item_rules c.args.schema.now.schema c.args.repos c.args.item.now) none
