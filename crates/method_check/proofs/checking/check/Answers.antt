use Rattle.std.proofs.Common.{◌≡◌, None, sym, ◌∙◌}
use Rattle.class_defs.specs.Rules.{least}
use Rattle.class_defs.specs.SchemaRules.{schema_rules}
use Rattle.class_defs.proofs.KeptRules.{none_told}
use Rattle.method_check.proofs.checking.check.Goals as goal

pub new-requires : goal.new-requires
new-requires c =
    let none : least (schema_rules c.args.schema.now c.args.repos) ≡ None = sym c.in_ok-fault.ensures ∙ c.in-None.is in
    rw c.in_ok-copy-in-None.ensures (none_told (schema_rules c.args.schema.now c.args.repos) none)
