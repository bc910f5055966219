-- What is in sight in the body that is checked.
use Rattle.std.specs.Prelude.{List}
use Rattle.class_defs.specs.Rules.{Sight}
use Rattle.class_defs.specs.declared.rules.NamedType.{NamedType}
use Rattle.method_check.specs.declared.body.Body.{Body}

abbrev pub sight : Body → List NamedType → Sight
sight b locals = record { schema = b.schema.now; repos = b.repos; this = b.this; result = b.result; locals = locals }
