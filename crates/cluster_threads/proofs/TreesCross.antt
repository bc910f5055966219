-- Which trees of the language may cross threads, one type at a time.
use denote.Param.Send.{IsSend, IsSync, sendable}
use Rattle.thor_value.proofs.boxed.Boxed.TheSendSync as boxed
use Rattle.thor_value.proofs.sequence.Sequence.TheSendSync as sequence
use Rattle.thor_value.proofs.shared.Shared.TheSendSync as shared
use Rattle.thor_value.proofs.words.Word.TheSendSync as word
use Rattle.class_defs.proofs.expressions.Expr.TheLaws.TheKnot as expr
use Rattle.class_defs.proofs.literals.Literal.TheSendSync as literal
use Rattle.class_defs.proofs.statements.Stmt.TheLaws.TheKnot as stmt
use Rattle.class_defs.proofs.upgrades.Tf.TheLaws.TheKnot as tf
use Rattle.class_defs.specs.contracts.expressions.Name as Name
use Rattle.class_defs.specs.contracts.expressions.TypeName as TypeName
use Rattle.class_defs.specs.contracts.expressions.Expr as Expr
use Rattle.class_defs.specs.contracts.statements.Stmt as Stmt
use Rattle.class_defs.specs.contracts.upgrades.Tf as Tf
use Rattle.class_defs.specs.contracts.upgrades.FieldUpgrade as FieldUpgrade
use Rattle.class_defs.specs.contracts.upgrades.ClassUpgrade as ClassUpgrade
use Rattle.class_defs.specs.contracts.upgrades.Upgrade as Upgrade
use Rattle.class_defs.specs.contracts.classes.Parameter as Parameter
use Rattle.class_defs.specs.contracts.classes.Field as Field
use Rattle.class_defs.specs.contracts.classes.Method as Method
use Rattle.class_defs.specs.contracts.classes.Class as Class
use Rattle.class_defs.specs.contracts.store.RootDeclaration as RootDeclaration
use Rattle.class_defs.specs.contracts.store.Schema as Schema
use Rattle.class_defs.specs.contracts.store.Schemas as Schemas

ruleset base = (sequence.the_send, sequence.the_sync, boxed.the_send, boxed.the_sync, shared.the_send, shared.the_sync, word.the_send, word.the_sync, sendable)

pub name_send : IsSend (Name.the_field).row
name_send = search base depth 30

pub name_sync : IsSync (Name.the_field).row
name_sync = search base depth 30

pub type_name_send : IsSend (TypeName.the_field).row
type_name_send = search (name_send, base) depth 30

pub type_name_sync : IsSync (TypeName.the_field).row
type_name_sync = search (name_sync, base) depth 30

pub expr_send : IsSend (Expr.the_field).row
expr_send = search (expr.crosses_both, name_send, name_sync, literal.the_field_send, literal.the_field_sync, base) depth 60 fits 20000

pub expr_sync : IsSync (Expr.the_field).row
expr_sync = search (expr.crosses_both, name_send, name_sync, literal.the_field_send, literal.the_field_sync, base) depth 60 fits 20000

pub tf_send : IsSend (Tf.the_field).row
tf_send = search (tf.crosses_both, name_send, name_sync, literal.the_field_send, literal.the_field_sync, base) depth 60 fits 20000

pub tf_sync : IsSync (Tf.the_field).row
tf_sync = search (tf.crosses_both, name_send, name_sync, literal.the_field_send, literal.the_field_sync, base) depth 60 fits 20000

pub stmt_send : IsSend (Stmt.the_field).row
stmt_send = search (stmt.crosses_both, expr_send, expr_sync, type_name_send, type_name_sync, name_send, name_sync, base) depth 60 fits 20000

pub stmt_sync : IsSync (Stmt.the_field).row
stmt_sync = search (stmt.crosses_both, expr_send, expr_sync, type_name_send, type_name_sync, name_send, name_sync, base) depth 60 fits 20000

pub parameter_send : IsSend (Parameter.the_field).row
parameter_send = search (type_name_send, name_send, base) depth 30

pub parameter_sync : IsSync (Parameter.the_field).row
parameter_sync = search (type_name_sync, name_sync, base) depth 30

pub field_send : IsSend (Field.the_field).row
field_send = search (type_name_send, name_send, base) depth 30

pub field_sync : IsSync (Field.the_field).row
field_sync = search (type_name_sync, name_sync, base) depth 30

pub method_send : IsSend (Method.the_field).row
method_send = search (parameter_send, stmt_send, stmt_sync, type_name_send, name_send, base) depth 30

pub method_sync : IsSync (Method.the_field).row
method_sync = search (parameter_sync, stmt_send, stmt_sync, type_name_sync, name_sync, base) depth 30

pub class_send : IsSend (Class.the_field).row
class_send = search (method_send, field_send, name_send, base) depth 30

pub class_sync : IsSync (Class.the_field).row
class_sync = search (method_sync, field_sync, name_sync, base) depth 30

pub root_send : IsSend (RootDeclaration.the_field).row
root_send = search (name_send, base) depth 30

pub root_sync : IsSync (RootDeclaration.the_field).row
root_sync = search (name_sync, base) depth 30

pub schema_send : IsSend (Schema.the_field).row
schema_send = search (class_send, root_send, base) depth 30

pub schema_sync : IsSync (Schema.the_field).row
schema_sync = search (class_sync, root_sync, base) depth 30

pub field_upgrade_send : IsSend (FieldUpgrade.the_field).row
field_upgrade_send = search (tf_send, tf_sync, type_name_send, name_send, base) depth 30

pub field_upgrade_sync : IsSync (FieldUpgrade.the_field).row
field_upgrade_sync = search (tf_send, tf_sync, type_name_sync, name_sync, base) depth 30

pub class_upgrade_send : IsSend (ClassUpgrade.the_field).row
class_upgrade_send = search (field_upgrade_send, method_send, name_send, base) depth 30

pub class_upgrade_sync : IsSync (ClassUpgrade.the_field).row
class_upgrade_sync = search (field_upgrade_sync, method_sync, name_sync, base) depth 30

pub upgrade_send : IsSend (Upgrade.the_field).row
upgrade_send = search (class_upgrade_send, base) depth 30

pub upgrade_sync : IsSync (Upgrade.the_field).row
upgrade_sync = search (class_upgrade_sync, base) depth 30

pub schemas_send : IsSend (Schemas.the_field).row
schemas_send = search (schema_send, upgrade_send, base) depth 30

pub schemas_sync : IsSync (Schemas.the_field).row
schemas_sync = search (schema_sync, upgrade_sync, base) depth 30

pub schemas : IsSend Schemas.the_row
schemas = search (schemas_send, base) depth 30
