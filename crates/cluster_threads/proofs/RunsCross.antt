-- Which parts of a paused run may cross threads, one type at a time.
use denote.Param.Send.{IsSend, IsSync, enum_send, sendable}
use denote.Enum.Declared.{shape}
use Rattle.std.proofs.Crossing.{crosses}
use Rattle.thor_value.proofs.boxed.Boxed.TheSendSync as boxed
use Rattle.thor_value.proofs.names.Oref.TheSendSync as oref
use Rattle.thor_value.proofs.sequence.Sequence.TheSendSync as sequence
use Rattle.thor_value.proofs.values.Value.TheSendSync as value
use Rattle.thor_value.proofs.words.Word.TheSendSync as word
use Rattle.class_defs.proofs.expressions.At.TheSendSync as at
use Rattle.class_defs.proofs.expressions.Operator.TheSendSync as operator
use Rattle.class_defs.proofs.literals.Literal.TheSendSync as literal
use Rattle.class_defs.proofs.machine.Flow.TheSendSync as flow
use Rattle.class_defs.proofs.machine.Local.TheSendSync as local
use Rattle.class_defs.proofs.machine.Machine.TheSendSync as machine
use Rattle.class_defs.proofs.machine.Receiver.TheSendSync as receiver
use Rattle.class_defs.proofs.types.ExprType.TheSendSync as expr_type
use Rattle.thor_value.proofs.shared.Shared.TheSendSync as shared
use Rattle.lang_small_steps.proofs.stack.Stack.TheSendSync as stack
use Rattle.lang_small_steps.specs.contracts.frames.Doing as Doing
use Rattle.lang_small_steps.specs.contracts.frames.Frame as Frame
use Rattle.lang_small_steps.specs.contracts.methods.EpochMethods as EpochMethods
use Rattle.lang_small_steps.specs.contracts.methods.SharedMethod as SharedMethod
use Rattle.lang_small_steps.specs.contracts.parameters.TypedParameter as TypedParameter
use Rattle.lang_small_steps.specs.contracts.syntax.SharedBlock as SharedBlock
use Rattle.lang_small_steps.specs.contracts.syntax.SharedExprs as SharedExprs
use Rattle.lang_small_steps.specs.contracts.syntax.SharedStmt as SharedStmt
use Rattle.paused_eval.specs.contracts.paused.Paused as Paused
use Rattle.cluster_threads.proofs.TreesCross.{expr_send, expr_sync, name_sync, parameter_sync, stmt_send, stmt_sync, type_name_sync}

ruleset base = (sequence.the_send, sequence.the_sync, boxed.the_send, boxed.the_sync, shared.the_send, shared.the_sync, sendable)

ruleset trees = (expr_send, expr_sync, stmt_send, stmt_sync)

pub shared_exprs_send : IsSend SharedExprs.the_row
shared_exprs_send = search (trees, base) depth 30

pub shared_stmt_send : IsSend SharedStmt.the_row
shared_stmt_send = search (trees, base) depth 30

pub shared_block_send : IsSend SharedBlock.the_row
shared_block_send = search (trees, base) depth 30

ruleset leaves = (at.the_field_send, at.the_send, expr_type.the_field_send, flow.the_field_send, local.the_send, machine.the_field_send, operator.the_field_send, oref.the_field_send, oref.the_send, receiver.the_field_send, receiver.the_send, value.the_field_send, value.the_send)

pub doing_send : IsSend (Doing.the_field).row
doing_send = enum_send (shape Doing.the_type) (
  (search base, (expr_send, tt)),
  (
    (search base, (shared_stmt_send, tt)),
    (
      (word.the_send, (search (leaves, base) depth 20, tt)),
      ((search base, (search base, (oref.the_field_send, (word.the_send, (search (leaves, base) depth 20, tt))))), ((flow.the_field_send, tt), tt)),
    ),
  ),
)

pub frame_send : IsSend (Frame.the_field).row
frame_send = enum_send (shape Frame.the_type) (tt, ((search base, (operator.the_field_send, (expr_send, tt))), ((operator.the_field_send, (value.the_field_send, tt)), ((search base, (expr_type.the_field_send, (word.the_send, (shared_exprs_send, tt)))), ((search base, (expr_type.the_field_send, (value.the_field_send, (word.the_send, (search (leaves, base) depth 20, (shared_exprs_send, tt)))))), ((search base, (search (leaves, base) depth 20, (search (leaves, base) depth 20, (expr_type.the_field_send, tt)))), ((expr_type.the_field_send, (word.the_send, tt)), ((word.the_send, tt), ((word.the_send, tt), (tt, ((search base, (shared_block_send, tt)), ((search base, (shared_block_send, (shared_block_send, tt))), (tt, (tt, ((search base, (shared_block_send, tt)), ((search base, tt), ((search base, (search base, (expr_send, (shared_block_send, tt)))), ((search base, (search base, (expr_send, (shared_block_send, tt)))), tt))))))))))))))))))

pub paused_send : IsSend (Paused.the_field).row
paused_send = search (doing_send, frame_send, stack.the_send, leaves, base, crosses) depth 30

pub typed_parameter_sync : IsSync (TypedParameter.the_field).row
typed_parameter_sync = search (parameter_sync, expr_type.the_field_sync, base) depth 30

pub shared_method_sync : IsSync SharedMethod.the_row
shared_method_sync = search (typed_parameter_sync, type_name_sync, name_sync, expr_type.the_field_sync, stmt_send, stmt_sync, base) depth 30

pub epoch_methods_sync : IsSync (EpochMethods.the_field).row
epoch_methods_sync = search (shared_method_sync, base) depth 30
