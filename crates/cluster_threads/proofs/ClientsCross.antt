-- Which parts of a client may cross threads, one type at a time.
use denote.Param.Send.{IsSend, IsSync, sendable}
use Rattle.std.proofs.Crossing.{crosses}
use Rattle.thor_value.proofs.names.Oref.TheSendSync as oref
use Rattle.thor_value.proofs.names.Ts.TheSendSync as ts
use Rattle.thor_value.proofs.sequence.Sequence.TheSendSync as sequence
use Rattle.thor_value.proofs.shared.Shared.TheSendSync as shared
use Rattle.session_outbox.proofs.answers.At.TheSendSync as at
use Rattle.serial_model.proofs.outcomes.Ended.TheSendSync as ended
use Rattle.serial_model.specs.contracts.entries.What as What
use Rattle.client_state.proofs.duties.Duties.TheSendSync as duties
use Rattle.client_state.proofs.link.Link.TheSendSync as link
use Rattle.client_state.proofs.transaction.Sent.TheSendSync as sent
use Rattle.client_state.proofs.transaction.Transaction.TheSendSync as transaction
use Rattle.client_state.proofs.transform.Transform.TheSendSync as transform
use Rattle.client_state.specs.contracts.held.Held as Held
use Rattle.client_state.specs.contracts.phase.Phase as Phase
use Rattle.front_end.specs.contracts.front_end.FrontEnd as FrontEnd
use Rattle.client_items.specs.contracts.opened.Opened as Opened
use Rattle.client_items.specs.contracts.progress.Progress as Progress
use Rattle.paused_eval.proofs.copies.Copies.TheSendSync as copies
use Rattle.paused_eval.proofs.granted_names.GrantedNames.TheSendSync as granted_names
use Rattle.cluster_threads.proofs.RunsCross.{epoch_methods_sync, paused_send}
use Rattle.cluster_threads.proofs.TreesCross.{schemas_sync, stmt_send, stmt_sync, upgrade_send}

ruleset base = (sequence.the_send, sequence.the_sync, shared.the_send, shared.the_sync, sendable)

pub what_send : IsSend (What.the_field).row
what_send = search (stmt_send, stmt_sync, upgrade_send, base) depth 30

pub progress_send : IsSend Progress.the_row
progress_send = search (what_send, ended.the_send, base) depth 30

pub opened_sync : IsSync Opened.the_row
opened_sync = search (schemas_sync, epoch_methods_sync, base) depth 30

pub phase_send : IsSend (Phase.the_field).row
phase_send = search (paused_send, sent.the_field_send, transaction.the_field_send, transform.the_field_send, at.the_field_send, oref.the_send, ts.the_field_send, base) depth 30

pub held_send : IsSend (Held.the_field).row
held_send = search (link.the_send, copies.the_field_send, granted_names.the_field_send, base, crosses) depth 30

pub front_end_send : IsSend FrontEnd.the_row
front_end_send = search (held_send, duties.the_field_send, phase_send, progress_send, base) depth 30
