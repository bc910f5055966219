use Rattle.session_outbox.proofs.Ordered.{never_fall, ordered}
use Rattle.session_outbox.proofs.outbox_laws.messages_come_in_order.Goals as goal

pub returns : goal.returns
returns c = record { order = ordered; places = never_fall }
