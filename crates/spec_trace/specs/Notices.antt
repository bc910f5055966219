-- What a repository's messages and sessions are to their clients: a message with its bytes as its trace has it, and whether
-- a session is live or hasn't ended.
use Rattle.session_outbox.specs.declared.message.Message.TheVariants as messages
use Rattle.session_outbox.specs.declared.message.Message.{Message}
use Rattle.spec_trace.specs.Session.{Grant, Invalid, Notice, Page, Session, Upgrade, session_ended, session_lives}
use Rattle.std.specs.Prelude.{Bool, None, Option, Some, false, not}

-- a message as a trace has it: without its bytes
abbrev pub notice_of : Message → Notice
notice_of (messages.Page page bytes k) = Page page k
notice_of (messages.Grant page k) = Grant page k
notice_of (messages.Invalid names k) = Invalid names k
notice_of (messages.Upgrade number text k) = Upgrade number k

-- whether there is a live session
abbrev pub lives : Option Session → Bool
lives None = false
lives (Some v) = session_lives v

-- whether there is a session that hasn't ended
abbrev pub is_unended : Option Session → Bool
is_unended None = false
is_unended (Some v) = not (session_ended v)
