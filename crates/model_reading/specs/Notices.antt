-- The messages of the code as the definitions of sessions have them, and how far a session has come.
use Rattle.spec_trace.specs.Session as session
use Rattle.model_reading.specs.declared.notice.Says.TheVariants as says
use Rattle.model_reading.specs.declared.notice.Says.{Says}
use Rattle.model_reading.specs.declared.session.Stage.TheVariants as stages
use Rattle.model_reading.specs.declared.session.Stage.{Stage}

abbrev pub notice_of : Says → session.Notice
notice_of (says.Page page k) = session.Page page k
notice_of (says.Grant page k) = session.Grant page k
notice_of (says.Invalid names k) = session.Invalid names k
notice_of (says.Upgrade number k) = session.Upgrade number k

abbrev pub stage_of : Stage → session.Stage
stage_of stages.Live = session.Live
stage_of stages.Ended = session.Ended
