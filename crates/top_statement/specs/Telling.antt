-- Which replies tell a run (this project's).
use Rattle.std.specs.Prelude.{Result, Ok, Err}
use Rattle.thor_value.specs.declared.memory.NoMemory.{NoMemory}
use Rattle.top_reply.specs.declared.reply.Reply.{Reply}
use Rattle.top_reply.specs.declared.reply.Reply.TheVariants as reply

-- the report of a run, or its summary
abbrev pub TellsRun : Reply → Type 0
TellsRun (reply.Report finished text) = Unit {0}
TellsRun (reply.Summary finished text) = Unit {0}
TellsRun reply.Accepted = ⊥
TellsRun (reply.Refused refusal) = ⊥
TellsRun (reply.Limit limit) = ⊥
TellsRun (reply.DiskFault repo) = ⊥
TellsRun (reply.Damaged repo disk place) = ⊥
TellsRun reply.Words = ⊥
TellsRun reply.SourceFault = ⊥
TellsRun reply.Legal = ⊥
TellsRun (reply.Disagrees at) = ⊥
TellsRun (reply.NoReport line) = ⊥

-- what is to be written tells a run
abbrev pub TellsRunBy : Result Reply NoMemory → Type 0
TellsRunBy (Ok r) = TellsRun r
TellsRunBy (Err e) = ⊥

-- it tells none
abbrev pub TellsNoRun : Result Reply NoMemory → Type 0
TellsNoRun r = TellsRunBy r → ⊥
