-- Which replies leave the disks as they were (this project's): those that refuse the words, the script or the store, and
-- whatever a check replies.
use Rattle.std.specs.Prelude.{◌≡◌, ◌⊎◌, None, Result, Ok, Err}
use Rattle.top_words.specs.declared.command.Command.{Command}
use Rattle.top_reply.specs.declared.reply.Reply.{Reply}
use Rattle.top_reply.specs.declared.reply.Reply.TheVariants as reply
use Rattle.thor_value.specs.declared.memory.NoMemory.{NoMemory}
use Rattle.top_statement.specs.Top.{form_of}

-- the words, the script, the store or a report is refused, or the script couldn't be read
abbrev pub Refuses : Reply → Type 0
Refuses (reply.Report finished text) = ⊥
Refuses (reply.Summary finished text) = ⊥
Refuses reply.Accepted = ⊥
Refuses (reply.Refused refusal) = Unit {0}
Refuses (reply.Limit limit) = Unit {0}
Refuses (reply.DiskFault repo) = ⊥
Refuses (reply.Damaged repo disk place) = Unit {0}
Refuses reply.Words = Unit {0}
Refuses reply.SourceFault = Unit {0}
Refuses reply.Legal = ⊥
Refuses (reply.Disagrees at) = Unit {0}
Refuses (reply.NoReport line) = Unit {0}

-- what is to be written refuses something
abbrev pub RefusesBy : Result Reply NoMemory → Type 0
RefusesBy (Ok r) = Refuses r
RefusesBy (Err e) = ⊥

-- A command with this reply writes nothing to a disk: one that makes no run never does, and a run that is refused doesn't begin.
abbrev pub WritesNothing : Command → Result Reply NoMemory → Type 0
WritesNothing command r = (form_of command ≡ None) ⊎ RefusesBy r
