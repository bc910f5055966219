-- The exit status of the program (this project's).
use Rattle.std.specs.Prelude.{ℕ}
use Rattle.top_reply.specs.declared.status.Status.{Status}
use Rattle.top_reply.specs.declared.status.Status.TheVariants as status

abbrev pub code_of : Status → ℕ
code_of status.Done = 0
code_of status.Unfinished = 1
code_of status.Words = 2
code_of status.Script = 3
code_of status.SourceFault = 4
code_of status.SinkFault = 5
code_of status.DiskFault = 6
code_of status.Damaged = 7
code_of status.Limit = 8
code_of status.NoMemory = 9
code_of status.Report = 10
code_of status.Disagrees = 11
