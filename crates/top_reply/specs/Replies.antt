-- The status and the text of a reply (this project's).
use Rattle.script_parse.specs.Refusals.{refusal_text}
use Rattle.std.specs.Prelude.{Bool, false, true, ℕ, List, [], ◌∷◌, codes, ◌++◌}
use Rattle.top_reply.specs.Texts.{damaged_text, disagreement_text, disk_text, limit_text, no_report_text}
use Rattle.top_reply.specs.declared.form.Form.{Form}
use Rattle.top_reply.specs.declared.form.Form.TheVariants as form
use Rattle.top_reply.specs.declared.reply.Reply.{Reply}
use Rattle.top_reply.specs.declared.reply.Reply.TheVariants as reply
use Rattle.top_reply.specs.declared.status.Status.{Status}
use Rattle.top_reply.specs.declared.status.Status.TheVariants as status

-- the status of a run, by whether all items were finished
abbrev pub status_of_run : Bool → Status
status_of_run true = status.Done
status_of_run false = status.Unfinished

-- the status with which the program ends that wrote this reply
abbrev pub status_of : Reply → Status
status_of (reply.Report finished text) = status_of_run finished
status_of (reply.Summary finished text) = status_of_run finished
status_of reply.Accepted = status.Done
status_of (reply.Refused refusal) = status.Script
status_of (reply.Limit limit) = status.Limit
status_of (reply.DiskFault repo) = status.DiskFault
status_of (reply.Damaged repo disk place) = status.Damaged
status_of reply.Words = status.Words
status_of reply.SourceFault = status.SourceFault
status_of reply.Legal = status.Done
status_of (reply.Disagrees at) = status.Disagrees
status_of (reply.NoReport line) = status.Report

-- the text that is written
abbrev pub text_of : Reply → List ℕ
text_of (reply.Report finished text) = text
text_of (reply.Summary finished text) = text
text_of reply.Accepted = codes "ok" ++ 10 ∷ []
text_of (reply.Refused refusal) = refusal_text refusal
text_of (reply.Limit limit) = limit_text limit
text_of (reply.DiskFault repo) = disk_text repo
text_of (reply.Damaged repo disk place) = damaged_text repo disk place
text_of reply.Words = codes "words" ++ 10 ∷ []
text_of reply.SourceFault = codes "source" ++ 10 ∷ []
text_of reply.Legal = codes "legal" ++ 10 ∷ []
text_of (reply.Disagrees at) = disagreement_text at
text_of (reply.NoReport line) = no_report_text line

-- the reply that tells a run in a form
abbrev pub run_reply : Form → Bool → List ℕ → Reply
run_reply form.Report finished text = reply.Report finished text
run_reply form.Summary finished text = reply.Summary finished text
