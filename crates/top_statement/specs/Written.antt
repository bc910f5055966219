-- What the sink took of a reply, and the status with which the program ends (this project's).
use Rattle.outside.specs.Faults.{Rose}
use Rattle.outside.specs.Streams.{Put, PutFront}
use Rattle.std.specs.Prelude.{◌≡◌, ◌⊎◌, ℕ, List, Option, Result, Ok, Err}
use Rattle.thor_value.specs.declared.memory.NoMemory.{NoMemory}
use Rattle.top_reply.specs.Replies.{status_of, text_of}
use Rattle.top_reply.specs.declared.reply.Reply.{Reply}
use Rattle.top_reply.specs.declared.status.Status.{Status}
use Rattle.top_reply.specs.declared.status.Status.TheVariants as status
use Rattle.top_statement.specs.declared.unwritten.Unwritten.{Unwritten}
use Rattle.top_statement.specs.declared.unwritten.Unwritten.TheVariants as unwritten

-- How the program ends that has this to reply, by what the sink had and took, and how often it failed before and after: with the
-- status of the reply, whose text the sink took; or with that of a failed sink, which counted it, behind a front of the text.
-- Where memory was not there, with that status, and the sink took nothing.
abbrev pub Wrote : Result Reply NoMemory → Option (List ℕ) → Option (List ℕ) → ℕ → ℕ → Status → Type 0
Wrote (Ok r) had taken before after s = ((s ≡ status_of r) × Put had (text_of r) taken) ⊎ ((s ≡ status.SinkFault) × (PutFront had (text_of r) taken × Rose before after))
Wrote (Err e) had taken before after s = (s ≡ status.NoMemory) × (taken ≡ had)

-- what a sink took of a text that was to be written
abbrev pub Writes : {X : Type 0} → Option (List ℕ) → Option (List ℕ) → ℕ → ℕ → List ℕ → Result X Unwritten → Type 0
Writes had taken before after text (Ok x) = Put had text taken
Writes had taken before after text (Err unwritten.Failed) = PutFront had text taken × Rose before after
Writes had taken before after text (Err unwritten.NoMemory) = taken ≡ had
