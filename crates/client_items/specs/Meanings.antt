-- What the commit of a transaction makes of its item, and what its requests tell of it (this project's).
use Rattle.client_items.specs.declared.meaning.Meaning.TheVariants.{Ran, Upgrade}
use Rattle.client_items.specs.declared.meaning.Meaning.{Meaning}
use Rattle.client_items.specs.declared.news.News.TheVariants as news
use Rattle.client_items.specs.declared.news.News.{News}
use Rattle.log_entries.specs.declared.request.Kind.TheVariants as kinds
use Rattle.log_entries.specs.declared.request.Kind.{Kind}
use Rattle.serial_model.specs.declared.outcomes.Cause.TheVariants as cause
use Rattle.serial_model.specs.declared.outcomes.ItemOutcome.TheVariants.{Done, Faulted, Refused, Upgraded}
use Rattle.serial_model.specs.declared.outcomes.ItemOutcome.{ItemOutcome}
use Rattle.std.specs.Prelude.{Bool, [], false, true, ℕ}
use Rattle.thor_value.specs.declared.names.Ts.{Ts}
use Rattle.thor_value.specs.declared.values.Answer.TheVariants.{Fault, Ints}
use Rattle.thor_value.specs.declared.values.Answer.{Answer}

-- the kind of the requests
abbrev pub kind_of : Meaning → Kind
kind_of (Ran answer) = kinds.App
kind_of (Upgrade number text) = kinds.Upgrade text

-- the answer of the requests; an upgrade has an empty one
abbrev pub answer_in : Meaning → Answer
answer_in (Ran answer) = answer
answer_in (Upgrade number text) = Ints []

-- how an item ends behind a commit with this answer
abbrev pub ran_as : Ts → Answer → ItemOutcome
ran_as t (Ints printed) = Done t printed
ran_as t (Fault fault) = Faulted t fault

-- how its item ends behind the commit
abbrev pub committed_as : Ts → Meaning → ItemOutcome
committed_as t (Ran answer) = ran_as t answer
committed_as t (Upgrade number text) = Upgraded t number

-- how its item ends that was held as Unknown, by the verdict of this coordinator
abbrev pub settled_as : Ts → Bool → ℕ → Meaning → ItemOutcome
settled_as t true r m = committed_as t m
settled_as t false r m = Refused (cause.Down r)

-- whether a step has come to an end of the present item that isn't the end of its last try
abbrev pub is_ended : News → Bool
is_ended news.Nothing = false
is_ended (news.TryEnded cause) = false
is_ended (news.Ended outcome) = true
is_ended (news.Settled settled) = false
