-- What stands against requests behind small histories (`Examples` of spec_history).
use Rattle.log_entries.specs.declared.entry.Entry.{Entry}
use Rattle.log_entries.specs.declared.request.Request.{Request}
use Rattle.spec_history.specs.Examples.{home}
use Rattle.spec_history.specs.History.{state}
use Rattle.repo_refusals.specs.Refusals.{first_refusal}
use Rattle.repo_refusals.specs.Window.{window}
use Rattle.repo_refusals.specs.declared.refusal.Refusal.{Refusal}
use Rattle.std.specs.Prelude.{List, None, Option}

-- the answer to q behind H, where no invalid set and no limit is in its way
abbrev pub answer_to : List Entry → Request → Option Refusal
answer_to H q = first_refusal (state home H) (window home H) None None q
