-- That what a client's items come to is shown by the call that it has made (this project's).
use Rattle.client_cache.specs.Placing.{IsPageOf}
use Rattle.client_state.specs.Showing.{IsLearnt, IsToldBy, RefusedFor}
use Rattle.front_end.specs.Moving.{course_of}
use Rattle.front_end.specs.declared.front_end.FrontEnd.{FrontEnd}
use Rattle.client_items.specs.Courses.{Course}
use Rattle.client_items.specs.Ending.{EndsAs, IsRefused, SettlesAs}
use Rattle.client_items.specs.Falling.{most_calls}
use Rattle.client_items.specs.declared.news.News.TheVariants as news
use Rattle.client_items.specs.declared.news.News.{News}
use Rattle.client_items.specs.declared.news.Settled.{Settled}
use Rattle.session_outbox.specs.declared.message.Message.TheVariants.{Invalid, Page, Upgrade}
use Rattle.client_port.specs.Acting.{IsDecided, IsTaken}
use Rattle.client_port.specs.Views.{View}
use Rattle.base_reasons.specs.declared.reason.Reason.TheVariants as reasons
use Rattle.serial_model.specs.declared.outcomes.Cause.TheVariants as cause
use Rattle.serial_model.specs.declared.outcomes.Cause.{Cause}
use Rattle.serial_model.specs.declared.outcomes.ItemOutcome.TheVariants.{Done, Faulted, Refused, Unknown, Upgraded}
use Rattle.serial_model.specs.declared.outcomes.ItemOutcome.{ItemOutcome}
use Rattle.std.specs.Prelude.{Bool, Contains, IfOk, IfSome, List, None, Option, Result, false, true, ℕ, ◌≡◌, ◌≤◌}
use Rattle.thor_value.specs.declared.memory.NoMemory.{NoMemory}
use Rattle.thor_value.specs.declared.names.Oref.{Oref}
use Rattle.thor_value.specs.declared.names.Ts.{Ts}
use Rattle.thor_value.specs.declared.values.Obj.{Obj}

-- no object stands at the name's slot of the page that the bytes spell
abbrev pub LacksSlot : List ℕ → Oref → Type 0
LacksSlot bytes oref = (objects : ℕ → Option Obj) → IsPageOf bytes oref.page objects → objects oref.slot ≡ None

-- Why a try ends: by the answer of the call that was made, by a message that it took, or since there is no such repository.
pub data CauseShown (old new : View) (repos : ℕ) (c : Cause) : Type 0 where
  -- a repository refused the call for it
  ByRefusal : RefusedFor old new c → CauseShown old new repos c
  -- a message names the object among those that others wrote at its place
  ByInvalid : (r place : ℕ) (names : List Oref) (oref : Oref) → IsTaken old new r (Invalid names place) → Contains names oref → c ≡ cause.Reason (reasons.Stale oref place) → CauseShown old new repos c
  -- a message tells that an upgrade was installed
  ByUpgrade : (r number place : ℕ) (text : List ℕ) → IsTaken old new r (Upgrade number text place) → c ≡ cause.Reason (reasons.Epoch number) → CauseShown old new repos c
  -- the page that came lacks the object
  ByPage : (oref : Oref) (place : ℕ) (bytes : List ℕ) → IsTaken old new oref.repo (Page oref.page bytes place) → LacksSlot bytes oref → c ≡ cause.Missing oref → CauseShown old new repos c
  -- the object's repository isn't there
  ByNoRepository : (oref : Oref) → repos ≤ oref.repo → c ≡ cause.Missing oref → CauseShown old new repos c
  -- the repository that was down has told that the try's transaction was aborted
  ByAbort : (t : Ts) (r : ℕ) → IsToldBy old new r t false → c ≡ cause.Down r → CauseShown old new repos c

-- How the present item has ended, which isn't the end of its last try: where it has committed, the call that was made has
-- committed it, or has told so.
abbrev pub OutcomeShown : View → View → ItemOutcome → Type 0
OutcomeShown old new (Done ts values) = IsDecided old new ts true
OutcomeShown old new (Upgraded ts number) = IsDecided old new ts true
OutcomeShown old new (Faulted ts fault) = IsDecided old new ts true
OutcomeShown old new (Refused c) = ⊥
OutcomeShown old new (Unknown tx) = Unit {0}

-- what a step has come to
abbrev pub NewsShown : View → View → ℕ → News → Type 0
NewsShown old new repos news.Nothing = Unit {0}
NewsShown old new repos (news.TryEnded c) = CauseShown old new repos c
NewsShown old new repos (news.Ended outcome) = OutcomeShown old new outcome
NewsShown old new repos (news.Settled settled) = IsLearnt old new settled

-- the same of a function over a port that may show nothing
abbrev pub ShownIf : Bool → View → View → ℕ → Result News NoMemory → Type 0
ShownIf shows old new repos result = IfOk result (λ n. shows ≡ true → NewsShown old new repos n)

abbrev pub SomeShownIf : Bool → View → View → ℕ → Result (Option News) NoMemory → Type 0
SomeShownIf shows old new repos result = IfOk result (λ some. IfSome some (λ n. shows ≡ true → NewsShown old new repos n))

-- What becomes of a client's items by a call, where there are so many repositories, an item has so many tries, and so many
-- calls of the try were counted before: nothing, or one ends as the call has shown, or the try's calls were used up. One that is
-- refused has had all its tries, or was Unknown and its transaction was aborted.
pub data GoesShown (shows : Bool) (old new : View) (repos each calls : ℕ) (before after : Course) : Type 0 where
  Stays : after ≡ before → GoesShown shows old new repos each calls before after
  EndsSo : (outcome : ItemOutcome) → EndsAs outcome before after → (shows ≡ true → OutcomeShown old new outcome) → GoesShown shows old new repos each calls before after
  RefusedSo : (c : Cause) → IsRefused each c before after → (shows ≡ true → CauseShown old new repos c) → GoesShown shows old new repos each calls before after
  UsedUp : IsRefused each cause.Calls before after → most_calls ≤ calls → GoesShown shows old new repos each calls before after
  SettlesSo : (settled : Settled) → SettlesAs settled before after → (shows ≡ true → IsLearnt old new settled) → GoesShown shows old new repos each calls before after

-- the same of a client
abbrev pub ItemsShown : Bool → View → View → ℕ → FrontEnd → FrontEnd → Type 0
ItemsShown shows old new repos f g = GoesShown shows old new repos f.attempts.each f.attempts.calls (course_of f) (course_of g)
