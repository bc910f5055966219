-- What is left of a transaction's run over a client's copies, and what the run answers.
use Rattle.std.specs.Prelude.{◌≡◌, ◌<◌, ◌+◌, ℕ, Bool, true, false, List, [], ◌∷◌, Option, None, Result, Ok, Err, not}
use Rattle.thor_value.specs.declared.names.Oref.{Oref}
use Rattle.class_defs.specs.Run.{begun, execute_all}
use Rattle.class_defs.specs.declared.machine.Flow.{Flow}
use Rattle.class_defs.specs.declared.machine.Machine.{Machine}
use Rattle.class_defs.specs.declared.machine.Stop.{Stop}
use Rattle.class_defs.specs.declared.machine.Stop.TheVariants as stop
use Rattle.class_defs.specs.declared.statements.Stmt.{Stmt}
use Rattle.class_defs.specs.declared.store.Object.{Object}
use Rattle.class_defs.specs.declared.store.Schema.{Schema}
use Rattle.method_eval.specs.Answers.{ran_at}
use Rattle.method_eval.specs.Names.{Names, page_names}
use Rattle.std.specs.List.{filter}
use Rattle.thor_value.specs.FiniteMap.{has}
use Rattle.method_eval.specs.declared.halt.Halt.{Halt}
use Rattle.method_eval.specs.declared.halt.Halt.TheVariants.{Stopped, NoMemory}
use Rattle.method_eval.specs.declared.view.Ran.{Ran}
use Rattle.method_eval.specs.declared.view.Ran.TheVariants.{Done, Need, NeedName}
use Rattle.lang_small_steps.specs.Due.{due}
use Rattle.lang_small_steps.specs.Reaches.{Reaches, over, whole}
use Rattle.lang_small_steps.specs.Resume.{Left}
use Rattle.lang_small_steps.specs.declared.frames.Doing.{Doing}
use Rattle.lang_small_steps.specs.declared.frames.Doing.TheVariants as doing
use Rattle.lang_small_steps.specs.declared.frames.Frame.{Frame}
use Rattle.paused_eval.specs.declared.came.Came.{Came}
use Rattle.paused_eval.specs.declared.came.Came.TheVariants as came
use Rattle.paused_eval.specs.declared.came.Came.TheVariants.{Ended, Faulted}
use Rattle.paused_eval.specs.declared.moved.Moved.{Moved}
use Rattle.paused_eval.specs.declared.moved.Moved.TheVariants.{To, Waits, WaitsForName}

-- ---- one small step

-- where an object or a name is needed, all stays as it was
abbrev pub Stays : Doing → Doing → List Frame → List Frame → Machine → Machine → Type 0
Stays d e fs gs m n = (e ≡ d) × ((gs ≡ fs) × (n ≡ m))

-- what a small step of the code came to is what the small step of the definition gives
abbrev pub Steps : Result Moved Halt → Doing → List Frame → Machine → List Frame → Machine → Result Left Stop × Machine → Type 0
Steps (Ok (To e)) d fs m gs n outcome = outcome ≡ (Ok (record { doing = e; stack = gs }), n)
Steps (Ok (Waits e x owners)) d fs m gs n outcome = (outcome ≡ (Err (stop.Need x owners), n)) × Stays d e fs gs m n
Steps (Ok (WaitsForName e repo)) d fs m gs n outcome = (outcome ≡ (Err (stop.NeedName repo), n)) × Stays d e fs gs m n
Steps (Err (Stopped t)) d fs m gs n outcome = outcome ≡ (Err t, n)
Steps (Err NoMemory) d fs m gs n outcome = Unit {0}

-- nothing is left to do
abbrev pub is_done : Doing → List Frame → Bool
is_done (doing.Give g) [] = true
is_done (doing.Give g) (f ∷ fs) = false
is_done (doing.Evaluate n e) fs = false
is_done (doing.Execute n s) fs = false
is_done (doing.Create c at) fs = false
is_done (doing.Enter n c x name vs) fs = false

-- ---- runs of small steps

-- What is left comes, over any objects among which those that were read are as they are here and with any more names,
-- to what the transaction comes to from the start; and this many small steps were taken since the run went on.
pub record Runs (s : Schema) (f : Oref → Option Object) (tx : List Stmt) (names : List Oref) (count : ℕ) (l : Left) (m : Machine) : Type 0 where
  pub reaches : Reaches s f (whole tx) (begun names None) l m
  pub few : due m l + count < 700000

-- The same where the run has stopped.
abbrev pub Stands : Schema → (Oref → Option Object) → List Stmt → List Oref → Left → Machine → Type 0
Stands s f tx names l m = Runs s f tx names 0 l m

-- the run of a transaction from the start, with these names
abbrev pub outcome_of : Schema → (Oref → Option Object) → List Stmt → List Oref → Result Flow Stop × Machine
outcome_of s f tx names = execute_all (over s f) tx (begun names None)

-- what it answers
abbrev pub answer_of : ℕ → Schema → (Oref → Option Object) → List Stmt → List Oref → Ran
answer_of epoch s f tx names = ran_at epoch (outcome_of s f tx names).0 (outcome_of s f tx names).1

-- how the run of a transaction came to an end or a stop
abbrev pub CameTo : Schema → (Oref → Option Object) → List Stmt → List Oref → Came → Left → Machine → Type 0
CameTo s f tx names Ended l m = (g : Flow) × (outcome_of s f tx names ≡ (Ok g, m))
CameTo s f tx names (Faulted e) l m = outcome_of s f tx names ≡ (Err (stop.Fault e), m)
CameTo s f tx names (came.Waits x owners) l m = (outcome_of s f tx names ≡ (Err (stop.Need x owners), m)) × Stands s f tx names l m
CameTo s f tx names (came.WaitsForName repo) l m = (outcome_of s f tx names ≡ (Err (stop.NeedName repo), m)) × Stands s f tx names l m

-- what is done next, over these frames, or the fault in which the run ends
abbrev pub Went : Schema → (Oref → Option Object) → List Stmt → List Oref → ℕ → Result Doing Halt → List Frame → Machine → Type 0
Went s f tx names count (Ok d) gs n = Runs s f tx names count (record { doing = d; stack = gs }) n
Went s f tx names count (Err (Stopped t)) gs n = outcome_of s f tx names ≡ (Err t, n)
Went s f tx names count (Err NoMemory) gs n = Unit {0}

-- the run ended for this fault
abbrev pub IsFault : Came → Halt → Type 0
IsFault (Faulted e) h = h ≡ Stopped (stop.Fault e)
IsFault Ended h = ⊥
IsFault (came.Waits x owners) h = ⊥
IsFault (came.WaitsForName repo) h = ⊥

-- where it stops for an object or a name, it stands there
abbrev pub AtStop : Ran → Type 0 → Type 0
AtStop (Done answer reads writes fresh) P = Unit {0}
AtStop (Need x owners) P = P
AtStop (NeedName repo) P = P

-- ---- in the words of the code

abbrev pub moved_to : Result Doing Halt → Result Moved Halt
moved_to (Ok e) = Ok (To e)
moved_to (Err h) = Err h

-- ---- between two calls

-- the names that come with a page
abbrev pub newly_granted : Names → ℕ → ℕ → List Oref
newly_granted n repo page = filter (λ x. not (has n.spent x)) (page_names repo page)
