-- How a client's evaluation stands over what it holds (this project's).
use Rattle.class_defs.specs.Epochs.{schema_at}
use Rattle.class_defs.specs.declared.statements.Stmt.{Stmt}
use Rattle.class_defs.specs.declared.store.Schema.{Schema}
use Rattle.client_items.specs.declared.opened.Opened.{Opened}
use Rattle.client_state.specs.declared.held.Held.{Held}
use Rattle.lang_small_steps.specs.Methods.{methods_at}
use Rattle.lang_small_steps.specs.Typed.{TypedMethod}
use Rattle.method_eval.specs.declared.view.Ran.{Ran}
use Rattle.paused_eval.specs.Copies.{at_hand, state_with}
use Rattle.paused_eval.specs.Standing.{Stands, answer_of}
use Rattle.paused_eval.specs.declared.paused.Paused.{Paused}
use Rattle.std.specs.Prelude.{List, None, Option, Some, max, ℕ}
use Rattle.thor_value.specs.declared.names.Oref.{Oref}

-- the client's epoch
abbrev pub epoch_in : Opened → Held → ℕ
epoch_in opened held = max opened.epoch held.learnt

-- a schema with its methods, where there are both; else the first one
abbrev pub chosen : Option Schema → Option (List (List TypedMethod)) → Schema → Schema
chosen None methods first = first
chosen (Some schema) None first = first
chosen (Some schema) (Some methods) first = schema

-- the schema by which a client of an epoch evaluates
abbrev pub schema_in : Opened → ℕ → Schema
schema_in opened epoch = chosen (schema_at opened.schemas epoch) (methods_at opened.methods epoch) opened.schemas.first

-- What is left of an evaluation comes to what the transaction comes to from the start, over what is held: by the schema s, whose copies
-- that aren't due are at hand.
abbrev pub StandsBy : Schema → Held → Paused → List Stmt → List Oref → Type 0
StandsBy s held run tx given = Stands s (at_hand s held.cache.cache) tx given (record { doing = run.doing; stack = run.stack }) (state_with run.machine held.cache.cache held.names.names)

-- the same by the schema of the client's epoch
abbrev pub HeldStands : Opened → Held → Paused → List Stmt → List Oref → Type 0
HeldStands opened held run tx given = StandsBy (schema_in opened (epoch_in opened held)) held run tx given

-- what a transaction answers from the start, over what is held
abbrev pub answered_by : ℕ → Schema → Held → List Stmt → List Oref → Ran
answered_by epoch s held tx given = answer_of epoch s (at_hand s held.cache.cache) tx given

abbrev pub held_answer : Opened → Held → List Stmt → List Oref → Ran
held_answer opened held tx given = answered_by (epoch_in opened held) (schema_in opened (epoch_in opened held)) held tx given
