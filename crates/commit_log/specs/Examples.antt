-- Worked examples of what records do to a state.
use Rattle.std.specs.List.{fold}
use Rattle.std.specs.Prelude.{List, [], ◌∷◌, ℕ}
use Rattle.thor_value.specs.Names.{zero_ts}
use Rattle.thor_value.specs.declared.names.Oref.{Oref}
use Rattle.thor_value.specs.declared.names.Ts.{Ts}
use Rattle.thor_value.specs.declared.values.Answer.TheVariants.{Ints}
use Rattle.thor_value.specs.declared.values.Obj.{Obj}
use Rattle.log_entries.specs.declared.entry.Entry.TheVariants.{Life, One, Prepared}
use Rattle.log_entries.specs.declared.request.Kind.TheVariants.{App}
use Rattle.log_entries.specs.declared.request.Kind.{Kind}
use Rattle.log_entries.specs.declared.request.Request.{Request}
use Rattle.log_codec.specs.declared.body.Body.TheVariants.{Entry as AnEntry}
use Rattle.log_codec.specs.declared.body.Body.{Body}
use Rattle.log_codec.specs.declared.state.State.{State}
use Rattle.page_format.specs.declared.format.StoreFormat.TheVariants.{Two}
use Rattle.commit_log.specs.Recovered.{after}

-- repository 0 of two, new: its pages 0 have been installed
abbrev pub new_state : State
new_state = record { format = Two; repo = 0; repos = 2; life = 0; count = 0; threshold = zero_ts; next_page = 1; classes = []; roots = []; upgrades = []; installed = (0, 0) ∷ []; mob = []; prepared = []; kept = []; alone = [] }

abbrev pub at : ℕ → ℕ → Ts
at time repo = record { time = time; repo = repo; life = 1 }

abbrev pub name : ℕ → ℕ → Oref
name page slot = record { repo = 0; page = page; slot = slot }

abbrev pub number : ℕ → Obj
number n = record { class = n; ver = 0; fields = [] }

-- a transaction of client 1 that writes one object
abbrev pub writing : Ts → Kind → Oref → Obj → List ℕ → Request
writing t kind x o others = record { tx = t; who = record { client = 1; index = 1 }; session = 1; kind = kind; epoch = 0; upto = 0; ros = x ∷ []; writes = (x, o) ∷ []; fresh = []; answer = Ints []; others = others }

-- the state behind records
abbrev pub behind_all : List Body → State
behind_all bodies = fold after new_state bodies

-- it is opened; two objects are written, the first one twice; page 0 comes into use on side 1
abbrev pub single : List Body
single = AnEntry (Life 1) ∷ AnEntry (One (writing (at 1 0) App (name 0 0) (number 1) [])) ∷ AnEntry (One (writing (at 2 0) App (name 4 3) (number 2) [])) ∷ AnEntry (One (writing (at 3 0) App (name 0 0) (number 3) [])) ∷ []

-- a transaction that this repository coordinates, and one that repository 1 does
abbrev pub prepared_two : List Body
prepared_two = AnEntry (Life 1) ∷ AnEntry (Prepared (writing (at 5 0) App (name 2 0) (number 5) (1 ∷ []))) ∷ AnEntry (Prepared (writing (at 4 1) App (name 0 1) (number 4) (1 ∷ []))) ∷ []

-- the timestamps of the prepared requests
abbrev pub transactions : List Request → List Ts
transactions [] = []
transactions (q ∷ qs) = q.tx ∷ transactions qs
