-- The whole history of several repositories: the transactions that have committed, as entries of a serial history of
-- the items that they performed, by rising timestamp.
use Rattle.law_atomic_commit.specs.Several.{Several}
use Rattle.class_defs.specs.Stored.{Stored}
use Rattle.class_defs.specs.declared.store.Root.{Root}
use Rattle.log_entries.specs.declared.request.Kind.TheVariants.{App, Transform, Upgrade}
use Rattle.log_entries.specs.declared.request.Kind.{Kind}
use Rattle.serial_model.specs.declared.entries.Did.{Did}
use Rattle.serial_model.specs.declared.entries.What.{What}
use Rattle.std.specs.Prelude.{List, length, map, ℕ, ◌+◌}
use Rattle.law_lazy_history.specs.Changes.{Brought, Change, Installed, Ran, entries_of}
use Rattle.thor_value.specs.declared.values.Who.{Who}
use Rattle.law_global_order.specs.Serial.{Joined}
use Rattle.law_global_order.specs.Whole.{Commit, commits}

-- the entry of a commit with this number, where `items` tells the items of the script
abbrev pub did : (Who → What) → Commit → ℕ → Did
did items e number = record { ts = e.0; who = e.1.who; what = items e.1.who; number = number; fresh = e.1.fresh; answer = e.1.answer }

abbrev pub change_by : (Who → What) → Commit → Kind → Change
change_by items e App = Ran (did items e 0) e.1.writes
change_by items e Transform = Brought e.1.writes
change_by items e (Upgrade text) = Installed (did items e (e.1.epoch + 1))

-- what a commit does to the stored map, with its entry
abbrev pub change_of : (Who → What) → Commit → Change
change_of items e = change_by items e e.1.kind

-- what all commits do
abbrev pub changes : (Who → What) → Several → List Change
changes items S = map (change_of items) (commits S).pairs

-- the whole history: all commits but the transforms
abbrev pub whole_history : (Who → What) → Several → List Did
whole_history items S = entries_of (changes items S)

-- what several repositories have together, as a stored map with these roots
abbrev pub stored_map : List Root → Joined → Stored
stored_map roots L = record { objects = L.objects; epoch = length L.texts; roots = roots }
