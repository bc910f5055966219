-- What a repository records of what happens at it.
use Rattle.log_entries.specs.declared.entry.Entry.{Entry}
use Rattle.spec_trace.specs.declared.mark.Mark.{Mark}
use Rattle.spec_trace.specs.declared.kept_item.KeptItem.TheVariants as kept
use Rattle.spec_trace.specs.declared.kept_item.KeptItem.{KeptItem}
use Rattle.std.specs.Prelude.{List, [], length, ◌++◌, ◌∷◌}

pub record Recorded : Type 0 where
  -- the entries of its history
  pub history : List Entry
  -- the items of its trace
  pub marks : List KeptItem

-- nothing has happened
abbrev pub nothing : Recorded
nothing = record { history = []; marks = [] }

-- with one mark more
abbrev pub with_mark : Recorded → Mark → Recorded
with_mark r m = record r { marks = r.marks ++ kept.Mark m ∷ [] }

-- with one entry more, which is named by its place
abbrev pub with_entry : Recorded → Entry → Recorded
with_entry r e = record { history = r.history ++ e ∷ []; marks = r.marks ++ kept.Entry (length r.history) ∷ [] }
