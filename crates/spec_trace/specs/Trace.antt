-- The trace of a repository: the entries of its history, and between them the marks of what no log
-- keeps.
use Rattle.log_entries.specs.declared.entry.Entry.{Entry}
use Rattle.spec_trace.specs.declared.mark.Mark.{Mark}
use Rattle.spec_trace.specs.declared.kept_item.KeptItem.TheVariants as kept
use Rattle.spec_trace.specs.declared.kept_item.KeptItem.{KeptItem}
use Rattle.std.specs.List.{range_with_len, slice_get}
use Rattle.std.specs.Prelude.{List, [], ◌∷◌, ◌++◌, Option, Some, None, length, ℕ, ◌≡◌}

-- One item of a trace: an entry, or a mark.
pub data Item : Type 0 where
  E : Entry → Item
  M : Mark → Item

abbrev pub item_at : Option Entry → List Item
item_at None = []
item_at (Some e) = E e ∷ []

-- the item that a kept one stands for, where H is the history beside it
abbrev pub item_of : List Entry → KeptItem → List Item
item_of H (kept.Entry place) = item_at (slice_get H place)
item_of H (kept.Mark m) = M m ∷ []

-- The trace that a history and the kept items beside it stand for. No other definition looks at the pair
abbrev pub items : List Entry → List KeptItem → List Item
items H [] = []
items H (k ∷ ks) = item_of H k ++ items H ks

abbrev pub entry_of : Item → List Entry
entry_of (E e) = e ∷ []
entry_of (M m) = []

-- the history of a trace: its entries, without the marks. A place is an index in this list
abbrev pub entries : List Item → List Entry
entries [] = []
entries (i ∷ is) = entry_of i ++ entries is

-- the places that the kept items name, in order
abbrev pub places : List KeptItem → List ℕ
places [] = []
places (kept.Entry place ∷ ks) = place ∷ places ks
places (kept.Mark m ∷ ks) = places ks

-- the kept items name each place of H once, in order
abbrev pub IsTrace : List Entry → List KeptItem → Type 0
IsTrace H ks = places ks ≡ range_with_len 0 (length H)
