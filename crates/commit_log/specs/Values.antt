-- The objects for which a log stands, by the last write of each (this project's). The state behind the
-- records keeps them in a buffer over pages; these definitions know no buffer.
use Rattle.std.specs.BTreeMap.{is_at}
use Rattle.std.specs.Map.{lookup}
use Rattle.std.specs.Option.{option_and_then, option_or}
use Rattle.std.specs.Ordering.{nat_cmp}
use Rattle.std.specs.Prelude.{Bool, List, None, Option, Some, [], cond, false, nat_eq, true, ◌≡◌, ◌∷◌, ℕ}
use Rattle.thor_value.specs.Names.{oref_cmp, same_oref}
use Rattle.thor_value.specs.declared.names.Oref.{Oref}
use Rattle.thor_value.specs.declared.values.Obj.{Obj}
use Rattle.log_entries.specs.declared.entry.Entry.TheVariants.{Decided, Finished, Life, One, Prepared, Upgraded}
use Rattle.log_entries.specs.declared.entry.Entry.{Entry}
use Rattle.log_entries.specs.declared.request.Request.{Request}
use Rattle.log_codec.specs.declared.body.Body.TheVariants.{Entry as AnEntry, Installed}
use Rattle.log_codec.specs.declared.body.Body.{Body}
use Rattle.log_codec.specs.declared.state.State.{State}
use Rattle.commit_log.specs.Recovered.{after, buffered, request_at}
use Rattle.page_format.specs.declared.format.StoreFormat.TheVariants.{Two}
use Rattle.std.specs.List.{fold}

-- what the pages have: the object under a name on a side of its page
abbrev pub Pages : Type 0
Pages = ℕ → ℕ → Oref → Option Obj

-- the object that a list of writes has under a name
abbrev pub object_in : List (Oref × Obj) → Oref → Option Obj
object_in ws x = lookup (is_at (oref_cmp x)) ws

-- the side of a name's page that is in use
abbrev pub side_of : List (ℕ × ℕ) → Oref → Option ℕ
side_of installed x = lookup (is_at (nat_cmp x.page)) installed

-- the object on the side in use
abbrev pub on_page : Pages → List (ℕ × ℕ) → Oref → Option Obj
on_page pages installed x = option_and_then (λ side. pages x.page side x) (side_of installed x)

-- The object under a name: the buffered one, or else the one on the side in use.
abbrev pub value : Pages → State → Oref → Option Obj
value pages s x = option_or (object_in s.mob x) (on_page pages s.installed x)

-- ---- what a migration makes of a state

-- the objects on the pages that are installed, page by page
abbrev pub HasPaged : Pages → List (ℕ × ℕ) → List (Oref × Obj) → Type 0
HasPaged pages installed paged = (x : Oref) → on_page pages installed x ≡ object_in paged x

-- The state of the newer format that says the same of the same objects: no page is installed. The buffer has the objects of the
-- pages, each in its place with the newer value that the buffer had of it, and behind them the buffer's other objects.
abbrev pub migrated : List (Oref × Obj) → State → State
migrated paged s = record s { format = Two; installed = []; mob = fold buffered paged s.mob }

-- ---- by the last write

-- the last of some writes under a name, or else what was there
abbrev pub written_last : Oref → Option Obj → List (Oref × Obj) → Option Obj
written_last x found [] = found
written_last x found (w ∷ ws) = written_last x (cond (same_oref x w.0) (Some w.1) found) ws

-- the writes of a request that commits, or none
abbrev pub writes_if : Bool → Option Request → List (Oref × Obj)
writes_if commit None = []
writes_if false (Some q) = []
writes_if true (Some q) = q.writes

-- the writes that an entry commits
abbrev pub writes_of : State → Entry → List (Oref × Obj)
writes_of s (Life n) = []
writes_of s (One q) = q.writes
writes_of s (Prepared q) = []
writes_of s (Decided t commit) = writes_if commit (request_at s.prepared t)
writes_of s (Finished t commit) = writes_if commit (request_at s.prepared t)
writes_of s (Upgraded q) = q.writes

-- the last write under a name behind one record more: none, where its page was installed by it
abbrev pub last_behind : Oref → State → Body → Option Obj → Option Obj
last_behind x s (AnEntry e) found = written_last x found (writes_of s e)
last_behind x s (Installed page side) found = cond (nat_eq x.page page) None found

-- The write of the last commit under a name behind the last install of its page. Where no record installs
-- the page, what was found before the first record stays, if nobody wrote it.
abbrev pub last_write : Oref → State → List Body → Option Obj → Option Obj
last_write x s [] found = found
last_write x s (b ∷ bs) found = last_write x (after s b) bs (last_behind x s b found)
