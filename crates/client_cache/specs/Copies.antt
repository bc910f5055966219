-- What a client holds (Liskov and others, SIGMOD 1996: front ends run on cached copies of pages). Each copy
-- stands as it was before the running try; what the try has written stands beside it.
use Rattle.std.specs.Prelude.{◌≡◌, ◌<◌, ℕ, Bool, nat_eq, not, List, [], ◌∷◌, Option, is_some, option_and_then}
use Rattle.std.specs.BTreeMap.{is_at}
use Rattle.std.specs.List.{filter, list_any}
use Rattle.std.specs.Map.{keys_of, lookup}
use Rattle.std.specs.Set.{remove_key}
use Rattle.thor_value.specs.Names.{oref_cmp}
use Rattle.thor_value.specs.declared.names.Oref.{Oref}
use Rattle.thor_value.specs.declared.values.Obj.{Obj}
use Rattle.client_cache.specs.Pages.{page_of, same_page}
use Rattle.client_cache.specs.Slots.{kept_in, written_in, seen_in}
use Rattle.client_cache.specs.declared.page_copies.Slot.{Slot}
use Rattle.client_cache.specs.declared.page_name.PageName.{PageName}

-- the pages held, the most recently used first, each with its slots
abbrev pub Held : Type 0
Held = List (PageName × List Slot)

-- what is told of an object by the slots of its page, where that is held
abbrev pub copy_by : (List Slot → ℕ → Option Obj) → Held → Oref → Option Obj
copy_by g held x = option_and_then (λ slots. g slots x.slot) (lookup (same_page (page_of x)) held)

-- whether a page is held
abbrev pub holds : Held → PageName → Bool
holds held p = is_some (lookup (same_page p) held)

-- the pages of other repositories
abbrev pub elsewhere : ℕ → Held → Held
elsewhere repo held = filter (λ e. not (nat_eq e.0.repo repo)) held

pub record Contents : Type 0 where
  -- how many pages are held between tries
  pub limit : ℕ
  pub held : Held
  -- the names that the try has written, rising
  pub written : List Oref
  -- of each page that the try has made, the name with which it was made, rising
  pub made : List Oref

-- nothing is held
abbrev pub nothing : ℕ → Contents
nothing limit = record { limit = limit; held = []; written = []; made = [] }

-- the names of the pages held, the most recently used first
abbrev pub pages : Contents → List PageName
pages c = keys_of c.held

-- the copy of an object as it was before the try
abbrev pub kept : Contents → Oref → Option Obj
kept c x = copy_by kept_in c.held x

-- what the try has made of it
abbrev pub changed : Contents → Oref → Option Obj
changed c x = copy_by written_in c.held x

-- what a look finds: what the try has made of it, else the copy
abbrev pub seen : Contents → Oref → Option Obj
seen c x = copy_by seen_in c.held x

-- whether the try has written it
abbrev pub has_written : Contents → Oref → Bool
has_written c x = list_any (is_at (oref_cmp x)) c.written

-- what holds of what a client holds: what the try has written is what stands beside copies
pub record IsWhole (c : Contents) : Type 0 where
  pub some : 0 < c.limit
  pub marked : (x : Oref) → is_some (changed c x) ≡ has_written c x

-- the pages with this one first
abbrev pub forward : PageName → List PageName → List PageName
forward p ps = p ∷ remove_key (same_page p) ps
