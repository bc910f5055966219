use Rattle.std.proofs.Common.{◌≡◌, length, is_some}
use Rattle.std.specs.BTreeMap.{is_at}
use Rattle.std.specs.List.{list_any}
use Rattle.std.specs.Map.{keys_of}
use Rattle.thor_value.specs.Names.{oref_cmp}
use Rattle.thor_value.specs.declared.names.Oref.{Oref}
use Rattle.client_cache.specs.Copies.{copy_by}
use Rattle.client_cache.specs.Slots.{kept_in, written_in}
use Rattle.client_cache.proofs.cache.Cache.undo_writes.Given as goal

abbrev pub invariant-loop-oref : goal.invariant-loop-oref
invariant-loop-oref l =
    ((x : Oref) → copy_by kept_in l.self-inside.pages x ≡ copy_by kept_in l.fn.self.held x)
    × ((x : Oref) → is_some (copy_by written_in l.self-inside.pages x) ≡ list_any (is_at (oref_cmp x)) l.self-inside.written)
    × (keys_of l.self-inside.pages ≡ keys_of l.fn.self.held)
    × (l.self-inside.made.keys ≡ l.fn.self.made)
    × (l.self-inside.limit ≡ l.fn.self.limit)

abbrev pub decreases-loop-oref : goal.decreases-loop-oref
decreases-loop-oref l = length l.self-inside.written
