use Rattle.std.proofs.Common.{◌≡◌, length, []}
use Rattle.std.specs.Map.{keys_of}
use Rattle.thor_value.specs.declared.names.Oref.{Oref}
use Rattle.client_cache.specs.Copies.{copy_by}
use Rattle.client_cache.specs.Slots.{kept_in, written_in}
use Rattle.client_cache.proofs.cache.Cache.drop_made.Given as goal

abbrev pub invariant-loop-oref : goal.invariant-loop-oref
invariant-loop-oref l =
    ((x : Oref) → copy_by kept_in l.self-inside.pages x ≡ copy_by kept_in l.fn.self.held x)
    × ((x : Oref) → copy_by written_in l.self-inside.pages x ≡ copy_by written_in l.fn.self.held x)
    × (l.fn.self.made ≡ [] → (l.self-inside.made.keys ≡ []) × (keys_of l.self-inside.pages ≡ keys_of l.fn.self.held))
    × (l.self-inside.written ≡ l.fn.self.written)
    × (l.self-inside.limit ≡ l.fn.self.limit)

abbrev pub decreases-loop-oref : goal.decreases-loop-oref
decreases-loop-oref l = length l.self-inside.made.keys
