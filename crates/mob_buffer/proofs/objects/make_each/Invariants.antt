use Rattle.std.proofs.Common.{◌≡◌, take}
use Rattle.lru.specs.LruCache.{lru_cache}
use Rattle.mob_buffer.specs.Kept.{with_places}
use Rattle.mob_buffer.proofs.objects.make_each.Given as goal

-- places were made for the names of the writes before this one
abbrev pub invariant-loop-write : goal.invariant-loop-write
invariant-loop-write l = l.objects ≡ lru_cache (with_places l.fn.objects.entries (take l.write-index l.writes)) l.fn.objects.cap
